-- Two objects by hand: b is a tree, and a has failed, and has read a file, a path of b, and itself.
use Rattle.std.proofs.Common.{◌≡◌, pos, ℕ, [], ◌∷◌, true, Some, None, Ok, Err, refl}
use Rattle.std.specs.Prelude.{codes}
use Rattle.load_path.specs.declared.picture.Content.TheVariants.{TooLong}
use Rattle.pan_ast.specs.declared.fault.Code.TheVariants as code
use Rattle.pan_ast.specs.declared.fault.Fault.{Fault}
use Rattle.path_tree.specs.Plain.{long}
use Rattle.path_tree.specs.declared.path.Term.TheVariants.{Index}
use Rattle.questions.specs.declared.key.Key.TheVariants.{File, Under}
use Rattle.kept_state.specs.Stored.{Stored}
use Rattle.engine_rows.specs.Restoring.{restored_situation, restored_value, is_fit}
use Rattle.engine_rows.specs.Storing.{kept_of}

abbrev failure : Fault
failure = record {
  code = code.UserError;
  place = record { file = codes "f"; line = 1; column = 1 };
  detail = [];
}

abbrev two : Stored
two = record {
  counter = 6;
  limits = record { max_iteration = 5; max_recursion = 6 };
  dirs = [] ∷ [];
  files = record { name = codes "f"; number = 3; content = TooLong } ∷ [];
  objects = record {
    name = codes "a";
    number = 1;
    built = Err failure;
    build_reads = record { key = File (codes "f"); number = 3 }
        ∷ record { key = Under (codes "b") (Index 0 ∷ []); number = 5 }
        ∷ record { key = Under (codes "a") []; number = 5 } ∷ [];
    verdict = None;
    check_reads = [];
  } ∷ record {
    name = codes "b";
    number = 4;
    built = Ok (long (pos 7));
    build_reads = [];
    verdict = None;
    check_reads = [];
  } ∷ [];
}

fits : is_fit two ≡ true
fits = refl

-- a path of the tree has the number that was read, another one and a failed object's have none
path_number : (restored_situation {T = ℕ} two).state.table (Under (codes "b") (Index 0 ∷ []))
    ≡ Some 5
path_number = refl

no_number : (restored_situation {T = ℕ} two).state.table (Under (codes "b") []) ≡ None
no_number = refl

failed_number : (restored_situation {T = ℕ} two).state.table (Under (codes "a") []) ≡ None
failed_number = refl

file_number : (restored_situation {T = ℕ} two).state.number (File (codes "f")) ≡ 3
file_number = refl

-- what is restored is kept again
again : kept_of (restored_value {T = ℕ} two) ≡ two
again = refl
