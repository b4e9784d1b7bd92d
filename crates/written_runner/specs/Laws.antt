-- The laws of written objects' runs.
use Rattle.std.specs.Prelude.{◌≡◌, ℕ, List, [], ◌∷◌, Bool, true, false, Some, None, cond, codes, drop, bytes_eq, refl}
use Rattle.path_tree.specs.Grammar.{is_name}
use Rattle.path_tree.specs.Plain.{Plain, undef, text, boolean}
use Rattle.pan_ast.specs.declared.place.Place.{Place}
use Rattle.pan_ast.specs.Detail.{fault_at, fault_with}
use Rattle.pan_ast.specs.declared.fault.Code.TheVariants.{UserError, BadPath, NoPath, NoObject, ForeignFailed, Circular as IsCircular, NoTemplate, FileTooLong}
use Rattle.questions.specs.declared.key.Key.TheVariants.{File, Under}
use Rattle.load_path.specs.Candidates.{candidates}
use Rattle.questions.specs.Contents.{Content, Missing, TooLong, Bytes, Absent, Failed, Circular, NoValue, Value, is_circular_answer}
use Rattle.questions.specs.Laws.{MayAsk}
use Rattle.questions.specs.Run.{Run, fail, fail_about, become}
use Rattle.questions.specs.Told.{IsEnd}
use Rattle.questions.proofs.Process.{Either}
use Rattle.questions.proofs.Lawful.{Lawful, FailsCircular, lawful_give, lawful_fail, lawful_become, lawful_bind, lawful_step_then, lawful_ask_then}
use Rattle.questions.proofs.Runs.{run_laws}
use Rattle.runner.specs.Ends.{is_circular_end, is_circular_verdict}
use Rattle.runner.specs.Meaning.{IsLawful}
use Rattle.written_runner.specs.declared.action.Action.{Action}
use Rattle.written_runner.specs.declared.action.Action.TheVariants.{Nothing, Gives, Fails, LooksFor, Reads, TestsFor}
use Rattle.written_runner.specs.declared.running.Side.TheVariants.{Build, Check}
use Rattle.written_runner.specs.Written.{letter_text, file_text, actions, action_of, is_there, read_in, tested_in, other_object, object_asked, file_asked, first_asked, acted, all_acted, file_run, place_of, object_run}
use Rattle.written_runner.specs.Meaning.{meaning, build_ending, check_ending}

module _ (own : List ℕ) (p : Place) where
  abbrev IsFine : Run Plain (Unit {0}) → Type 0
  IsFine r = Lawful (MayAsk own) 0 r

  -- what follows an answer of an object
  abbrev Follows : List ℕ → (Content → Run Plain (Unit {0})) → Content → Type 0
  Follows object go c =
      Either (is_circular_answer (Under object []) c) (FailsCircular (MayAsk own) (go c))
      (IsFine (go c))

  circular : (object : List ℕ)
      → FailsCircular (MayAsk own) (fail_about {S = Plain} {X = Unit {0}} IsCircular p object)
  circular object = record { fault = fault_with IsCircular p object; is = refl; circular = refl }

  read_follows : (object : List ℕ) (c : Content) → Follows object (read_in p object) c
  read_follows object Missing = lawful_fail (MayAsk own) 0 (fault_at NoPath p) refl
  read_follows object TooLong = lawful_fail (MayAsk own) 0 (fault_at NoPath p) refl
  read_follows object (Bytes bs) = lawful_fail (MayAsk own) 0 (fault_at NoPath p) refl
  read_follows object Absent = lawful_fail (MayAsk own) 0 (fault_with NoObject p object) refl
  read_follows object Failed = lawful_fail (MayAsk own) 0 (fault_with ForeignFailed p object) refl
  read_follows object Circular = circular object
  read_follows object NoValue = lawful_fail (MayAsk own) 0 (fault_at NoPath p) refl
  read_follows object (Value t) = lawful_become (MayAsk own) 0 t

  tested_follows : (object : List ℕ) (c : Content) → Follows object (tested_in p object) c
  tested_follows object Missing = lawful_become (MayAsk own) 0 (boolean false)
  tested_follows object TooLong = lawful_become (MayAsk own) 0 (boolean false)
  tested_follows object (Bytes bs) = lawful_become (MayAsk own) 0 (boolean false)
  tested_follows object Absent = lawful_become (MayAsk own) 0 (boolean false)
  tested_follows object Failed = lawful_fail (MayAsk own) 0 (fault_with ForeignFailed p object) refl
  tested_follows object Circular = circular object
  tested_follows object NoValue = lawful_become (MayAsk own) 0 (boolean false)
  tested_follows object (Value t) = lawful_become (MayAsk own) 0 (boolean true)

  -- an object is asked for that is not the object itself
  object_fine : (go : List ℕ → Content → Run Plain (Unit {0}))
      → ((object : List ℕ) (c : Content) → Follows object (go object) c) → (name : List ℕ)
      → IsFine (object_asked p go (other_object own name))
  object_fine go follows name = at (is_name name) (bytes_eq name own) refl
    where
      bad : IsFine (fail BadPath p)
      bad = lawful_fail (MayAsk own) 0 (fault_at BadPath p) refl

      at : (b e : Bool) → bytes_eq name own ≡ e
          → IsFine (object_asked p go (cond b (cond e None (Some name)) None))
      at false e is = bad
      at true true is = bad
      at true false is =
          lawful_step_then (MayAsk own) 0 p _ (lawful_ask_then (MayAsk own) 0 (Under name [])
          (go name) is (follows name))

  file_fine : (file : List ℕ) (go : Content → Run Plain (Unit {0}))
      → ((c : Content) → IsFine (go c)) → IsFine (file_asked p file go)
  file_fine file go fine =
      lawful_step_then (MayAsk own) 0 p _ (lawful_ask_then (MayAsk own) 0 (File file) go tt fine)

  there_fine : (b : Bool) (there next : Run Plain (Unit {0})) → IsFine there → IsFine next
      → IsFine (cond b there next)
  there_fine true there next h k = h
  there_fine false there next h k = k

  first_fine : (files : List (List ℕ)) (go : Content → Run Plain (Unit {0}))
      → ((c : Content) → IsFine (go c)) → IsFine (first_asked p files go)
  first_fine [] go fine = fine Missing
  first_fine (file ∷ files) go fine =
      file_fine file (λ c. cond (is_there c) (go c) (first_asked p files go))
      (λ c. there_fine (is_there c) (go c) (first_asked p files go) (fine c)
      (first_fine files go fine))

  acted_fine : (a : Action) → IsFine (acted p own a)
  acted_fine Nothing = lawful_give (MayAsk own) 0 tt
  acted_fine (Gives n) = lawful_become (MayAsk own) 0 (text (letter_text n))
  acted_fine (Fails n) = lawful_fail (MayAsk own) 0 (fault_with UserError p (letter_text n)) refl
  acted_fine (LooksFor n) =
      file_fine (file_text (letter_text n)) (λ c. become (boolean (is_there c)))
      (λ c. lawful_become (MayAsk own) 0 (boolean (is_there c)))
  acted_fine (Reads n) = object_fine (read_in p) read_follows (letter_text n)
  acted_fine (TestsFor n) = object_fine (tested_in p) tested_follows (letter_text n)

  all_fine : (acts : List Action) → IsFine (all_acted p own acts)
  all_fine [] = lawful_give (MayAsk own) 0 tt
  all_fine (a ∷ later) =
      lawful_bind (MayAsk own) 0 (acted p own a) (λ _. all_acted p own later) (acted_fine a)
      (λ _. all_fine later)

  content_fine : (act : ℕ → ℕ → Action) (c : Content) → IsFine (file_run p own act c)
  content_fine act Missing = lawful_fail (MayAsk own) 0 (fault_with NoTemplate p own) refl
  content_fine act TooLong = lawful_fail (MayAsk own) 0 (fault_with FileTooLong p own) refl
  content_fine act (Bytes bs) = all_fine (actions act (drop 6 bs))
  content_fine act Absent = lawful_fail (MayAsk own) 0 (fault_with NoTemplate p own) refl
  content_fine act Failed = lawful_fail (MayAsk own) 0 (fault_with NoTemplate p own) refl
  content_fine act Circular = lawful_fail (MayAsk own) 0 (fault_with NoTemplate p own) refl
  content_fine act NoValue = lawful_fail (MayAsk own) 0 (fault_with NoTemplate p own) refl
  content_fine act (Value t) = lawful_fail (MayAsk own) 0 (fault_with NoTemplate p own) refl

pub object_lawful : (dirs : List (List ℕ)) (own : List ℕ) (act : ℕ → ℕ → Action)
    → Lawful (MayAsk own) 0 (object_run dirs own act)
object_lawful dirs own act =
    first_fine own (place_of own) (candidates own (codes ".pan") [] dirs)
    (file_run (place_of own) own act) (content_fine own (place_of own) act)

pub build_end : (own : List ℕ) → IsEnd (build_ending own) is_circular_end
build_end own = record { done = λ x s. refl; returned = λ t s. refl; failed = λ f. refl }

pub check_end : IsEnd check_ending is_circular_verdict
check_end = record { done = λ x s. refl; returned = λ t s. refl; failed = λ f. refl }

pub lawful : (dirs : List (List ℕ)) → IsLawful (meaning dirs)
lawful dirs = record {
  builds =
      λ own. run_laws (MayAsk own) (object_run dirs own (action_of Build)) undef (build_ending own)
      (object_lawful dirs own (action_of Build)) is_circular_end (build_end own);
  checks =
      λ built. run_laws (MayAsk built.object) (object_run dirs built.object (action_of Check)) undef
      check_ending (object_lawful dirs built.object (action_of Check)) is_circular_verdict
      check_end;
}
