-- Builds of written objects are of the object that is named, and look for its file.
use Rattle.std.proofs.Common.{◌≡◌, ◌<◌, ◌-◌, ap, sym, refl, ℕ, List, ◌∷◌, false, nat_eq, codes, Some, None, Ok, Err, arith}
use Rattle.std.proofs.lemmas.Bool.Decides.{nat_tests}
use Rattle.path_tree.specs.Plain.{Plain, undef}
use Rattle.pan_ast.specs.declared.place.Place.{Place}
use Rattle.asking.specs.Asked.{Answer, Ends}
use Rattle.asking.specs.Asked as asked
use Rattle.questions.specs.declared.key.Key.{Key}
use Rattle.questions.specs.declared.key.Key.TheVariants.{File}
use Rattle.questions.specs.Contents.{Content, Missing, Answers, answer_in}
use Rattle.questions.specs.Run.{Run, Meter, Outcome, Done, Returned, Failed, Asks}
use Rattle.questions.specs.Told.{answer_by, whole}
use Rattle.runner.specs.Ends.{End}
use Rattle.runner.specs.Looking.{LooksForTemplates}
use Rattle.runner.specs.Meaning.{BuildsByName}
use Rattle.runner.specs.declared.ends.Built.{Built}
use Rattle.runner.proofs.Looking.{spent, GoesThrough, looks_through}
use Rattle.written_runner.specs.declared.running.Side.TheVariants.{Build}
use Rattle.written_runner.specs.Written.{action_of, first_asked, file_run, place_of, object_run}
use Rattle.written_runner.specs.Meaning.{build_ending, meaning}

-- what was built is of the object

same_object : (x b : Built (Unit {0}))
    → ◌≡◌ {A = Answer Key (End (Unit {0}))} (Ends (Ok x)) (Ends (Ok b)) → b.object ≡ x.object
same_object x b e = let is : x ≡ b = cc in sym (ap (λ y. y.object) is)

built_object : (own : List ℕ) (z : Outcome Plain (Unit {0})) (b : Built (Unit {0}))
    → answer_by (build_ending own) z ≡ Ends (Ok b) → b.object ≡ own
built_object own (Done x s m) b e = same_object _ b e
built_object own (Returned t s m) b e = same_object _ b e
built_object own (Failed f m) b e =
    let clash : ◌≡◌ {A = Answer Key (End (Unit {0}))} (Ends (Err f)) (Ends (Ok b)) = e in cc
built_object own (Asks k m) b e =
    let clash : ◌≡◌ {A = Answer Key (End (Unit {0}))} (asked.Asks k) (Ends (Ok b)) = e in cc

pub builds_by_name : (dirs : List (List ℕ)) → BuildsByName (meaning dirs)
builds_by_name dirs own asked b done =
    built_object own (object_run dirs own (action_of Build) (answer_in asked) undef whole) b done

-- its file is looked for

some_left : (n : ℕ) → 0 < n → nat_eq n 0 ≡ false
some_left n h = grind (arith, nat_tests)

module _ (p : Place) (go : Content → Run Plain (Unit {0})) (v : Plain) where
  asks : (n : List ℕ) (names : List (List ℕ)) (o : Answers) (m : Meter) → 0 < m.left
      → o (File n) ≡ None
      → (k : Meter) × (first_asked p (n ∷ names) go o v m ≡ Asks (File n) k)
  asks n names o m left new =
      (record { left = m.left - 1; asked = m.asked }, rw (some_left m.left left) (rw new refl))

  passes : (n : List ℕ) (names : List (List ℕ)) (o : Answers) (m : Meter) → 0 < m.left
      → o (File n) ≡ Some Missing
      → first_asked p (n ∷ names) go o v m ≡ first_asked p names go o v (spent n m)
  passes n names o m left missing = rw (some_left m.left left) (rw missing refl)

  through : GoesThrough (λ names o m. first_asked p names go o v m)
  through = record { asks = asks; passes = passes }

pub looks_for_template : (dirs : List (List ℕ)) → LooksForTemplates (meaning dirs) dirs
looks_for_template dirs own name within =
    let go = file_run (place_of own) own (action_of Build) in
    looks_through (λ names o m. first_asked (place_of own) names go o undef m)
    (through (place_of own) go undef) (build_ending own) own (codes ".pan") dirs within
