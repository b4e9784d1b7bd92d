-- How a run of the code ends is how a run over words ends.
use Rattle.std.proofs.Common.{◌≡◌, ◌-◌, ℕ, List, [], Option, Some, None, Ok, Err, refl, sym, ap, ◌∙◌}
use Rattle.asking.specs.Asked.{Word, Finished, Stops, Ran}
use Rattle.path_tree.specs.Plain.{Plain, undef}
use Rattle.load_path.specs.declared.picture.PictureFile.{PictureFile}
use Rattle.path_tree.specs.declared.path.Term.{Term}
use Rattle.questions.specs.declared.key.Key.{Key}
use Rattle.questions.specs.declared.key.Key.TheVariants.{Under}
use Rattle.questions.specs.Contents.{Content}
use Rattle.questions.specs.Laws.{MayAsk}
use Rattle.questions.specs.Told.{answers_of, content_of, ran_by, stopped, whole, work_of}
use Rattle.questions.proofs.Runs.{ran_is, work_is, asks_unknown}
use Rattle.read_sets.specs.declared.trace.Item.{Item}
use Rattle.runner.specs.Ends.{build_ran, check_ran}
use Rattle.runner.specs.Meaning.{build_run, build_steps, check_run, check_steps}
use Rattle.runner.specs.Words.{words, object_word}
use Rattle.runner.specs.declared.ends.Built.{Built}
use Rattle.written_runner.specs.declared.used.Came.{Came}
use Rattle.written_runner.specs.declared.used.Came.TheVariants as came
use Rattle.written_runner.specs.declared.running.Side.{Side}
use Rattle.written_runner.specs.declared.running.Side.TheVariants.{Build, Check}
use Rattle.written_runner.specs.Written.{action_of, object_run}
use Rattle.written_runner.specs.Meaning.{meaning, built_with, build_ending, check_ending, outcome_of, build_end_of, check_end_of}
use Rattle.written_runner.specs.Traces.{AreNumbered, meter_of}
use Rattle.written_runner.specs.Laws.{object_lawful}

work_left : (x : Came) (v : Plain) (left : ℕ) (items : List Item)
    → work_of (outcome_of x v (meter_of left items)) ≡ 2000000 - left
work_left came.Done v left items = refl
work_left (came.Failed f) v left items = refl
work_left (came.Waits p) v left items = refl

module _ (picture : List PictureFile) (numbers : List ℕ → ℕ)
    (objects : List ℕ → List Term → Option (ℕ × Option Plain)) (dirs : List (List ℕ)) where
  abbrev tells : Key → Word Content
  tells = words picture numbers objects

  -- an object that is not known is waited for
  waits_for : {R : Type 0} → (p : List ℕ) → answers_of tells (Under p []) ≡ None
      → ◌≡◌ {A = Ran Key R} (stopped (tells (Under p []))) (Stops p)
  waits_for {R} p e = at (objects p []) e
    where
      at : (q : Option (ℕ × Option Plain)) → content_of (object_word p q) ≡ None
          → ◌≡◌ {A = Ran Key R} (stopped (object_word p q)) (Stops p)
      at None e = refl
      at (Some q) e = absurd (let clash : ◌≡◌ {A = Option Content} (Some _) None = e in cc)

  module _ (own : List ℕ) (side : Side) (x : Came) (v : Plain) (left : ℕ) (items : List Item)
      (is : outcome_of x v (meter_of left items) ≡ object_run dirs own (action_of side)
      (answers_of tells) undef whole) (are : AreNumbered tells items) where
    stops : {R : Type 0} → (p : List ℕ) → x ≡ came.Waits p
        → ◌≡◌ {A = Ran Key R} (stopped (tells (Under p []))) (Stops p)
    stops p e = waits_for p (asks_unknown (MayAsk own) (object_run dirs own (action_of side))
        (object_lawful dirs own (action_of side)) (answers_of tells) undef whole (Under p [])
        (meter_of left items) (sym is ∙ ap (λ y. outcome_of y v (meter_of left items)) e))

    built_at : (y : Came) → x ≡ y → ran_by tells (build_ending own)
        (outcome_of y v (meter_of left items)) ≡ build_ran (build_end_of y v items own)
    built_at came.Done e = ap (λ xs. Finished xs (Ok (built_with own v))) (sym are)
    built_at (came.Failed f) e = ap (λ xs. Finished xs (Err f)) (sym are)
    built_at (came.Waits p) e = stops p e

    checked_at : (y : Came) → x ≡ y → ran_by tells check_ending
        (outcome_of y v (meter_of left items)) ≡ check_ran (check_end_of y items)
    checked_at came.Done e = ap (λ xs. Finished xs None) (sym are)
    checked_at (came.Failed f) e = ap (λ xs. Finished xs (Some f)) (sym are)
    checked_at (came.Waits p) e = stops p e

    work_at : work_of (object_run dirs own (action_of side) (answers_of tells) undef whole)
        ≡ 2000000 - left
    work_at = ap work_of (sym is) ∙ work_left x v left items

  module _ (own : List ℕ) (x : Came) (v : Plain) (left : ℕ) (items : List Item)
      (is : outcome_of x v (meter_of left items) ≡ object_run dirs own (action_of Build)
      (answers_of tells) undef whole) (are : AreNumbered tells items) where
    pub build_is : build_run (meaning dirs) own tells ≡ build_ran (build_end_of x v items own)
    build_is =
        ran_is (MayAsk own) (object_run dirs own (action_of Build)) undef (build_ending own)
        (object_lawful dirs own (action_of Build)) tells
        ∙ ap (ran_by tells (build_ending own)) (sym is)
        ∙ built_at own Build x v left items is are x refl

    pub build_work : 2000000 - left ≡ build_steps (meaning dirs) own tells
    build_work =
        sym (work_at own Build x v left items is are)
        ∙ work_is (MayAsk own) (object_run dirs own (action_of Build)) undef (build_ending own)
        (object_lawful dirs own (action_of Build)) tells

  module _ (built : Built (Unit {0})) (x : Came) (v : Plain) (left : ℕ) (items : List Item)
      (is : outcome_of x v (meter_of left items) ≡ object_run dirs built.object (action_of Check)
      (answers_of tells) undef whole) (are : AreNumbered tells items) where
    pub check_is : check_run (meaning dirs) built tells ≡ check_ran (check_end_of x items)
    check_is =
        ran_is (MayAsk built.object) (object_run dirs built.object (action_of Check)) undef
        check_ending (object_lawful dirs built.object (action_of Check)) tells
        ∙ ap (ran_by tells check_ending) (sym is)
        ∙ checked_at built.object Check x v left items is are x refl

    pub check_work : 2000000 - left ≡ check_steps (meaning dirs) built tells
    check_work =
        sym (work_at built.object Check x v left items is are)
        ∙ work_is (MayAsk built.object) (object_run dirs built.object (action_of Check)) undef
        check_ending (object_lawful dirs built.object (action_of Check)) tells
