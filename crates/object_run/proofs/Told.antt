-- Builds and checks that are told words at once are those that are told them one after another.
use Rattle.std.proofs.Common.{◌≡◌, ◌∙◌, ap, subst, ℕ, ◌+◌, List, Result, Ok, IfOk, OnOk}
use Rattle.std.specs.declared.alloc.AllocError.{AllocError}
use Rattle.pan_ast.specs.declared.work.Limits.{Limits}
use Rattle.asking.specs.Asked.{Word}
use Rattle.questions.specs.declared.key.Key.{Key}
use Rattle.questions.specs.Contents.{Content}
use Rattle.questions.specs.Told.{ran_by, answers_of, whole, work_of}
use Rattle.runner.specs.declared.ends.Built.{Built}
use Rattle.runner.specs.declared.ends.BuildEnd.{BuildEnd}
use Rattle.runner.specs.declared.ends.CheckEnd.{CheckEnd}
use Rattle.runner.specs.Ends.{build_ran, check_ran}
use Rattle.runner.specs.Meaning as meaning
use Rattle.template_meaning.specs.Program.{no_program}
use Rattle.object_meaning.specs.Rest.{Rest}
use Rattle.object_meaning.specs.Builds.{site_at, built_run, build_ending}
use Rattle.object_meaning.specs.Checks.{check_run, check_ending}
use Rattle.object_meaning.specs.Meanings.{meaning_of}
use Rattle.object_meaning.proofs.BothLawful as lawful
use Rattle.object_run.specs.declared.rest.Rest.{Rest as RRest}

-- given: the directories, as the run has them
module _ (dirs given : List (List ℕ)) (limits : Limits) (same : given ≡ dirs)
    (tells : Key → Word Content) where
  pub build_told : (object : List ℕ) (r : Result (BuildEnd RRest) AllocError) (e : BuildEnd RRest)
      → r ≡ Ok e → IfOk r (λ e. ran_by tells (build_ending (site_at given limits object))
      (built_run (site_at given limits object) (answers_of tells) no_program whole) ≡ build_ran e)
      → meaning.build_run (meaning_of dirs limits) object tells ≡ build_ran e
  build_told object r e is h =
      let P : List (List ℕ) → BuildEnd RRest → Type 0 =
      λ ds e. ran_by tells (build_ending (site_at ds limits object))
      (built_run (site_at ds limits object) (answers_of tells) no_program whole)
      ≡ build_ran e in
      lawful.build_ran dirs limits object tells ∙ subst (λ ds. P ds e) same
      (subst (λ r. IfOk r (P given)) is h)

  pub build_spent : (object : List ℕ) (r : Result (BuildEnd RRest) AllocError) (e : BuildEnd RRest)
      (old new spent : ℕ) → r ≡ Ok e → new ≡ old + spent
      → OnOk r (spent ≡ work_of (built_run (site_at given limits object) (answers_of tells)
      no_program whole)) → new ≡ old + meaning.build_steps (meaning_of dirs limits) object tells
  build_spent object r e old new spent is paid h =
      let P : List (List ℕ) → Type 0 =
      λ ds. spent ≡ work_of (built_run (site_at ds limits object) (answers_of tells) no_program
      whole) in
      paid ∙ ap (λ n. old + n) (subst P same (subst (λ r. OnOk r (P given)) is h)
      ∙ lawful.build_work dirs limits object tells)

  pub check_told : (b : Built Rest) (r : Result CheckEnd AllocError) (e : CheckEnd) → r ≡ Ok e
      → IfOk r (λ e. ran_by tells check_ending (check_run (site_at given limits b.object) b
      (answers_of tells) tt whole) ≡ check_ran e) → meaning.check_run (meaning_of dirs limits) b
      tells ≡ check_ran e
  check_told b r e is h =
      let P : List (List ℕ) → CheckEnd → Type 0 =
      λ ds e. ran_by tells check_ending (check_run (site_at ds limits b.object) b
      (answers_of tells) tt whole) ≡ check_ran e in
      lawful.check_ran dirs limits b tells ∙ subst (λ ds. P ds e) same
      (subst (λ r. IfOk r (P given)) is h)

  pub check_spent : (b : Built Rest) (r : Result CheckEnd AllocError) (e : CheckEnd)
      (old new spent : ℕ) → r ≡ Ok e → new ≡ old + spent
      → OnOk r (spent ≡ work_of (check_run (site_at given limits b.object) b (answers_of tells) tt
      whole)) → new ≡ old + meaning.check_steps (meaning_of dirs limits) b tells
  check_spent b r e old new spent is paid h =
      let P : List (List ℕ) → Type 0 =
      λ ds. spent ≡ work_of (check_run (site_at ds limits b.object) b (answers_of tells) tt
      whole) in
      paid ∙ ap (λ n. old + n) (subst P same (subst (λ r. OnOk r (P given)) is h)
      ∙ lawful.check_work dirs limits b tells)
