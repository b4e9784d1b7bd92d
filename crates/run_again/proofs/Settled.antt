-- A run over a sound engine in which all is settled is one from scratch.
use Rattle.std.proofs.Common.{◌≡◌, ◌≤◌, ◌+◌, ℕ, ℤ, List, [], Bool, true, Option, Some, Result, Ok, Err, OnErr, sym, ap, ◌∙◌, subst, arith}
use Rattle.std.proofs.Math.Logic.{∥∥₁_elim}
use Rattle.std.proofs.Props.{props}
use Rattle.asking.specs.Asked.{Finished, Ran, Word}
use Rattle.load_path.specs.declared.picture.PictureFile.{PictureFile}
use Rattle.pan_ast.specs.declared.work.Limits.{Limits}
use Rattle.path_tree.specs.Plain.{Plain, Plain-set}
use Rattle.questions.specs.declared.key.Key.{Key}
use Rattle.questions.specs.Contents.{Content, Content-set}
use Rattle.questions.specs.Told.{more_than_asked}
use Rattle.runner.specs.Ends.{End}
use Rattle.runner.specs.Meaning.{Meaning, IsLawful, build_run, build_steps}
use Rattle.runner.specs.Words.{words}
use Rattle.engine_laws.specs.Names.{Name}
use Rattle.engine_laws.specs.Bounded.{content, told_end}
use Rattle.engine_laws.specs.Engine.{tells}
use Rattle.engine_laws.proofs.Idle.{counted}
use Rattle.engine_laws.proofs.Truth.{fixed}
use Rattle.engine_machine.specs.Compiled.{built_end}
use Rattle.engine_machine.specs.Machine.{nowhere, runner_of, keeping, judge_of}
use Rattle.engine_machine.specs.Pictures.{picture_in}
use Rattle.engine_machine.proofs.Costs.{ends_soon}
use Rattle.engine_machine.proofs.RunnerLaws.{laws_of}
use Rattle.engine_turns.specs.declared.core_data.Core.{Core}
use Rattle.engine_turns.specs.Places.{file_number_in}
use Rattle.engine_turns.specs.Told.{seen_in}
use Rattle.engine_turns.specs.States.{pictured}
use Rattle.engine_turns.specs.Ready.{core_state, core_picture}
use Rattle.engine_turns.proofs.Once.{rising_once}
use Rattle.engine_turns.proofs.Runs.{known}
use Rattle.rebuild.specs.Engines.{Meanings, situation_of, objects_of, value_of, turns_left_of, is_ready, IsEngine}
use Rattle.rebuild.proofs.Engines.{ready_is}
use Rattle.rebuild.proofs.Fewer.{once_is}
use Rattle.run_again.specs.Again.{IsEndOf, scratch_steps}
use Rattle.run_again.proofs.Running.{content_of, EndsAs, EndsBy, ends_as, ends_by, told_same}
use Rattle.run_again.proofs.Telling.{true_words}

leaf_set : IsSet (List ℕ)
leaf_set = hlevel props

number_set : IsSet ℤ
number_set = hlevel props

truth_set : IsSet Bool
truth_set = hlevel props

plain_set : IsSet Plain
plain_set = hlevel (Plain-set, leaf_set, number_set, truth_set)

content_set : IsSet (Option Content)
content_set = hlevel (Content-set, plain_set, leaf_set, props)

pub at_most : (n m : ℕ) → n ≡ m → n ≤ m
at_most n m e = omega (arith, e)

pub within : (now start n m : ℕ) → n ≡ m → now ≤ start + n → now ≤ start + m
within now start n m e le = omega (arith, e, le)

-- what holds whether it failed or not
pub on_err : {A E P : Type 0} (r : Result A E) → P → OnErr r P
on_err (Ok a) p = tt
on_err (Err e) p = p

-- a run by a runner with these directories and files that is told what the engine knows, and its
-- steps
abbrev pub run_at : {T : Type 0} → Meanings T → List (List ℕ) → List PictureFile → Name → Core T
    → Ran Key (End T)
run_at M dirs fs o c = build_run (M dirs c.limits) o
    (words fs (file_number_in c.files.items) (seen_in c.rows.items c.chain))

abbrev pub steps_at : {T : Type 0} → Meanings T → List (List ℕ) → List PictureFile → Name → Core T
    → ℕ
steps_at M dirs fs o c = build_steps (M dirs c.limits) o
    (words fs (file_number_in c.files.items) (seen_in c.rows.items c.chain))

-- a run that ends has this end by some answers
pub end_of : {T : Type 0} (M : Meanings T) (core : Core T) (dirs : List (List ℕ)) → dirs ≡ core.dirs
    → (fs : List PictureFile) (o : Name) (items : List (Key × ℕ)) (end : End T)
    → run_at M dirs fs o core ≡ Finished items end → IsEndOf (M core.dirs core.limits) o end
end_of M core dirs same fs o items end is =
    let P : List (List ℕ) → Type 0 = λ d. IsEndOf (M d core.limits) o end in
    let by : P dirs = subst (EndsBy ((M dirs core.limits).build o)) is
    (ends_by ((M dirs core.limits).build o)
    (words fs (file_number_in core.files.items) (seen_in core.rows.items core.chain))
    more_than_asked []) in
    subst P same by

module _ {T : Type 0} (M : Meanings T) (lawful : (dirs : List (List ℕ)) (limits : Limits)
    → IsLawful (M dirs limits)) (core : Core T) (ready : is_ready core ≡ true)
    (reached : ∥ IsEngine M (value_of core) ∥₁) (none : turns_left_of core ≡ 0) where
  abbrev means : Meaning T
  means = M core.dirs core.limits

  abbrev files : List PictureFile
  files = pictured core.files.items

  abbrev tell : Key → Content
  tell = content (runner_of means.build) (picture_in files (objects_of core))

  abbrev words_by : List PictureFile → Key → Word Content
  words_by fs = words fs (file_number_in core.files.items) (seen_in core.rows.items core.chain)

  settled_words : (k : Key) → content_of (tells (runner_of means.build) keeping (core_picture core)
      (core_state core) k) ≡ Some (tell k)
  settled_words k = ∥∥₁_elim reached (content_set _ _) by
    where
      by : IsEngine M (value_of core) → content_of
          (tells (runner_of means.build) keeping (core_picture core) (core_state core) k) ≡ Some
          (tell k)
      by r =
          let soon = ends_soon means (lawful core.dirs core.limits) files (objects_of core)
          (once_is (objects_of core) (rising_once (objects_of core)
          (ready_is core ready).rising)) in
          let c = counted (runner_of means.build) keeping (judge_of means.check)
          (situation_of core) r soon in
          true_words (runner_of means.build) keeping (judge_of means.check) (situation_of core) r
          (λ p i. (c.settled none p i).0) k

  told_words : (fs : List PictureFile) → fs ≡ files → (k : Key)
      → content_of (words_by fs k) ≡ Some (tell k)
  told_words fs is k = ap (λ t. content_of (t k))
      (known means.build core (ready_is core ready) fs is) ∙ settled_words k

  -- its end
  pub end_is : (dirs : List (List ℕ)) → dirs ≡ core.dirs → (fs : List PictureFile) → fs ≡ files
      → (o : Name) (items : List (Key × ℕ)) (end : End T)
      → run_at M dirs fs o core ≡ Finished items end
      → end ≡ built_end means files (objects_of core) o
  end_is dirs same fs is o items end ran_so =
      let here : build_run means o (words_by fs) ≡ Finished items end = ap
      (λ d. build_run (M d core.limits) o (words_by fs)) (sym same) ∙ ran_so in
      let ends : end ≡ told_end (Err nowhere) (means.build o) tell more_than_asked [] = subst
      (EndsAs (means.build o) (told_end (Err nowhere) (means.build o) tell more_than_asked []))
      here (ends_as (means.build o) tell (words_by fs) (told_words fs is)
      (Err nowhere) more_than_asked []) in
      ends ∙ sym (fixed (runner_of means.build) (picture_in files (objects_of core))
      (laws_of means (lawful core.dirs core.limits) files (objects_of core)) o)

  -- its steps
  pub steps_are : (dirs : List (List ℕ)) → dirs ≡ core.dirs → (fs : List PictureFile) → fs ≡ files
      → (o : Name) → steps_at M dirs fs o core ≡ scratch_steps means files (objects_of core) o
  steps_are dirs same fs is o =
      ap (λ d. build_steps (M d core.limits) o (words_by fs)) same
      ∙ ap (means.build_work o) (told_same (means.build o) tell (words_by fs)
      (told_words fs is) more_than_asked [])
