-- What a session tells of who set the leaves of an object, by what its engine answers.
use Rattle.std.proofs.Common.{◌≡◌, ◌<◌, ◌+◌, ◌++◌, ℕ, List, [], Bool, true, false, cond, not, nat_eq, Option, Some, None, Ok, Err, if◌then◌else◌, codes, refl, sym, ap, ◌∙◌, arith}
use Rattle.std.proofs.lemmas.Bool.Decides.{nat_tests}
use Rattle.pan_ast.specs.Printed.{line_of}
use Rattle.pan_ast.specs.declared.fault.Fault.{Fault}
use Rattle.path_tree.specs.Plain.{Plain}
use Rattle.path_tree.specs.declared.path.Term.{Term}
use Rattle.load_path.specs.declared.picture.PictureFile.{PictureFile}
use Rattle.questions.specs.Told.{more_than_asked}
use Rattle.runner.specs.Meaning.{Meaning}
use Rattle.engine_laws.specs.Names.{Name}
use Rattle.engine_laws.specs.Engine.{is_among}
use Rattle.engine_machine.specs.Compiled.{compiled}
use Rattle.engine_machine.specs.Machine.{Kept}
use Rattle.engine_turns.specs.declared.core_data.Core.{Core}
use Rattle.engine_turns.specs.States.{pictured}
use Rattle.rebuild.specs.Answers.{Seen, profile, fault, pending, no_object, is_pending, settled, answer_of as seen_of}
use Rattle.rebuild.specs.Engines.{Meanings, situation_of, objects_of, value_of, turns_left_of}
use Rattle.session.specs.Machines.{Machine}
use Rattle.session.specs.Sessions.{Next, writes, state_in, blamed_at, blamed_in}
use Rattle.session.specs.Texts.{answer_in, blame_text}
use Rattle.session.specs.declared.Answer.{Answer}
use Rattle.session.specs.declared.Outcome.{Outcome}
use Rattle.session.specs.declared.Outcome.TheVariants as outcome
use Rattle.engine_session.specs.Blaming as blaming
use Rattle.engine_session.specs.Looking.{contents, told}
use Rattle.engine_session.specs.Compiler.{Compiled, answer_of, answers_of, outcome_by}
use Rattle.engine_session.specs.Looking.{deps_in}
use Rattle.engine_session.specs.Standing.{Here, compiled_in, machine_in, IsKept, IsBelow, IsRising}
use Rattle.engine_session.proofs.Said.{found_in}
use Rattle.run_again.specs.Again.{scratch_steps}
use Rattle.run_again.proofs.Running.{told_same}

not_zero : (n : ℕ) → 0 < n → nat_eq n 0 ≡ false
not_zero n lt = grind (arith, nat_tests, lt)

-- an engine's answer, by whether the name is an object and its parts are settled
module _ {T : Type 0} (M : Meanings T) (core : Core T) (name : Name) where
  abbrev kept : Kept
  kept = compiled (M core.dirs core.limits) (pictured core.files.items) (objects_of core) name

  abbrev seen : Seen
  seen = seen_of M (value_of core) name

  pub none_seen : no_object ≡ seen → is_among name (objects_of core) ≡ false
  none_seen e = at (is_among name (objects_of core)) (is_pending (situation_of core) name) kept e
    where
      at : (a w : Bool) (k : Kept) → no_object ≡ cond a (cond w pending (settled k)) no_object
          → a ≡ false
      at false w k e = refl
      at true true k e = absurd (let clash : no_object ≡ pending = e in cc)
      at true false (Ok t) e = absurd (let clash : no_object ≡ profile t = e in cc)
      at true false (Err f) e = absurd (let clash : no_object ≡ fault f = e in cc)

  pub fault_seen : (f : Fault) → fault f ≡ seen
      → (is_among name (objects_of core) ≡ true) × (kept ≡ Err f)
  fault_seen f e = at (is_among name (objects_of core)) refl
      (is_pending (situation_of core) name) kept refl e
    where
      at : (a : Bool) → is_among name (objects_of core) ≡ a → (w : Bool) (k : Kept) → kept ≡ k
          → fault f ≡ cond a (cond w pending (settled k)) no_object
          → (is_among name (objects_of core) ≡ true) × (kept ≡ Err f)
      at false a w k is e = absurd (let clash : fault f ≡ no_object = e in cc)
      at true a true k is e = absurd (let clash : fault f ≡ pending = e in cc)
      at true a false (Ok t) is e = absurd (let clash : fault f ≡ profile t = e in cc)
      at true a false (Err g) is e = let same : fault f ≡ fault g = e in
          (a, is ∙ ap Err (sym (fault_same f g same)))
        where
          fault_same : (f g : Fault) → fault f ≡ fault g → f ≡ g
          fault_same f g e = cc

  pub profile_seen : (tree : Plain) → profile tree ≡ seen
      → (is_among name (objects_of core) ≡ true) × (kept ≡ Ok tree)
  profile_seen tree e = at (is_among name (objects_of core)) refl
      (is_pending (situation_of core) name) kept refl e
    where
      at : (a : Bool) → is_among name (objects_of core) ≡ a → (w : Bool) (k : Kept) → kept ≡ k
          → profile tree ≡ cond a (cond w pending (settled k)) no_object
          → (is_among name (objects_of core) ≡ true) × (kept ≡ Ok tree)
      at false a w k is e = absurd (let clash : profile tree ≡ no_object = e in cc)
      at true a true k is e = absurd (let clash : profile tree ≡ pending = e in cc)
      at true a false (Err f) is e = absurd (let clash : profile tree ≡ fault f = e in cc)
      at true a false (Ok t) is e = let same : profile tree ≡ profile t = e in
          (a, is ∙ ap Ok (sym (tree_same tree t same)))
        where
          tree_same : (t u : Plain) → profile t ≡ profile u → t ≡ u
          tree_same t u e = cc

-- it costs what a run from scratch costs
pub same_steps : {T : Type 0} (m : Meaning T) (files : List PictureFile) (objects : List Name)
    (o : Name) (terms : List Term) → (blaming.blamed_in m files objects o terms).steps ≡
    scratch_steps m files objects o
same_steps m files objects o terms =
    ap (m.build_work o) (told_same (m.build o) (contents m files objects)
    (told (contents m files objects)) (λ k. refl) more_than_asked [])

-- a line takes no run and no step back
pub blamed_rises : {E : Type 0} (machine : Machine E) (name : List ℕ) (terms : List Term)
    → IsRising (blamed_in machine name terms)
blamed_rises {E} machine name terms s = at s.has_taken (nat_eq (machine.turns_left s.engine) 0)
    (answer_in (machine.answers (machine.picture s.engine)) name)
  where
    same : IsBelow s s
    same = record { in_runs = omega arith; in_steps = omega arith }

    by_outcome : (o : Outcome) (n : List ℕ) → IsBelow s
        (state_in (blamed_at machine (Some (record { name = n; outcome = o })) terms s))
    by_outcome (outcome.Fault line) n = record { in_runs = omega arith; in_steps = omega arith }
    by_outcome (outcome.Profile json dep) n = record
        { in_runs = omega arith; in_steps = omega arith }

    by_answer : (a : Option Answer) → IsBelow s (state_in (blamed_at machine a terms s))
    by_answer None = record { in_runs = omega arith; in_steps = omega arith }
    by_answer (Some a) = by_outcome a.outcome a.name

    at : (taken settled : Bool) (a : Option Answer)
        → IsBelow s (state_in (if not taken then writes s
        (codes "no object\n") else if settled then blamed_at machine a terms s else writes s
        (codes "pending\n")))
    at false settled a = record { in_runs = omega arith; in_steps = omega arith }
    at true true a = by_answer a
    at true false a = record { in_runs = omega arith; in_steps = omega arith }

module _ {T : Type 0} (M : Meanings T) (core : Core T) (is_kept : IsKept core) (s : Here T)
    (taken : s.has_taken ≡ true) (name : List ℕ) (terms : List Term) where
  abbrev pub here : Here T
  here = record s { engine = compiled_in core }

  abbrev pub machine : Machine (Compiled T)
  machine = machine_in M core

  abbrev pub means : Meaning T
  means = M core.dirs core.limits

  abbrev pub files : List PictureFile
  files = pictured core.files.items

  abbrev pub told_here : Next (Compiled T)
  told_here = blamed_in machine name terms here

  abbrev found : Option Answer
  found = answer_in (machine.answers files) name

  is_taken : told_here ≡ (if nat_eq (turns_left_of core) 0 then blamed_at machine found terms here
      else writes here (codes "pending\n"))
  is_taken = ap (λ b. if not b then writes here (codes "no object\n") else if nat_eq
      (turns_left_of core) 0 then blamed_at machine found terms here else writes here
      (codes "pending\n")) taken

  pub told_pending : 0 < turns_left_of core → told_here ≡ writes here (codes "pending\n")
  told_pending lt = is_taken ∙ ap (λ b. if b then blamed_at machine found terms here else writes
      here (codes "pending\n")) (not_zero (turns_left_of core) lt)

  module _ (none : turns_left_of core ≡ 0) where
    abbrev answer : Bool → Option Answer
    answer among = cond among (Some (answer_of means core.dirs files (objects_of core) name)) None

    found_is : found ≡ answer (is_among name (objects_of core))
    found_is = ap (λ os. answer_in (answers_of means core.dirs files os) name) (sym is_kept.objects)
        ∙ found_in means core.dirs files (objects_of core) (objects_of core) name

    settled_is : told_here ≡ blamed_at machine (answer (is_among name (objects_of core))) terms here
    settled_is =
        is_taken
        ∙ ap (λ n. if nat_eq n 0 then blamed_at machine found terms here else writes here
        (codes "pending\n")) none
        ∙ ap (λ a. blamed_at machine a terms here) found_is

    pub told_none : is_among name (objects_of core) ≡ false
        → told_here ≡ writes here (codes "no object\n")
    told_none out = settled_is ∙ ap (λ b. blamed_at machine (answer b) terms here) out

    -- what is told of an object that compiling gives this
    abbrev by_kept : Kept → Next (Compiled T)
    by_kept k = blamed_at machine (Some (record
        { name = name; outcome = outcome_by k (deps_in means files (objects_of core) name) })) terms
        here

    object_is : is_among name (objects_of core) ≡ true
        → told_here ≡ by_kept (compiled means files (objects_of core) name)
    object_is among = settled_is ∙ ap (λ b. blamed_at machine (answer b) terms here) among

    pub told_fault : (f : Fault) → is_among name (objects_of core) ≡ true
        → compiled means files (objects_of core) name ≡ Err f
        → told_here ≡ writes here (codes "fault " ++ line_of f ++ codes "\n")
    told_fault f among is = object_is among ∙ ap by_kept is

    -- the session after the runs and the steps of a line
    abbrev pub spent : ℕ → Here T
    spent n = record here { runs = s.runs + 1; steps = s.steps + n }

    pub told_leaves : (tree : Plain) → is_among name (objects_of core) ≡ true
        → compiled means files (objects_of core) name ≡ Ok tree
        → told_here ≡ writes (spent (scratch_steps means files (objects_of core) name))
        (blame_text (blaming.blamed_in means files (objects_of core) name terms).leaves)
    told_leaves tree among is =
        object_is among ∙ ap by_kept is
        ∙ ap (λ os. let b = blaming.blamed_in means files os name terms in writes (spent b.steps)
        (blame_text b.leaves)) (sym is_kept.objects)
        ∙ ap (λ n. writes (spent n) (blame_text
        (blaming.blamed_in means files (objects_of core) name terms).leaves))
        (same_steps means files (objects_of core) name terms)
