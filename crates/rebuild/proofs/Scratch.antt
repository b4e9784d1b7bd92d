-- What the rows answer is what compiling from scratch gives.
use Rattle.std.proofs.Common.{◌≡◌, ◌||◌, ℕ, ℤ, List, Bool, true, false, cond, Option, Some, None, Ok, Err, refl, ap, ◌∙◌}
use Rattle.std.proofs.Math.Logic.{∥∥₁_elim}
use Rattle.std.proofs.Props.{props}
use Rattle.pan_ast.specs.declared.work.Limits.{Limits}
use Rattle.path_tree.specs.Plain.{Plain, Plain-set}
use Rattle.pan_ast.proofs.Sets.{fault_set}
use Rattle.runner.specs.Ends.{End, Verdict}
use Rattle.runner.specs.Meaning.{Meaning, IsLawful}
use Rattle.engine_laws.specs.Names.{Name}
use Rattle.engine_laws.specs.Runner.{IsIn}
use Rattle.engine_laws.specs.Engine.{is_among, verdict}
use Rattle.engine_laws.proofs.Reached.{reached_scratch}
use Rattle.engine_laws.proofs.Judging.{verdicts}
use Rattle.engine_machine.specs.Machine.{runner_of, keeping, judge_of, keep, grade}
use Rattle.engine_machine.specs.Compiled.{built_end, by_verdict as kept_by, checked_end}
use Rattle.engine_machine.proofs.Costs.{ends_soon}
use Rattle.engine_machine.proofs.RunnerLaws.{is_in}
use Rattle.engine_turns.specs.declared.core_data.Core.{Core}
use Rattle.engine_turns.specs.declared.rows.Row.{Row}
use Rattle.engine_turns.specs.Places.{row_in, names}
use Rattle.engine_turns.specs.States.{pictured}
use Rattle.engine_turns.specs.Ready.{core_state, core_picture, IsReady}
use Rattle.engine_turns.proofs.ByName.{no_row, some_row}
use Rattle.engine_turns.proofs.Once.{rising_once}
use Rattle.rebuild.specs.Engines.{Meanings, situation_of, value_of, IsEngine}
use Rattle.rebuild.specs.Answers.{Seen, Seen-set, pending, no_object, is_pending, settled, by_verdict, by_check, by_result, by_last, answer_found, answer_at, answer_of}
use Rattle.rebuild.proofs.Fewer.{once_is}

module _ {T : Type 0} (c : Core T) (p : Name) where
  pub row_answers : answer_found (row_in p c.rows.items) ≡ answer_at (situation_of c) p
  row_answers = at (row_in p c.rows.items) refl
    where
      at : (x : Option (Row T)) → row_in p c.rows.items ≡ x → answer_found x
          ≡ answer_at (situation_of c) p
      at None e = rw (no_row p c.rows.items e) refl
      at (Some r) e = rw (some_row p c.rows.items r e) (rw e refl)

leaf_set : IsSet (List ℕ)
leaf_set = hlevel props

number_set : IsSet ℤ
number_set = hlevel props

truth_set : IsSet Bool
truth_set = hlevel props

plain_set : IsSet Plain
plain_set = hlevel (Plain-set, leaf_set, number_set, truth_set)

seen_set : IsSet Seen
seen_set = hlevel (Seen-set, plain_set, fault_set)

verdict_seen : (t : Plain) (f : Verdict) → by_verdict t f ≡ settled (kept_by t f)
verdict_seen t None = refl
verdict_seen t (Some f) = refl

module _ {T : Type 0} (m : Meanings T) (lawful : (dirs : List (List ℕ)) (limits : Limits) → IsLawful
    (m dirs limits)) (c : Core T) (ready : IsReady c) where
  abbrev means : Meaning T
  means = m c.dirs c.limits

  settled_is : IsEngine m (value_of c) → (p : Name) → IsIn p (names c.rows.items)
      → (core_state c).open_build p ≡ false → (core_state c).open_check p ≡ false
      → by_last ((core_state c).last p) ((core_state c).checked p)
      ≡ settled (checked_end means (pictured c.files.items) (names c.rows.items)
      (built_end means (pictured c.files.items) (names c.rows.items) p))
  settled_is e p i builds checks =
      ap (λ l. by_last l ((core_state c).checked p))
      ((reached_scratch (runner_of means.build) keeping (judge_of means.check) (situation_of c)
      e).builds p i builds).1 ∙ at (built_end means (pictured c.files.items) (names c.rows.items) p)
      refl
    where
      at : (r : End T) → built_end means (pictured c.files.items) (names c.rows.items) p ≡ r
          → by_result (keep r) ((core_state c).checked p)
          ≡ settled (checked_end means (pictured c.files.items) (names c.rows.items) r)
      at (Err f) is = refl
      at (Ok b) is =
          let soon = ends_soon means (lawful c.dirs c.limits) (pictured c.files.items)
          (names c.rows.items) (once_is (names c.rows.items)
          (rising_once (names c.rows.items) ready.rising)) in
          let v = verdicts (runner_of means.build) keeping (judge_of means.check) (situation_of c) e
          soon p i checks (ap (λ r. grade (keep r)) is) in
          let of : End T → Verdict =
          verdict (runner_of means.build) (judge_of means.check) (core_picture c) in
          ap (by_check b.tree) (v.1 ∙ ap (λ r. Some (v.0, of r)) is)
          ∙ verdict_seen b.tree (of (Ok b))

  scratch_at : (p : Name) → IsEngine m (value_of c) → answer_at (situation_of c) p
      ≡ answer_of m (value_of c) p
  scratch_at p e = at (is_among p (names c.rows.items)) refl
    where
      at_open : (b k : Bool) → (core_state c).open_build p ≡ b → (core_state c).open_check p ≡ k
          → IsIn p (names c.rows.items) → cond (b || k) pending
          (by_last ((core_state c).last p) ((core_state c).checked p))
          ≡ cond (b || k) pending (settled (checked_end means (pictured c.files.items)
          (names c.rows.items) (built_end means (pictured c.files.items) (names c.rows.items) p)))
      at_open true k builds checks i = refl
      at_open false true builds checks i = refl
      at_open false false builds checks i = settled_is e p i builds checks

      at : (b : Bool) → is_among p (names c.rows.items) ≡ b
          → cond b (cond (is_pending (situation_of c) p) pending
          (by_last ((core_state c).last p) ((core_state c).checked p))) no_object
          ≡ cond b (cond (is_pending (situation_of c) p) pending
          (settled (checked_end means (pictured c.files.items) (names c.rows.items)
          (built_end means (pictured c.files.items) (names c.rows.items) p)))) no_object
      at true is = at_open ((core_state c).open_build p) ((core_state c).open_check p) refl refl
          (is_in p (names c.rows.items) is)
      at false is = refl

  pub answered : ∥ IsEngine m (value_of c) ∥₁ → (p : Name) → answer_at (situation_of c) p
      ≡ answer_of m (value_of c) p
  answered kept p =
      let prop : IsProp (answer_at (situation_of c) p ≡ answer_of m (value_of c) p) =
      seen_set (answer_at (situation_of c) p) (answer_of m (value_of c) p) in
      ∥∥₁_elim kept prop (scratch_at p)
