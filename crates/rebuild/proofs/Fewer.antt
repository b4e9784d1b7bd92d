-- A turn leaves one turn fewer, and it is idle exactly where none is left.
use Rattle.std.proofs.lemmas.Bool.{eqb-true, eq-eqb, le-ltb}
use Rattle.engine_turns.specs.declared.turned.Turned.TheVariants.{Opened, Demanded, Settled, Idle}
use Rattle.engine_turns.specs.Opening.{turned_by}
use Rattle.std.proofs.Common.{◌≡◌, ◌↔◌, ◌+◌, ◌-◌, ◌||◌, ◌⊎◌, ℕ, suc, List, [], ◌∷◌, Bool, true, false, not, length, refl, sym, ap, ◌∙◌, inl, inr, ⊎_elim, cond, nat_eq, nat_lt, arith}
use Rattle.std.proofs.Math.Logic.{∥∥₁_elim}
use Rattle.std.proofs.Math.Nat.{ℕ_set}
use Rattle.pan_ast.specs.declared.work.Limits.{Limits}
use Rattle.foreign_values.specs.declared.Part.{Part}
use Rattle.foreign_values.specs.declared.Part.TheVariants as part
use Rattle.runner.specs.Meaning.{IsLawful}
use Rattle.engine_laws.specs.Names.{Name, equal}
use Rattle.engine_laws.proofs.Names.{equal-is}
use Rattle.engine_laws.specs.Runner.{IsIn}
use Rattle.engine_laws.specs.Rows.{IsOnce}
use Rattle.engine_laws.specs.Engine.{is_among, if_checking, on_chain, turns_left}
use Rattle.engine_laws.specs.Idle.{IsCounted}
use Rattle.engine_laws.proofs.Idle.{counted}
use Rattle.engine_machine.specs.Machine.{runner_of, keeping, judge_of}
use Rattle.engine_machine.proofs.Costs.{ends_soon}
use Rattle.engine_machine.proofs.Truths.{both}
use Rattle.engine_turns.specs.declared.core_data.Core.{Core}
use Rattle.engine_turns.specs.Places.{names}
use Rattle.engine_turns.specs.States.{pictured, chain_of, checking_of}
use Rattle.engine_turns.specs.Ready.{core_state, are_builds, is_chain, IsReady, StaysReady}
use Rattle.engine_turns.proofs.Once.{are_once, rising_once}
use Rattle.rebuild.specs.Engines.{Meanings, situation_of, value_of, parts_of, turns_left_of, IsEngine, after_turn}

in_among : (p : Name) (xs : List Name) → IsIn p xs → is_among p xs ≡ true
in_among p [] i = absurd i
in_among p (x ∷ xs) (inl same) = ap (λ b. b || is_among p xs) (equal-is x p same)
in_among p (x ∷ xs) (inr later) = at (equal x p) (in_among p xs later)
  where
    at : (b : Bool) → is_among p xs ≡ true → b || is_among p xs ≡ true
    at true e = refl
    at false e = e

not_true : (b : Bool) → not b ≡ true → b ≡ false
not_true true e = absurd (let clash : false ≡ true = e in cc)
not_true false e = refl

pub once_is : (xs : List Name) → are_once xs ≡ true → IsOnce xs
once_is [] once = tt
once_is (x ∷ xs) once =
    let two = both (not (is_among x xs)) (are_once xs) once in (
      λ i. let clash : true ≡ false = sym (in_among x xs i) ∙ not_true _ two.0 in
          cc,
      once_is xs two.1,
    )

builds_count : (ps : List Part) → are_builds ps ≡ true → length ps ≡ length (chain_of ps)
builds_count [] e = refl
builds_count (part.Build p ∷ ps) e = ap suc (builds_count ps e)
builds_count (part.Check p ∷ ps) e = absurd (let clash : false ≡ true = e in cc)

pub parts_count : (ps : List Part) → is_chain ps ≡ true → length ps
    ≡ length (chain_of ps) + if_checking (checking_of ps)
parts_count [] e = refl
parts_count (part.Build p ∷ ps) e = let n = builds_count ps e in omega (arith, n)
parts_count (part.Check p ∷ []) e = refl
parts_count (part.Check p ∷ q ∷ ps) e = absurd (let clash : false ≡ true = e in cc)

one_less : (a b : ℕ) → (a + 1 ≡ b) ⊎ ((a ≡ b) × (b ≡ 0)) → a ≡ b - 1
one_less a b (inl e) = omega (arith, e)
one_less a b (inr e) = let same = e.0 in let none = e.1 in omega (arith, same, none)

-- a turn that leaves as many parts on the chain is the idle one
idle_is : (before after : ℕ) → after ≡ before → turned_by before after ≡ Idle
idle_is before after e =
    let less = le-ltb after before (omega (arith, e)) in
    let same = eq-eqb after before e in
    ap (λ b. cond b Settled (cond (nat_eq after before) Idle
    (cond (nat_eq before 0) Opened Demanded))) less
    ∙ ap (λ b. cond b Idle (cond (nat_eq before 0) Opened Demanded)) same

is_idle : (before after : ℕ) → turned_by before after ≡ Idle → after ≡ before
is_idle before after e = at (nat_lt after before) (nat_eq after before) refl e
  where
    at_last : (b : Bool) → cond b Opened Demanded ≡ Idle → ⊥
    at_last true e = let clash : Opened ≡ Idle = e in cc
    at_last false e = let clash : Demanded ≡ Idle = e in cc

    at : (b d : Bool) → nat_eq after before ≡ d → cond b Settled
        (cond d Idle (cond (nat_eq before 0) Opened Demanded)) ≡ Idle → after ≡ before
    at true d same e = absurd (let clash : Settled ≡ Idle = e in cc)
    at false true same e = eqb-true after before same
    at false false same e = absurd (at_last (nat_eq before 0) e)

module _ {T : Type 0} (m : Meanings T) (lawful : (dirs : List (List ℕ)) (limits : Limits) → IsLawful
    (m dirs limits)) (c : Core T) (ready : IsReady c) where
  pub counts : (e : IsEngine m (value_of c)) → IsCounted (runner_of (m c.dirs c.limits).build)
      keeping (judge_of (m c.dirs c.limits).check) (situation_of c)
  counts e =
      let soon = ends_soon (m c.dirs c.limits) (lawful c.dirs c.limits) (pictured c.files.items)
      (names c.rows.items) (once_is (names c.rows.items)
      (rising_once (names c.rows.items) ready.rising)) in
      counted (runner_of (m c.dirs c.limits).build) keeping (judge_of (m c.dirs c.limits).check)
      (situation_of c) e soon

  moved : IsEngine m (value_of c) → turns_left (names c.rows.items)
      (after_turn m (value_of c)).state ≡ turns_left_of c - 1
  moved e = one_less _ _ (⊎_elim inl (λ same. inr
      (ap (turns_left (names c.rows.items)) same.0, same.1)) (counts e).one_fewer)

  pub fewer : (n : Core T) → StaysReady c n → situation_of n ≡ after_turn m (value_of c)
      → ∥ IsEngine m (value_of c) ∥₁ → turns_left_of n ≡ turns_left_of c - 1
  fewer n stays is kept =
      ap (λ ns. turns_left ns (core_state n)) stays.objects
      ∙ ap (λ x. turns_left (names c.rows.items) x.state) is
      ∙ ∥∥₁_elim kept (ℕ_set _ _) moved

  -- the idle turn is the one where no turn is left
  pub idles : (n : Core T) → situation_of n ≡ after_turn m (value_of c)
      → ∥ IsEngine m (value_of c) ∥₁ → (turned_by (parts_of c) (parts_of n) ≡ Idle)
      ↔ (turns_left_of c ≡ 0)
  idles n is kept =
      let parts = ap (λ x. on_chain x.state) is in (
        λ idle. ∥∥₁_elim kept (ℕ_set _ _) (λ e. (counts e).idle.0
            (sym parts ∙ is_idle (parts_of c) (parts_of n) idle)),
        λ none. idle_is (parts_of c) (parts_of n) (∥∥₁_elim kept (ℕ_set _ _)
            (λ e. parts ∙ (counts e).idle.1 none)),
      )
