-- Runs and steps that are counted.
use Rattle.std.proofs.Common.{◌≡◌, ◌≤◌, ◌+◌, ◌-◌, ℕ, zero, suc, Bool, true, false, cond, nat_lt, Option, Some, None, sym, ap, ◌∙◌, subst, arith}
use Rattle.runner.specs.Meaning.{counted, last_count}
use Rattle.engine_turns.specs.Spent.{counted_more, IsSpent, IsSpentAtMost}
use Rattle.engine_laws.specs.Steps.{Work}
use Rattle.session.specs.Machines.{Machine, Turned}
use Rattle.session.specs.Sessions.{State, Next, state_in, worked, unless_spent, with_turns}
use Rattle.engine_session.specs.Standing.{Counts, counts, HasSpent, HasSpentAtMost, IsBelow, IsRising}

more_steps : (a b n : ℕ) → counted_more (a + b) n ≡ counted_more b (counted_more a n)
more_steps zero b n = let e : 0 + b ≡ b = omega arith in ap (λ k. counted_more k n) e
more_steps (suc a) b n = let e : suc a + b ≡ suc (a + b) = omega arith in
    ap (λ k. counted_more k n) e ∙ more_steps a b (counted n)

counted_by : (b : Bool) (n : ℕ) → n ≤ cond b (n + 1) n
counted_by true n = omega arith
counted_by false n = omega arith

one_more : (n : ℕ) → n ≤ counted n
one_more n = counted_by (nat_lt n last_count) n

pub no_fewer : (k n : ℕ) → n ≤ counted_more k n
no_fewer zero n = omega arith
no_fewer (suc k) n = let a = one_more n in let b = no_fewer k (counted n) in omega (arith, a, b)

pub more_runs : (a b n : ℕ) → a ≤ b → counted_more a n ≤ counted_more b n
more_runs a b n le = let e : a + (b - a) ≡ b = omega (arith, le) in
    subst (λ k. counted_more a n ≤ k) (sym (more_steps a (b - a) n) ∙ ap (λ k. counted_more k n) e)
    (no_fewer (b - a) (counted_more a n))

module _ {E : Type 0} where
  pub spent_none : (s : State E) (start : Counts) → s.runs ≡ 0 → s.steps ≡ 0
      → HasSpent s start start
  spent_none s start runs steps =
      record {
        in_runs = ap (λ k. counted_more k start.runs) (sym runs);
        in_steps =
            omega (arith, steps);
      }

  pub at_most : (s : State E) (start now : Counts) → HasSpent s start now
      → HasSpentAtMost s start now
  at_most s start now h = record {
    no_fewer = let f = no_fewer s.runs start.runs in let e = h.in_runs in omega (arith, f, e);
    in_runs = let e = h.in_runs in omega (arith, e);
    in_steps = let e = h.in_steps in omega (arith, e);
  }

  pub at_most_on : (s t : State E) (start now : Counts) → IsBelow s t → HasSpentAtMost s start now
      → HasSpentAtMost t start now
  at_most_on s t start now below h = record {
    no_fewer = h.no_fewer;
    in_runs = let m = more_runs s.runs t.runs start.runs below.in_runs in let a = h.in_runs in
        omega (arith, m, a);
    in_steps = let b = below.in_steps in let a = h.in_steps in omega (arith, b, a);
  }

  -- more work on top
  pub spent_on : (machine : Machine E) (s : State E) (t : Turned E) (work : Work)
      (start mid : Counts) (runs steps : ℕ) → t.runs ≡ work.0 → t.steps ≡ work.1
      → HasSpent s start mid → IsSpent work mid.steps steps mid.runs runs
      → HasSpent (worked machine t s) start (counts runs steps)
  spent_on machine s t work start mid runs steps r st h w = record {
    in_runs = w.in_runs ∙ ap (counted_more work.0) h.in_runs
        ∙ sym (more_steps s.runs work.0 start.runs) ∙ ap (λ k. counted_more (s.runs + k) start.runs)
        (sym r);
    in_steps = let a = h.in_steps in let b = w.in_steps in omega (arith, a, b, st);
  }

  pub spent_some : (machine : Machine E) (s : State E) (t : Turned E) (work : Work)
      (start mid : Counts) (runs steps : ℕ) → t.runs ≡ work.0 → t.steps ≡ work.1
      → HasSpent s start mid → IsSpentAtMost work mid.steps steps mid.runs runs
      → HasSpentAtMost (worked machine t s) start (counts runs steps)
  spent_some machine s t work start mid runs steps r st h w = record {
    no_fewer = let f = no_fewer s.runs start.runs in let e = h.in_runs in let n = w.no_fewer in
        omega (arith, f, e, n);
    in_runs = subst (λ k. runs ≤ k) (ap (counted_more work.0) h.in_runs
        ∙ sym (more_steps s.runs work.0 start.runs) ∙ ap (λ k. counted_more (s.runs + k) start.runs)
        (sym r)) w.in_runs;
    in_steps = let a = h.in_steps in let b = w.in_steps in omega (arith, a, b, st);
  }

  pub below_same : (s : State E) → IsBelow s s
  below_same s = record { in_runs = omega arith; in_steps = omega arith }

  below_on : (s t u : State E) → IsBelow s t → IsBelow t u → IsBelow s u
  below_on s t u a b = record {
    in_runs = let x = a.in_runs in let y = b.in_runs in
        omega (arith, x, y);
    in_steps = let x = a.in_steps in let y = b.in_steps in
        omega (arith, x, y);
  }

  module _ (machine : Machine E) where
    spent_rises : (next : State E → Next E) → IsRising next → (o : Option E) (s : State E)
        → IsBelow s (state_in (unless_spent machine o s next))
    spent_rises next rising None s = below_same s
    spent_rises next rising (Some e) s = let r = rising (record s { engine = e }) in
        record { in_runs = r.in_runs; in_steps = r.in_steps }

    worked_rises : (t : Turned E) (s : State E) → IsBelow s (worked machine t s)
    worked_rises t s = record { in_runs = omega arith; in_steps = omega arith }

    pub turns_rise : (next : State E → Next E) → IsRising next → (k : ℕ)
        → IsRising (λ s. with_turns machine k s next)
    turns_rise next rising zero s = rising s
    turns_rise next rising (suc k) s =
        below_on s (worked machine (machine.turn s.engine) s)
        (state_in (with_turns machine (suc k) s next)) (worked_rises (machine.turn s.engine) s)
        (spent_rises (λ t. with_turns machine k t next) (turns_rise next rising k)
        (machine.turn s.engine).state (worked machine (machine.turn s.engine) s))

    -- what the next of so many turns does is part of what they do
    pub next_turn_below : (next : State E → Next E) → IsRising next → (k : ℕ) (s : State E)
        → IsBelow (worked machine (machine.turn s.engine) s)
        (state_in (with_turns machine (suc k) s next))
    next_turn_below next rising k s =
        spent_rises (λ t. with_turns machine k t next) (turns_rise next rising k)
        (machine.turn s.engine).state (worked machine (machine.turn s.engine) s)
