-- How far a build comes, from what its take and its turns did.
use Rattle.std.proofs.Common.{◌≡◌, ℕ, true, false, List, [], Option, Some, None, IfSome, refl, sym, ap, ◌∙◌, subst, arith, codes}
use Rattle.command_words.specs.declared.commands.Work.{Work}
use Rattle.outside.specs.declared.source.MemFile.{MemFile}
use Rattle.engine_turns.specs.declared.core_data.Core.{Core}
use Rattle.publication.specs.declared.answer.Publication.TheVariants as publication
use Rattle.rebuild.specs.Engines.{Meanings, turns_left_of}
use Rattle.session.specs.Machines.{Machine}
use Rattle.session.specs.Sessions.{NotSaved, State, Next, GoesOn, SpendsNumbers, IsTooMuch, Scanned, NotBegun, BrokeOff, Done, state_in, with_turns, built, reported, started, scanned, writes}
use Rattle.engine_turns.specs.Spent.{counted_more}
use Rattle.engine_session.specs.Compiler.{Compiled, compiler}
use Rattle.engine_session.specs.Standing.{Here, Counts, HasSpent, HasSpentAtMost, IsAt, IsIn, IsRising, MakesTurns, TakesNext, has_failed}
use Rattle.engine_session.specs.declared.taking.Took.TheVariants as took
use Rattle.engine_session.proofs.Counting.{no_fewer, spent_none, turns_rise}
use Rattle.engine_session.proofs.Moves.{along}
use Rattle.site_build.specs.Rounds.{Reaches, build_of, session_at}
use Rattle.site_build.specs.Session.{engine_for, limits_of, round_from, session_after, state_from}
use Rattle.site_build.specs.declared.building.Reached.TheVariants as reached

pub if_told : {A : Type 0} (P : A → Type 0) (o : Option A) → ((x : A) → o ≡ Some x → P x)
    → IfSome o P
if_told P None f = tt
if_told P (Some x) f = f x refl

-- nothing was done since
pub spent_nothing : {E : Type 0} (s : State E) (start : Counts) → HasSpentAtMost s start start
spent_nothing s start = record {
  no_fewer = omega arith;
  in_runs = no_fewer s.runs start.runs;
  in_steps = omega arith;
}

module _ {T : Type 0} (M : Meanings T) (e : Compiled T) (w : Work) (ps : List (List MemFile)) where
  abbrev pub m : Machine (Compiled T)
  m = engine_for M w

  abbrev pub first : Here T
  first = started e ps []

  abbrev pub at_end : Here T → Next (Compiled T)
  at_end t = GoesOn (reported m (publication.Done []) NotSaved t)

  pub end_rises : IsRising at_end
  end_rises t = record { in_runs = omega arith; in_steps = omega arith }

  pub build_rises : IsRising (built m (publication.Done []) NotSaved)
  build_rises t = turns_rise m at_end end_rises (m.turns_left t.engine) t

  pub at_first : (core : Core T) (start : Counts) → IsIn w.directories (limits_of w) core e
      → IsAt w.directories (limits_of w) first core start start
  at_first core start is = record { engine = is; spent = spent_none first start refl refl }

  -- a publication and a report over nothing
  reports : (names : List (List ℕ)) (s : Here T) → s.text ≡ []
      → session_after m w.most_removed names (at_end s) ≡ build_of w.most_removed names m s.engine
  reports names s text = ap (λ before. session_after m w.most_removed names
      (at_end (record s { text = before }))) text

  round_is : round_from M e w ps ≡ scanned m Done first (built m (publication.Done []) NotSaved)
  round_is = refl

  module _ (core : Core T) (start now : Counts) (coming : Option (List (List MemFile)))
      (faults faults' : ℕ) where
    pub reaches_spent : TakesNext m w.directories (limits_of w) first took.SpendsNumbers core start
        now coming faults faults' → Reaches M e w reached.NumbersSpent ps core start now
    reaches_spent t = let leads : round_from M e w ps ≡ SpendsNumbers t.state =
        subst (λ scan. scanned m scan first (built m (publication.Done []) NotSaved)
        ≡ SpendsNumbers t.state) t.failed (t.leads (built m (publication.Done []) NotSaved)) in
        record {
          session = λ names. ap (session_after m w.most_removed names) leads;
          spent = subst (λ s. HasSpentAtMost s start now) (sym (ap state_in leads)) t.stands;
          ends = tt;
        }

    pub reaches_too_much : TakesNext m w.directories (limits_of w) first took.IsTooMuch core start
        now coming faults faults' → Reaches M e w reached.TooMuch ps core start now
    reaches_too_much t = let leads : round_from M e w ps ≡ IsTooMuch t.state =
        subst (λ scan. scanned m scan first (built m (publication.Done []) NotSaved)
        ≡ IsTooMuch t.state) t.failed (t.leads (built m (publication.Done []) NotSaved)) in record {
          session = λ names. ap (session_after m w.most_removed names) leads;
          spent = subst (λ s. HasSpentAtMost s start now) (sym (ap state_in leads)) t.stands;
          ends = tt;
        }

    -- a scan that failed made no run and no step
    stands_still : (scan : Scanned) (s : Here T) → has_failed scan ≡ true
        → scanned m scan first (built m (publication.Done []) NotSaved)
        ≡ writes s (codes "source fault\n") → (s.runs ≡ 0) × (s.steps ≡ 0)
    stands_still NotBegun s failed leads =
        (sym (ap (λ n. (state_in n).runs) leads), sym (ap (λ n. (state_in n).steps) leads))
    stands_still BrokeOff s failed leads =
        (sym (ap (λ n. (state_in n).runs) leads), sym (ap (λ n. (state_in n).steps) leads))
    stands_still Done s failed leads = cc

    pub cut_failed : TakesNext m w.directories (limits_of w) first took.Failed core start now coming
        faults faults' → HasSpentAtMost (state_from M e w ps) start now
    cut_failed t =
        let still = stands_still t.scan t.state t.failed
        (t.leads (built m (publication.Done []) NotSaved)) in
        let steps : now.steps ≡ start.steps =
        (let a = t.stands.spent.in_steps in let b = still.1 in omega (arith, a, b)) in
        let runs : now.runs ≡ start.runs =
        t.stands.spent.in_runs ∙ ap (λ k. counted_more k start.runs) still.0 in
        let same : now ≡ start = (λ i. record { runs = runs i; steps = steps i }) in
        subst (λ c. HasSpentAtMost (state_from M e w ps) start c) (sym same)
        (spent_nothing (state_from M e w ps) start)

    -- the turns after the take
    module _ (t : TakesNext m w.directories (limits_of w) first took.Taken core start now coming
        faults faults') (left : ℕ) (is_left : left ≡ turns_left_of core) where
      left_is : m.turns_left t.state.engine ≡ left
      left_is = ap m.turns_left (sym t.stands.engine.is) ∙ sym is_left

      turns_are : round_from M e w ps ≡ with_turns m left t.state at_end
      turns_are = subst (λ scan. scanned m scan first (built m (publication.Done []) NotSaved)
          ≡ built m (publication.Done []) NotSaved t.state) t.failed
          (t.leads (built m (publication.Done []) NotSaved))
          ∙ ap (λ k. with_turns m k t.state at_end) left_is

      pub cut_turning : (later : Counts) → HasSpentAtMost
          (state_in (with_turns m left t.state at_end)) start later
          → HasSpentAtMost (state_from M e w ps) start later
      cut_turning later most =
          subst (λ n. HasSpentAtMost (state_in n) start later) (sym turns_are) most

      pub reaches_all : (last : Core T) (later : Counts)
          → MakesTurns m w.directories (limits_of w) left t.state true last start later
          → Reaches M e w reached.All ps last start later
      reaches_all last later made = record {
        session = λ names. ap (session_after m w.most_removed names) leads
            ∙ reports names made.state (made.moved.text ∙ t.text)
            ∙ along last (λ dirs limits x. build_of w.most_removed names
            (compiler (M dirs limits) dirs) x ≡ session_at w.most_removed names M reached.All last)
            w.directories (limits_of w) made.state.engine made.stands.engine refl;
        spent = subst (λ n. HasSpent (state_in n) start later) (sym leads)
            (record { in_runs = made.stands.spent.in_runs; in_steps = made.stands.spent.in_steps });
        ends = (made.state, leads, made.stands.engine);
      }
        where
          leads : round_from M e w ps ≡ at_end made.state
          leads = turns_are ∙ made.leads at_end

      pub reaches_none : (last : Core T) (later : Counts)
          → MakesTurns m w.directories (limits_of w) left t.state false last start later
          → Reaches M e w reached.NumbersSpent ps last start later
      reaches_none last later made = record {
        session = λ names. ap (session_after m w.most_removed names) leads;
        spent = subst (λ n. HasSpentAtMost (state_in n) start later) (sym leads) made.stands;
        ends = tt;
      }
        where
          leads : round_from M e w ps ≡ SpendsNumbers made.state
          leads = turns_are ∙ made.leads at_end
