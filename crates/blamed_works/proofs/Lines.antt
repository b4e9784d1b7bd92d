-- Where a session stands behind a line that asks who set the leaves of an object.
use Rattle.std.proofs.Common.{◌≡◌, ◌+◌, ◌++◌, ℕ, List, [], None, Result, Ok, Err, is_ok, OnOk, if◌then◌else◌, refl, sym, ap, ◌∙◌, subst}
use Rattle.pan_ast.specs.declared.work.Limits.{Limits}
use Rattle.path_tree.specs.declared.path.Term.{Term}
use Rattle.engine_turns.specs.declared.core_data.Core.{Core}
use Rattle.engine_turns.specs.Spent.{IsSpent, IsSpentAtMost}
use Rattle.engine_turns.proofs.Spending.{spent_by}
use Rattle.rebuild.specs.Engines.{Meanings}
use Rattle.session.specs.Machines.{Turned}
use Rattle.session.specs.Sessions.{state_in, writes, blamed_in}
use Rattle.engine_session.specs.Compiler.{Compiled, compiler}
use Rattle.engine_session.specs.Standing.{Here, Counts, counts, IsAt, IsIn, HasSpent, HasSpentAtMost, compiled_in, machine_in}
use Rattle.engine_session.proofs.Counting.{at_most, at_most_on, spent_on, spent_some}
use Rattle.engine_session.proofs.Moves.{along}
use Rattle.blamed_works.specs.Lines.{Blames}
use Rattle.blamed_works.proofs.Cases.{blamed_rises}

-- what is so where it was done
pub on_done : {A E X : Type 0} (r : Result A E) (new made before : X)
    → new ≡ (if is_ok r then made else before) → OnOk r (new ≡ made)
on_done (Ok a) new made before is = is
on_done (Err e) new made before is = tt

module _ {T : Type 0} (M : Meanings T) (core : Core T) (name : List ℕ) (terms : List Term)
    (s : Here T) where
  abbrev pub here : Here T
  here = record s { engine = compiled_in core }

  stands : IsIn core.dirs core.limits core (compiled_in core)
  stands = record { dirs_are = refl; limits_are = refl; is = refl }

  -- one run and so many steps
  abbrev cost : ℕ → Turned (Compiled T)
  cost n = record { state = None; runs = 1; steps = n }

  abbrev pub after_run : ℕ → Here T
  after_run n = record here { runs = s.runs + 1; steps = s.steps + n }

  abbrev Went : List ℕ → Counts → Counts → Type 0
  Went text start now = Blames (machine_in M core) core.dirs core.limits name terms here text core
      start now

  -- a text alone
  pub wrote : (text : List ℕ) (start now : Counts)
      → blamed_in (machine_in M core) name terms here ≡ writes here text → HasSpent s start now
      → Went text start now
  wrote text start now leads spent = record {
    state = record here { text = s.text ++ text };
    leads = leads;
    only = refl;
    written = refl;
    stands = record {
      engine = stands;
      spent = record
          { in_runs = spent.in_runs; in_steps = spent.in_steps };
    };
  }

  -- a run, and a text
  pub ran_and_wrote : (n : ℕ) (text : List ℕ) (start mid : Counts) (runs steps : ℕ)
      → blamed_in (machine_in M core) name terms here ≡ writes (after_run n) text
      → HasSpent s start mid → IsSpent (1, n) mid.steps steps mid.runs runs
      → Went text start (counts runs steps)
  ran_and_wrote n text start mid runs steps leads before spent =
      let all = spent_on (machine_in M core) s (cost n)
      (1, n) start mid runs steps refl refl before spent in
      record {
        state = record (after_run n) { text = s.text ++ text };
        leads = leads;
        only = refl;
        written = refl;
        stands = record {
          engine = stands;
          spent = record
              { in_runs = all.in_runs; in_steps = all.in_steps };
        };
      }

  abbrev Cut : Counts → Counts → Type 0
  Cut start now = HasSpentAtMost (state_in (blamed_in (machine_in M core) name terms here)) start
      now

  -- a run that was refused, or after which memory was wanting
  pub cut_run : (n : ℕ) (text : List ℕ) (start mid : Counts) (runs steps : ℕ)
      → blamed_in (machine_in M core) name terms here ≡ writes (after_run n) text
      → HasSpent s start mid → IsSpentAtMost (1, n) mid.steps steps mid.runs runs
      → Cut start (counts runs steps)
  cut_run n text start mid runs steps leads before spent =
      let all = spent_some (machine_in M core) s (cost n)
      (1, n) start mid runs steps refl refl before spent in
      let there : HasSpentAtMost (state_in (writes (after_run n) text)) start
      (counts runs steps) = record {
        no_fewer = all.no_fewer;
        in_runs = all.in_runs;
        in_steps =
            all.in_steps;
      } in
      subst (λ x. HasSpentAtMost (state_in x) start (counts runs steps)) (sym leads) there

-- nothing was run
pub cut_before : {T : Type 0} (M : Meanings T) (dirs : List (List ℕ)) (limits : Limits)
    (name : List ℕ) (terms : List Term) (s : Here T) (start now : Counts) → HasSpent s start now
    → HasSpentAtMost (state_in (blamed_in (compiler (M dirs limits) dirs) name terms s)) start now
cut_before M dirs limits name terms s start now spent = at_most_on s
    (state_in (blamed_in (compiler (M dirs limits) dirs) name terms s)) start now
    (blamed_rises (compiler (M dirs limits) dirs) name terms s) (at_most s start now spent)

-- what holds of a session with the engine's own directories, limits and state holds of the session
pub went_at : {T : Type 0} (M : Meanings T) (core : Core T) (dirs : List (List ℕ)) (limits : Limits)
    (name : List ℕ) (terms : List Term) (s : Here T) (text : List ℕ) (start now : Counts)
    → IsIn dirs limits core s.engine → Blames (machine_in M core) core.dirs core.limits name terms
    (record s { engine = compiled_in core }) text core start now
    → Blames (compiler (M dirs limits) dirs) dirs limits name terms s text core start now
went_at M core dirs limits name terms s text start now is went = along core
    (λ d l e. Blames (compiler (M d l) d) d l name terms
    (record s { engine = e }) text core start now) dirs limits s.engine is went

pub cut_at : {T : Type 0} (M : Meanings T) (core : Core T) (dirs : List (List ℕ)) (limits : Limits)
    (name : List ℕ) (terms : List Term) (s : Here T) (start now : Counts)
    → IsIn dirs limits core s.engine → HasSpentAtMost
    (state_in (blamed_in (machine_in M core) name terms (record s { engine = compiled_in core })))
    start now → HasSpentAtMost (state_in (blamed_in (compiler (M dirs limits) dirs) name terms s))
    start now
cut_at M core dirs limits name terms s start now is cut = along core
    (λ d l e. HasSpentAtMost (state_in (blamed_in (compiler (M d l) d) name terms
    (record s { engine = e }))) start now) dirs limits s.engine is cut

-- a text that is written behind none
pub behind_none : (old new more : List ℕ) → new ≡ old ++ more → old ≡ [] → new ≡ more
behind_none old new more is none = is ∙ ap (λ t. t ++ more) none

-- a run was made, or less
pub spent_most : (n steps now runs count : ℕ) → IsSpent (1, n) steps now runs count
    → IsSpentAtMost (1, n) steps now runs count
spent_most n steps now runs count spent = let refused : Result ℕ ℕ = Err 0 in spent_by refused
    (1, n) steps now runs count spent

module _ {T : Type 0} (M : Meanings T) (core : Core T) (name : List ℕ) (terms : List Term)
    (dirs : List (List ℕ)) (limits : Limits) (s : Here T) (start : Counts) where
  pub told_text : (text said : List ℕ) (now : Counts) → text ≡ said
      → blamed_in (machine_in M core) name terms (here M core name terms s) ≡ writes
      (here M core name terms s) said → IsAt dirs limits s core start now
      → Blames (compiler (M dirs limits) dirs) dirs limits name terms s text core start now
  told_text text said now is leads at = went_at M core dirs limits name terms s text start now
      at.engine (wrote M core name terms s text start now
      (leads ∙ ap (writes (here M core name terms s)) (sym is)) at.spent)

  pub told_run : (n : ℕ) (text said : List ℕ) (mid : Counts) (runs steps : ℕ) → text ≡ said
      → blamed_in (machine_in M core) name terms (here M core name terms s) ≡ writes
      (after_run M core name terms s n) said → IsAt dirs limits s core start mid
      → IsSpent (1, n) mid.steps steps mid.runs runs
      → Blames (compiler (M dirs limits) dirs) dirs limits name terms s text core start
      (counts runs steps)
  told_run n text said mid runs steps is leads at spent = went_at M core dirs limits name terms s
      text start (counts runs steps) at.engine
      (ran_and_wrote M core name terms s n text start mid runs steps
      (leads ∙ ap (writes (after_run M core name terms s n)) (sym is)) at.spent spent)

  pub cut_after : (n : ℕ) (said : List ℕ) (mid : Counts) (runs steps : ℕ)
      → blamed_in (machine_in M core) name terms (here M core name terms s) ≡ writes
      (after_run M core name terms s n) said → IsAt dirs limits s core start mid
      → IsSpentAtMost (1, n) mid.steps steps mid.runs runs
      → HasSpentAtMost (state_in (blamed_in (compiler (M dirs limits) dirs) name terms s)) start
      (counts runs steps)
  cut_after n said mid runs steps leads at spent = cut_at M core dirs limits name terms s start
      (counts runs steps) at.engine (cut_run M core name terms s n said start mid runs steps leads
      at.spent spent)
