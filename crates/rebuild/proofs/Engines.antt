-- An engine after a turn.
use Rattle.std.proofs.Common.{◌≡◌, ◌≤◌, length, ℕ, List, true, Result, Ok, Err, OnOk, OnErr, nat_le, sym, ap, ◌∙◌, subst}
use Rattle.std.proofs.Math.Logic.{∥∥₁_map}
use Rattle.std.proofs.lemmas.Bool.{le-leb, leb-true}
use Rattle.asking.specs.declared.limits.TheConstants.{END_OF_NUMBERS}
use Rattle.base.specs.declared.limits.TheConstants.{MAX_OBJECTS}
use Rattle.pan_ast.specs.declared.work.Limits.{Limits}
use Rattle.engine_laws.specs.Engine.{Turn}
use Rattle.engine_laws.specs.Reached.{IsReached}
use Rattle.engine_laws.proofs.Reached.{leads_on, reached_scratch}
use Rattle.engine_laws.proofs.Onward.{kept_numbers}
use Rattle.engine_laws.proofs.Narrowing.{narrowed, left_alone}
use Rattle.engine_machine.specs.Machine.{runner_of, keeping, judge_of}
use Rattle.engine_machine.proofs.Truths.{both}
use Rattle.engine_turns.specs.declared.core_data.Core.{Core}
use Rattle.engine_turns.specs.declared.turned.TurnError.{TurnError}
use Rattle.engine_turns.specs.Places.{names, file_names}
use Rattle.engine_turns.specs.States.{picture_of, are_graded}
use Rattle.object_names.specs.Objects.{are_rising}
use Rattle.engine_turns.specs.Ready.{core_state, is_chain, none_before, is_open, is_unchecked, IsReady, StaysReady}
use Rattle.engine_turns.specs.Turning.{turned}
use Rattle.rebuild.specs.Engines.{EngineSituation, Meanings, situation_of, value_of, is_ready, IsEngine, turn_work_of, after_turn, IsTrue, AreKept, AreSpared}
use Rattle.engine_turns.specs.Spent.{core_work, IsTurnRefused}
use Rattle.engine_turns.proofs.Readies.{both_true}
use Rattle.engine_turns.proofs.ByName.{names_length}

pub ready_is : {T : Type 0} → (c : Core T) → is_ready c ≡ true → IsReady c
ready_is c e =
    let a = both (nat_le 3 c.counter) _ e in
    let b = both (are_rising (names c.rows.items)) _ a.1 in
    let d = both (are_rising (file_names c.files.items)) _ b.1 in
    let f = both (none_before is_open c.first_build c.rows.items) _ d.1 in
    let g = both (none_before is_unchecked c.first_check c.rows.items) _ f.1 in
    let h = both (are_graded c.rows.items) _ g.1 in
    let i = both (is_chain c.chain) _ h.1 in
    record {
      three = leb-true 3 c.counter a.0;
      rising = b.0;
      files = d.0;
      builds = f.0;
      checks =
          g.0;
      graded = h.0;
      chain = i.0;
      known = i.1;
    }

pub is_ready_of : {T : Type 0} → (c : Core T) → IsReady c → is_ready c ≡ true
is_ready_of c r =
    both_true (nat_le 3 c.counter) _ (le-leb 3 c.counter r.three)
    (both_true (are_rising (names c.rows.items)) _ r.rising
    (both_true (are_rising (file_names c.files.items)) _ r.files
    (both_true (none_before is_open c.first_build c.rows.items) _ r.builds
    (both_true (none_before is_unchecked c.first_check c.rows.items) _ r.checks
    (both_true (are_graded c.rows.items) _ r.graded
    (both_true (is_chain c.chain) _ r.chain r.known))))))

pub same_count : {T : Type 0} → (c n : Core T) → names n.rows.items ≡ names c.rows.items
    → length n.rows.items ≡ length c.rows.items
same_count c n e = sym (names_length n.rows.items) ∙ ap length e ∙ names_length c.rows.items

-- what holds of the engine after a turn, refused or not
pub record AfterTurn {T : Type 0} (n : Core T) : Type 0 where
  pub ready : is_ready n ≡ true
  pub low : n.counter ≤ END_OF_NUMBERS
  pub few : length n.rows.items ≤ MAX_OBJECTS

pub turn_facts : {T A : Type 0} → (c n : Core T) (r : Result A TurnError) → OnOk r (StaysReady c n)
    → OnErr r (n ≡ c) → is_ready c ≡ true → c.counter ≤ END_OF_NUMBERS
    → length c.rows.items ≤ MAX_OBJECTS → AfterTurn n
turn_facts c n (Ok t) stays before ready low few = record {
  ready = is_ready_of n stays.ready;
  low = stays.low low;
  few = subst (λ k. k ≤ MAX_OBJECTS) (sym (same_count c n stays.objects)) few;
}
turn_facts c n (Err e) stays before ready low few = record {
  ready = ap is_ready before ∙ ready;
  low = subst (λ z. z.counter ≤ END_OF_NUMBERS) (sym before) low;
  few = subst (λ z. length z.rows.items ≤ MAX_OBJECTS) (sym before) few;
}

module _ {T : Type 0} (m : Meanings T) where
  pub turn_situation : (c n : Core T) (dirs : List (List ℕ)) → dirs ≡ c.dirs → core_state n
      ≡ turned (m dirs c.limits).build (m dirs c.limits).check c → StaysReady c n → situation_of n
      ≡ after_turn m (value_of c)
  turn_situation c n dirs same state stays i = record {
    picture = picture_of (stays.files i) (stays.objects i);
    state = (state ∙ ap (λ d. turned (m d c.limits).build (m d c.limits).check c) same) i;
  }

  -- the work of the turn, and the counter to which it would lead, of a runner with the engine's
  -- directories
  pub work_is : (c : Core T) (dirs : List (List ℕ)) → dirs ≡ c.dirs → core_work (m dirs c.limits) c
      ≡ turn_work_of m (value_of c)
  work_is c dirs same = ap (λ d. core_work (m d c.limits) c) same

  pub refused_by : (c : Core T) (dirs : List (List ℕ)) → dirs ≡ c.dirs → (e : TurnError)
      → IsTurnRefused e (turned (m dirs c.limits).build (m dirs c.limits).check c).counter
      → IsTurnRefused e (after_turn m (value_of c)).state.counter
  refused_by c dirs same e =
      subst (IsTurnRefused e) (ap
      (λ d. (turned (m d c.limits).build (m d c.limits).check c).counter) same)

  pub engine_after : (c n : Core T) → StaysReady c n → situation_of n ≡ after_turn m (value_of c)
      → IsEngine m (value_of c) → IsEngine m (value_of n)
  engine_after c n stays is e =
      let next = leads_on (runner_of (m c.dirs c.limits).build) keeping
      (judge_of (m c.dirs c.limits).check) (situation_of c) e Turn tt in
      let P : Limits → List (List ℕ) → EngineSituation T → Type 0 =
      λ l d x. IsReached (runner_of (m d l).build) keeping (judge_of (m d l).check) x in
      subst (λ l. P l n.dirs (situation_of n)) (sym stays.limits)
      (subst (λ d. P c.limits d (situation_of n)) (sym stays.dirs)
      (subst (P c.limits c.dirs) (sym is) next))

  pub true_of : (e : _) → ∥ IsEngine m e ∥₁ → ∥ IsTrue m e ∥₁
  true_of e kept = ∥∥₁_map kept (λ r. reached_scratch (runner_of (m e.dirs e.limits).build) keeping
      (judge_of (m e.dirs e.limits).check) e.situation r)

  pub kept_of : (e : _) → ∥ IsEngine m e ∥₁ → ∥ AreKept m e ∥₁
  kept_of e kept = ∥∥₁_map kept (λ r. kept_numbers (runner_of (m e.dirs e.limits).build) keeping
      (judge_of (m e.dirs e.limits).check) e.situation r)

  pub spared_of : (e : _) → ∥ IsEngine m e ∥₁ → ∥ AreSpared m e ∥₁
  spared_of e kept = ∥∥₁_map kept (λ r o i off. record {
    narrowed = narrowed (runner_of (m e.dirs e.limits).build) keeping
        (judge_of (m e.dirs e.limits).check) e.situation r o i off;
    left = left_alone (runner_of (m e.dirs e.limits).build) keeping
        (judge_of (m e.dirs e.limits).check) e.situation r o i off;
  })
