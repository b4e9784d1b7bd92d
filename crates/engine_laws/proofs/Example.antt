-- The second instance meets all premises.
use Rattle.std.proofs.Common.{◌≡◌, ℕ, ◌<◌, ◌≤◌, List, [], ◌∷◌, Bool, true, false, Option, Some, None, length, refl, sym, ap, ◌∙◌, subst, inl, ⊎_elim, arith}
use Rattle.std.proofs.lemmas.Bool.{eqb-true, eq-eqb}
use Rattle.engine_laws.specs.Runner.{Picture, Laws, IsIn, IsTrail}
use Rattle.asking.specs.Asked.{Answer, Ends, Asks, RunsTo}
use Rattle.engine_laws.specs.Bounded.{content}
use Rattle.engine_laws.specs.Circles.{AsksCircle, CircleLaws}
use Rattle.engine_laws.specs.Engine.{Circle, Failure, Whole, KeepLaws, Take, Situation, IsNew, AreAllowed, after}
use Rattle.engine_laws.specs.Names.{Name}
use Rattle.engine_laws.specs.Reached.{IsReached}
use Rattle.engine_laws.specs.Restored.{AllSettled}
use Rattle.engine_laws.specs.Rows.{AreNamed, EndsSoon}
use Rattle.engine_laws.specs.Steps.{AreCosts}
use Rattle.engine_laws.specs.Witness.{first, second}
use Rattle.engine_laws.specs.Readers.{target, Value, copies, is_none, runner, grade_of, same_value, keeping, reads_file, judge, holding, no_files, begin, all_turns, both_rounds, ended, costs, IsExample}
use Rattle.engine_laws.proofs.Resting.{keeps_sound_rows}
use Rattle.engine_laws.proofs.Witness.{same_bools, same_test}

none_seen : (r : Value) → is_none r ≡ true → r ≡ None
none_seen None e = refl
none_seen (Some n) e = absurd (let clash : false ≡ true = e in cc)

short_runs : (o : Name) (qs : List (Bool × Value)) (r : Value) → RunsTo (copies o) [] qs r
    → length qs < 5
short_runs o [] r h = omega arith
short_runs o (q ∷ []) r h = omega arith
short_runs o (q ∷ q' ∷ qs) r h =
    absurd (let clash : ◌≡◌ {A = Answer Bool Value} (Ends q.1) (Asks q'.0) = h.1.0 in cc)

among_two : (k : Bool) (p : Name) → target k ≡ Some p → IsIn p (first ∷ second ∷ [])
among_two true p e = absurd (let clash : ◌≡◌ {A = Option Name} None (Some p) = e in cc)
among_two false p e = inl (let is : first ≡ p = cc in is)

no_target : (p : Name) → ◌≡◌ {A = Option Name} None (Some p) → ⊥
no_target p e = cc

laws_of : (n : ℕ) → Laws runner (holding n)
laws_of n = record {
  nowhere_circular = refl;
  circular_seen =
      λ k r e. none_seen r e;
  circular_ends = λ o asked k p e of. (None, refl, refl);
  short =
      short_runs;
  among = among_two;
}

first_laws : Laws runner no_files
first_laws = record {
  nowhere_circular = refl;
  circular_seen =
      λ k r e. none_seen r e;
  circular_ends = λ o asked k p e of. (None, refl, refl);
  short =
      short_runs;
  among = λ k p e. absurd (no_target p e);
}

circle_of : (r : Value) → is_none r ≡ true → grade_of r ≡ Circle
circle_of None e = refl
circle_of (Some n) e = absurd (let clash : false ≡ true = e in cc)

of_circle : (r : Value) → grade_of r ≡ Circle → is_none r ≡ true
of_circle None e = refl
of_circle (Some n) e = absurd (let clash : Whole ≡ Circle = e in cc)

no_failure : (r : Value) → grade_of r ≡ Failure → ⊥
no_failure None e = let clash : Circle ≡ Failure = e in cc
no_failure (Some n) e = let clash : Whole ≡ Failure = e in cc

same_values : (t u : Value) → same_value t u ≡ true → t ≡ u
same_values None None e = refl
same_values None (Some m) e = absurd (let clash : false ≡ true = e in cc)
same_values (Some n) None e = absurd (let clash : false ≡ true = e in cc)
same_values (Some n) (Some m) e = ap Some (eqb-true n m e)

value_test : (t u : Value) → t ≡ u → same_value t u ≡ true
value_test None None e = refl
value_test None (Some m) e = absurd (let clash : ◌≡◌ {A = Value} None (Some m) = e in cc)
value_test (Some n) None e = absurd (let clash : ◌≡◌ {A = Value} (Some n) None = e in cc)
value_test (Some n) (Some m) e = eq-eqb n m (let same : n ≡ m = cc in same)

keeps_of : (w : Picture Bool Value) → ((k : Bool) (p : Name) → w.target k ≡ Some p → target k
    ≡ Some p) → KeepLaws runner keeping w
keeps_of w names = record {
  seen_kept = λ k r. refl;
  circle_kept = circle_of;
  kept_circle =
      of_circle;
  same_is = same_values;
  names_target = names;
  small_one =
      λ k p t n g. absurd (no_failure t g);
  small_two = λ k p n. refl;
  same_key_is =
      same_bools;
  same_key_all = λ k. same_test k k refl;
  same_seen_is =
      λ k. same_values;
  same_seen_all = λ k p t u n g g'. value_test t u;
}

begins : IsNew runner keeping judge begin
begins = record {
  laws = first_laws;
  keep_laws =
      keeps_of no_files (λ k p e. absurd (no_target p e));
  no_object = refl;
  three =
      omega arith;
  nothing = λ k. (refl, refl);
  no_last = λ o. refl;
  no_reads = λ o. refl;
  no_held =
      λ o. refl;
  no_chain = refl;
  no_check = refl;
  none_run = λ o. refl;
  no_why = λ o. refl;
}

-- what holds of both objects holds of each
of_both : (P : Name → Type 0) → P first → P second → (o : Name) → IsIn o (first ∷ second ∷ []) → P o
of_both P a b o i =
    ⊎_elim
    (λ (is : first ≡ o). subst P is a)
    (λ rest. ⊎_elim (λ (is : second ≡ o). subst P is b) (λ none. absurd none) rest)
    i

-- where the first round leads
abbrev middle : Situation Bool Value Value Value Value
middle = after runner keeping judge begin (Take (holding 7) (λ k. 3) 4 ∷ all_turns)

allowed : AreAllowed runner keeping judge begin both_rounds
allowed = (
  (
    laws_of 7,
    keeps_of (holding 7) (λ k p e. e),
    record
        { up = omega arith; low = λ k. omega arith; each = λ k e. inl (omega arith) },
  ),
  (
    tt,
    (
      tt,
      (
        tt,
        (
          tt,
          (
            tt,
            (
              tt,
              (
                tt,
                (
                  tt,
                  (
                    of_both (λ o. (middle.state.open_build o ≡ false)) refl refl,
                    (
                      (
                        laws_of 8,
                        keeps_of (holding 8) (λ k p e. e),
                        record {
                          up = omega arith;
                          low = λ k. omega arith;
                          each =
                              λ k e. inl (omega arith);
                        },
                      ),
                      (tt, (tt, (tt, (tt, (tt, (tt, (tt, (tt, tt)))))))),
                    ),
                  ),
                ),
              ),
            ),
          ),
        ),
      ),
    ),
  ),
)

reached : IsReached runner keeping judge ended
reached = record {
  begin = begin;
  sound = inl begins;
  events = both_rounds;
  allowed =
      allowed;
  leads = refl;
}

settled : AllSettled runner keeping judge ended
settled = of_both (λ o. (ended.state.open_build o ≡ false) × (ended.state.open_check o ≡ false))
    (refl, refl) (refl, refl)

named : AreNamed keeping (holding 8)
named k p e i = e

few_builds : (o : Name) (asked : List (Bool × Value))
    → IsTrail (copies o) (content runner (holding 8)) asked → length asked ≤ 1
few_builds o [] trail = omega arith
few_builds o (q ∷ []) trail = omega arith
few_builds o (q ∷ (q' ∷ asked)) trail =
    absurd (let clash : ◌≡◌ {A = Answer Bool Value} (Ends q'.1) (Asks q.0) = trail.1 in cc)

few_checks : (v : Value) (asked : List (Bool × Value))
    → IsTrail (reads_file v) (content runner (holding 8)) asked → length asked ≤ 1
few_checks v [] trail = omega arith
few_checks v (q ∷ []) trail = omega arith
few_checks v (q ∷ (q' ∷ asked)) trail =
    absurd (let clash : ◌≡◌ {A = Answer Bool Value} (Ends q'.1) (Asks q.0) = trail.1 in cc)

costs_are : AreCosts runner keeping judge costs (holding 8) 1
costs_are = record {
  room = omega arith;
  builds = λ o. record { grows = λ asked k trail asks. omega arith; short = few_builds o };
  checks = λ v. record { grows = λ asked k trail asks. omega arith; short = few_checks v };
}

other_names : second ≡ first → ⊥
other_names e = let heads : ◌≡◌ {A = ℕ} 98 97 = cc in omega (arith, heads)

ends : EndsSoon runner judge (holding 8)
ends = record {
  once = ((λ i. ⊎_elim other_names (λ none. none) i), ((λ none. none), tt));
  room = omega arith;
  builds = λ o asked k trail asks. let few = few_builds o asked trail in omega (arith, few);
  checks = λ v asked k trail asks. let few = few_checks v asked trail in omega (arith, few);
}

true_values : (k : Bool) → content runner (holding 8) k ≡ Some 8
true_values true = refl
true_values false = refl

no_circle : (o : Name) (asked : List (Bool × Value)) (r : Value)
    → IsTrail (copies o) (content runner (holding 8)) asked → copies o asked ≡ Ends r → is_none r
    ≡ true → AsksCircle runner (holding 8) asked
no_circle o [] r trail e circ =
    absurd (let clash : ◌≡◌ {A = Answer Bool Value} (Asks _) (Ends r) = e in cc)
no_circle o (q ∷ asked) r trail e circ =
    let same : q.1 ≡ r = cc in
    absurd (let clash : false ≡ true = ap is_none (sym (trail.2 ∙ true_values q.0) ∙ same) ∙ circ in
    cc)

circles : CircleLaws runner (holding 8)
circles = record {
  soon = λ o asked k trail asks. let few = few_builds o asked trail in
      omega (arith, few);
  cause = no_circle;
}

pub example : IsExample
example = record {
  begins = begins;
  allowed = allowed;
  first_is = refl;
  second_is = refl;
  second_reads = refl;
  first_checked = refl;
  rows = keeps_sound_rows runner keeping judge ended reached named settled;
  costs_are = costs_are;
  ends = ends;
  circles = circles;
}
