-- Whole runs.
use Rattle.std.proofs.Common.{◌≡◌, ℕ, suc, ◌≤◌, ◌<◌, length, Bool, true, false, [], ◌∷◌, ◌++◌, Option, Some, None, Ok, Err, refl, sym, ap, subst, append_assoc, inl, inr, arith}
use Rattle.base.specs.declared.limits.TheConstants.{MAX_NESTING}
use Rattle.pan_ast.specs.declared.token.Token.{Token}
use Rattle.pan_ast.specs.Templates.{Template}
use Rattle.pan_grammar.specs.Grammar.{Tokens}
use Rattle.pan_grammar.specs.States.{State, Start, Done}
use Rattle.pan_grammar.specs.Machine.{step, over, Bad, Deep, and_run, at_end, run}
use Rattle.pan_grammar.specs.Depths.{opens}
use Rattle.pan_grammar.specs.Waiting.{Completes}
use Rattle.pan_grammar.specs.Begins.{StepMay}
use Rattle.pan_grammar.specs.Faults.{ParsesWhere, Anywhere, Parses, DeepInLast, IsFirstBad, IsTooDeep}
use Rattle.pan_grammar.proofs.Sound.{step_sound}
use Rattle.pan_grammar.proofs.Complete.{step_complete}
use Rattle.pan_grammar.proofs.Fill.{fill}
use Rattle.pan_grammar.proofs.Filled.{filled}
use Rattle.pan_grammar.proofs.Ended.{only_done}
use Rattle.pan_grammar.proofs.Mays.{step_may, may_within, may_deepest}

pub over_true : (d : ℕ) → over d ≡ true → MAX_NESTING < d
over_true d h = search arith

pub over_false : (d : ℕ) → over d ≡ false → d ≤ MAX_NESTING
over_false d h = search arith

end_sound : (May : ℕ → Tokens → Type 0) (σ : State) (z : Template) → at_end σ ≡ Ok z
    → Completes May σ [] z
end_sound May (Done i) z e = (refl, cc)
end_sound May _ z e = absurd cc

-- a whole reading meets the grammar, wherever constructs of depth up to the limit may stand
run_sound : (May : ℕ → Tokens → Type 0) → ((d : ℕ) (at : Tokens) → d ≤ MAX_NESTING → May d at)
    → (ts : Tokens) (σ : State) (z : Template) → run ts σ ≡ Ok z → Completes May σ ts z
run_sound May within [] σ z e = end_sound May σ z e
run_sound May within (t ∷ ts) σ z e =
    by (λ y k. run_sound May within ts y z k) (step σ t) refl (over (opens σ t)) refl e where
      by : ((y : State) → run ts y ≡ Ok z → Completes May y ts z) → (o : Option State) → step σ t
          ≡ o
          → (b : Bool) → over (opens σ t) ≡ b → and_run o b (run ts) (t ∷ ts) ≡ Ok z
          → Completes May σ (t ∷ ts) z
      by again None h b q k = absurd cc
      by again (Some y) h true q k = absurd cc
      by again (Some y) h false q k = let top = over_false (opens σ t) q in
          step_sound May σ t ts z y h (again y k) (may_within May σ t ts
          (λ d le. within d (t ∷ ts) (omega arith)))

-- at a token before the last m, no construct of depth 101 begins
pub shallow_step : (m : ℕ) (σ : State) (t : Token) (ts : Tokens) → m ≤ length ts
    → StepMay (DeepInLast m) σ t ts → over (opens σ t) ≡ false
shallow_step m σ t ts h s = by (over (opens σ t)) refl where
  by : (b : Bool) → over (opens σ t) ≡ b → b ≡ false
  by false e = refl
  by true e = let top = over_true (opens σ t) e in elim (may_deepest (DeepInLast m) σ t ts s) [
    | inl z ↦ absurd (omega arith)
    | inr q ↦ elim q [ inl a ↦ absurd (omega arith) | inr b ↦ absurd (omega arith) ]
  ]

-- a construct of depth 101 at no token: the reading goes to its end
run_complete : (ts : Tokens) (σ : State) (z : Template) → Completes (DeepInLast 0) σ ts z → run ts σ
    ≡ Ok z
run_complete [] σ z w = rw (only_done (DeepInLast 0) σ z w) refl
run_complete (t ∷ ts) σ z w =
    let g = step_complete (DeepInLast 0) σ t ts z w in
    let low = shallow_step 0 σ t ts (omega arith) (step_may (DeepInLast 0) σ t ts z w) in
    rw (g.1, low) (run_complete ts g.0 z g.2)

-- one reading of the grammar for another, where the other lets constructs begin at all of the
-- tokens
pub moved : (May Other : ℕ → Tokens → Type 0) (m : ℕ)
    → ((d : ℕ) (at : Tokens) → length at ≤ m → Other d at)
    → (ts : Tokens) (σ : State) (z : Template) → length ts ≤ m → Completes May σ ts z
    → Completes Other σ ts z
moved May Other m free [] σ z le w =
    subst (λ s. Completes Other s [] z) (sym (only_done May σ z w)) (refl, refl)
moved May Other m free (t ∷ ts) σ z le w =
    let g = step_complete May σ t ts z w in
    step_sound Other σ t ts z g.0 g.1 (moved May Other m free ts g.0 z (omega arith) g.2)
    (may_within Other σ t ts (λ d _. free d (t ∷ ts) le))

-- ---- where a reading stops, from any state

record StopsBad (σ : State) (ts bad : Tokens) : Type 0 where
  before : Tokens
  parts : ts ≡ before ++ bad
  viable : (on : Tokens) × (z : Template) × Completes (DeepInLast (length on)) σ (before ++ on) z
  dead : (k : Token) (rest : Tokens) → bad ≡ k ∷ rest → (on : Tokens) (z : Template)
      → Completes Anywhere σ (before ++ k ∷ on) z → ⊥

bad_here : (σ : State) (t : Token) (ts : Tokens) → step σ t ≡ None → StopsBad σ (t ∷ ts) (t ∷ ts)
bad_here σ t ts h =
    let f = filled (DeepInLast (length (fill σ))) (length (fill σ)) (λ d at le. inr le) σ
    (omega arith) in
    record {
      before = [];
      parts = refl;
      viable = (fill σ, f.0, f.1);
      dead = λ q rest e on z w. let i : t ≡ q = cc in let g = step_complete Anywhere σ q on z w in
          let n : step σ q ≡ None = rw i at h in absurd cc;
    }

ended : (σ : State) (bad : Tokens) → at_end σ ≡ Err (Bad bad) → StopsBad σ [] bad
ended (Done i) bad e = absurd cc
ended σ bad e =
    let h : bad ≡ [] = end_err σ e in
    let f = filled (DeepInLast (length (fill σ))) (length (fill σ)) (λ d at le. inr le) σ
    (omega arith) in
    record {
      before = [];
      parts = sym h;
      viable = (fill σ, f.0, f.1);
      dead =
          λ k rest q on z w. absurd cc;
    } where
      end_err : (σ : State) → at_end σ ≡ Err (Bad bad) → bad ≡ []
      end_err (Done i) e = absurd cc
      end_err _ e = cc

run_bad : (ts : Tokens) (σ : State) (bad : Tokens) → run ts σ ≡ Err (Bad bad) → StopsBad σ ts bad
run_bad [] σ bad e = ended σ bad e
run_bad (t ∷ ts) σ bad e =
    by (λ y k. run_bad ts y bad k) (step σ t) refl (over (opens σ t)) refl e where
      by : ((y : State) → run ts y ≡ Err (Bad bad) → StopsBad y ts bad) → (o : Option State)
          → step σ t
          ≡ o → (b : Bool) → over (opens σ t) ≡ b → and_run o b (run ts) (t ∷ ts) ≡ Err (Bad bad)
          → StopsBad σ (t ∷ ts) bad
      by again None h b q k = let i : t ∷ ts ≡ bad = cc in
          subst (λ x. StopsBad σ (t ∷ ts) x) i (bad_here σ t ts h)
      by again (Some y) h true q k = absurd cc
      by again (Some y) h false q k =
          let r = again y k in
          let top = over_false (opens σ t) q in
          let on = r.viable.0 in
          record {
            before = t ∷ r.before;
            parts = ap (λ (x : Tokens). t ∷ x) r.parts;
            viable = (
              on,
              r.viable.1,
              step_sound (DeepInLast (length on)) σ t (r.before ++ on)
                  r.viable.1 y h r.viable.2 (may_within (DeepInLast (length on)) σ t
                  (r.before ++ on)
                  (λ d le. inl (omega arith))),
            );
            dead = λ x rest e on z w. let g = step_complete Anywhere σ t (r.before ++ x ∷ on) z w in
                let i : g.0 ≡ y = cc in r.dead x rest e on z (subst
                (λ s. Completes Anywhere s (r.before ++ x ∷ on) z) i g.2);
          }

record StopsDeep (σ : State) (ts : Tokens) (k : Token) (on : Tokens) : Type 0 where
  before : Tokens
  parts : ts ≡ before ++ k ∷ on
  viable : (other : Tokens) × (z : Template) × Completes Anywhere σ (before ++ k ∷ other) z
  none_before : (other : Tokens) (z : Template) → Completes Anywhere σ (before ++ k ∷ other) z
      → Completes (DeepInLast (suc (length other))) σ (before ++ k ∷ other) z
  one_at : (other : Tokens) (z : Template) → Completes (DeepInLast (length other)) σ
      (before ++ k ∷ other) z → ⊥

deep_here : (σ : State) (t : Token) (ts : Tokens) (y : State) → step σ t ≡ Some y → over (opens σ t)
    ≡ true → StopsDeep σ (t ∷ ts) t ts
deep_here σ t ts y h q =
    let f = filled Anywhere (length (fill y)) (λ d at le. tt) y (omega arith) in
    record {
      before = [];
      parts = refl;
      viable = (
        fill y,
        f.0,
        step_sound Anywhere σ t (fill y) f.0 y h f.1
            (may_within Anywhere σ t (fill y) (λ d le. tt)),
      );
      none_before = λ other z w. moved Anywhere (DeepInLast (suc (length other)))
          (suc (length other)) (λ d at le. inr le) (t ∷ other) σ z (omega arith) w;
      one_at = λ other z w. let low =
          shallow_step (length other) σ t other (omega arith)
          (step_may (DeepInLast (length other)) σ t other z w) in absurd cc;
    }

run_deep : (ts : Tokens) (σ : State) (k : Token) (on : Tokens) → run ts σ ≡ Err (Deep (k ∷ on))
    → StopsDeep σ ts k on
run_deep [] σ k on e = none σ e where
  none : (σ : State) → at_end σ ≡ Err (Deep (k ∷ on)) → StopsDeep σ [] k on
  none (Done i) e = absurd cc
  none _ e = absurd cc
run_deep (t ∷ ts) σ k on e =
    by (λ y h. run_deep ts y k on h) (step σ t) refl (over (opens σ t)) refl e where
      by : ((y : State) → run ts y ≡ Err (Deep (k ∷ on)) → StopsDeep y ts k on) → (o : Option State)
          → step σ t ≡ o → (b : Bool) → over (opens σ t) ≡ b → and_run o b (run ts) (t ∷ ts)
          ≡ Err (Deep (k ∷ on)) → StopsDeep σ (t ∷ ts) k on
      by again None h b q r = absurd cc
      by again (Some y) h true q r = let i : t ∷ ts ≡ k ∷ on = cc in let a : t ≡ k = cc in
          let b : ts ≡ on = cc in subst (λ x. StopsDeep σ (t ∷ ts) x on) a
          (subst (λ x. StopsDeep σ (t ∷ ts) t x) b (deep_here σ t ts y h q))
      by again (Some y) h false q r =
          let s = again y r in
          let top = over_false (opens σ t) q in
          record {
            before = t ∷ s.before;
            parts = ap (λ (x : Tokens). t ∷ x) s.parts;
            viable = (
              s.viable.0,
              s.viable.1,
              step_sound Anywhere σ t (s.before ++ k ∷ s.viable.0)
                  s.viable.1 y h s.viable.2 (may_within Anywhere σ t (s.before ++ k ∷ s.viable.0)
                  (λ d le. tt)),
            );
            none_before = λ other z w.
                let g = step_complete Anywhere σ t (s.before ++ k ∷ other) z w in
                let i : g.0 ≡ y = cc in
                step_sound (DeepInLast (suc (length other))) σ t (s.before ++ k ∷ other) z y h
                (s.none_before other z (subst (λ x. Completes Anywhere x (s.before ++ k ∷ other) z)
                i g.2))
                (may_within (DeepInLast (suc (length other))) σ t (s.before ++ k ∷ other)
                (λ d le. inl (omega arith)));
            one_at = λ other z w.
                let g = step_complete (DeepInLast (length other)) σ t (s.before ++ k ∷ other) z w in
                let i : g.0 ≡ y = cc in
                s.one_at other z (subst (λ x. Completes (DeepInLast (length other)) x
                (s.before ++ k ∷ other) z) i g.2);
          }

-- ---- of the whole text

-- what is read is a template of the grammar
pub parse_sound : (ts : Tokens) (z : Template) → run ts Start ≡ Ok z → Parses ts z
parse_sound ts z e = run_sound Anywhere (λ d at le. tt) ts Start z e

-- and nothing in it is of depth 101
pub parse_low : (ts : Tokens) (z : Template) → run ts Start ≡ Ok z → ParsesWhere (DeepInLast 0) ts z
parse_low ts z e = run_sound (DeepInLast 0) (λ d at le. inl le) ts Start z e

-- a template of the grammar, within the limit, is read
pub parse_complete : (ts : Tokens) (z : Template) → ParsesWhere (DeepInLast 0) ts z → run ts Start
    ≡ Ok z
parse_complete ts z p = run_complete ts Start z p

pub parse_bad : (ts bad : Tokens) → run ts Start ≡ Err (Bad bad) → IsFirstBad ts bad
parse_bad ts bad e =
    let r = run_bad ts Start bad e in
    record {
      before = r.before;
      parts = r.parts;
      viable = r.viable;
      dead = λ k rest q v. r.dead k rest q v.0 v.1 (subst (λ (x : Tokens). Parses x v.1)
          (append_assoc r.before (k ∷ []) v.0) v.2);
    }

pub parse_deep : (ts : Tokens) (k : Token) (on : Tokens) → run ts Start ≡ Err (Deep (k ∷ on))
    → IsTooDeep ts k on
parse_deep ts k on e =
    let r = run_deep ts Start k on e in
    record {
      before = r.before;
      parts = r.parts;
      viable = (
        r.viable.0,
        r.viable.1,
        subst (λ (x : Tokens). Parses x r.viable.1)
            (sym (append_assoc r.before (k ∷ []) r.viable.0)) r.viable.2,
      );
      none_before = r.none_before;
      one_at = r.one_at;
    }
