-- The other direction: where the definitions put a fault, there the reading stops; and a text has
-- one tree.
use Rattle.std.proofs.Common.{◌≡◌, suc, ◌≤◌, length, Bool, true, false, [], ◌∷◌, ◌++◌, Option, Some, None, Err, refl, sym, subst, append_assoc, ◌∙◌, inl, inr, arith}
use Rattle.pan_ast.specs.declared.token.Token.{Token}
use Rattle.pan_ast.specs.Templates.{Template}
use Rattle.pan_grammar.specs.Grammar.{Tokens}
use Rattle.pan_grammar.specs.States.{State, Start, Done}
use Rattle.pan_grammar.specs.Machine.{step, over, Bad, Deep, and_run, run}
use Rattle.pan_grammar.specs.Depths.{opens}
use Rattle.pan_grammar.specs.Waiting.{Completes}
use Rattle.pan_grammar.specs.Faults.{Anywhere, Parses, DeepInLast, IsFirstBad, IsTooDeep}
use Rattle.pan_grammar.proofs.Sound.{step_sound}
use Rattle.pan_grammar.proofs.Complete.{step_complete}
use Rattle.pan_grammar.proofs.Fill.{fill}
use Rattle.pan_grammar.proofs.Filled.{filled}
use Rattle.pan_grammar.proofs.Ended.{only_done}
use Rattle.pan_grammar.proofs.Mays.{step_may, may_within}
use Rattle.pan_grammar.proofs.Runs.{over_false, shallow_step, moved}

longer : (a b : Tokens) → length b ≤ length (a ++ b)
longer [] b = omega arith
longer (t ∷ a) b = omega (arith, longer a b)

one_tree : (ts : Tokens) (σ : State) (y z : Template) → Completes Anywhere σ ts y
    → Completes Anywhere σ ts z → y ≡ z
one_tree [] σ y z v w = let a = only_done Anywhere σ y v in let b = only_done Anywhere σ z w in
    let c : Done y ≡ Done z = sym a ∙ b in cc
one_tree (t ∷ ts) σ y z v w =
    let a = step_complete Anywhere σ t ts y v in
    let b = step_complete Anywhere σ t ts z w in
    let e : b.0 ≡ a.0 = cc in
    one_tree ts a.0 y z a.2 (subst (λ s. Completes Anywhere s ts z) e b.2)

bad_from : (before : Tokens) (σ : State) (k : Token) (on other : Tokens) (z : Template)
    → Completes (DeepInLast (length other)) σ (before ++ other) z
    → ((more : Tokens) (y : Template) → Completes Anywhere σ (before ++ k ∷ more) y → ⊥)
    → run (before ++ k ∷ on) σ ≡ Err (Bad (k ∷ on))
bad_from [] σ k on other z w dead = by (step σ k) refl where
  by : (o : Option State) → step σ k ≡ o → and_run (step σ k) (over (opens σ k)) (run on) (k ∷ on)
      ≡ Err (Bad (k ∷ on))
  by None h = rw h refl
  by (Some y) h =
      let f = filled Anywhere (length (fill y)) (λ d at le. tt) y (omega arith) in
      absurd (dead (fill y) f.0 (step_sound Anywhere σ k (fill y) f.0 y h f.1
      (may_within Anywhere σ k (fill y) (λ d le. tt))))
bad_from (t ∷ before) σ k on other z w dead =
    let g = step_complete (DeepInLast (length other)) σ t (before ++ other) z w in
    let low = shallow_step (length other) σ t (before ++ other) (longer before other)
    (step_may (DeepInLast (length other)) σ t (before ++ other) z w) in
    rw (g.1, low) (bad_from before g.0 k on other z g.2
    (λ more y v. dead more y (step_sound Anywhere σ t (before ++ k ∷ more) y g.0 g.1 v
    (may_within Anywhere σ t (before ++ k ∷ more) (λ d le. tt)))))

deep_from : (before : Tokens) (σ : State) (k : Token) (on other : Tokens) (z : Template)
    → Completes (DeepInLast (suc (length other))) σ (before ++ k ∷ other) z
    → (Completes (DeepInLast (length other)) σ (before ++ k ∷ other) z → ⊥)
    → run (before ++ k ∷ on) σ ≡ Err (Deep (k ∷ on))
deep_from [] σ k on other z w one_at = by (over (opens σ k)) refl where
  by : (b : Bool) → over (opens σ k) ≡ b → and_run (step σ k) (over (opens σ k)) (run on) (k ∷ on)
      ≡ Err (Deep (k ∷ on))
  by true e = let g = step_complete (DeepInLast (suc (length other))) σ k other z w in
      rw (g.1, e) refl
  by false e =
      let g = step_complete (DeepInLast (suc (length other))) σ k other z w in
      let top = over_false (opens σ k) e in
      let v = moved (DeepInLast (suc (length other))) (DeepInLast (length other)) (length other)
      (λ d at le. inr le) other g.0 z (omega arith) g.2 in
      absurd (one_at (step_sound (DeepInLast (length other)) σ k other z g.0 g.1 v
      (may_within (DeepInLast (length other)) σ k other (λ d le. inl (omega arith)))))
deep_from (t ∷ before) σ k on other z w one_at =
    let m = suc (length other) in
    let g = step_complete (DeepInLast m) σ t (before ++ k ∷ other) z w in
    let low = shallow_step m σ t (before ++ k ∷ other) (longer before (k ∷ other))
    (step_may (DeepInLast m) σ t (before ++ k ∷ other) z w) in
    let top = over_false (opens σ t) low in
    rw (g.1, low) (deep_from before g.0 k on other z g.2
    (λ v. one_at (step_sound (DeepInLast (length other)) σ t (before ++ k ∷ other) z g.0 g.1 v
    (may_within (DeepInLast (length other)) σ t (before ++ k ∷ other)
    (λ d le. inl (omega arith))))))

-- ---- of the whole text

pub parse_unique : (ts : Tokens) (y z : Template) → Parses ts y → Parses ts z → y ≡ z
parse_unique ts y z p q = one_tree ts Start y z p q

pub bad_exact : (ts : Tokens) (k : Token) (on : Tokens) → IsFirstBad ts (k ∷ on) → run ts Start
    ≡ Err (Bad (k ∷ on))
bad_exact ts k on f =
    let v = f.viable in
    rw f.parts (bad_from f.before Start k on v.0 v.1 v.2
    (λ more y w. f.dead k on refl (
      more,
      y,
      subst (λ (x : Tokens). Parses x y)
          (sym (append_assoc f.before (k ∷ []) more)) w,
    )))

pub deep_exact : (ts : Tokens) (k : Token) (on : Tokens) → IsTooDeep ts k on → run ts Start
    ≡ Err (Deep (k ∷ on))
deep_exact ts k on f =
    let v = f.viable in
    let p : Parses (f.before ++ k ∷ v.0) v.1 =
    subst (λ (x : Tokens). Parses x v.1) (append_assoc f.before (k ∷ []) v.0) v.2 in
    rw f.parts (deep_from f.before Start k on v.0 v.1 (f.none_before v.0 v.1 p)
    (λ w. f.one_at v.0 v.1 w))
