-- A reading goes over tokens with which some template begins, and on from a state behind them.
use Rattle.std.proofs.Common.{◌≡◌, ℕ, ◌≤◌, length, Bool, true, false, [], ◌∷◌, ◌++◌, Option, Some, None, Ok, Err, refl, sym, subst, append_assoc, ◌∙◌, arith}
use Rattle.pan_ast.specs.declared.token.Token.{Token}
use Rattle.pan_ast.specs.Templates.{Template}
use Rattle.pan_grammar.specs.Grammar.{Tokens}
use Rattle.pan_grammar.specs.States.{State, Start}
use Rattle.pan_grammar.specs.Machine.{step, over, run}
use Rattle.pan_grammar.specs.Depths.{opens}
use Rattle.pan_grammar.specs.Waiting.{Completes}
use Rattle.pan_grammar.specs.Faults.{Anywhere, DeepInLast, IsViable, Parses}
use Rattle.pan_grammar.proofs.Sound.{step_sound}
use Rattle.pan_grammar.proofs.Complete.{step_complete}
use Rattle.pan_grammar.proofs.Fill.{fill}
use Rattle.pan_grammar.proofs.Filled.{filled}
use Rattle.pan_grammar.proofs.Mays.{step_may, may_within}
use Rattle.pan_grammar.proofs.Runs.{shallow_step}

-- the state behind the tokens: a reading goes on from it, and what completes it completes the whole
pub record Stands (before : Tokens) (σ : State) : Type 0 where
  pub behind : State
  pub reads : (ends : Tokens) → run (before ++ ends) σ ≡ run ends behind
  pub back : (more : Tokens) (y : Template) → Completes Anywhere behind more y
      → Completes Anywhere σ (before ++ more) y
  pub forth : (more : Tokens) (y : Template) → Completes Anywhere σ (before ++ more) y
      → Completes Anywhere behind more y

longer : (a b : Tokens) (n : ℕ) → n ≤ length b → n ≤ length (a ++ b)
longer [] b n le = le
longer (t ∷ a) b n le = omega (arith, longer a b n le)

pub stands : (before on : Tokens) (σ : State) (last : ℕ) (z : Template) → last ≤ length on
    → Completes (DeepInLast last) σ (before ++ on) z → Stands before σ
stands [] on σ last z le w = record {
  behind = σ;
  reads = λ ends. refl;
  back = λ more y c. c;
  forth = λ more y c. c;
}
stands (t ∷ before) on σ last z le w =
    let May = DeepInLast last in
    let g = step_complete May σ t (before ++ on) z w in
    let low = shallow_step last σ t (before ++ on) (longer before on last le)
    (step_may May σ t (before ++ on) z w) in
    let s = stands before on g.0 last z le g.2 in
    record {
      behind = s.behind;
      reads = λ ends. rw (g.1, low) (s.reads ends);
      back = λ more y c. step_sound Anywhere σ t (before ++ more) y g.0 g.1 (s.back more y c)
          (may_within Anywhere σ t (before ++ more) (λ d le. tt));
      forth = λ more y c.
          let h = step_complete Anywhere σ t (before ++ more) y c in
          let e : h.0 ≡ g.0 = cc in
          s.forth more y (subst (λ x. Completes Anywhere x (before ++ more) y) e h.2);
    }

-- where the state takes a token, some template begins with the tokens and that one
pub viable : (before : Tokens) (s : Stands before Start) (t : Token) (y : State)
    → step s.behind t ≡ Some y → IsViable (before ++ t ∷ [])
viable before s t y h =
    let f = filled Anywhere (length (fill y)) (λ d at le. tt) y (omega arith) in
    let c = step_sound Anywhere s.behind t (fill y) f.0 y h f.1
    (may_within Anywhere s.behind t (fill y) (λ d le. tt)) in (
      fill y,
      f.0,
      subst (λ (x : Tokens). Parses x f.0) (sym (append_assoc before (t ∷ []) (fill y)))
          (s.back (t ∷ fill y) f.0 c),
    )

-- and only there
pub taken : (before : Tokens) (s : Stands before Start) (t : Token) → IsViable (before ++ t ∷ [])
    → step s.behind t ≡ None → ⊥
taken before s t v h =
    let p = subst (λ (x : Tokens). Parses x v.1) (append_assoc before (t ∷ []) v.0) v.2 in
    let g = step_complete Anywhere s.behind t v.0 v.1 (s.forth (t ∷ v.0) v.1 p) in
    let k : None ≡ Some g.0 = sym h ∙ g.1 in absurd cc
