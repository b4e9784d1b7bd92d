-- Which tokens could follow others.
use Rattle.std.specs.Prelude.{◌≤◌, ℕ, List, [], ◌∷◌, ◌++◌, length}
use Rattle.pan_ast.specs.declared.place.Place.{Place}
use Rattle.pan_ast.specs.Templates.{Template}
use Rattle.pan_grammar.specs.Faults.{DeepInLast, IsViable, ParsesWhere}
use Rattle.pan_grammar.specs.Grammar.{Tokens}
use Rattle.expected_tokens.specs.Candidates.{sample}
use Rattle.expected_tokens.specs.declared.candidate.Candidate.{Candidate}

-- some template begins with these tokens and such a token behind them
abbrev pub CouldFollow : Tokens → Place → Candidate → Type 0
CouldFollow before place c = IsViable (before ++ sample place c ∷ [])

-- some template begins with these tokens, and nests no construct too deep in them
abbrev pub Begins : Tokens → Type 0
Begins before = (last : ℕ) × (on : Tokens) × (z : Template) × (last ≤ length on)
    × ParsesWhere (DeepInLast last) (before ++ on) z

-- the second list has those of the first of which something holds, in their order
pub data IsSifted {A : Type 0} (P : A → Type 0) : List A → List A → Type 0 where
  none_left : IsSifted P [] []
  kept : {x : A} {xs ys : List A} → P x → IsSifted P xs ys → IsSifted P (x ∷ xs) (x ∷ ys)
  sifted_out : {x : A} {xs ys : List A} → (P x → ⊥) → IsSifted P xs ys
      → IsSifted P (x ∷ xs) ys
