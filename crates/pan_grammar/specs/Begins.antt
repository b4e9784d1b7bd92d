-- Which constructs begin at a token that a state takes.
use Rattle.std.specs.Prelude.{◌≡◌, ℕ, suc, true, false, ◌∷◌}
use Rattle.pan_ast.specs.declared.sort.Sort.TheVariants as sorts
use Rattle.pan_ast.specs.declared.token.Token.{Token}
use Rattle.pan_ast.specs.Sorts.{sort, at}
use Rattle.pan_grammar.specs.Grammar.{Tokens}
use Rattle.pan_grammar.specs.States.{State, IncludeRead, NeedFull, NeedItem, NeedUnary, BlockOpen, CallOpen}
use Rattle.pan_grammar.specs.Depths.{full_holders, holders, node_holders, signed, starts_record}

module _ (May : ℕ → Tokens → Type 0) where
  -- a Unary, an Item or a Type that d constructs hold may begin with t
  abbrev pub UnaryMay : ℕ → Token → Tokens → Type 0
  UnaryMay d t ts = signed (sort t) ≡ true → May (suc d) (t ∷ ts)

  abbrev pub ItemMay : ℕ → Token → Tokens → Type 0
  ItemMay d t ts = May (suc d) (t ∷ ts) × (signed (sort t) ≡ true → May (suc (suc d)) (t ∷ ts))

  abbrev pub FullMay : ℕ → Token → Tokens → Type 0
  FullMay d t ts =
      May (suc d) (t ∷ ts) × (starts_record (sort t) ≡ true → May (suc (suc d)) (t ∷ ts))

  abbrev pub StepMay : State → Token → Tokens → Type 0
  StepMay (IncludeRead p h ss) t ts = May 1 (t ∷ ts)
  StepMay (NeedFull s) t ts = FullMay (full_holders s) t ts
  StepMay (NeedItem s) t ts = ItemMay (holders s) t ts
  StepMay (NeedUnary n) t ts = UnaryMay (node_holders n) t ts
  StepMay (BlockOpen p is s) t ts =
      at sorts.CloseBrace (sort t) ≡ false → ItemMay (suc (holders s)) t ts
  StepMay (CallOpen f n) t ts = at sorts.Close (sort t) ≡ false → ItemMay (node_holders n) t ts
  StepMay _ t ts = Unit {0}
