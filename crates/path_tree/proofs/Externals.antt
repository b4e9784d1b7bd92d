-- An external path whose name was read.
use Rattle.std.proofs.Common.{◌≡◌, ℕ, ◌+◌, ◌-◌, Bool, true, false, cond, List, length, take, drop, Some, None, Err, refl, arith}
use Rattle.std.proofs.lemmas.Grind.{common_steps}
use Rattle.path_tree.specs.Grammar.{is_name}
use Rattle.path_tree.specs.Paths.{external, absolute_at}
use Rattle.path_tree.specs.declared.path.Anchor.TheVariants as anchor
use Rattle.path_tree.specs.declared.path.PathError.TheVariants.{BadTerm}

pub external_named : (text : List ℕ) (i : ℕ) (n : List ℕ) → Some n
    ≡ cond (is_name (take i text)) (Some (take i text)) None → external text i
    ≡ absolute_at (anchor.External n) (i + 1) (take (length text - (i + 1)) (drop (i + 1) text))
external_named text i n h = rw rest (named (is_name (take i text)) h)
  where
    rest : take (length text - (i + 1)) (drop (i + 1) text) ≡ drop (i + 1) text
    rest = grind (arith, common_steps)

    named : (b : Bool) → Some n ≡ cond b (Some (take i text)) None
        → cond b (absolute_at (anchor.External (take i text)) (i + 1) (drop (i + 1) text))
        (Err (BadTerm 0)) ≡ absolute_at (anchor.External n) (i + 1) (drop (i + 1) text)
    named true e = let same : n ≡ take i text = cc in rw same refl
    named false e = cc
