-- The text of terms, one after the other.
use Rattle.std.proofs.lemmas.Grind.{common_steps}
use Rattle.std.proofs.Common.{◌≡◌, ◌≤◌, ◌-◌, ℕ, suc, length, get_or, take, drop, arith, List, [], ◌∷◌, ◌++◌, refl, ap}
use Rattle.std.specs.List.{flat_map}
use Rattle.base.specs.Characters.{slash}
use Rattle.path_tree.specs.Paths.{term_text, terms_text}
use Rattle.path_tree.specs.declared.path.Term.{Term}

abbrev pub slashed : Term → List ℕ
slashed m = slash ∷ term_text m

pub join_first : (m : Term) (ms : List Term) → terms_text (m ∷ ms) ≡ term_text m
    ++ flat_map slashed ms
join_first m [] = no_more (term_text m)
  where
    no_more : (xs : List ℕ) → xs ≡ xs ++ []
    no_more [] = refl
    no_more (x ∷ xs) = ap (λ ys. x ∷ ys) (no_more xs)
join_first m (n ∷ ms) = ap (λ xs. term_text m ++ (slash ∷ xs)) (join_first n ms)

-- by the first term and the rest of a slice
pub join_slice : (ms : List Term) (m : Term) → 1 ≤ length ms → m ≡ get_or ms 0 m → terms_text ms
    ≡ term_text m ++ flat_map slashed (take (length ms - 1) (drop 1 ms))
join_slice [] m h is = absurd (omega arith)
join_slice (n ∷ ms) m h is = rw (is, rest) (join_first n ms)
  where
    rest : take (suc (length ms) - 1) ms ≡ ms
    rest = grind (arith, common_steps)
