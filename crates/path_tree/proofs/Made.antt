-- What is made where nothing was.
use Rattle.std.proofs.Common.{◌≡◌, ℕ, zero, suc, ◌+◌, ◌≤◌, List, [], ◌∷◌, length, get_or, drop, refl, ap, sym, ◌∙◌, arith}
use Rattle.std.proofs.lemmas.Grind.{common_steps}
use Rattle.path_tree.specs.Plain.{Plain, dict, list, no_items, no_fields, field, tree_size, tree_height}
use Rattle.path_tree.specs.Put.{chain, put_item}
use Rattle.path_tree.specs.Kept.{FitsMade}
use Rattle.path_tree.specs.declared.path.Term.{Term}
use Rattle.path_tree.specs.declared.path.Term.TheVariants as term
use Rattle.path_tree.proofs.Plans.{chain_part, chain_height}

abbrev pub wrap : Term → Plain → Plain
wrap (term.Key k) t = dict (field k t no_fields)
wrap (term.Index i) t = list (put_item i t no_items)

wrap_is : (m : Term) (ms : List Term) (v : Plain) → chain (m ∷ ms) v ≡ wrap m (chain ms v)
wrap_is (term.Key k) ms v = refl
wrap_is (term.Index i) ms v = refl

height_part : (i : ℕ) (ms : List Term) (v : Plain)
    → tree_height (chain (drop i ms) v) ≤ tree_height (chain ms v)
height_part zero ms v = omega arith
height_part (suc i) [] v = omega arith
height_part (suc i) (m ∷ ms) v = omega (arith, height_part i ms v, chain_height m ms v)

module _ (ms : List Term) (j i : ℕ) (m : Term) (v t : Plain) (next : j + 1 ≡ i)
    (within : i ≤ length ms) (is : m ≡ get_or ms j m) (below : t ≡ chain (drop i ms) v) where
  -- a step further from the end
  pub made_at : wrap m t ≡ chain (drop j ms) v
  made_at =
      let e : drop j ms ≡ m ∷ drop i ms = grind (arith, common_steps) in
      ap (wrap m) below ∙ sym (wrap_is m (drop i ms) v) ∙ ap (λ xs. chain xs v) (sym e)

  pub fits_at : FitsMade (chain ms v) → FitsMade (wrap m t)
  fits_at fits = record {
    size = omega (arith, fits.size, chain_part j ms v, ap tree_size made_at);
    height = omega (arith, fits.height, height_part j ms v, ap tree_height made_at);
  }
