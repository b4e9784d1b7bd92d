-- A child that is changed in its place.
use Rattle.std.proofs.Common.{◌≡◌, ℕ, zero, suc, ◌<◌, List, [], ◌∷◌, length, get_or, set, Some, refl, ap, sym, ◌∙◌, arith}
use Rattle.path_tree.specs.Plain.{Plain, tree_size, tree_height}
use Rattle.path_tree.specs.Find.{find_field}
use Rattle.path_tree.specs.Put.{put_field}
use Rattle.path_tree.specs.Position.{Stands}
use Rattle.path_tree.specs.View.{fields_of}
use Rattle.path_tree.specs.Kept.{IsRemeasured}
use Rattle.path_tree.specs.declared.tree.Entry.{Entry}
use Rattle.path_tree.specs.declared.tree.Measure.{Measure}
use Rattle.path_tree.proofs.Sizes.{IsChange}

set_here : {X : Type 0} (xs : List X) (i : ℕ) (v d : X) → i < length xs → get_or (set xs i v) i d
    ≡ v
set_here [] i v d h = absurd (omega arith)
set_here (x ∷ xs) zero v d h = refl
set_here (x ∷ xs) (suc i) v d h = set_here xs i v d (omega arith)

pub now_at : {X : Type 0} (xs : List X) (i : ℕ) (v x : X) → i < length xs → x
    ≡ get_or (set xs i v) i x → x ≡ v
now_at xs i v x h is = is ∙ set_here xs i v x h

module _ (k : List ℕ) (es : List Entry) (at : ℕ) (stands : Stands k es at) (e : Entry)
    (is : e ≡ get_or es at e) where
  pub found_at : find_field k (fields_of es) ≡ Some e.value
  found_at = stands.found e ∙ ap (λ (x : Entry). Some x.value) (sym is)

  pub put_at : (w : Plain) → fields_of (set es at (record { key = e.key; value = w }))
      ≡ put_field k w (fields_of es)
  put_at w = ap (λ (x : Entry). fields_of (set es at (record { key = x.key; value = w }))) is
      ∙ stands.put e w

pub remeasured : (f : Plain → Plain) (c t w u : Plain) → IsChange f c t → u ≡ f w → (was high : ℕ)
    → was ≡ tree_size t → high ≡ tree_height t → (before after : Measure) → before.size
    ≡ tree_size c → before.height ≡ tree_height c → after.size ≡ tree_size w → after.height
    ≡ tree_height w → IsRemeasured u was high before after
remeasured f c t w u h is was high is_was is_high before after bs bh as_size ah = record {
  size = omega (arith, h.size w, ap tree_size is, is_was, bs, as_size);
  height = omega (arith, h.height w, ap tree_height is, is_high, bh, ah);
  reaches = omega (arith, h.reaches w, ap tree_height is, ah);
  smaller = omega (arith, h.smaller, is_was, bs);
}
