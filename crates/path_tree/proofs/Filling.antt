-- A list that is filled up with undef.
use Rattle.std.proofs.Common.{◌≡◌, ℕ, zero, suc, ◌+◌, ◌<◌, List, [], ◌∷◌, ◌++◌, length, set, replicate, refl, ap, arith}
use Rattle.path_tree.specs.Plain.{Plain, undef, no_items, item}
use Rattle.path_tree.specs.Put.{put_item}
use Rattle.path_tree.specs.View.{items_of}

pub filled : (n : ℕ) (t : Plain) → items_of (replicate n undef ++ t ∷ []) ≡ put_item n t no_items
filled zero t = refl
filled (suc n) t = ap (item undef) (filled n t)

pub put_item_in : (ts : List Plain) (i : ℕ) (t : Plain) → i < length ts → items_of (set ts i t)
    ≡ put_item i t (items_of ts)
put_item_in [] i t h = absurd (omega arith)
put_item_in (u ∷ us) zero t h = refl
put_item_in (u ∷ us) (suc i) t h = ap (item u) (put_item_in us i t (omega arith))

pub put_item_past : (ts : List Plain) (k : ℕ) (t : Plain)
    → items_of ((ts ++ replicate k undef) ++ t ∷ []) ≡ put_item (length ts + k) t (items_of ts)
put_item_past [] k t = rw zero_plus (filled k t)
  where
    zero_plus : 0 + k ≡ k
    zero_plus = omega arith
put_item_past (u ∷ us) k t = rw shift (ap (item u) (put_item_past us k t))
  where
    shift : suc (length us) + k ≡ suc (length us + k)
    shift = omega arith

-- a list that is filled with undef up to index i, with t there
pub extended : (ts : List Plain) (i k : ℕ) (t : Plain) (xs : List Plain) → xs
    ≡ (ts ++ replicate k undef) ++ t ∷ [] → length ts + k ≡ i → items_of xs
    ≡ put_item i t (items_of ts)
extended ts i k t xs e n = rw (e, ← n) (put_item_past ts k t)
