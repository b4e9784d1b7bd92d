-- Names that rise from above one on.
use Rattle.std.proofs.Common.{◌≡◌, ℕ, List, [], ◌∷◌, map, Option, Some, None, Bool, true, ◌&&◌, refl, ap}
use Rattle.stored_rows.specs.declared.row.StoredRow.{StoredRow}
use Rattle.stored_rows.specs.Rows.{row_name, is_below, are_rising}

abbrev pub comes_after : Option (List ℕ) → List ℕ → Bool
comes_after None name = true
comes_after (Some before) name = is_below before name

-- the names rise, from above this one on
abbrev pub names_rise : Option (List ℕ) → List StoredRow → Bool
names_rise last [] = true
names_rise last (r ∷ rs) = comes_after last r.name && names_rise (Some r.name) rs

above_one : (m : List ℕ) (rows : List StoredRow) → names_rise (Some m) rows
    ≡ are_rising (m ∷ map row_name rows)
above_one m [] = refl
above_one m (r ∷ rs) = ap (λ b. is_below m r.name && b) (above_one r.name rs)

-- names that rise from the first one on rise
pub above_none : (rows : List StoredRow) → names_rise None rows ≡ are_rising (map row_name rows)
above_none [] = refl
above_none (r ∷ rs) = above_one r.name rs
