-- Rows in byte order, without a name or with a row. Inner contracts use it.
use Rattle.std.specs.Prelude.{◌≡◌, ℕ, List, [], ◌∷◌, map, true, if◌then◌else◌, bytes_eq}
use Rattle.std.specs.Cmp.Lexicographic.{slice_cmp}
use Rattle.std.specs.Ordering.{nat_cmp, match_ordering}
use Rattle.stored_rows.specs.declared.row.StoredRow.{StoredRow}
use Rattle.stored_rows.specs.Rows.{row_name, are_rising, bytes_under}
use Rattle.keepers.specs.Keeping.{Change}

-- all rows with other names
abbrev pub without : List ℕ → List StoredRow → List StoredRow
without name [] = []
without name (r ∷ rs) = if bytes_eq r.name name then without name rs else r ∷ without name rs

-- the row at its place, instead of the one with its name
abbrev pub with_row : StoredRow → List StoredRow → List StoredRow
with_row new [] = new ∷ []
with_row new (r ∷ rs) = match_ordering (slice_cmp nat_cmp r.name new.name) (r ∷ with_row new rs)
    (new ∷ rs) (new ∷ r ∷ rs)

-- rows that rise still rise, and each name holds what the change makes of it
pub record Becomes (change : Change) (old new : List StoredRow) : Type 0 where
  pub rise : are_rising (map row_name old) ≡ true → are_rising (map row_name new) ≡ true
  pub holds : (n : List ℕ) → bytes_under new n ≡ change n (bytes_under old n)
