-- Rows in byte order of names, and what stands under a name.
use Rattle.std.specs.Prelude.{ℕ, List, [], ◌∷◌, Option, Some, None, Bool, true, ◌&&◌, bytes_eq, if◌then◌else◌}
use Rattle.std.specs.Cmp.Lexicographic.{slice_cmp}
use Rattle.std.specs.Ordering.{nat_cmp, is_lt}
use Rattle.stored_rows.specs.declared.row.StoredRow.{StoredRow}

abbrev pub row_name : StoredRow → List ℕ
row_name r = r.name

-- a stands before b in byte order
abbrev pub is_below : List ℕ → List ℕ → Bool
is_below a b = is_lt (slice_cmp nat_cmp a b)

-- a name stands before the first of these
abbrev pub is_first : List ℕ → List (List ℕ) → Bool
is_first n [] = true
is_first n (m ∷ ms) = is_below n m

-- each name stands before the next
abbrev pub are_rising : List (List ℕ) → Bool
are_rising [] = true
are_rising (n ∷ ns) = is_first n ns && are_rising ns

-- the bytes under a name, those of the first row that has it
abbrev pub bytes_under : List StoredRow → List ℕ → Option (List ℕ)
bytes_under [] n = None
bytes_under (r ∷ rs) n = if bytes_eq r.name n then Some r.bytes else bytes_under rs n
