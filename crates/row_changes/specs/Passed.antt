-- What a walk over two lists of rows has behind it. Inner contracts use it.
use Rattle.std.specs.Prelude.{◌≡◌, ℕ, ◌+◌, ◌<◌, ◌≤◌, List, [], ◌∷◌, ◌++◌, length, drop, bytes_eq, if◌then◌else◌}
use Rattle.std.specs.Cmp.Lexicographic.{slice_cmp}
use Rattle.std.specs.Ordering.{nat_cmp, match_ordering}
use Rattle.stored_rows.specs.declared.row.StoredRow.{StoredRow}
use Rattle.row_changes.specs.Differing.{gone_from, set_from}

-- So many rows of each list are passed, and what differs in them is noted behind what was noted.
pub record Passes (last wanted : List StoredRow) (gone_before gone_now : List (List ℕ))
    (set_before set_now : List StoredRow) (passed reached : ℕ) : Type 0 where
  pub last_within : passed ≤ length last
  pub wanted_within : reached ≤ length wanted
  pub moves : 0 < length last + length wanted → 0 < passed + reached
  pub gone : gone_now ++ gone_from (drop passed last) (drop reached wanted)
      ≡ gone_before ++ gone_from last wanted
  pub set : set_now ++ set_from (drop passed last) (drop reached wanted)
      ≡ set_before ++ set_from last wanted

-- ---- the first row of each list, of which the one whose name stands first is passed, or both

-- a name that is gone
abbrev pub gone_at : StoredRow → StoredRow → List (List ℕ)
gone_at old new = match_ordering (slice_cmp nat_cmp old.name new.name) (old.name ∷ []) [] []

-- a row that is set
abbrev pub set_at : StoredRow → StoredRow → List StoredRow
set_at old new = match_ordering (slice_cmp nat_cmp old.name new.name) []
    (if bytes_eq old.bytes new.bytes then [] else new ∷ []) (new ∷ [])

-- rows last kept that are passed
abbrev pub passed_at : StoredRow → StoredRow → ℕ
passed_at old new = match_ordering (slice_cmp nat_cmp old.name new.name) 1 1 0

-- wanted rows that are passed
abbrev pub reached_at : StoredRow → StoredRow → ℕ
reached_at old new = match_ordering (slice_cmp nat_cmp old.name new.name) 0 1 1
