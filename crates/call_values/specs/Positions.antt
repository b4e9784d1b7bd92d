-- Positions in a text or a list, and counts.
use Rattle.std.specs.Prelude.{ℕ, ℤ, pos, negsuc, Option, Some, None, nat_le, if◌then◌else◌}
use Rattle.path_tree.specs.Plain.{Plain, long}

-- a position or a count as a value
abbrev pub number : ℕ → Plain
number n = long (pos n)

-- a position from 0 to the length
abbrev pub position_in : ℕ → ℤ → Option ℕ
position_in length (pos n) = if nat_le n length then Some n else None
position_in length (negsuc n) = None
