-- The parts of a list.
use Rattle.std.specs.Prelude.{ℕ, List, take, drop, ◌-◌}

-- the bytes from one position to before another
abbrev pub bytes_from_to : ℕ → ℕ → List ℕ → List ℕ
bytes_from_to start end bytes = take (end - start) (drop start bytes)
