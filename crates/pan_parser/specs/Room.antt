-- How far a tree reaches in memory that constructs hold: each construct that it may hold takes
-- eleven pointers at most, one for each line of chains of operators and two more.
use Rattle.std.specs.Prelude.{ℕ, ◌+◌, ◌*◌, ◌≤◌}
use Rattle.base.specs.declared.limits.TheConstants.{MAX_NESTING}

-- so many pointers, and some more, are enough where so many constructs hold the tree
abbrev pub Within : ℕ → ℕ → ℕ → Type 0
Within more holders pointers = pointers + 11 * holders ≤ 11 * MAX_NESTING + more
