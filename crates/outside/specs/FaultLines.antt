-- The lines of a text that tell a fault, as a report has them, and those that are kept.
use Rattle.std.specs.Prelude.{◌≡◌, ℕ, ◌==◌, Bool, ◌&&◌, List, [], ◌∷◌, ◌++◌, take, length, nat_lt, if◌then◌else◌, codes}
use Rattle.std.specs.List.{filter, starts_with}
use Rattle.outside.specs.declared.fault_lines.TheConstants.{MAX_FAULT_LINES}

-- the lines that a line feed ends, each without it, of a text behind the beginning of a line
abbrev pub lines_behind : List ℕ → List ℕ → List (List ℕ)
lines_behind line [] = []
lines_behind line (c ∷ cs) =
    if c == 10 then line ∷ lines_behind [] cs else lines_behind (line ++ (c ∷ [])) cs

-- what stands behind the last line feed
abbrev pub line_behind : List ℕ → List ℕ → List ℕ
line_behind line [] = line
line_behind line (c ∷ cs) = if c == 10 then line_behind [] cs else line_behind (line ++ (c ∷ [])) cs

-- the line begins with `fault `
abbrev pub tells_fault : List ℕ → Bool
tells_fault line = starts_with ◌==◌ line (codes "fault ")

-- the lines of a text that begin so
abbrev pub fault_lines : List ℕ → List (List ℕ)
fault_lines text = filter tells_fault (lines_behind [] text)

pub record Kept : Type 0 where
  pub lines : List (List ℕ)  -- the lines that tell a fault
  pub line : List ℕ  -- the line that has not ended yet

-- What is kept of a text: the first so many lines that tell a fault.
pub record Keeps (text : List ℕ) (kept : Kept) : Type 0 where
  pub lines : kept.lines ≡ take MAX_FAULT_LINES (fault_lines text)
  pub line : kept.line ≡ line_behind [] text

-- the lines that are kept once a line has ended: it is added where it tells a fault and there is
-- room
abbrev pub with_line : List (List ℕ) → List ℕ → List (List ℕ)
with_line lines line =
    if tells_fault line && nat_lt (length lines) MAX_FAULT_LINES
    then lines ++ (line ∷ []) else lines
