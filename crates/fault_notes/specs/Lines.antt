-- A line `fault NAME CODE FILE:LINE:COLUMN DETAIL` of a report.
use Rattle.std.specs.Prelude.{ℕ, ◌==◌, Bool, List, drop, length, codes}
use Rattle.std.specs.List.{before_first, after_first}

abbrev pub is_space : ℕ → Bool
is_space c = c == 32

abbrev pub is_colon : ℕ → Bool
is_colon c = c == 58

-- what stands behind `fault `
abbrev pub named : List ℕ → List ℕ
named line = drop (length (codes "fault ")) line

-- NAME, and all that stands behind it: the fault
abbrev pub object_in : List ℕ → List ℕ
object_in line = before_first is_space (named line)

abbrev pub fault_in : List ℕ → List ℕ
fault_in line = after_first is_space (named line)

-- the parts of a fault, where no file's name holds a colon
abbrev pub code_in : List ℕ → List ℕ
code_in fault = before_first is_space fault

abbrev pub behind_code : List ℕ → List ℕ
behind_code fault = after_first is_space fault

abbrev pub file_in : List ℕ → List ℕ
file_in fault = before_first is_colon (behind_code fault)

abbrev pub behind_file : List ℕ → List ℕ
behind_file fault = after_first is_colon (behind_code fault)

abbrev pub line_in : List ℕ → List ℕ
line_in fault = before_first is_colon (behind_file fault)

abbrev pub behind_line : List ℕ → List ℕ
behind_line fault = after_first is_colon (behind_file fault)

abbrev pub column_in : List ℕ → List ℕ
column_in fault = before_first is_space (behind_line fault)

-- nothing where there is no detail
abbrev pub detail_in : List ℕ → List ℕ
detail_in fault = after_first is_space (behind_line fault)
