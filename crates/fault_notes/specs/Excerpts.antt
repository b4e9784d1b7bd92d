-- A line of a file as it is shown, and what leads to a mark below it.
use Rattle.std.specs.Prelude.{ℕ, zero, suc, ◌+◌, ◌-◌, ◌==◌, ◌&&◌, ◌||◌, false, List, [], ◌∷◌, ◌++◌, take, length, nat_le, nat_lt, Option, Some, None, if◌then◌else◌, encode_utf8_all}
use Rattle.std.specs.List.{before_first, after_first, slice_split, flat_map, repeat}
use Rattle.std.specs.Str.{chars}
use Rattle.std.specs.Str.Lossy.{utf8_lossy}
use Rattle.unicode_width.specs.Width.{str_width}
use Rattle.base.specs.declared.limits.TheConstants.{MAX_FILE_BYTES}
use Rattle.numbers.specs.Numbers.{number_of}
use Rattle.fault_notes.specs.declared.excerpt.TheConstants.{MAX_SHOWN_BYTES}

-- a number of a line or a column: at most one more than a file has bytes
abbrev pub within : Option ℕ → Option ℕ
within None = None
within (Some n) = if nat_le 1 n && nat_le n (MAX_FILE_BYTES + 1) then Some n else None

abbrev pub place_number : List ℕ → Option ℕ
place_number digits = within (number_of digits)

-- what stands behind so many line feeds
abbrev pub behind_lines : ℕ → List ℕ → List ℕ
behind_lines zero text = text
behind_lines (suc n) text = behind_lines n (after_first (λ c. c == 10) text)

-- a line of a file; lines count from 1
abbrev pub line_at : ℕ → List ℕ → List ℕ
line_at n text = before_first (λ c. c == 10) (behind_lines (n - 1) text)

-- a line as text, where it is not too long to be shown
abbrev pub shown_line : List ℕ → Option (List ℕ)
shown_line line = if nat_le (length line) MAX_SHOWN_BYTES then Some (utf8_lossy line) else None

-- a control character is shown as a blank, but for a tab
abbrev pub shown_byte : ℕ → ℕ
shown_byte b = if b == 9 then 9 else (if nat_lt b 32 || (b == 127) then 32 else b)

-- blanks as wide as a text
abbrev pub blanks : List ℕ → List ℕ
blanks text = repeat (str_width false (chars text)) (32 ∷ [])

abbrev pub tabbed : List (List ℕ) → List ℕ
tabbed [] = []
tabbed (part ∷ parts) = blanks part ++ flat_map (λ other. 9 ∷ blanks other) parts

-- what is as wide as a text: blanks, and its tabs
abbrev pub indent : List ℕ → List ℕ
indent text = tabbed (slice_split (λ c. c == 9) text)

-- what leads to a column; columns count characters from 1
abbrev pub indent_to : ℕ → List ℕ → List ℕ
indent_to column text = indent (encode_utf8_all (take (column - 1) (chars text)))
