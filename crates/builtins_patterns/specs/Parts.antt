-- A template of a replacement as the parts that it writes.
use Rattle.std.specs.Prelude.{◌≡◌, ℕ, ◌-◌, List, [], ◌++◌, flat_map, slice_range, true, Option, None, Some}
use Rattle.regex.specs.Patterns.{Match, Re}
use Rattle.regex.specs.Replace.{bytes_of, group_bytes}
use Rattle.regex.specs.Search.{next_match}
use Rattle.regex.specs.Strings.{captures_haystack, captures_span}
use Rattle.regex.specs.declared.string.captures.Captures.{Captures}
use Rattle.call_values.specs.Drafts.{drafted}
use Rattle.builtins_patterns.specs.declared.template.Part.{Part}
use Rattle.builtins_patterns.specs.declared.template.Part.TheVariants.{Text, Group, Nothing}

abbrev pub dollar_sign : ℕ
dollar_sign = 36

-- what a part writes, where the groups matched these texts
abbrev pub part_text : (ℕ → List ℕ) → Part → List ℕ
part_text groups (Text t) = t.now
part_text groups (Group n) = groups n
part_text groups Nothing = []

abbrev pub written : (ℕ → List ℕ) → List Part → List ℕ
written groups parts = flat_map (part_text groups) parts

-- what the groups of a match matched
abbrev pub captured_text : Captures → ℕ → List ℕ
captured_text c n = bytes_of (captures_haystack c) (captures_span c n)

-- Up to the end of the next match: the text from the end of the last match up to this one, and what
-- the parts write in its place. after: one more than the end of the last match, or 0 before the
-- first.
abbrev pub WritesNext : Re → List Part → List ℕ → ℕ → Option (List ℕ) → Option (List ℕ)
    → Option ℕ → Type 0
WritesNext re parts text after old new None = (next_match true re text after ≡ None) × (new ≡ old)
WritesNext re parts text after old new (Some end) =
    (m : Match) × (next_match true re text after ≡ Some m) × (m.trace.end ≡ end)
    × ((w : List ℕ) → old ≡ drafted w → new
    ≡ drafted (w ++ (slice_range text (after - 1) m.start ++ written (group_bytes text m) parts)))
