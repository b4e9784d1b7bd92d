-- What a layout keeps.
use Rattle.std.specs.Prelude.{◌≡◌, ℕ, List, Ok}
use Rattle.pan_format.specs.Formatted.{formatted}
use Rattle.format_laws.specs.Again.{Keeps}

-- what a file is formatted to has the file's template but for places, and its comments and
-- annotations in their order
abbrev pub LayoutsKeep : Type 0
LayoutsKeep = (file bytes text : List ℕ) → formatted file bytes ≡ Ok text → Keeps file bytes text

-- .. and is formatted to itself
abbrev pub LayoutsSettle : Type 0
LayoutsSettle =
    (file bytes text : List ℕ) → formatted file bytes ≡ Ok text → formatted file text ≡ Ok text
