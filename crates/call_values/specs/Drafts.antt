-- A text that is put together up to MAX_TEXT_BYTES.
use Rattle.std.specs.Prelude.{◌≡◌, ℕ, List, ◌++◌, length, Option, Some, None, Result, Err, nat_lt, if◌then◌else◌}
use Rattle.base.specs.declared.limits.TheConstants.{MAX_TEXT_BYTES}
use Rattle.path_tree.specs.Plain.{Plain}
use Rattle.path_tree.specs.Values.{text_value}
use Rattle.path_tree.specs.declared.refused.Refused.{Refused}
use Rattle.path_tree.specs.declared.refused.Refused.TheVariants.{TooLarge}

-- what is kept of a text: all of it, or nothing where it is too long
abbrev pub drafted : List ℕ → Option (List ℕ)
drafted w = if nat_lt MAX_TEXT_BYTES (length w) then None else Some w

-- a text is added behind what was drafted
abbrev pub Adds : Option (List ℕ) → Option (List ℕ) → List ℕ → Type 0
Adds old new t = (w : List ℕ) → old ≡ drafted w → new ≡ drafted (w ++ t)

-- the value of what is kept
abbrev pub finished : Option (List ℕ) → Result Plain Refused
finished None = Err TooLarge
finished (Some w) = text_value w
