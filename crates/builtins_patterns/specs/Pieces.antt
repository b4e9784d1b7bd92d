-- What is taken from the searches of regex.
use Rattle.std.specs.Prelude.{ℕ, List, map, Option, Some, None, Bool, false, ◌==◌}
use Rattle.std.specs.List.{range_with_len}
use Rattle.regex.specs.Strings.{captures_haystack, captures_span}
use Rattle.regex.specs.Replace.{bytes_of}
use Rattle.regex.specs.declared.string.captures.Captures.{Captures}
use Rattle.path_tree.specs.Plain.{Plain, text}

-- no cut is left
abbrev pub is_spent : Option ℕ → Bool
is_spent None = false
is_spent (Some n) = n == 0

-- so many groups of a match, from one on
abbrev pub captured : Captures → ℕ → ℕ → List Plain
captured c from count =
    map (λ k. text (bytes_of (captures_haystack c) (captures_span c k))) (range_with_len from count)
