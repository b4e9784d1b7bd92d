-- What a text stands for as a pattern.
use Rattle.std.specs.Prelude.{◌≡◌, ℕ, List, length, Option, Some, None, option_and_then, nat_lt, if◌then◌else◌}
use Rattle.std.specs.Str.{chars}
use Rattle.regex.specs.Patterns.{Re, SameCaptures, default_config}
use Rattle.regex.specs.Strings.{matcher_names, matcher_pattern, regex_names, regex_pattern}
use Rattle.regex.specs.declared.string.matcher.Matcher.{Matcher}
use Rattle.regex.specs.declared.string.regex.Regex.{Regex}
use Rattle.regex_syntax.specs.Brackets.{Nested}
use Rattle.regex_syntax.specs.Grammar.{read}
use Rattle.builtins_patterns.specs.declared.pattern.TheConstants.{MAX_PATTERN_BYTES}

-- what a pattern matches, and the names of its groups
pub record Pattern : Type 0 where
  pub meaning : Re
  pub names : List (Option (List ℕ))

-- nested no deeper than regex allows
abbrev pub within_nesting : Nested Re × List (Option (List ℕ)) → Option Pattern
within_nesting found =
    if nat_lt default_config.nest_limit found.0.depth then None
    else Some (record { meaning = found.0.value; names = found.1 })

-- the pattern that the grammar of regex reads in a text of at most MAX_PATTERN_BYTES bytes
abbrev pub pattern_of : List ℕ → Option Pattern
pattern_of source =
    if nat_lt MAX_PATTERN_BYTES (length source) then None
    else option_and_then within_nesting (read default_config (chars source))

-- the compiled pattern finds what the pattern of the text means
pub record IsCompiled (source : List ℕ) (r : Regex) : Type 0 where
  pub pattern : Pattern
  pub is : pattern_of source ≡ Some pattern
  pub alike : SameCaptures (regex_pattern r) pattern.meaning
  pub names : regex_names r ≡ pattern.names

-- the matcher searches for the pattern of the text
pub record Searches (source : List ℕ) (r : Regex) (m : Matcher) : Type 0 where
  pub compiled : IsCompiled source r
  pub pattern : matcher_pattern m ≡ regex_pattern r
  pub names : matcher_names m ≡ regex_names r
