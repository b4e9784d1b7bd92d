-- What the functions on patterns give of their arguments, each a function of the list of them.
-- Whether there is a pattern is asked once the count and the kinds are right.
use Rattle.std.specs.Prelude.{ℕ, ◌-◌, ℤ, pos, negsuc, List, [], ◌∷◌, map, take, length, is_some, slice_range, Option, Some, None, Result, Ok, Err, nat_lt, if◌then◌else◌}
use Rattle.std.specs.List.{range_with_len}
use Rattle.regex.specs.Patterns.{Match, find_str, find_all_str}
use Rattle.regex.specs.Search.{gaps}
use Rattle.regex.specs.Replace.{group_bytes, replaced_by}
use Rattle.regex.specs.Templates.{written_after}
use Rattle.base.specs.Answers.{given}
use Rattle.path_tree.specs.Lists.{list_of}
use Rattle.path_tree.specs.Plain.{Plain, text, long, boolean}
use Rattle.path_tree.specs.Values.{text_value}
use Rattle.path_tree.specs.declared.refused.Refused.{Refused}
use Rattle.path_tree.specs.declared.refused.Refused.TheVariants.{BadArgument, BadPattern}
use Rattle.builtins_patterns.specs.Pattern.{Pattern, pattern_of}

-- match(t, p): whether the pattern p matches somewhere in t
abbrev pub match_of : List Plain → Result Plain Refused
match_of (text t ∷ text p ∷ []) =
    given BadPattern (pattern_of p)
    (λ pattern. Ok (boolean (is_some (find_str pattern.meaning t 0))))
match_of _ = Err BadArgument

-- what each of the first n groups of a match matched, the whole first; the empty text for a group
-- that took no part
abbrev pub groups_of : List ℕ → ℕ → Option Match → List Plain
groups_of t n None = []
groups_of t n (Some m) = map (λ k. text (group_bytes t m k)) (range_with_len 0 n)

-- matches(t, p): the groups of the first match of the pattern p in t
abbrev pub matches_of : List Plain → Result Plain Refused
matches_of (text t ∷ text p ∷ []) =
    given BadPattern (pattern_of p)
    (λ pattern. list_of (groups_of t (length pattern.names) (find_str pattern.meaning t 0)))
matches_of _ = Err BadArgument

-- the texts between the matches
abbrev pub pieces_of : List ℕ → List Match → List Plain
pieces_of t ms = map text (map (λ gap. slice_range t gap.0 gap.1) (gaps (length t) 0 ms))

-- a number of 1 or more is a limit, another is none
abbrev pub limit_of : ℤ → Option ℕ
limit_of (pos n) = if nat_lt 0 n then Some n else None
limit_of (negsuc n) = None

-- the matches at which a text is cut into at most so many pieces
abbrev pub cuts : Option ℕ → List Match → List Match
cuts None ms = ms
cuts (Some n) ms = take (n - 1) ms

-- the pieces of t between the matches of the pattern p, with a limit at most so many, of which the
-- last holds the rest
abbrev pub split_within : Option ℕ → List ℕ → List ℕ → Result Plain Refused
split_within limit p t =
    given BadPattern (pattern_of p)
    (λ pattern. list_of (pieces_of t (cuts limit (find_all_str pattern.meaning t))))

-- split(p, t), split(p, n, t): with a limit, and without one
abbrev pub split_of : List Plain → Result Plain Refused
split_of (text p ∷ text t ∷ []) = split_within None p t
split_of (text p ∷ long n ∷ text t ∷ []) = split_within (limit_of n) p t
split_of _ = Err BadArgument

-- t with each match of a pattern replaced by what the template r writes there
abbrev pub rewritten : Pattern → List ℕ → List ℕ → List ℕ
rewritten pattern r t =
    replaced_by (λ m. written_after pattern.names (group_bytes t m) r 0) t 0
    (find_all_str pattern.meaning t)

-- replace(p, r, t): t with each match of the pattern p replaced by what the template r writes there
abbrev pub replace_of : List Plain → Result Plain Refused
replace_of (text p ∷ text r ∷ text t ∷ []) =
    given BadPattern (pattern_of p) (λ pattern. text_value (rewritten pattern r t))
replace_of _ = Err BadArgument
