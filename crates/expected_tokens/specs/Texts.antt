-- What a reader is told of the tokens that are expected.
use Rattle.std.specs.Prelude.{ℕ, Bool, not, List, [], ◌∷◌, ◌++◌, codes, map}
use Rattle.std.specs.List.{filter, list_any}
use Rattle.expected_tokens.specs.Candidates.{is_among, tells_as_much, words}
use Rattle.expected_tokens.specs.declared.candidate.Candidate.{Candidate}

-- those of which no other tells as much
abbrev pub is_told : List Candidate → Candidate → Bool
is_told all c = not (list_any (λ other. is_among other all) (tells_as_much c))

-- `A, B or C`
abbrev pub listed : List (List ℕ) → List ℕ
listed [] = []
listed (w ∷ []) = w
listed (w ∷ v ∷ []) = w ++ codes " or " ++ v
listed (w ∷ v ∷ u ∷ ws) = w ++ codes ", " ++ listed (v ∷ u ∷ ws)

abbrev pub text_of : List Candidate → List ℕ
text_of all = listed (map words (filter (is_told all) all))
