-- The file names under which a template is looked for.
use Rattle.std.specs.Prelude.{ℕ, List, [], ◌∷◌, ◌++◌, map, fold, flat_map, codes, bytes_eq, if◌then◌else◌}
use Rattle.std.specs.List.{list_any}

-- a part of a name with a slash behind it, where it is not empty
abbrev pub with_slash : List ℕ → List ℕ
with_slash [] = []
with_slash (c ∷ cs) = (c ∷ cs) ++ codes "/"

-- directory, prefix and name, joined by slashes without empty parts, with the suffix
abbrev pub candidate : List ℕ → List ℕ → List ℕ → List ℕ → List ℕ
candidate name suffix prefix dir = with_slash dir ++ with_slash prefix ++ name ++ suffix

-- for the empty prefix and then for each entry of the load path, one in each directory
abbrev pub all_candidates : List ℕ → List ℕ → List (List ℕ) → List (List ℕ) → List (List ℕ)
all_candidates name suffix load dirs =
    flat_map (λ prefix. map (candidate name suffix prefix) dirs) ([] ∷ load)

-- the names with one more, where it is new
abbrev pub with_name : List (List ℕ) → List ℕ → List (List ℕ)
with_name names name = if list_any (bytes_eq name) names then names else names ++ (name ∷ [])

-- each of them once, where it first stands
abbrev pub candidates : List ℕ → List ℕ → List (List ℕ) → List (List ℕ) → List (List ℕ)
candidates name suffix load dirs = fold with_name [] (all_candidates name suffix load dirs)
