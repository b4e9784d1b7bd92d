-- The files that were looked for under a name, and were not there.
use Rattle.std.specs.Prelude.{ℕ, Bool, ◌&&◌, ◌||◌, List, [], ◌∷◌, ◌++◌, codes, flat_map, nat_eq, if◌then◌else◌}
use Rattle.std.specs.List.{ends_with}
use Rattle.questions.specs.declared.key.Key.{Key}
use Rattle.questions.specs.declared.key.Key.TheVariants.{File, Under}

abbrev pub below_root : List ℕ → List ℕ → List ℕ
below_root name suffix = codes "/" ++ name ++ suffix

-- a template's file ends in `.pan`; either may stand below directories
abbrev pub is_file_of : List ℕ → List ℕ → Bool
is_file_of name file =
    ends_with nat_eq (below_root file []) (below_root name (codes ".pan"))
    || ends_with nat_eq (below_root file []) (below_root name [])

-- a file with number 0 is not there
abbrev pub missed_by : List ℕ → Key × ℕ → List (List ℕ)
missed_by name (File file, n) = if nat_eq n 0 && is_file_of name file then file ∷ [] else []
missed_by name (Under object terms, n) = []

abbrev pub missed_files : List ℕ → List (Key × ℕ) → List (List ℕ)
missed_files name items = flat_map (missed_by name) items
