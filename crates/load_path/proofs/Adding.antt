-- Names that are added one after the other.
use Rattle.std.proofs.Common.{◌≡◌, ap, sym, refl, ◌∙◌, ℕ, ◌+◌, ◌<◌, List, [], ◌∷◌, ◌++◌, length, drop, get_or}
use Rattle.std.specs.Prelude.{fold, map, flat_map}
use Rattle.std.proofs.lemmas.List.{drop_more}
use Rattle.load_path.specs.Candidates.{candidate, with_name}

fold_append : (z xs ys : List (List ℕ)) → fold with_name z (xs ++ ys)
    ≡ fold with_name (fold with_name z xs) ys
fold_append z [] ys = refl
fold_append z (x ∷ xs) ys = fold_append (with_name z x) xs ys

-- the directory at i, and those after it
pub dirs_more : (name suffix prefix : List ℕ) (dirs : List (List ℕ)) (i : ℕ) (dir : List ℕ)
    (found : List (List ℕ)) → i < length dirs → dir ≡ get_or dirs i dir
    → fold with_name found (map (candidate name suffix prefix) (drop i dirs))
    ≡ fold with_name (with_name found (candidate name suffix prefix dir))
    (map (candidate name suffix prefix) (drop (i + 1) dirs))
dirs_more name suffix prefix dirs i dir found h is =
    ap (λ xs. fold with_name found (map (candidate name suffix prefix) xs))
    (drop_more dirs i dir h ∙ ap (λ y. y ∷ drop (i + 1) dirs) (sym is))

-- the prefix at i, and those after it
pub prefixes_more : (name suffix : List ℕ) (dirs load : List (List ℕ)) (i : ℕ) (prefix : List ℕ)
    (found : List (List ℕ)) → i < length load → prefix ≡ get_or load i prefix
    → fold with_name found (flat_map (λ p. map (candidate name suffix p) dirs) (drop i load))
    ≡ fold with_name (fold with_name found (map (candidate name suffix prefix) dirs))
    (flat_map (λ p. map (candidate name suffix p) dirs) (drop (i + 1) load))
prefixes_more name suffix dirs load i prefix found h is =
    ap (λ xs. fold with_name found (flat_map (λ p. map (candidate name suffix p) dirs) xs))
    (drop_more load i prefix h ∙ ap (λ y. y ∷ drop (i + 1) load) (sym is))
    ∙ fold_append found (map (candidate name suffix prefix) dirs)
    (flat_map (λ p. map (candidate name suffix p) dirs) (drop (i + 1) load))
