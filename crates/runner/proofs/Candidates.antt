-- The candidates of a name stand there once each, and are no more than the directories.
use Rattle.std.proofs.Common.{◌≡◌, ◌≤◌, ◌+◌, ℕ, suc, Bool, true, false, List, [], ◌∷◌, ◌++◌, length, map, fold, if◌then◌else◌, ◌||◌, refl, sym, ◌∙◌, arith}
use Rattle.std.proofs.lemmas.Slice.Eq.{bytes_eq-Decides}
use Rattle.std.specs.Prelude.{bytes_eq}
use Rattle.std.specs.List.{list_any}
use Rattle.load_path.specs.Candidates.{candidate, all_candidates, with_name, candidates}

-- a name is none of these, and names are there once each

abbrev pub IsNoneOf : List ℕ → List (List ℕ) → Type 0
IsNoneOf n [] = Unit {0}
IsNoneOf n (x ∷ xs) = (bytes_eq n x ≡ false) × IsNoneOf n xs

abbrev pub AreOnce : List (List ℕ) → Type 0
AreOnce [] = Unit {0}
AreOnce (n ∷ names) = IsNoneOf n names × AreOnce names

parts_false : (a b : Bool) → a || b ≡ false → (a ≡ false) × (b ≡ false)
parts_false true b e = absurd (let clash : true ≡ false = e in cc)
parts_false false b e = (refl, e)

differs_back : (a b : List ℕ) → bytes_eq a b ≡ false → bytes_eq b a ≡ false
differs_back a b e = at (bytes_eq b a) refl
  where
    at : (x : Bool) → bytes_eq b a ≡ x → bytes_eq b a ≡ false
    at true is = absurd (let same : true ≡ bytes_eq a b =
        sym ((bytes_eq-Decides a b).1 (sym ((bytes_eq-Decides b a).0 is))) in
        let clash : true ≡ false = same ∙ e in cc)
    at false is = is

none_with : (n : List ℕ) (xs : List (List ℕ)) (name : List ℕ) → IsNoneOf n xs → bytes_eq n name
    ≡ false → IsNoneOf n (xs ++ name ∷ [])
none_with n [] name h e = (e, tt)
none_with n (x ∷ xs) name h e = (h.0, none_with n xs name h.1 e)

once_with : (xs : List (List ℕ)) (name : List ℕ) → AreOnce xs → list_any (bytes_eq name) xs ≡ false
    → AreOnce (xs ++ name ∷ [])
once_with [] name h e = (tt, tt)
once_with (x ∷ xs) name h e =
    let parts = parts_false (bytes_eq name x) (list_any (bytes_eq name) xs) e in
    (none_with x xs name h.0 (differs_back name x parts.0), once_with xs name h.1 parts.1)

once_name : (xs : List (List ℕ)) (name : List ℕ) → AreOnce xs → AreOnce (with_name xs name)
once_name xs name h = at (list_any (bytes_eq name) xs) refl
  where
    at : (b : Bool) → list_any (bytes_eq name) xs ≡ b
        → AreOnce (if b then xs else xs ++ (name ∷ []))
    at true e = h
    at false e = once_with xs name h e

once_names : (found names : List (List ℕ)) → AreOnce found → AreOnce (fold with_name found names)
once_names found [] h = h
once_names found (n ∷ names) h = once_names (with_name found n) names (once_name found n h)

pub candidates_once : (name suffix : List ℕ) (load dirs : List (List ℕ))
    → AreOnce (candidates name suffix load dirs)
candidates_once name suffix load dirs = once_names [] (all_candidates name suffix load dirs) tt

-- how many they are

one_more : (xs : List (List ℕ)) (name : List ℕ) → length (xs ++ name ∷ []) ≤ suc (length xs)
one_more [] name = omega arith
one_more (x ∷ xs) name = let next = one_more xs name in omega arith

length_name : (xs : List (List ℕ)) (name : List ℕ) → length (with_name xs name) ≤ suc (length xs)
length_name xs name = at (list_any (bytes_eq name) xs)
  where
    at : (b : Bool) → length (if b then xs else xs ++ (name ∷ [])) ≤ suc (length xs)
    at true = omega arith
    at false = one_more xs name

length_names : (found names : List (List ℕ)) → length (fold with_name found names) ≤ length
    found + length names
length_names found [] = omega arith
length_names found (n ∷ names) =
    let next = length_names (with_name found n) names in
    let one = length_name found n in
    omega arith

length_dirs : (f : List ℕ → List ℕ) (dirs : List (List ℕ)) → length (map f dirs ++ []) ≤ length dirs
length_dirs f [] = omega arith
length_dirs f (d ∷ dirs) = let next = length_dirs f dirs in omega arith

-- without a load path there is one in each directory at most
pub candidates_within : (name suffix : List ℕ) (dirs : List (List ℕ))
    → length (candidates name suffix [] dirs) ≤ length dirs
candidates_within name suffix dirs =
    let names = length_names [] (map (candidate name suffix []) dirs ++ []) in
    let within = length_dirs (candidate name suffix []) dirs in
    omega arith
