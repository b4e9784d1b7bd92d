-- Names among values, an entry at a time.
use Rattle.std.proofs.Common.{◌≡◌, ◌∙◌, ap, sym, refl, ℕ, zero, suc, ◌+◌, ◌<◌, ◌≤◌, List, [], ◌∷◌, ◌++◌, length, drop, get_or, set, remove, Some, None, Bool, true, false, bytes_eq, if◌then◌else◌, arith}
use Rattle.std.proofs.lemmas.List.{drop_more}
use Rattle.dml_meaning.specs.declared.local.Local.{Local}
use Rattle.path_tree.specs.Plain.{Plain, undef}
use Rattle.dml_meaning.specs.Around.{found, with_local, without_local}
use Rattle.assign_rules.specs.Places.{emptied, place_from}

pub found_more : (ls : List Local) (i : ℕ) (l : Local) (x : List ℕ) → i < length ls → l
    ≡ get_or ls i l → found (drop i ls) x
    ≡ (if bytes_eq l.name x then Some l.value else found (drop (i + 1) ls) x)
found_more ls i l x h is =
    ap (λ ms. found ms x) (drop_more ls i l h ∙ ap (λ y. y ∷ drop (i + 1) ls) (sym is))

pub place_more : (ls : List Local) (i n : ℕ) (l : Local) (x : List ℕ) → i < length ls → l
    ≡ get_or ls i l → place_from x n (drop i ls)
    ≡ (if bytes_eq l.name x then Some n else place_from x (n + 1) (drop (i + 1) ls))
place_more ls i n l x h is =
    ap (λ ms. place_from x n ms) (drop_more ls i l h ∙ ap (λ y. y ∷ drop (i + 1) ls) (sym is))

within_by : (x : List ℕ) (n i : ℕ) (l : Local) (ls : List Local) (b : Bool)
    → (place_from x (n + 1) ls ≡ Some i → (n + 1 ≤ i) × (i < n + 1 + length ls))
    → (if b then Some n else place_from x (n + 1) ls) ≡ Some i → (n ≤ i) × (i < n + length (l ∷ ls))
within_by x n i l ls true go e = let same : n ≡ i = cc in (omega (arith, same), omega (arith, same))
within_by x n i l ls false go e = let w = go e in (omega (arith, w.0), omega (arith, w.1))

-- a place is one of an entry
place_within : (x : List ℕ) (n i : ℕ) (ls : List Local) → place_from x n ls ≡ Some i → (n ≤ i)
    × (i < n + length ls)
place_within x n i [] e = absurd cc
place_within x n i (l ∷ ls) e =
    within_by x n i l ls (bytes_eq l.name x) (place_within x (n + 1) i ls) e

pub place_below : (x : List ℕ) (i : ℕ) (ls : List Local) → place_from x 0 ls ≡ Some i
    → i < length ls
place_below x i ls e = let w = place_within x 0 i ls e in omega (arith, w.1)

abbrev with_value : Local → Plain → Local
with_value l v = record l { value = v }

set_by : (x : List ℕ) (v : Plain) (n i k : ℕ) (l : Local) (ls : List Local) (d : Local) (b : Bool)
    → ((j : ℕ) → k ≡ suc j → place_from x (n + 1) ls
    ≡ Some i → set ls j (with_value (get_or ls j d) v) ≡ with_local x v ls) → i
    ≡ n + k → (if b then Some n else place_from x (n + 1) ls) ≡ Some i
    → set (l ∷ ls) k (with_value (get_or (l ∷ ls) k d) v)
    ≡ (if b then with_value l v ∷ ls else l ∷ with_local x v ls)
set_by x v n i zero l ls d true go is e = refl
set_by x v n i (suc k) l ls d true go is e = let same : n ≡ i = cc in
    absurd (omega (arith, same, is))
set_by x v n i zero l ls d false go is e = let w = place_within x (n + 1) i ls e in
    absurd (omega (arith, w.0, is))
set_by x v n i (suc k) l ls d false go is e = ap (λ ms. l ∷ ms) (go k refl e)

set_there : (x : List ℕ) (v : Plain) (n i k : ℕ) (ls : List Local) (d : Local) → place_from x n ls
    ≡ Some i → i ≡ n + k → set ls k (with_value (get_or ls k d) v) ≡ with_local x v ls
set_there x v n i k [] d e is = absurd cc
set_there x v n i k (l ∷ ls) d e is =
    set_by x v n i k l ls d (bytes_eq l.name x) (λ j s h. let further : i ≡ n + 1 + j =
    omega (arith, is, s) in set_there x v (n + 1) i j ls d h further) is e

-- a new value at the place of a name
pub set_at_place : (x : List ℕ) (v : Plain) (i : ℕ) (ls : List Local) (l : Local)
    → place_from x 0 ls ≡ Some i → l ≡ get_or ls i l → set ls i (with_value l v) ≡ with_local x v ls
set_at_place x v i ls l e is = let same : i ≡ 0 + i = omega arith in
    ap (λ m. set ls i (with_value m v)) is ∙ set_there x v 0 i i ls l e same

push_by : (x : List ℕ) (v : Plain) (n : ℕ) (l m : Local) (ls : List Local) (b : Bool)
    → (place_from x (n + 1) ls ≡ None → ls ++ m ∷ [] ≡ with_local x v ls)
    → (if b then Some n else place_from x (n + 1) ls) ≡ None → (l ∷ ls) ++ m ∷ []
    ≡ (if b then with_value l v ∷ ls else l ∷ with_local x v ls)
push_by x v n l m ls true go e = absurd cc
push_by x v n l m ls false go e = ap (λ ms. l ∷ ms) (go e)

push_there : (x : List ℕ) (v : Plain) (n : ℕ) (m : Local) (ls : List Local) → m
    ≡ record { name = x; value = v } → place_from x n ls ≡ None → ls ++ m ∷ [] ≡ with_local x v ls
push_there x v n m [] is e = ap (λ l. l ∷ []) is
push_there x v n m (l ∷ ls) is e =
    push_by x v n l m ls (bytes_eq l.name x) (push_there x v (n + 1) m ls is) e

-- a name that has no place gets one at the end
pub push_nowhere : (x : List ℕ) (v : Plain) (m : Local) (ls : List Local) → m
    ≡ record { name = x; value = v } → place_from x 0 ls ≡ None → ls ++ m ∷ [] ≡ with_local x v ls
push_nowhere x v m ls is e = push_there x v 0 m ls is e

pub ruleset places = (place_below, set_at_place, push_nowhere)

remove_by : (x : List ℕ) (n i k : ℕ) (l : Local) (ls : List Local) (b : Bool)
    → ((j : ℕ) → k ≡ suc j → place_from x (n + 1) ls ≡ Some i → remove ls j ≡ without_local x ls)
    → i ≡ n + k → (if b then Some n else place_from x (n + 1) ls) ≡ Some i → remove (l ∷ ls) k
    ≡ (if b then ls else l ∷ without_local x ls)
remove_by x n i zero l ls true go is e = refl
remove_by x n i (suc k) l ls true go is e = let same : n ≡ i = cc in
    absurd (omega (arith, same, is))
remove_by x n i zero l ls false go is e = let w = place_within x (n + 1) i ls e in
    absurd (omega (arith, w.0, is))
remove_by x n i (suc k) l ls false go is e = ap (λ ms. l ∷ ms) (go k refl e)

remove_there : (x : List ℕ) (n i k : ℕ) (ls : List Local) → place_from x n ls ≡ Some i → i ≡ n + k
    → remove ls k ≡ without_local x ls
remove_there x n i k [] e is = absurd cc
remove_there x n i k (l ∷ ls) e is =
    remove_by x n i k l ls (bytes_eq l.name x) (λ j s h. let further : i ≡ n + 1 + j =
    omega (arith, is, s) in remove_there x (n + 1) i j ls h further) is e

pub remove_at_place : (x : List ℕ) (i : ℕ) (ls : List Local) → place_from x 0 ls ≡ Some i
    → remove ls i ≡ without_local x ls
remove_at_place x i ls e = let same : i ≡ 0 + i = omega arith in remove_there x 0 i i ls e same

stay_by : (x : List ℕ) (n : ℕ) (l : Local) (ls : List Local) (b : Bool)
    → (place_from x (n + 1) ls ≡ None → ls ≡ without_local x ls)
    → (if b then Some n else place_from x (n + 1) ls) ≡ None → l ∷ ls
    ≡ (if b then ls else l ∷ without_local x ls)
stay_by x n l ls true go e = absurd cc
stay_by x n l ls false go e = ap (λ ms. l ∷ ms) (go e)

stay_there : (x : List ℕ) (n : ℕ) (ls : List Local) → place_from x n ls ≡ None → ls
    ≡ without_local x ls
stay_there x n [] e = refl
stay_there x n (l ∷ ls) e = stay_by x n l ls (bytes_eq l.name x) (stay_there x (n + 1) ls) e

pub stay_nowhere : (x : List ℕ) (ls : List Local) → place_from x 0 ls ≡ None → ls
    ≡ without_local x ls
stay_nowhere x ls e = stay_there x 0 ls e

pub ruleset removals = (place_below, remove_at_place, stay_nowhere)

empty_by : (x : List ℕ) (n i k : ℕ) (l : Local) (ls : List Local) (d : Local) (b : Bool)
    → ((j : ℕ) → k ≡ suc j → place_from x (n + 1) ls
    ≡ Some i → set ls j (with_value (get_or ls j d) undef) ≡ emptied x ls) → i
    ≡ n + k → (if b then Some n else place_from x (n + 1) ls) ≡ Some i
    → set (l ∷ ls) k (with_value (get_or (l ∷ ls) k d) undef)
    ≡ (if b then with_value l undef ∷ ls else l ∷ emptied x ls)
empty_by x n i zero l ls d true go is e = refl
empty_by x n i (suc k) l ls d true go is e = let same : n ≡ i = cc in
    absurd (omega (arith, same, is))
empty_by x n i zero l ls d false go is e = let w = place_within x (n + 1) i ls e in
    absurd (omega (arith, w.0, is))
empty_by x n i (suc k) l ls d false go is e = ap (λ ms. l ∷ ms) (go k refl e)

empty_there : (x : List ℕ) (n i k : ℕ) (ls : List Local) (d : Local) → place_from x n ls ≡ Some i
    → i ≡ n + k → set ls k (with_value (get_or ls k d) undef) ≡ emptied x ls
empty_there x n i k [] d e is = absurd cc
empty_there x n i k (l ∷ ls) d e is =
    empty_by x n i k l ls d (bytes_eq l.name x) (λ j s h. let further : i ≡ n + 1 + j =
    omega (arith, is, s) in empty_there x (n + 1) i j ls d h further) is e

-- undef at the place of a name
pub empty_at_place : (x : List ℕ) (i : ℕ) (ls : List Local) (l : Local) → place_from x 0 ls ≡ Some i
    → l ≡ get_or ls i l → set ls i (with_value l undef) ≡ emptied x ls
empty_at_place x i ls l e is = let same : i ≡ 0 + i = omega arith in
    ap (λ m. set ls i (with_value m undef)) is ∙ empty_there x 0 i i ls l e same

keep_by : (x : List ℕ) (n : ℕ) (l : Local) (ls : List Local) (b : Bool)
    → (place_from x (n + 1) ls ≡ None → ls ≡ emptied x ls)
    → (if b then Some n else place_from x (n + 1) ls) ≡ None → l ∷ ls
    ≡ (if b then with_value l undef ∷ ls else l ∷ emptied x ls)
keep_by x n l ls true go e = absurd cc
keep_by x n l ls false go e = ap (λ ms. l ∷ ms) (go e)

keep_there : (x : List ℕ) (n : ℕ) (ls : List Local) → place_from x n ls ≡ None → ls ≡ emptied x ls
keep_there x n [] e = refl
keep_there x n (l ∷ ls) e = keep_by x n l ls (bytes_eq l.name x) (keep_there x (n + 1) ls) e

pub keep_nowhere : (x : List ℕ) (ls : List Local) → place_from x 0 ls ≡ None → ls ≡ emptied x ls
keep_nowhere x ls e = keep_there x 0 ls e

found_by : (x : List ℕ) (n i k : ℕ) (l : Local) (ls : List Local) (d : Local) (b : Bool)
    → ((j : ℕ) → k ≡ suc j → place_from x (n + 1) ls ≡ Some i → found ls x
    ≡ Some (get_or ls j d).value) → i ≡ n + k → (if b then Some n else place_from x (n + 1) ls)
    ≡ Some i → (if b then Some l.value else found ls x) ≡ Some (get_or (l ∷ ls) k d).value
found_by x n i zero l ls d true go is e = refl
found_by x n i (suc k) l ls d true go is e = let same : n ≡ i = cc in
    absurd (omega (arith, same, is))
found_by x n i zero l ls d false go is e = let w = place_within x (n + 1) i ls e in
    absurd (omega (arith, w.0, is))
found_by x n i (suc k) l ls d false go is e = go k refl e

found_there : (x : List ℕ) (n i k : ℕ) (ls : List Local) (d : Local) → place_from x n ls ≡ Some i
    → i ≡ n + k → found ls x ≡ Some (get_or ls k d).value
found_there x n i k [] d e is = absurd cc
found_there x n i k (l ∷ ls) d e is =
    found_by x n i k l ls d (bytes_eq l.name x) (λ j s h. let further : i ≡ n + 1 + j =
    omega (arith, is, s) in found_there x (n + 1) i j ls d h further) is e

-- the value of a name is the one at its place
pub found_at_place : (x : List ℕ) (i : ℕ) (ls : List Local) (l : Local) → place_from x 0 ls ≡ Some i
    → l ≡ get_or ls i l → Some l.value ≡ found ls x
found_at_place x i ls l e is = let same : i ≡ 0 + i = omega arith in
    ap (λ m. Some m.value) is ∙ sym (found_there x 0 i i ls l e same)

none_by : (x : List ℕ) (n : ℕ) (l : Local) (ls : List Local) (b : Bool)
    → (place_from x (n + 1) ls ≡ None → None ≡ found ls x)
    → (if b then Some n else place_from x (n + 1) ls) ≡ None → None
    ≡ (if b then Some l.value else found ls x)
none_by x n l ls true go e = absurd cc
none_by x n l ls false go e = go e

none_there : (x : List ℕ) (n : ℕ) (ls : List Local) → place_from x n ls ≡ None → None ≡ found ls x
none_there x n [] e = refl
none_there x n (l ∷ ls) e = none_by x n l ls (bytes_eq l.name x) (none_there x (n + 1) ls) e

pub found_nowhere : (x : List ℕ) (ls : List Local) → place_from x 0 ls ≡ None → None ≡ found ls x
found_nowhere x ls e = none_there x 0 ls e

pub ruleset takes = (place_below, empty_at_place, keep_nowhere, found_at_place, found_nowhere)

back_by : (x : List ℕ) (t : Plain) (l : Local) (ls : List Local) (b : Bool) → bytes_eq l.name x ≡ b
    → with_local x t (emptied x ls) ≡ with_local x t ls
    → with_local x t (if b then with_value l undef ∷ ls else l ∷ emptied x ls)
    ≡ (if b then with_value l t ∷ ls else l ∷ with_local x t ls)
back_by x t l ls true is go = rw is refl
back_by x t l ls false is go = rw is (ap (λ ms. l ∷ ms) go)

-- a value that is put back in the place of one that was taken
pub put_back : (x : List ℕ) (t : Plain) (ls : List Local) → with_local x t (emptied x ls)
    ≡ with_local x t ls
put_back x t [] = refl
put_back x t (l ∷ ls) = back_by x t l ls (bytes_eq l.name x) refl (put_back x t ls)

stand_by : (x : List ℕ) (l : Local) (ls : List Local) (b : Bool)
    → (None ≡ found ls x → emptied x ls ≡ ls) → None ≡ (if b then Some l.value else found ls x)
    → (if b then with_value l undef ∷ ls else l ∷ emptied x ls) ≡ l ∷ ls
stand_by x l ls true go e = absurd cc
stand_by x l ls false go e = ap (λ ms. l ∷ ms) (go e)

-- of a name without a value nothing is taken
pub not_taken : (x : List ℕ) (ls : List Local) → None ≡ found ls x → emptied x ls ≡ ls
not_taken x [] e = refl
not_taken x (l ∷ ls) e = stand_by x l ls (bytes_eq l.name x) (not_taken x ls) e
