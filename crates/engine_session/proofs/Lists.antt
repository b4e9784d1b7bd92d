-- The list of a picture's objects has exactly them, in byte order, and no other list does.
use Rattle.std.proofs.Common.{◌≡◌, ◌-◌, ℕ, Bool, true, false, List, [], ◌∷◌, ◌++◌, ◌&&◌, ◌||◌, length, map, fold, take, drop, Some, is_some, if◌then◌else◌, refl, sym, ap, ap₂, ◌∙◌, arith, length-append}
use Rattle.std.specs.Prelude.{bytes_eq, codes}
use Rattle.load_path.specs.Candidates.{with_slash}
use Rattle.load_path.specs.Pictures.{content_in, is_below}
use Rattle.load_path.specs.declared.picture.PictureFile.{PictureFile}
use Rattle.object_names.specs.Objects.{stands_in, begins_above, are_rising, is_object_in, AreObjects}
use Rattle.object_names.specs.Finding.{with_object, with_found}
use Rattle.load_path.proofs.Order.{below_chain, above_differs, else_above}
use Rattle.object_names.proofs.Places.{first_true, second_true, rising_with, stands_with, bytes_same, bytes_refl}
use Rattle.object_names.proofs.Candidates.{Reaches, reaches}
use Rattle.engine_session.specs.Names.{name_behind, names_below, objects_in}

drop_front : (front rest : List ℕ) → drop (length front) (front ++ rest) ≡ rest
drop_front [] rest = refl
drop_front (c ∷ cs) rest = drop_front cs rest

take_front : (front rest : List ℕ) → take (length front) (front ++ rest) ≡ front
take_front [] rest = refl
take_front (c ∷ cs) rest = ap (λ xs. c ∷ xs) (take_front cs rest)

without_end : (name : List ℕ) → take (length (name ++ codes ".pan") - 4) (name ++ codes ".pan")
    ≡ name
without_end name =
    let four : length (name ++ codes ".pan") - 4 ≡ length name =
    omega (arith, length-append name (codes ".pan")) in
    ap (λ n. take n (name ++ codes ".pan")) four ∙ take_front name (codes ".pan")

-- the name of a file behind a front
behind_is : (front name : List ℕ) (f : PictureFile) → f.name ≡ front ++ (name ++ codes ".pan")
    → name_behind front f ≡ name
behind_is front name f is =
    let rest : drop (length front) f.name ≡ name ++ codes ".pan" =
    ap (drop (length front)) is ∙ drop_front front (name ++ codes ".pan") in
    ap (λ xs. take (length xs - 4) xs) rest ∙ without_end name

or_true : (a : Bool) → a || true ≡ true
or_true true = refl
or_true false = refl

or_false : (a : Bool) → a || false ≡ a
or_false true = refl
or_false false = refl

or_assoc : (a b c : Bool) → (a || b) || c ≡ a || (b || c)
or_assoc true b c = refl
or_assoc false b c = refl

stands_append : (n : List ℕ) (xs ys : List (List ℕ)) → stands_in n (xs ++ ys) ≡ stands_in n xs
    || stands_in n ys
stands_append n [] ys = refl
stands_append n (x ∷ xs) ys =
    ap (λ b. bytes_eq x n || b) (stands_append n xs ys)
    ∙ sym (or_assoc (bytes_eq x n) (stands_in n xs) (stands_in n ys))

file_among : (front name : List ℕ) (fs : List PictureFile)
    → is_some (content_in fs (front ++ (name ++ codes ".pan"))) ≡ true
    → stands_in name (map (name_behind front) fs) ≡ true
file_among front name [] there = absurd (let clash : false ≡ true = there in cc)
file_among front name (f ∷ fs) there =
    at (bytes_eq f.name (front ++ (name ++ codes ".pan"))) refl there (file_among front name fs)
  where
    at : (b : Bool) → bytes_eq f.name (front ++ (name ++ codes ".pan")) ≡ b
        → is_some (if b then Some f.content else content_in fs (front ++ (name ++ codes ".pan")))
        ≡ true → (is_some (content_in fs (front ++ (name ++ codes ".pan")))
        ≡ true → stands_in name (map (name_behind front) fs) ≡ true) → bytes_eq
        (name_behind front f) name || stands_in name (map (name_behind front) fs) ≡ true
    at true same there later =
        ap (λ x. bytes_eq x name || stands_in name (map (name_behind front) fs))
        (behind_is front name f (bytes_same f.name (front ++ (name ++ codes ".pan")) same))
        ∙ ap (λ b. b || stands_in name (map (name_behind front) fs)) (bytes_refl name)
    at false same there later =
        ap (λ b. bytes_eq (name_behind front f) name || b) (later there)
        ∙ or_true (bytes_eq (name_behind front f) name)

module _ (files : List PictureFile) where
  -- an object's name is one that a file can be the template of
  reached_among : (dirs : List (List ℕ)) (name : List ℕ) → Reaches files dirs name ≡ true
      → stands_in name (names_below files dirs) ≡ true
  reached_among [] name e = absurd (let clash : false ≡ true = e in cc)
  reached_among (d ∷ ds) name e =
      stands_append name (map (name_behind (with_slash d)) files) (names_below files ds)
      ∙ at (reached_among ds name)
      (is_some (content_in files (with_slash d ++ (name ++ codes ".pan")))) refl e
    where
      at : (Reaches files ds name ≡ true → stands_in name (names_below files ds) ≡ true)
          → (b : Bool) → is_some (content_in files (with_slash d ++ (name ++ codes ".pan"))) ≡ b → b
          || Reaches files ds name ≡ true → stands_in name (map (name_behind (with_slash d)) files)
          || stands_in name (names_below files ds) ≡ true
      at later true there e = ap (λ b. b || stands_in name (names_below files ds))
          (file_among (with_slash d) name files there)
      at later false there e =
          ap (λ b. stands_in name (map (name_behind (with_slash d)) files) || b) (later e)
          ∙ or_true (stands_in name (map (name_behind (with_slash d)) files))

  module _ (dirs : List (List ℕ)) where
    abbrev more : List (List ℕ) → List ℕ → List (List ℕ)
    more names name = with_found files dirs name names

    rising_more : (u : List ℕ) (names : List (List ℕ)) → are_rising names ≡ true
        → are_rising (more names u) ≡ true
    rising_more u names rising = at (is_object_in files dirs u)
      where
        at : (b : Bool) → are_rising (if b then with_object u names else names) ≡ true
        at true = rising_with u names rising
        at false = rising

    rising_all : (us names : List (List ℕ)) → are_rising names ≡ true
        → are_rising (fold more names us) ≡ true
    rising_all [] names rising = rising
    rising_all (u ∷ us) names rising = rising_all us (more names u) (rising_more u names rising)

    more_has : (u n : List ℕ) (names : List (List ℕ)) → stands_in n (more names u)
        ≡ stands_in n names || (bytes_eq u n && is_object_in files dirs n)
    more_has u n names = at (is_object_in files dirs u) refl (bytes_eq u n) refl
      where
        at : (b : Bool) → is_object_in files dirs u ≡ b → (e : Bool) → bytes_eq u n ≡ e
            → stands_in n (if b then with_object u names else names) ≡ stands_in n names
            || (e && is_object_in files dirs n)
        at true object true same =
            stands_with u n names ∙ ap (λ b. b || stands_in n names) same
            ∙ sym (ap (λ b. stands_in n names || b)
            (sym (ap (is_object_in files dirs) (bytes_same u n same)) ∙ object)
            ∙ or_true (stands_in n names))
        at true object false same =
            stands_with u n names ∙ ap (λ b. b || stands_in n names) same
            ∙ sym (or_false (stands_in n names))
        at false object true same =
            sym (ap (λ b. stands_in n names || b)
            (sym (ap (is_object_in files dirs) (bytes_same u n same)) ∙ object)
            ∙ or_false (stands_in n names))
        at false object false same = sym (or_false (stands_in n names))

    joined : (s e t o : Bool) → (s || (e && o)) || (t && o) ≡ s || ((e || t) && o)
    joined true e t o = refl
    joined false true t true = refl
    joined false true true false = refl
    joined false true false false = refl
    joined false false t o = refl

    all_have : (us names : List (List ℕ)) (n : List ℕ) → stands_in n (fold more names us)
        ≡ stands_in n names || (stands_in n us && is_object_in files dirs n)
    all_have [] names n = sym (or_false (stands_in n names))
    all_have (u ∷ us) names n =
        all_have us (more names u) n ∙ ap (λ b. b || (stands_in n us && is_object_in files dirs n))
        (more_has u n names) ∙ joined (stands_in n names) (bytes_eq u n) (stands_in n us)
        (is_object_in files dirs n)

    has_exactly : (n : List ℕ) → stands_in n (objects_in files dirs) ≡ is_object_in files dirs n
    has_exactly n = all_have (names_below files dirs) [] n ∙ at (is_object_in files dirs n) refl
      where
        and_false : (b : Bool) → b && false ≡ false
        and_false true = refl
        and_false false = refl

        at : (o : Bool) → is_object_in files dirs n ≡ o
            → (stands_in n (names_below files dirs) && o) ≡ o
        at true object = ap (λ b. b && true) (reached_among dirs n (reaches files dirs n object))
        at false object = and_false (stands_in n (names_below files dirs))

    pub are_objects : AreObjects files dirs (objects_in files dirs)
    are_objects = record {
      rising = rising_all (names_below files dirs) [] refl;
      exactly =
          has_exactly;
    }

begins_on : (n x : List ℕ) (xs : List (List ℕ)) → is_below n x ≡ true → begins_above x xs ≡ true
    → begins_above n xs ≡ true
begins_on n x [] p q = refl
begins_on n x (y ∷ ys) p q = below_chain n x y p q

-- a name before all others of a rising list is none of them
pub apart : (n : List ℕ) (xs : List (List ℕ)) → begins_above n xs ≡ true → are_rising xs ≡ true
    → stands_in n xs ≡ false
apart n [] p q = refl
apart n (x ∷ xs) p q = ap (λ b. b || stands_in n xs) (above_differs x n p)
    ∙ apart n xs (begins_on n x xs p (first_true (begins_above x xs) (are_rising xs) q))
    (second_true (begins_above x xs) (are_rising xs) q)

stands_first : (x : List ℕ) (xs : List (List ℕ)) → stands_in x (x ∷ xs) ≡ true
stands_first x xs = ap (λ b. b || stands_in x xs) (bytes_refl x)

-- rising lists of the same names are one
rising_one : (xs ys : List (List ℕ)) → are_rising xs ≡ true → are_rising ys ≡ true
    → ((n : List ℕ) → stands_in n xs ≡ stands_in n ys) → xs ≡ ys
rising_one [] [] p q same = refl
rising_one [] (y ∷ ys) p q same =
    absurd (let clash : false ≡ true = same y ∙ stands_first y ys in cc)
rising_one (x ∷ xs) [] p q same =
    absurd (let clash : true ≡ false = sym (stands_first x xs) ∙ same x in cc)
rising_one (x ∷ xs) (y ∷ ys) p q same =
    at (rising_one xs ys (second_true (begins_above x xs) (are_rising xs) p)
    (second_true (begins_above y ys) (are_rising ys) q)) (is_below x y) refl (bytes_eq x y) refl
  where
    later : x ≡ y → (n : List ℕ) → stands_in n xs ≡ stands_in n ys
    later is n = by (bytes_eq x n) refl
      where
        by : (b : Bool) → bytes_eq x n ≡ b → stands_in n xs ≡ stands_in n ys
        by true here =
            let name : x ≡ n = bytes_same x n here in
            ap (λ z. stands_in z xs) (sym name) ∙ apart x xs
            (first_true (begins_above x xs) (are_rising xs) p)
            (second_true (begins_above x xs) (are_rising xs) p)
            ∙ sym (apart y ys (first_true (begins_above y ys) (are_rising ys) q)
            (second_true (begins_above y ys) (are_rising ys) q))
            ∙ ap (λ z. stands_in z ys) (sym is ∙ name)
        by false here = sym (ap (λ b. b || stands_in n xs) here) ∙ same n
            ∙ ap (λ b. b || stands_in n ys) (ap (λ z. bytes_eq z n) (sym is) ∙ here)

    at : (((n : List ℕ) → stands_in n xs ≡ stands_in n ys) → xs ≡ ys) → (b : Bool) → is_below x y
        ≡ b → (e : Bool) → bytes_eq x y ≡ e → x ∷ xs ≡ y ∷ ys
    at rest true below e is =
        absurd (let clash : true ≡ false =
        sym (stands_first x xs) ∙ same x ∙ apart x (y ∷ ys) below q in cc)
    at rest false below true is =
        let one : x ≡ y = bytes_same x y is in
        ap₂ (λ z zs. z ∷ zs) one (rest (later one))
    at rest false below false is =
        absurd (let clash : true ≡ false =
        sym (stands_first y ys) ∙ sym (same y) ∙ apart y (x ∷ xs) (else_above x y below is) p in cc)

pub only_objects : (files : List PictureFile) (dirs names : List (List ℕ))
    → AreObjects files dirs names → names ≡ objects_in files dirs
only_objects files dirs names are =
    let all = are_objects files dirs in
    rising_one names (objects_in files dirs) are.rising all.rising
    (λ n. are.exactly n ∙ sym (all.exactly n))
