-- The list of the names that are touched has exactly them.
use Rattle.std.proofs.Common.{◌≡◌, ℕ, zero, suc, List, [], ◌∷◌, ◌||◌, ◌&&◌, Bool, true, false, length, Result, Ok, Err, IfOk, refl, sym, ap, ◌∙◌, ⊎_elim}
use Rattle.std.specs.Prelude.{bytes_eq}
use Rattle.std.specs.Cmp.Lexicographic.{slice_cmp}
use Rattle.std.specs.List.{list_any}
use Rattle.std.specs.List.Sorted.{IsStrictlySortedBy}
use Rattle.std.specs.Ordering.{nat_cmp}
use Rattle.std.proofs.lemmas.List.Kept.{IsStrictlySortedBy-filter}
use Rattle.std.proofs.lemmas.Map.Views.{any-filter_same}
use Rattle.std.proofs.lemmas.Slice.Eq.{bytes_eq-Decides}
use Rattle.pan_impact.specs.declared.register.Entry.{Entry}
use Rattle.pan_impact.specs.Levels.{within}
use Rattle.pan_impact.specs.Touched.{stands_in, hits_in, reads_in, hits, reads, IsTouched, at_once, by_read, AreTouched, names_in, touched_in}
use Rattle.pan_impact.proofs.Members.{either, left_holds, right_holds}
use Rattle.pan_impact.proofs.Levels.{AreSame, up_from_start, settled, sorted_one}

first_of : (a b : Bool) → (a && b) ≡ true → a ≡ true
first_of true b e = refl
first_of false b e = absurd (let clash : false ≡ true = e in cc)

second_of : (a b : Bool) → (a && b) ≡ true → b ≡ true
second_of true b e = e
second_of false b e = absurd (let clash : false ≡ true = e in cc)

both_are : (a b : Bool) → a ≡ true → b ≡ true → (a && b) ≡ true
both_are true b e f = f
both_are false b e f = absurd (let clash : false ≡ true = e in cc)

alike : (a b : Bool) → (a ≡ true → b ≡ true) → (b ≡ true → a ≡ true) → a ≡ b
alike true b f g = sym (f refl)
alike false true f g = g refl
alike false false f g = refl

-- what an entry says of a name, it says of a name that stands there
named : (test : Entry → Bool) (n : List ℕ) (entries : List Entry)
    → list_any (λ (e : Entry). bytes_eq n e.name && test e) entries ≡ true
    → stands_in n (names_in entries) ≡ true
named test n [] h = h
named test n (e ∷ entries) h = ⊎_elim
    (λ (here : (bytes_eq n e.name && test e) ≡ true). left_holds (bytes_eq n e.name) _
    (first_of (bytes_eq n e.name) (test e) here))
    (λ (later : list_any (λ (f : Entry). bytes_eq n f.name && test f) entries ≡ true). right_holds
    (bytes_eq n e.name) _ (named test n entries later))
    (either (bytes_eq n e.name && test e) _ h)

any_holds : (f g : List ℕ → Bool) (xs : List (List ℕ)) → list_any (λ n. f n && g n) xs ≡ true
    → (n : List ℕ) × (f n ≡ true) × (g n ≡ true)
any_holds f g [] h = absurd (let clash : false ≡ true = h in cc)
any_holds f g (x ∷ xs) h = ⊎_elim
    (λ (here : (f x && g x) ≡ true). (x, first_of (f x) (g x) here, second_of (f x) (g x) here))
    (λ (later : list_any (λ n. f n && g n) xs ≡ true). any_holds f g xs later)
    (either (f x && g x) _ h)

any_true : (f g : List ℕ → Bool) (n : List ℕ) (xs : List (List ℕ)) → stands_in n xs ≡ true → f n
    ≡ true → g n ≡ true → list_any (λ m. f m && g m) xs ≡ true
any_true f g n [] among e h = absurd (let clash : false ≡ true = among in cc)
any_true f g n (x ∷ xs) among e h = ⊎_elim
    (λ (here : bytes_eq n x ≡ true).
    let same : n ≡ x = (bytes_eq-Decides n x).0 here in
    left_holds (f x && g x) _ (both_are (f x) (g x) (ap f (sym same) ∙ e) (ap g (sym same) ∙ h)))
    (λ (later : stands_in n xs ≡ true). right_holds (f x && g x) _ (any_true f g n xs later e h))
    (either (bytes_eq n x) (stands_in n xs) among)

same_at : (f g : List ℕ → Bool) (n : List ℕ) (xs : List (List ℕ)) → AreSame f g xs → stands_in n xs
    ≡ true → g n ≡ f n
same_at f g n [] same among = absurd (let clash : false ≡ true = among in cc)
same_at f g n (x ∷ xs) same among = ⊎_elim
    (λ (here : bytes_eq n x ≡ true).
    let is : n ≡ x = (bytes_eq-Decides n x).0 here in
    ap g is ∙ same.0 ∙ ap f (sym is))
    (λ (later : stands_in n xs ≡ true). same_at f g n xs same.1 later)
    (either (bytes_eq n x) (stands_in n xs) among)

pub ok_both : {A E : Type 0} (P Q R : A → Type 0) (r : Result A E) → ((a : A) → P a → Q a → R a)
    → IfOk r P → IfOk r Q → IfOk r R
ok_both P Q R (Ok a) f p q = f a p q
ok_both P Q R (Err e) f p q = tt

module _ (entries : List Entry) (file : List ℕ) (dirs : List (List ℕ)) where
  abbrev names : List (List ℕ)
  names = names_in entries

  abbrev at_most : ℕ → List ℕ → Bool
  at_most = within (hits entries file dirs) (reads entries file dirs) names

  sound : (k : ℕ) (n : List ℕ) → at_most k n ≡ true → IsTouched entries file dirs n
  sound zero n h = at_once n h
  sound (suc k) n h = ⊎_elim
      (λ (before : at_most k n ≡ true). sound k n before)
      (λ (read : list_any (λ m. reads entries file dirs n m && at_most k m) names ≡ true).
      let m = any_holds (reads entries file dirs n) (at_most k) names read in
      by_read n m.0 m.1 (sound k m.0 m.2))
      (either (at_most k n) _ h)

  whole : (n : List ℕ) → IsTouched entries file dirs n → (stands_in n names ≡ true)
      × (at_most (length names) n ≡ true)
  whole n (at_once _ h) = (
    named (λ (e : Entry). hits_in file dirs e.items) n entries h,
    up_from_start (hits entries file dirs) (reads entries file dirs) names (length names) n h,
  )
  whole n (by_read _ object r is) =
      let w = whole object is in
      let stands = named (λ (e : Entry). reads_in object e.items) n entries r in
      let more : at_most (suc (length names)) n ≡ true =
      right_holds (at_most (length names) n) _ (any_true (reads entries file dirs n)
      (at_most (length names)) object names w.0 r w.1) in (
        stands,
        sym (same_at (at_most (length names)) (at_most (suc (length names))) n names
            (settled (hits entries file dirs) (reads entries file dirs) names) stands) ∙ more,
      )

  stands : (n : List ℕ) → stands_in n (touched_in entries file dirs)
      ≡ (at_most (length names) n && stands_in n names)
  stands n = any-filter_same (bytes_eq n) (at_most (length names)) (at_most (length names) n)
      (λ k same. ap (at_most (length names)) (sym ((bytes_eq-Decides n k).0 same))) names

  pub are_touched : AreTouched entries file dirs (touched_in entries file dirs)
  are_touched = record {
    sound = λ n h. sound (length names) n (first_of (at_most (length names) n) (stands_in n names)
        (sym (stands n) ∙ h));
    whole = λ n is. let w = whole n is in
        stands n ∙ both_are (at_most (length names) n) (stands_in n names) w.1 w.0;
  }

  -- a rising list of the names that are touched is this one, where the entries' names rise
  pub listed : (found : List (List ℕ)) → IsStrictlySortedBy (slice_cmp nat_cmp) found
      → AreTouched entries file dirs found → IsStrictlySortedBy (slice_cmp nat_cmp) names → found
      ≡ touched_in entries file dirs
  listed found rising are names_rise =
      sorted_one found (touched_in entries file dirs) rising
      (IsStrictlySortedBy-filter (slice_cmp nat_cmp) (at_most (length names)) names names_rise)
      (λ n. alike (stands_in n found) (stands_in n (touched_in entries file dirs))
      (λ h. are_touched.whole n (are.sound n h)) (λ h. are.whole n (are_touched.sound n h)))
