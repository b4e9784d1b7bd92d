-- A loop that adds to a list what each item gives.
use Rattle.std.proofs.Common.{◌≡◌, ◌<◌, ◌+◌, ◌++◌, ℕ, suc, List, [], ◌∷◌, length, drop, get_or, refl, sym, ap, ◌∙◌, arith}
use Rattle.std.proofs.Math.Seq.{drop-cons}

pub joined : {A : Type 0} (xs ys zs : List A) → (xs ++ ys) ++ zs ≡ xs ++ (ys ++ zs)
joined [] ys zs = refl
joined (x ∷ xs) ys zs = ap (λ l. x ∷ l) (joined xs ys zs)

pub no_more : {A : Type 0} (xs : List A) → xs ++ [] ≡ xs
no_more [] = refl
no_more (x ∷ xs) = ap (λ l. x ∷ l) (no_more xs)

-- what is left begins with the item at the place
pub split_at : {A : Type 0} (xs : List A) (i : ℕ) (x : A) → i < length xs → x ≡ get_or xs i x
    → drop i xs ≡ x ∷ drop (i + 1) xs
split_at xs i x lt is =
    let next : suc i ≡ i + 1 = omega arith in
    drop-cons xs i x lt ∙ (λ j. sym is j ∷ drop (next j) xs)

pub append_step : {A B : Type 0} (f : List A → List B)
    → ((x : A) (xs : List A) → f (x ∷ xs) ≡ f (x ∷ []) ++ f xs) → (xs : List A) (i : ℕ) (x : A)
    → i < length xs → x ≡ get_or xs i x → (made made' all : List B) → made' ≡ made ++ f (x ∷ [])
    → made ++ f (drop i xs) ≡ all → made' ++ f (drop (i + 1) xs) ≡ all
append_step f cons xs i x lt is made made' all more before =
    ap (λ m. m ++ f (drop (i + 1) xs)) more
    ∙ joined made (f (x ∷ [])) (f (drop (i + 1) xs))
    ∙ ap (λ l. made ++ l) (sym (cons x (drop (i + 1) xs)) ∙ ap f (sym (split_at xs i x lt is)))
    ∙ before
