-- What is found on each side of a path.
use Rattle.std.proofs.Common.{◌≡◌, ℕ, ◌/◌, ◌%◌, List, [], Bool, true, false, cond, nat_eq, Option, refl, sym, ap, ◌∙◌}
use Rattle.std.proofs.lemmas.Bool.{eqb-true, eq-eqb}
use Rattle.path_tree.specs.Plain.{Plain}
use Rattle.path_tree.specs.declared.path.Term.{Term}
use Rattle.questions.specs.declared.key.Key.{Key}
use Rattle.questions.specs.declared.key.Key.TheVariants.{File, Under}
use Rattle.questions.specs.Keys.{terms_eq}
use Rattle.questions.specs.KeyLaws.{key_same}
use Rattle.path_numbers.specs.Numbers.{own_or, moved_number, same_before, IsHashOf}

terms_in : Key → List Term → List Term
terms_in (File f) terms = terms
terms_in (Under p xs) terms = xs

-- equal terms are the same
pub terms_same : (xs ys : List Term) → terms_eq xs ys ≡ true → xs ≡ ys
unfolding terms_in
terms_same xs ys e = ap (λ k. terms_in k xs) (key_same (Under [] xs) (Under [] ys) e)

-- a path that is entered where it stands
pub enter_here : (path terms t : List Term) (own own' rest number : ℕ) → terms_eq path terms ≡ true
    → own' ≡ own_or true own number → cond (terms_eq path t) own' rest
    ≡ own_or (terms_eq terms t) (cond (terms_eq path t) own rest) number
enter_here path terms t own own' rest number same is =
    at (terms_eq path t) (terms_eq terms t) (ap (λ z. terms_eq z t) (terms_same path terms same))
  where
    at : (a b : Bool) → a ≡ b → cond a own' rest ≡ own_or b (cond a own rest) number
    at true true e = is
    at true false e = absurd (let clash : true ≡ false = e in cc)
    at false true e = absurd (let clash : false ≡ true = e in cc)
    at false false e = refl

-- a path that is entered on one side
pub enter_low : (path terms t : List Term) (hash h own number low low' high : ℕ)
    → terms_eq path terms ≡ false → hash % 2 ≡ 0 → IsHashOf terms t hash h → low'
    ≡ own_or (terms_eq terms t) low number → cond (terms_eq path t) own
    (cond (nat_eq (h % 2) 0) low' high) ≡ own_or (terms_eq terms t)
    (cond (terms_eq path t) own (cond (nat_eq (h % 2) 0) low high)) number
enter_low path terms t hash h own number low low' high differs even of is =
    at (terms_eq terms t) refl is
  where
    at : (b : Bool) → terms_eq terms t ≡ b → low' ≡ own_or b low number
        → cond (terms_eq path t) own (cond (nat_eq (h % 2) 0) low' high)
        ≡ own_or b (cond (terms_eq path t) own (cond (nat_eq (h % 2) 0) low high)) number
    at true e same =
        let other = ap (terms_eq path) (sym (terms_same terms t e)) ∙ differs in
        let side = eq-eqb (h % 2) 0 (ap (λ n. n % 2) (of e) ∙ even) in
        ap (λ a. cond a own (cond (nat_eq (h % 2) 0) low' high)) other
        ∙ ap (λ a. cond a low' high) side
        ∙ same
        ∙ sym (ap (λ a. own_or true (cond a own (cond (nat_eq (h % 2) 0) low high)) number) other
        ∙ ap (λ a. own_or true (cond a low high) number) side)
    at false e same = ap (λ n. cond (terms_eq path t) own (cond (nat_eq (h % 2) 0) n high)) same

odd_side : (n : ℕ) → (n ≡ 0 → ⊥) → nat_eq n 0 ≡ false
odd_side n ne = at (nat_eq n 0) refl
  where
    at : (b : Bool) → nat_eq n 0 ≡ b → b ≡ false
    at true e = absurd (ne (eqb-true n 0 e))
    at false e = refl

pub enter_high : (path terms t : List Term) (hash h own number low high high' : ℕ)
    → terms_eq path terms ≡ false → (hash % 2 ≡ 0 → ⊥) → IsHashOf terms t hash h → high'
    ≡ own_or (terms_eq terms t) high number → cond (terms_eq path t) own
    (cond (nat_eq (h % 2) 0) low high') ≡ own_or (terms_eq terms t)
    (cond (terms_eq path t) own (cond (nat_eq (h % 2) 0) low high)) number
enter_high path terms t hash h own number low high high' differs odd of is =
    at (terms_eq terms t) refl is
  where
    at : (b : Bool) → terms_eq terms t ≡ b → high' ≡ own_or b high number
        → cond (terms_eq path t) own (cond (nat_eq (h % 2) 0) low high')
        ≡ own_or b (cond (terms_eq path t) own (cond (nat_eq (h % 2) 0) low high)) number
    at true e same =
        let other = ap (terms_eq path) (sym (terms_same terms t e)) ∙ differs in
        let side = ap (λ n. nat_eq (n % 2) 0) (of e) ∙ odd_side (hash % 2) odd in
        ap (λ a. cond a own (cond (nat_eq (h % 2) 0) low high')) other
        ∙ ap (λ a. cond a low high') side
        ∙ same
        ∙ sym (ap (λ a. own_or true (cond a own (cond (nat_eq (h % 2) 0) low high)) number) other
        ∙ ap (λ a. own_or true (cond a low high) number) side)
    at false e same = ap (λ n. cond (terms_eq path t) own (cond (nat_eq (h % 2) 0) low n)) same

pub half_hash : (terms t : List Term) (hash h : ℕ) → IsHashOf terms t hash h
    → IsHashOf terms t (hash / 2) (h / 2)
half_hash terms t hash h of e = ap (λ n. n / 2) (of e)

pub move_here : (path t : List Term) (old : Option Plain) (new : Plain)
    (h own own' low low' high high' number : ℕ) → own'
    ≡ moved_number (same_before path old new) own number → low'
    ≡ moved_number (same_before t old new) low number → high'
    ≡ moved_number (same_before t old new) high number
    → cond (terms_eq path t) own' (cond (nat_eq (h % 2) 0) low' high')
    ≡ moved_number (same_before t old new) (cond (terms_eq path t) own
    (cond (nat_eq (h % 2) 0) low high)) number
move_here path t old new h own own' low low' high high' number here below above =
    at (terms_eq path t) refl
  where
    at_side : (b : Bool) → cond b low' high' ≡ moved_number (same_before t old new)
        (cond b low high) number
    at_side true = below
    at_side false = above

    at : (b : Bool) → terms_eq path t ≡ b → cond b own' (cond (nat_eq (h % 2) 0) low' high')
        ≡ moved_number (same_before t old new) (cond b own (cond (nat_eq (h % 2) 0) low high))
        number
    at true e = here ∙ ap (λ z. moved_number (same_before z old new) own number)
        (terms_same path t e)
    at false e = at_side (nat_eq (h % 2) 0)
