-- The test of keys decides equality, and so has the laws of a comparison and of a hash.
use Rattle.std.proofs.Common.{◌≡◌, ap, sym, subst, refl, ℕ, List, [], ◌∷◌, Bool, true, false, ◌&&◌}
use Rattle.std.proofs.lemmas.Slice.Eq.{bytes_eq-Decides}
use Rattle.std.proofs.lemmas.Bool.{true≢false, eqb-true, eq-eqb}
use Rattle.std.specs.Cmp.{IsEquivalence, both_ways}
use Rattle.std.specs.Str.{bytes_eq}
use Rattle.path_tree.specs.declared.path.Term.{Term}
use Rattle.path_tree.specs.declared.path.Term.TheVariants as term
use Rattle.questions.specs.declared.key.Key.{Key}
use Rattle.questions.specs.declared.key.Key.TheVariants.{File, Under}
use Rattle.questions.specs.Keys.{term_eq, terms_eq, key_eq, key_fed}

both : (x y : Bool) → (x && y) ≡ true → (x ≡ true) × (y ≡ true)
both true y h = (refl, h)
both false y h = absurd (true≢false (sym h))

bytes_same : (a b : List ℕ) → bytes_eq a b ≡ true → a ≡ b
bytes_same a b h = (bytes_eq-Decides a b).0 h

bytes_refl : (a : List ℕ) → bytes_eq a a ≡ true
bytes_refl a = (bytes_eq-Decides a a).1 refl

term_same : (a b : Term) → term_eq a b ≡ true → a ≡ b
term_same (term.Key a) (term.Key b) h = ap term.Key (bytes_same a b h)
term_same (term.Index i) (term.Index j) h = ap term.Index (eqb-true i j h)
term_same (term.Key a) (term.Index j) h = absurd (true≢false (sym h))
term_same (term.Index i) (term.Key b) h = absurd (true≢false (sym h))

term_refl : (a : Term) → term_eq a a ≡ true
term_refl (term.Key a) = bytes_refl a
term_refl (term.Index i) = eq-eqb i i refl

terms_same : (xs ys : List Term) → terms_eq xs ys ≡ true → xs ≡ ys
terms_same [] [] h = refl
terms_same (x ∷ xs) (y ∷ ys) h =
    let e = both (term_eq x y) (terms_eq xs ys) h in
    let p = term_same x y e.0 in
    let q = terms_same xs ys e.1 in cc
terms_same [] (y ∷ ys) h = absurd (true≢false (sym h))
terms_same (x ∷ xs) [] h = absurd (true≢false (sym h))

terms_refl : (xs : List Term) → terms_eq xs xs ≡ true
terms_refl [] = refl
terms_refl (x ∷ xs) = rw (term_refl x) (terms_refl xs)

pub key_same : (a b : Key) → key_eq a b ≡ true → a ≡ b
key_same (File a) (File b) h = ap File (bytes_same a b h)
key_same (Under p xs) (Under q ys) h =
    let e = both (bytes_eq p q) (terms_eq xs ys) h in
    let s = bytes_same p q e.0 in
    let t = terms_same xs ys e.1 in cc
key_same (File a) (Under q ys) h = absurd (true≢false (sym h))
key_same (Under p xs) (File b) h = absurd (true≢false (sym h))

pub key_refl : (a : Key) → key_eq a a ≡ true
key_refl (File a) = bytes_refl a
key_refl (Under p xs) = rw (bytes_refl p) (terms_refl xs)

key_turn : (a b : Key) → key_eq a b ≡ true → key_eq b a ≡ true
key_turn a b h = subst (λ k. key_eq k a ≡ true) (key_same a b h) (key_refl a)

pub key_equivalence : IsEquivalence key_eq
key_equivalence = record {
  refl = key_refl;
  symm = λ a b. both_ways (key_eq a b) (key_eq b a) (key_turn a b) (key_turn b a);
  congr = λ a b c h. ap (λ k. key_eq k c) (key_same a b h);
}

pub key_alike : (a b : Key) → key_eq a b ≡ true → key_fed a ≡ key_fed b
key_alike a b h = ap key_fed (key_same a b h)
