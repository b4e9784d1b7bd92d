-- The answers to some keys alone.
use Rattle.std.proofs.Common.{◌≡◌, ◌∙◌, ap, sym, subst, refl, ℕ, ◌+◌, ◌≤◌, List, [], ◌∷◌, ◌++◌, Option, None, Bool, true, false, cond, ◌||◌, arith}
use Rattle.std.proofs.lemmas.Bool.{true≢false}
use Rattle.questions.specs.declared.key.Key.{Key}
use Rattle.questions.specs.Keys.{key_eq}
use Rattle.questions.specs.KeyLaws.{key_same}
use Rattle.questions.specs.Contents.{Content, Answers, is_among, with_key}
use Rattle.questions.specs.Told.{only, beyond}

-- with every key, all answers
pub only_all : (o : Answers) → only (λ k. true) o ≡ o
unfolding only
only_all o = refl

pub none_beyond : (ks : List Key) → beyond (λ k. true) ks ≡ 0
unfolding beyond
none_beyond [] = refl
none_beyond (k ∷ ks) = let h = none_beyond ks in omega (arith, h)

-- what has no answer has none among some
pub only_none : (keys : Key → Bool) (o : Answers) (k : Key) → o k ≡ None → only keys o k ≡ None
unfolding only
only_none keys o k h = at (keys k) (o k) h
  where
    at : (b : Bool) (a : Option Content) → a ≡ None → cond b a None ≡ None
    at true a e = e
    at false a e = refl

beyond_more : (keys : Key → Bool) (ks js : List Key) → beyond keys (ks ++ js)
    ≡ beyond keys ks + beyond keys js
unfolding beyond
beyond_more keys [] js = omega arith
beyond_more keys (k ∷ ks) js = let h = beyond_more keys ks js in omega (arith, h)

-- a key that is asked stays so
pub beyond_grows : (keys : Key → Bool) (k : Key) (ks : List Key)
    → beyond keys ks ≤ beyond keys (with_key k ks)
beyond_grows keys k ks = at (is_among k ks)
  where
    at : (b : Bool) → beyond keys ks ≤ beyond keys (cond b ks (ks ++ k ∷ []))
    at true = omega arith
    at false = let h = beyond_more keys ks (k ∷ []) in omega (arith, h)

all_told : (keys : Key → Bool) (k : Key) (b : Bool) (n : ℕ) → keys k ≡ b → cond (keys k) 0 1 + n ≡ 0
    → (keys k ≡ true) × (n ≡ 0)
all_told keys k true n e h =
    (e, let rest = subst (λ b. cond b 0 1 + n ≡ 0) e h in omega (arith, rest))
all_told keys k false n e h = let rest = subst (λ b. cond b 0 1 + n ≡ 0) e h in
    absurd (omega (arith, rest))

among_told : (keys : Key → Bool) (k : Key) (ks : List Key) → is_among k ks ≡ true → beyond keys ks
    ≡ 0 → keys k ≡ true
unfolding beyond
among_told keys k [] h none = absurd (true≢false (sym h))
among_told keys k (j ∷ js) h none =
    let told = all_told keys j (keys j) (beyond keys js) refl none in
    at (λ more. among_told keys k js more told.1) told.0 (key_eq j k) refl h
  where
    at : (is_among k js ≡ true → keys k ≡ true) → keys j ≡ true → (b : Bool) → key_eq j k ≡ b
        → (b || is_among k js) ≡ true → keys k ≡ true
    at next here true same h = ap keys (sym (key_same j k same)) ∙ here
    at next here false same h = next h

-- a key that is asked has its answer
pub only_asked : (keys : Key → Bool) (o : Answers) (k : Key) (ks : List Key)
    → beyond keys (with_key k ks) ≡ 0 → only keys o k ≡ o k
unfolding only beyond
only_asked keys o k ks none = ap (λ b. cond b (o k) None) (at (is_among k ks) refl none)
  where
    at : (b : Bool) → is_among k ks ≡ b → beyond keys (cond b ks (ks ++ k ∷ [])) ≡ 0 → keys k ≡ true
    at true e h = among_told keys k ks e h
    at false e h = let sum = beyond_more keys ks (k ∷ []) in let last : cond (keys k) 0 1 + 0 ≡ 0 =
        omega (arith, h, sum) in (all_told keys k (keys k) 0 refl last).0
