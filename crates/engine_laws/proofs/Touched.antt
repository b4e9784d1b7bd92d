-- What a Take touches: an object that is not touched reads no object that is.
use Rattle.std.proofs.Common.{◌≡◌, ℕ, zero, suc, ◌+◌, ◌-◌, ◌≤◌, ◌⊎◌, ◌||◌, ◌&&◌, not, List, [], ◌∷◌, ◌++◌, Bool, true, false, Option, Some, None, nat_eq, length, refl, sym, ap, ◌∙◌, inl, inr, ⊎_elim, arith}
use Rattle.std.proofs.lemmas.Bool.{eqb-true}
use Rattle.engine_laws.specs.Names.{Name, equal}
use Rattle.engine_laws.specs.Runner.{Picture, IsIn}
use Rattle.engine_laws.specs.Engine.{Situation, is_among, lacks_record, any_key, is_moved, if_object_of, all_settled, moves, items_at, is_touched_first, is_touched, touched_by}
use Rattle.engine_laws.proofs.Names.{equal-true, equal-is}
use Rattle.engine_laws.proofs.Facts.{or_false}
use Rattle.engine_laws.proofs.Levels.{fewer, as_many, how_many, how_many_most, stands_still}

pub or_left : (a b : Bool) → a ≡ true → a || b ≡ true
or_left true b e = refl
or_left false b e = absurd (let clash : false ≡ true = e in cc)

pub or_right : (a b : Bool) → b ≡ true → a || b ≡ true
or_right true b e = refl
or_right false b e = e

or_up : (a b c : Bool) → (b ≡ true → c ≡ true) → a || b ≡ true → a || c ≡ true
or_up true b c h e = refl
or_up false b c h e = h e

not_true : (a : Bool) → not a ≡ true → a ≡ false
not_true true e = absurd (let clash : false ≡ true = e in cc)
not_true false e = refl

not_false : (a : Bool) → not a ≡ false → a ≡ true
not_false true e = refl
not_false false e = absurd (let clash : true ≡ false = e in cc)

not_same : (a b : Bool) → not a ≡ not b → a ≡ b
not_same true true e = refl
not_same true false e = absurd (let clash : false ≡ true = e in cc)
not_same false true e = absurd (let clash : true ≡ false = e in cc)
not_same false false e = refl

pub true_else : (a : Bool) → (a ≡ true → ⊥) → a ≡ false
true_else true h = absurd (h refl)
true_else false h = refl

pub in_among : (p : Name) (xs : List Name) → is_among p xs ≡ true → IsIn p xs
in_among p [] e = absurd (let clash : false ≡ true = e in cc)
in_among p (x ∷ xs) e = at (in_among p xs) (equal x p) refl e
  where
    at : (is_among p xs ≡ true → IsIn p xs) → (b : Bool) → equal x p ≡ b → b || is_among p xs ≡ true
        → (x ≡ p) ⊎ IsIn p xs
    at later true is e = inl (equal-true x p is)
    at later false is e = inr (later e)

pub among_in : (p : Name) (xs : List Name) → IsIn p xs → is_among p xs ≡ true
among_in p [] i = absurd i
among_in p (x ∷ xs) i =
    ⊎_elim
    (λ (same : x ≡ p). or_left (equal x p) (is_among p xs) (equal-is x p same))
    (λ (later : IsIn p xs). or_right (equal x p) (is_among p xs) (among_in p xs later))
    i

-- each key of a list of items
abbrev pub AllKeys : {K : Type 0} → (K → Type 0) → List (K × ℕ) → Type 0
AllKeys P [] = Unit {0}
AllKeys P (q ∷ items) = P q.0 × AllKeys P items

pub all_up : {K : Type 0} (P Q : K → Type 0) → ((k : K) → P k → Q k) → (items : List (K × ℕ))
    → AllKeys P items → AllKeys Q items
all_up P Q h [] a = tt
all_up P Q h (q ∷ items) a = (h q.0 a.0, all_up P Q h items a.1)

pub all_both : {K : Type 0} (P Q : K → Type 0) (items : List (K × ℕ)) → AllKeys P items
    → AllKeys Q items → AllKeys (λ k. P k × Q k) items
all_both P Q [] a b = tt
all_both P Q (q ∷ items) a b = ((a.0, b.0), all_both P Q items a.1 b.1)

pub all_first : {K : Type 0} (P : K → Type 0) (xs ys : List (K × ℕ)) → AllKeys P (xs ++ ys)
    → AllKeys P xs
all_first P [] ys a = tt
all_first P (q ∷ xs) ys a = (a.0, all_first P xs ys a.1)

pub all_second : {K : Type 0} (P : K → Type 0) (xs ys : List (K × ℕ)) → AllKeys P (xs ++ ys)
    → AllKeys P ys
all_second P [] ys a = a
all_second P (q ∷ xs) ys a = all_second P xs ys a.1

none_key : {K : Type 0} (test : K → Bool) (items : List (K × ℕ)) → any_key test items ≡ false
    → AllKeys (λ k. test k ≡ false) items
none_key test [] e = tt
none_key test (q ∷ items) e = let both = or_false (test q.0) (any_key test items) e in
    (both.0, none_key test items both.1)

pub any_up : {K : Type 0} (f g : K → Bool) → ((k : K) → f k ≡ true → g k ≡ true)
    → (items : List (K × ℕ)) → any_key f items ≡ true → any_key g items ≡ true
any_up f g h [] e = e
any_up f g h (q ∷ items) e = at (any_up f g h items) (f q.0) refl e
  where
    at : (any_key f items ≡ true → any_key g items ≡ true) → (b : Bool) → f q.0 ≡ b → b
        || any_key f items ≡ true → g q.0 || any_key g items ≡ true
    at later true is e = or_left (g q.0) (any_key g items) (h q.0 is)
    at later false is e = or_right (g q.0) (any_key g items) (later e)

any_same : {K : Type 0} (f g : K → Bool) → ((k : K) → f k ≡ g k) → (items : List (K × ℕ))
    → any_key f items ≡ any_key g items
any_same f g h [] = refl
any_same f g h (q ∷ items) =
    ap (λ b. b || any_key f items) (h q.0) ∙ ap (λ b. g q.0 || b) (any_same f g h items)

if_up : (f g : Name → Bool) → ((p : Name) → f p ≡ true → g p ≡ true) → (t : Option Name)
    → if_object_of f t ≡ true → if_object_of g t ≡ true
if_up f g h None e = e
if_up f g h (Some p) e = h p e

if_same : (f g : Name → Bool) (t : Option Name) → ((p : Name) → t ≡ Some p → f p ≡ g p)
    → if_object_of f t ≡ if_object_of g t
if_same f g None h = refl
if_same f g (Some p) h = h p refl

-- a key that does not move asks for the same object, or has the same number
pub unmoved : (t u : Option Name) (old new : ℕ) → is_moved t u old new ≡ false → (u ≡ t)
    × (t ≡ None → new ≡ old)
unmoved None None old new e = (refl, λ none. eqb-true new old (not_false (nat_eq new old) e))
unmoved None (Some p) old new e = absurd (let clash : true ≡ false = e in cc)
unmoved (Some p) None old new e = absurd (let clash : true ≡ false = e in cc)
unmoved (Some p) (Some q) old new e = (
  ap Some (equal-true q p (not_false (equal q p) e)),
  λ none. absurd
      (let clash : ◌≡◌ {A = Option Name} (Some p) None = none in cc),
)

module _ {K C R S F : Type 0} (x : Situation K C R S F) (w : Picture K C) (number : K → ℕ)
    (among : (k : K) (p : Name) → x.picture.target k ≡ Some p → IsIn p x.picture.objects) where
  -- through more reads no fewer are touched
  more : (n : ℕ) (o : Name) → is_touched x w number n o ≡ true → is_touched x w number (suc n) o
      ≡ true
  more zero o e = or_left (is_touched_first x w number o)
      (any_key (λ k. if_object_of (is_touched x w number zero) (x.picture.target k))
      (items_at x w number o)) e
  more (suc n) o e =
      or_up (is_touched_first x w number o)
      (any_key (λ k. if_object_of (is_touched x w number n) (x.picture.target k))
      (items_at x w number o))
      (any_key (λ k. if_object_of (is_touched x w number (suc n)) (x.picture.target k))
      (items_at x w number o))
      (any_up (λ k. if_object_of (is_touched x w number n) (x.picture.target k))
      (λ k. if_object_of (is_touched x w number (suc n)) (x.picture.target k))
      (λ k. if_up (is_touched x w number n) (is_touched x w number (suc n)) (more n)
      (x.picture.target k)) (items_at x w number o))
      e

  spared : ℕ → Name → Bool
  spared n o = not (is_touched x w number n o)

  fewer_spared : (n : ℕ) (o : Name) → spared (suc n) o ≡ true → spared n o ≡ true
  unfolding spared
  fewer_spared n o e = ap not (true_else (is_touched x w number n o)
      (λ t. let clash : true ≡ false =
      sym (more n o t) ∙ not_true (is_touched x w number (suc n) o) e in cc))

  abbrev SameLevels : ℕ → ℕ → Type 0
  SameLevels m n = (p : Name) → IsIn p x.picture.objects → is_touched x w number m p
      ≡ is_touched x w number n p

  still : (k : ℕ) × (k ≤ length x.picture.objects) × SameLevels (suc k) k
  unfolding spared
  still =
      let r = stands_still (λ n. how_many (spared n) x.picture.objects)
      (λ n. fewer (spared (suc n)) (spared n) (fewer_spared n) x.picture.objects)
      (length x.picture.objects) (how_many_most (spared 0) x.picture.objects) in (
        r.0,
        r.1,
        λ p i. not_same (is_touched x w number (suc r.0) p) (is_touched x w number r.0 p)
            (as_many (spared (suc r.0)) (spared r.0) (fewer_spared r.0) x.picture.objects r.2 p i),
      )

  next_same : (m n : ℕ) → SameLevels m n → (o : Name) → is_touched x w number (suc m) o
      ≡ is_touched x w number (suc n) o
  next_same m n h o =
      ap (λ b. is_touched_first x w number o || b)
      (any_same (λ k. if_object_of (is_touched x w number m) (x.picture.target k))
      (λ k. if_object_of (is_touched x w number n) (x.picture.target k))
      (λ k. if_same (is_touched x w number m) (is_touched x w number n) (x.picture.target k)
      (λ p e. h p (among k p e))) (items_at x w number o))

  from_still : (d k : ℕ) → SameLevels (suc k) k → SameLevels (d + k) k
  from_still zero k h p i = let e : 0 + k ≡ k = omega arith in ap (λ n. is_touched x w number n p) e
  from_still (suc d) k h p i =
      let e : suc d + k ≡ suc (d + k) = omega arith in
      ap (λ n. is_touched x w number n p) e ∙ next_same (d + k) k (from_still d k h) p ∙ h p i

  -- one more read touches no object more
  no_more : SameLevels (suc (length x.picture.objects)) (length x.picture.objects)
  no_more p i =
      let s = still in
      let n = length x.picture.objects in
      let e : n ≡ (n - s.0) + s.0 = omega (arith, s.1) in
      let all : SameLevels n s.0 =
      λ q j. ap (λ m. is_touched x w number m q) e ∙ from_still (n - s.0) s.0 s.2 q j in
      next_same n s.0 all p ∙ s.2 p i ∙ sym (all p i)

  -- an object that is not touched
  pub record IsSpared (o : Name) : Type 0 where
    pub is_object : is_among o w.objects ≡ true
    pub was_object : IsIn o x.picture.objects
    pub has_record : lacks_record (x.state.reads o) (x.state.checked o) ≡ false
    pub before : not (all_settled x w number) && x.state.touched o ≡ false
    pub unmoved : AllKeys (λ k. moves x w number k ≡ false) (items_at x w number o)
    pub reads : AllKeys (λ k. if_object_of (is_touched x w number (length x.picture.objects))
        (x.picture.target k) ≡ false) (items_at x w number o)

  pub is_spared : (o : Name) → touched_by x w number o ≡ false → IsSpared o
  is_spared o e =
      let n = length x.picture.objects in
      let one = or_false (not (is_among o w.objects)) (is_touched x w number n o) e in
      let first = at n one.1 in
      let two = or_false (not (is_among o x.picture.objects))
      (lacks_record (x.state.reads o) (x.state.checked o)
      || ((not (all_settled x w number) && x.state.touched o)
      || any_key (moves x w number) (items_at x w number o))) first in
      let three = or_false (lacks_record (x.state.reads o) (x.state.checked o))
      ((not (all_settled x w number) && x.state.touched o)
      || any_key (moves x w number) (items_at x w number o)) two.1 in
      let four = or_false (not (all_settled x w number) && x.state.touched o)
      (any_key (moves x w number) (items_at x w number o)) three.1 in
      let among_then = not_false (is_among o x.picture.objects) two.0 in
      let was = in_among o x.picture.objects among_then in
      let next = no_more o was ∙ one.1 in
      let five = or_false (is_touched_first x w number o)
      (any_key (λ k. if_object_of (is_touched x w number n) (x.picture.target k))
      (items_at x w number o)) next in
      record {
        is_object = not_false (is_among o w.objects) one.0;
        was_object = was;
        has_record = three.0;
        before = four.0;
        unmoved = none_key (moves x w number) (items_at x w number o) four.1;
        reads = none_key (λ k. if_object_of (is_touched x w number n) (x.picture.target k))
            (items_at x w number o) five.1;
      }
    where
      at : (n : ℕ) → is_touched x w number n o ≡ false → is_touched_first x w number o ≡ false
      at zero e = e
      at (suc n) e = (or_false (is_touched_first x w number o)
          (any_key (λ k. if_object_of (is_touched x w number n) (x.picture.target k))
          (items_at x w number o)) e).0
