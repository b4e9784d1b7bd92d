-- The test for equal trees decides equality.
use Rattle.std.proofs.Common.{◌≡◌, ℕ, ℤ, Bool, true, false, ◌&&◌, List, refl, sym, ap, ◌∙◌, subst, arith}
use Rattle.std.specs.Prelude.{bytes_eq}
use Rattle.std.specs.Bool.{beq}
use Rattle.std.specs.Ordering.{int_eq}
use Rattle.std.proofs.lemmas.Bool.Decides.{Decides-int_eq}
use Rattle.std.specs.Cmp.Lexicographic.{bytes_decides}
use Rattle.path_tree.specs.Plain.{Plain, dict, list, text, long, boolean, undef, null, Items, no_items, item, Fields, no_fields, field}
use Rattle.path_tree.specs.Same.{same_tree, same_items, same_fields}

both : (a b : Bool) → a && b ≡ true → (a ≡ true) × (b ≡ true)
both true b e = (refl, e)
both false b e = cc

bytes-true : (xs ys : List ℕ) → bytes_eq xs ys ≡ true → xs ≡ ys
bytes-true xs ys e = let d = bytes_decides xs ys in grind (arith, d, e)

bytes-is : (xs : List ℕ) → bytes_eq xs xs ≡ true
bytes-is xs = let d = bytes_decides xs xs in grind (arith, d)

int-true : (z w : ℤ) → int_eq z w ≡ true → z ≡ w
int-true z w e = let d = Decides-int_eq z w in grind (arith, d, e)

int-is : (z : ℤ) → int_eq z z ≡ true
int-is z = let d = Decides-int_eq z z in grind (arith, d)

beq-true : (a b : Bool) → beq a b ≡ true → a ≡ b
beq-true true true e = refl
beq-true true false e = cc
beq-true false true e = cc
beq-true false false e = refl

beq-is : (a : Bool) → beq a a ≡ true
beq-is true = refl
beq-is false = refl

mutual
  pub same-true : (t u : Plain) → same_tree t u ≡ true → t ≡ u
  same-true (dict fs) (dict gs) e = ap dict (fields-true fs gs e)
  same-true (dict fs) (list us) e = cc
  same-true (dict fs) (text ys) e = cc
  same-true (dict fs) (long w) e = cc
  same-true (dict fs) (boolean b) e = cc
  same-true (dict fs) undef e = cc
  same-true (dict fs) null e = cc
  same-true (list ts) (dict gs) e = cc
  same-true (list ts) (list us) e = ap list (items-true ts us e)
  same-true (list ts) (text ys) e = cc
  same-true (list ts) (long w) e = cc
  same-true (list ts) (boolean b) e = cc
  same-true (list ts) undef e = cc
  same-true (list ts) null e = cc
  same-true (text xs) (dict gs) e = cc
  same-true (text xs) (list us) e = cc
  same-true (text xs) (text ys) e = ap text (bytes-true xs ys e)
  same-true (text xs) (long w) e = cc
  same-true (text xs) (boolean b) e = cc
  same-true (text xs) undef e = cc
  same-true (text xs) null e = cc
  same-true (long z) (dict gs) e = cc
  same-true (long z) (list us) e = cc
  same-true (long z) (text ys) e = cc
  same-true (long z) (long w) e = ap long (int-true z w e)
  same-true (long z) (boolean b) e = cc
  same-true (long z) undef e = cc
  same-true (long z) null e = cc
  same-true (boolean a) (dict gs) e = cc
  same-true (boolean a) (list us) e = cc
  same-true (boolean a) (text ys) e = cc
  same-true (boolean a) (long w) e = cc
  same-true (boolean a) (boolean b) e = ap boolean (beq-true a b e)
  same-true (boolean a) undef e = cc
  same-true (boolean a) null e = cc
  same-true undef (dict gs) e = cc
  same-true undef (list us) e = cc
  same-true undef (text ys) e = cc
  same-true undef (long w) e = cc
  same-true undef (boolean b) e = cc
  same-true undef undef e = refl
  same-true undef null e = cc
  same-true null (dict gs) e = cc
  same-true null (list us) e = cc
  same-true null (text ys) e = cc
  same-true null (long w) e = cc
  same-true null (boolean b) e = cc
  same-true null undef e = cc
  same-true null null e = refl

  items-true : (ts us : Items) → same_items ts us ≡ true → ts ≡ us
  items-true no_items no_items e = refl
  items-true no_items (item u us) e = cc
  items-true (item t ts) no_items e = cc
  items-true (item t ts) (item u us) e =
      let h = both (same_tree t u) (same_items ts us) e in
      let head = same-true t u h.0 in
      let tail = items-true ts us h.1 in
      cc

  fields-true : (fs gs : Fields) → same_fields fs gs ≡ true → fs ≡ gs
  fields-true no_fields no_fields e = refl
  fields-true no_fields (field l u gs) e = cc
  fields-true (field k t fs) no_fields e = cc
  fields-true (field k t fs) (field l u gs) e =
      let h = both (bytes_eq k l && same_tree t u) (same_fields fs gs) e in
      let first = both (bytes_eq k l) (same_tree t u) h.0 in
      let key = bytes-true k l first.0 in
      let head = same-true t u first.1 in
      let tail = fields-true fs gs h.1 in
      cc

mutual
  pub same-is : (t : Plain) → same_tree t t ≡ true
  same-is (dict fs) = fields-is fs
  same-is (list ts) = items-is ts
  same-is (text xs) = bytes-is xs
  same-is (long z) = int-is z
  same-is (boolean a) = beq-is a
  same-is undef = refl
  same-is null = refl

  items-is : (ts : Items) → same_items ts ts ≡ true
  items-is no_items = refl
  items-is (item t ts) = ap (λ b. b && same_items ts ts) (same-is t) ∙ items-is ts

  fields-is : (fs : Fields) → same_fields fs fs ≡ true
  fields-is no_fields = refl
  fields-is (field k t fs) =
      ap (λ b. b && same_tree t t && same_fields fs fs) (bytes-is k)
      ∙ ap (λ b. b && same_fields fs fs) (same-is t) ∙ fields-is fs

-- an answer that decides equality is the test
pub same-decides : (b : Bool) (t u : Plain) → (b ≡ true → t ≡ u) → (t ≡ u → b ≡ true) → b
    ≡ same_tree t u
same-decides true t u there back = subst (λ y. true ≡ same_tree t y) (there refl) (sym (same-is t))
same-decides false t u there back = by_test (same_tree t u) refl
  where
    by_test : (x : Bool) → same_tree t u ≡ x → false ≡ x
    by_test true is = back (same-true t u is)
    by_test false is = refl
