-- The size and the height of a tree in which a child is changed or added.
use Rattle.std.proofs.Common.{◌≡◌, ℕ, zero, suc, ◌+◌, ◌-◌, ◌≤◌, max, List, Some, None, refl, ap, arith}
use Rattle.std.specs.Ordering.{nat_cmp, match_ordering}
use Rattle.std.specs.Cmp.Lexicographic.{slice_cmp}
use Rattle.std.specs.declared.cmp.Ordering.{Ordering}
use Rattle.std.specs.declared.cmp.Ordering.TheVariants.{Less, Equal, Greater}
use Rattle.path_tree.specs.Plain.{Plain, dict, list, text, long, boolean, undef, null, Items, no_items, item, Fields, no_fields, field, tree_size, items_size, fields_size, tree_height, items_height, fields_height}
use Rattle.path_tree.specs.Find.{find_field, item_at, item_count}
use Rattle.path_tree.specs.Put.{put_field, put_item}

-- no tree is higher than it is large
mutual
  pub height_le-size : (t : Plain) → tree_height t ≤ tree_size t
  height_le-size (dict fs) = omega (arith, fields_height_le-size fs)
  height_le-size (list ts) = omega (arith, items_height_le-size ts)
  height_le-size (text b) = omega arith
  height_le-size (long z) = omega arith
  height_le-size (boolean b) = omega arith
  height_le-size undef = omega arith
  height_le-size null = omega arith

  items_height_le-size : (ts : Items) → items_height ts ≤ items_size ts
  items_height_le-size no_items = omega arith
  items_height_le-size (item t ts) = omega (arith, height_le-size t, items_height_le-size ts)

  fields_height_le-size : (fs : Fields) → fields_height fs ≤ fields_size fs
  fields_height_le-size no_fields = omega arith
  fields_height_le-size (field k t fs) = omega (arith, height_le-size t, fields_height_le-size fs)

pub one_le-height : (t : Plain) → 1 ≤ tree_height t
one_le-height (dict fs) = omega arith
one_le-height (list ts) = omega arith
one_le-height (text b) = omega arith
one_le-height (long z) = omega arith
one_le-height (boolean b) = omega arith
one_le-height undef = omega arith
one_le-height null = omega arith

-- f gives the tree t with another tree in the place of its child c
pub record IsChange (f : Plain → Plain) (c t : Plain) : Type 0 where
  pub size : (w : Plain) → tree_size (f w) + tree_size c ≡ tree_size t + tree_size w
  pub reaches : (w : Plain) → tree_height w + 1 ≤ tree_height (f w)
  pub height : (w : Plain) → max (tree_height (f w)) (tree_height c + 1)
      ≡ max (tree_height t) (tree_height w + 1)
  pub below : tree_height c + 1 ≤ tree_height t
  pub smaller : tree_size c + 1 ≤ tree_size t

-- f gives the tree t with n undefs and another tree added
pub record IsAddition (f : Plain → Plain) (n : ℕ) (t : Plain) : Type 0 where
  pub size : (w : Plain) → tree_size (f w) ≡ tree_size t + n + tree_size w
  pub height : (w : Plain) → tree_height (f w) ≡ max (tree_height t) (tree_height w + 1)

-- fields
pub record FieldChange (k : List ℕ) (c : Plain) (fs : Fields) : Type 0 where
  pub size : (w : Plain) → fields_size (put_field k w fs) + tree_size c
      ≡ fields_size fs + tree_size w
  pub reaches : (w : Plain) → tree_height w ≤ fields_height (put_field k w fs)
  pub height : (w : Plain) → max (fields_height (put_field k w fs)) (tree_height c)
      ≡ max (fields_height fs) (tree_height w)
  pub below : tree_height c ≤ fields_height fs
  pub smaller : tree_size c ≤ fields_size fs

pub record FieldAddition (k : List ℕ) (fs : Fields) : Type 0 where
  pub size : (w : Plain) → fields_size (put_field k w fs) ≡ fields_size fs + tree_size w
  pub height : (w : Plain) → fields_height (put_field k w fs)
      ≡ max (fields_height fs) (tree_height w)

module _ (k l : List ℕ) (u : Plain) (fs : Fields) where
  change_at : (o : Ordering) → slice_cmp nat_cmp k l ≡ o → (c : Plain)
      → (find_field k fs ≡ Some c → FieldChange k c fs)
      → match_ordering o None (Some u) (find_field k fs) ≡ Some c → FieldChange k c (field l u fs)
  change_at Less is c ih e = cc
  change_at Equal is c ih e =
      let same : u ≡ c = cc in
      record {
        size = λ w. rw is (omega (arith, ap tree_size same));
        reaches = λ w. rw is (omega arith);
        height = λ w. rw is (omega (arith, ap tree_height same));
        below = omega (arith, ap tree_height same);
        smaller = omega (arith, ap tree_size same);
      }
  change_at Greater is c ih e =
      let h = ih e in
      record {
        size = λ w. rw is (omega (arith, h.size w));
        reaches = λ w. rw is (omega (arith, h.reaches w));
        height = λ w. rw is (omega (arith, h.height w));
        below = omega (arith, h.below);
        smaller = omega (arith, h.smaller);
      }

  addition_at : (o : Ordering) → slice_cmp nat_cmp k l ≡ o
      → (find_field k fs ≡ None → FieldAddition k fs)
      → match_ordering o None (Some u) (find_field k fs) ≡ None → FieldAddition k (field l u fs)
  addition_at Less is ih e = record {
    size = λ w. rw is (omega arith);
    height = λ w. rw is (omega arith);
  }
  addition_at Equal is ih e = cc
  addition_at Greater is ih e =
      let h = ih e in
      record {
        size = λ w. rw is (omega (arith, h.size w));
        height = λ w. rw is (omega (arith, h.height w));
      }

field_change : (k : List ℕ) (c : Plain) (fs : Fields) → find_field k fs ≡ Some c
    → FieldChange k c fs
field_change k c no_fields e = cc
field_change k c (field l u fs) e =
    change_at k l u fs (slice_cmp nat_cmp k l) refl c (field_change k c fs) e

field_addition : (k : List ℕ) (fs : Fields) → find_field k fs ≡ None → FieldAddition k fs
field_addition k no_fields e = record {
  size = λ w. omega arith;
  height = λ w. omega arith;
}
field_addition k (field l u fs) e =
    addition_at k l u fs (slice_cmp nat_cmp k l) refl (field_addition k fs) e

pub changes_field : (k : List ℕ) (c : Plain) (fs : Fields) → find_field k fs ≡ Some c
    → IsChange (λ w. dict (put_field k w fs)) c (dict fs)
changes_field k c fs e =
    let h = field_change k c fs e in
    record {
      size = λ w. omega (arith, h.size w);
      reaches = λ w. omega (arith, h.reaches w);
      height = λ w. omega (arith, h.height w);
      below = omega (arith, h.below);
      smaller = omega (arith, h.smaller);
    }

pub adds_field : (k : List ℕ) (fs : Fields) → find_field k fs ≡ None
    → IsAddition (λ w. dict (put_field k w fs)) 0 (dict fs)
adds_field k fs e =
    let h = field_addition k fs e in
    record {
      size = λ w. omega (arith, h.size w);
      height = λ w. omega (arith, h.height w);
    }

-- items
pub record ItemChange (i : ℕ) (c : Plain) (ts : Items) : Type 0 where
  pub size : (w : Plain) → items_size (put_item i w ts) + tree_size c ≡ items_size ts + tree_size w
  pub reaches : (w : Plain) → tree_height w ≤ items_height (put_item i w ts)
  pub height : (w : Plain) → max (items_height (put_item i w ts)) (tree_height c)
      ≡ max (items_height ts) (tree_height w)
  pub below : tree_height c ≤ items_height ts
  pub smaller : tree_size c ≤ items_size ts

item_change : (i : ℕ) (c : Plain) (ts : Items) → item_at i ts ≡ Some c → ItemChange i c ts
item_change zero c no_items e = cc
item_change (suc i) c no_items e = cc
item_change zero c (item u us) e =
    let same : u ≡ c = cc in
    record {
      size = λ w. omega (arith, ap tree_size same);
      reaches = λ w. omega arith;
      height = λ w. omega (arith, ap tree_height same);
      below = omega (arith, ap tree_height same);
      smaller = omega (arith, ap tree_size same);
    }
item_change (suc i) c (item u us) e =
    let h = item_change i c us e in
    record {
      size = λ w. omega (arith, h.size w);
      reaches = λ w. omega (arith, h.reaches w);
      height = λ w. omega (arith, h.height w);
      below = omega (arith, h.below);
      smaller = omega (arith, h.smaller);
    }

pub record ItemAddition (i : ℕ) (ts : Items) : Type 0 where
  pub past : item_count ts ≤ i
  pub size : (w : Plain) → items_size (put_item i w ts) + item_count ts
      ≡ items_size ts + i + tree_size w
  pub height : (w : Plain) → items_height (put_item i w ts) ≡ max (items_height ts) (tree_height w)

item_addition : (i : ℕ) (ts : Items) → item_at i ts ≡ None → ItemAddition i ts
item_addition zero no_items e = record {
  past = omega arith;
  size = λ w. omega arith;
  height = λ w. omega arith;
}
item_addition zero (item u us) e = cc
item_addition (suc i) no_items e =
    let h = item_addition i no_items refl in
    record {
      past = omega arith;
      size = λ w. omega (arith, h.size w);
      height = λ w. omega (arith, h.height w, one_le-height w);
    }
item_addition (suc i) (item u us) e =
    let h = item_addition i us e in
    record {
      past = omega (arith, h.past);
      size = λ w. omega (arith, h.size w);
      height = λ w. omega (arith, h.height w);
    }

pub changes_item : (i : ℕ) (c : Plain) (ts : Items) → item_at i ts ≡ Some c
    → IsChange (λ w. list (put_item i w ts)) c (list ts)
changes_item i c ts e =
    let h = item_change i c ts e in
    record {
      size = λ w. omega (arith, h.size w);
      reaches = λ w. omega (arith, h.reaches w);
      height = λ w. omega (arith, h.height w);
      below = omega (arith, h.below);
      smaller = omega (arith, h.smaller);
    }

pub adds_item : (i : ℕ) (ts : Items) → item_at i ts ≡ None
    → IsAddition (λ w. list (put_item i w ts)) (i - item_count ts) (list ts)
adds_item i ts e =
    let h = item_addition i ts e in
    record {
      size = λ w. omega (arith, h.size w, h.past);
      height = λ w. omega (arith, h.height w);
    }
