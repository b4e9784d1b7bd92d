-- What a removal leaves.
use Rattle.std.proofs.Common.{◌≡◌, ℕ, zero, suc, ◌+◌, ◌<◌, ◌≤◌, max, List, [], ◌∷◌, length, Option, Some, None, IsSome, option_and_then, refl, ap, sym, ◌∙◌, subst, arith}
use Rattle.std.specs.List.{remove as without}
use Rattle.std.specs.Ordering.{nat_cmp, match_ordering}
use Rattle.std.specs.Cmp.Lexicographic.{slice_cmp, nat_list_cmp_total}
use Rattle.std.specs.declared.cmp.Ordering.{Ordering}
use Rattle.std.specs.declared.cmp.Ordering.TheVariants.{Less, Equal, Greater}
use Rattle.path_tree.specs.Plain.{Plain, dict, list, text, long, boolean, undef, null, Items, no_items, item, Fields, no_fields, field, tree_size, tree_height, items_size, items_height, fields_size, fields_height, IsTree, AreItems, AreFields, IsBefore}
use Rattle.path_tree.specs.Find.{find_field, item_at, child, get}
use Rattle.path_tree.specs.Put.{put_field, put_item}
use Rattle.path_tree.specs.Remove.{remove_field, remove_item, change_field, change_item, remove_child, change_child, remove}
use Rattle.path_tree.specs.Kept.{FitsMade, IsInside, IsLessened}
use Rattle.path_tree.specs.View.{IsDict, IsList, dict_seen, list_seen, fields_of, items_of}
use Rattle.path_tree.specs.declared.path.Term.{Term}
use Rattle.path_tree.specs.declared.path.Term.TheVariants as term
use Rattle.path_tree.specs.declared.tree.Dict.{Dict}
use Rattle.path_tree.specs.declared.tree.Items.{Items as Itemed}
use Rattle.path_tree.specs.declared.tree.Measure.{Measure}
use Rattle.path_tree.proofs.Sizes.{IsChange, changes_field, changes_item}
use Rattle.path_tree.proofs.Whole.{fields_put, items_put}

-- a change of a child is a put of the changed child
module _ (k l : List ℕ) (u c : Plain) (fs : Fields) (change : Plain → Plain) where
  change_at : (o : Ordering) → match_ordering o None (Some u) (find_field k fs) ≡ Some c
      → (find_field k fs ≡ Some c → change_field k change fs ≡ put_field k (change c) fs)
      → match_ordering o (field l u fs) (field l (change u) fs)
      (field l u (change_field k change fs)) ≡ match_ordering o (field k (change c) (field l u fs))
      (field l (change c) fs) (field l u (put_field k (change c) fs))
  change_at Less e ih = cc
  change_at Equal e ih = let same : u ≡ c = cc in rw same refl
  change_at Greater e ih = ap (field l u) (ih e)

pub change_field_is : (k : List ℕ) (c : Plain) (change : Plain → Plain) (fs : Fields)
    → find_field k fs ≡ Some c → change_field k change fs ≡ put_field k (change c) fs
change_field_is k c change no_fields e = cc
change_field_is k c change (field l u fs) e =
    change_at k l u c fs change (slice_cmp nat_cmp k l) e (change_field_is k c change fs)

pub change_item_is : (i : ℕ) (c : Plain) (change : Plain → Plain) (ts : Items) → item_at i ts
    ≡ Some c → change_item i change ts ≡ put_item i (change c) ts
change_item_is zero c change no_items e = cc
change_item_is (suc i) c change no_items e = cc
change_item_is zero c change (item u us) e = let same : u ≡ c = cc in rw same refl
change_item_is (suc i) c change (item u us) e = ap (item u) (change_item_is i c change us e)

pub remove_further : (m : Term) (ms : List Term) (t : Plain) → 0 < length ms → remove (m ∷ ms) t
    ≡ change_child m (remove ms) t
remove_further m [] t h = absurd (omega arith)
remove_further m (n ∷ ms) t h = refl

-- nothing grows
pub record Shrinks (t u : Plain) : Type 0 where
  pub size : tree_size u ≤ tree_size t
  pub height : tree_height u ≤ tree_height t

record FieldsShrink (fs gs : Fields) : Type 0 where
  size : fields_size gs ≤ fields_size fs
  height : fields_height gs ≤ fields_height fs

record ItemsShrink (ts us : Items) : Type 0 where
  size : items_size us ≤ items_size ts
  height : items_height us ≤ items_height ts

as_is : (t : Plain) → Shrinks t t
as_is t = record { size = omega arith; height = omega arith }

module _ (k l : List ℕ) (u : Plain) (fs : Fields) where
  lose_at : (o : Ordering) → FieldsShrink fs (remove_field k fs)
      → FieldsShrink (field l u fs) (match_ordering o (field l u fs) fs
      (field l u (remove_field k fs)))
  lose_at Less h = record { size = omega arith; height = omega arith }
  lose_at Equal h = record { size = omega arith; height = omega arith }
  lose_at Greater h = record { size = omega (arith, h.size); height = omega (arith, h.height) }

  shrink_at : (change : Plain → Plain) → Shrinks u (change u) → (o : Ordering)
      → FieldsShrink fs (change_field k change fs) → FieldsShrink (field l u fs)
      (match_ordering o (field l u fs) (field l (change u) fs)
      (field l u (change_field k change fs)))
  shrink_at change s Less h = record { size = omega arith; height = omega arith }
  shrink_at change s Equal h =
      record { size = omega (arith, s.size); height = omega (arith, s.height) }
  shrink_at change s Greater h =
      record { size = omega (arith, h.size); height = omega (arith, h.height) }

fields_lose : (k : List ℕ) (fs : Fields) → FieldsShrink fs (remove_field k fs)
fields_lose k no_fields = record { size = omega arith; height = omega arith }
fields_lose k (field l u fs) = lose_at k l u fs (slice_cmp nat_cmp k l) (fields_lose k fs)

items_lose : (i : ℕ) (ts : Items) → ItemsShrink ts (remove_item i ts)
items_lose zero no_items = record { size = omega arith; height = omega arith }
items_lose (suc i) no_items = record { size = omega arith; height = omega arith }
items_lose zero (item u us) = record { size = omega arith; height = omega arith }
items_lose (suc i) (item u us) = let h = items_lose i us in
    record { size = omega (arith, h.size); height = omega (arith, h.height) }

module _ (change : Plain → Plain) (s : (t : Plain) → Shrinks t (change t)) where
  fields_shrink : (k : List ℕ) (fs : Fields) → FieldsShrink fs (change_field k change fs)
  fields_shrink k no_fields = record { size = omega arith; height = omega arith }
  fields_shrink k (field l u fs) =
      shrink_at k l u fs change (s u) (slice_cmp nat_cmp k l) (fields_shrink k fs)

  items_shrink : (i : ℕ) (ts : Items) → ItemsShrink ts (change_item i change ts)
  items_shrink zero no_items = record { size = omega arith; height = omega arith }
  items_shrink (suc i) no_items = record { size = omega arith; height = omega arith }
  items_shrink zero (item u us) = let h = s u in
      record { size = omega (arith, h.size); height = omega (arith, h.height) }
  items_shrink (suc i) (item u us) = let h = items_shrink i us in
      record { size = omega (arith, h.size); height = omega (arith, h.height) }

  child_shrinks : (m : Term) (t : Plain) → Shrinks t (change_child m change t)
  child_shrinks (term.Key k) (dict fs) = let h = fields_shrink k fs in
      record { size = omega (arith, h.size); height = omega (arith, h.height) }
  child_shrinks (term.Index i) (dict fs) = as_is (dict fs)
  child_shrinks (term.Key k) (list ts) = as_is (list ts)
  child_shrinks (term.Index i) (list ts) = let h = items_shrink i ts in
      record { size = omega (arith, h.size); height = omega (arith, h.height) }
  child_shrinks (term.Key k) (text b) = as_is (text b)
  child_shrinks (term.Index i) (text b) = as_is (text b)
  child_shrinks (term.Key k) (long z) = as_is (long z)
  child_shrinks (term.Index i) (long z) = as_is (long z)
  child_shrinks (term.Key k) (boolean b) = as_is (boolean b)
  child_shrinks (term.Index i) (boolean b) = as_is (boolean b)
  child_shrinks (term.Key k) undef = as_is undef
  child_shrinks (term.Index i) undef = as_is undef
  child_shrinks (term.Key k) null = as_is null
  child_shrinks (term.Index i) null = as_is null

child_lost : (m : Term) (t : Plain) → Shrinks t (remove_child m t)
child_lost (term.Key k) (dict fs) = let h = fields_lose k fs in
    record { size = omega (arith, h.size); height = omega (arith, h.height) }
child_lost (term.Index i) (dict fs) = as_is (dict fs)
child_lost (term.Key k) (list ts) = as_is (list ts)
child_lost (term.Index i) (list ts) = let h = items_lose i ts in
    record { size = omega (arith, h.size); height = omega (arith, h.height) }
child_lost (term.Key k) (text b) = as_is (text b)
child_lost (term.Index i) (text b) = as_is (text b)
child_lost (term.Key k) (long z) = as_is (long z)
child_lost (term.Index i) (long z) = as_is (long z)
child_lost (term.Key k) (boolean b) = as_is (boolean b)
child_lost (term.Index i) (boolean b) = as_is (boolean b)
child_lost (term.Key k) undef = as_is undef
child_lost (term.Index i) undef = as_is undef
child_lost (term.Key k) null = as_is null
child_lost (term.Index i) null = as_is null

pub shrinks : (ms : List Term) (t : Plain) → Shrinks t (remove ms t)
shrinks [] t = as_is t
shrinks (m ∷ []) t = child_lost m t
shrinks (m ∷ n ∷ ms) t = child_shrinks (remove (n ∷ ms)) (shrinks (n ∷ ms)) m t

-- what is lost with a child
pub record IsLoss (c t u : Plain) : Type 0 where
  pub size : tree_size t ≡ tree_size u + tree_size c
  pub height : max (tree_height u) (tree_height c + 1) ≡ tree_height t

record FieldLoss (k : List ℕ) (c : Plain) (fs : Fields) : Type 0 where
  size : fields_size fs ≡ fields_size (remove_field k fs) + tree_size c
  height : max (fields_height (remove_field k fs)) (tree_height c) ≡ fields_height fs

module _ (k l : List ℕ) (u c : Plain) (fs : Fields) where
  loss_at : (o : Ordering) → slice_cmp nat_cmp k l ≡ o
      → match_ordering o None (Some u) (find_field k fs) ≡ Some c
      → (find_field k fs ≡ Some c → FieldLoss k c fs) → FieldLoss k c (field l u fs)
  loss_at Less is e ih = cc
  loss_at Equal is e ih = let same : u ≡ c = cc in
      record {
        size = rw is (omega (arith, ap tree_size same));
        height =
            rw is (omega (arith, ap tree_height same));
      }
  loss_at Greater is e ih = let h = ih e in
      record { size = rw is (omega (arith, h.size)); height = rw is (omega (arith, h.height)) }

field_loss : (k : List ℕ) (c : Plain) (fs : Fields) → find_field k fs ≡ Some c → FieldLoss k c fs
field_loss k c no_fields e = cc
field_loss k c (field l u fs) e =
    loss_at k l u c fs (slice_cmp nat_cmp k l) refl e (field_loss k c fs)

record ItemLoss (i : ℕ) (c : Plain) (ts : Items) : Type 0 where
  size : items_size ts ≡ items_size (remove_item i ts) + tree_size c
  height : max (items_height (remove_item i ts)) (tree_height c) ≡ items_height ts

item_loss : (i : ℕ) (c : Plain) (ts : Items) → item_at i ts ≡ Some c → ItemLoss i c ts
item_loss zero c no_items e = cc
item_loss (suc i) c no_items e = cc
item_loss zero c (item u us) e = let same : u ≡ c = cc in
    record { size = omega (arith, ap tree_size same); height = omega (arith, ap tree_height same) }
item_loss (suc i) c (item u us) e = let h = item_loss i c us e in
    record { size = omega (arith, h.size); height = omega (arith, h.height) }

pub loses_field : (k : List ℕ) (c : Plain) (fs : Fields) → find_field k fs ≡ Some c
    → IsLoss c (dict fs) (dict (remove_field k fs))
loses_field k c fs e = let h = field_loss k c fs e in
    record { size = omega (arith, h.size); height = omega (arith, h.height) }

pub loses_item : (i : ℕ) (c : Plain) (ts : Items) → item_at i ts ≡ Some c
    → IsLoss c (list ts) (list (remove_item i ts))
loses_item i c ts e = let h = item_loss i c ts e in
    record { size = omega (arith, h.size); height = omega (arith, h.height) }

pub lessened : (c t u : Plain) → IsLoss c t u → (was high : ℕ) → was ≡ tree_size t → high
    ≡ tree_height t → (gone : Measure) → gone.size ≡ tree_size c → gone.height ≡ tree_height c
    → IsLessened u was high gone
lessened c t u h was high is_was is_high gone gs gh =
    record {
      size = omega (arith, h.size, is_was, gs);
      height =
          omega (arith, h.height, is_high, gh);
    }

-- the limits
pub loss_fits : (c t u : Plain) → IsLoss c t u → IsTree t → FitsMade u
loss_fits c t u h tree =
    record {
      size = omega (arith, h.size, tree.size);
      height =
          omega (arith, h.height, tree.height);
    }

pub shrunk_fits : (f : Plain → Plain) (c t w : Plain) → IsChange f c t → Shrinks c w → IsTree t
    → FitsMade (f w)
shrunk_fits f c t w h s tree =
    record {
      size = omega (arith, h.size w, s.size, tree.size);
      height =
          omega (arith, h.height w, h.below, s.height, tree.height);
    }

-- the order of the keys
before_next : (l m : List ℕ) (fs : Fields) → slice_cmp nat_cmp l m ≡ Less → IsBefore m fs
    → IsBefore l fs
before_next l m no_fields h b = tt
before_next l m (field n u fs) h b = nat_list_cmp_total.trans l m n h b

before_removed_at : (l k m : List ℕ) (u : Plain) (fs : Fields) (o : Ordering)
    → slice_cmp nat_cmp l m ≡ Less → IsBefore m fs
    → IsBefore l (match_ordering o (field m u fs) fs (field m u (remove_field k fs)))
before_removed_at l k m u fs Less h b = h
before_removed_at l k m u fs Equal h b = before_next l m fs h b
before_removed_at l k m u fs Greater h b = h

before_removed : (l k : List ℕ) (fs : Fields) → IsBefore l fs → AreFields fs
    → IsBefore l (remove_field k fs)
before_removed l k no_fields b a = tt
before_removed l k (field m u fs) b a = before_removed_at l k m u fs (slice_cmp nat_cmp k m) b a.3

module _ (k l : List ℕ) (u : Plain) (fs : Fields) (a : AreFields (field l u fs)) where
  removed_at : (o : Ordering) → AreFields (remove_field k fs)
      → AreFields (match_ordering o (field l u fs) fs (field l u (remove_field k fs)))
  removed_at Less ih = a
  removed_at Equal ih = a.4
  removed_at Greater ih = (a.0, a.1, a.2, before_removed l k fs a.3 a.4, ih)

pub fields_removed : (k : List ℕ) (fs : Fields) → AreFields fs → AreFields (remove_field k fs)
fields_removed k no_fields a = a
fields_removed k (field l u fs) a =
    removed_at k l u fs a (slice_cmp nat_cmp k l) (fields_removed k fs a.4)

pub items_removed : (i : ℕ) (ts : Items) → AreItems ts → AreItems (remove_item i ts)
items_removed zero no_items a = a
items_removed (suc i) no_items a = a
items_removed zero (item u us) a = a.2
items_removed (suc i) (item u us) a = (a.0, a.1, items_removed i us a.2)

-- what a container keeps
pub lost_kept : (d e : Dict) (k : List ℕ) (c : Plain) → IsDict d
    → find_field k (fields_of d.entries.items) ≡ Some c → fields_of e.entries.items
    ≡ remove_field k (fields_of d.entries.items) → e.size ≡ tree_size (dict_seen e) → e.height
    ≡ tree_height (dict_seen e) → IsDict e
lost_kept d e k c kept found is size height =
    let fits = loss_fits c (dict_seen d) (dict (remove_field k (fields_of d.entries.items)))
    (loses_field k c (fields_of d.entries.items) found) kept.tree in
    record {
      tree = subst (λ fs. IsTree (dict fs)) (sym is)
          (record {
            whole = fields_removed k (fields_of d.entries.items) kept.tree.whole;
            size =
                fits.size;
            height = fits.height;
          });
      size = size;
      height = height;
    }

pub lost_item_kept : (d e : Itemed) (i : ℕ) (c : Plain) → IsList d
    → item_at i (items_of d.items.items) ≡ Some c → items_of e.items.items
    ≡ remove_item i (items_of d.items.items) → e.size ≡ tree_size (list_seen e) → e.height
    ≡ tree_height (list_seen e) → IsList e
lost_item_kept d e i c kept found is size height =
    let fits = loss_fits c (list_seen d) (list (remove_item i (items_of d.items.items)))
    (loses_item i c (items_of d.items.items) found) kept.tree in
    record {
      tree = subst (λ ts. IsTree (list ts)) (sym is)
          (record {
            whole = items_removed i (items_of d.items.items) kept.tree.whole;
            size =
                fits.size;
            height = fits.height;
          });
      size = size;
      height = height;
    }

pub shrunk_kept : (d e : Dict) (k : List ℕ) (c w : Plain) → IsDict d
    → find_field k (fields_of d.entries.items) ≡ Some c → Shrinks c w → IsInside w
    → fields_of e.entries.items ≡ put_field k w (fields_of d.entries.items) → e.size
    ≡ tree_size (dict_seen e) → e.height ≡ tree_height (dict_seen e) → IsDict e
shrunk_kept d e k c w kept found s inside is size height =
    let fits = shrunk_fits (λ u. dict (put_field k u (fields_of d.entries.items))) c (dict_seen d) w
    (changes_field k c (fields_of d.entries.items) found) s kept.tree in
    record {
      tree = subst (λ fs. IsTree (dict fs)) (sym is)
          (record {
            whole = fields_put k w (fields_of d.entries.items)
                (λ none. some_none (sym found ∙ none)) inside kept.tree.whole;
            size = fits.size;
            height =
                fits.height;
          });
      size = size;
      height = height;
    }
  where
    some : Plain → Option Plain
    some t = Some t

    some_none : {X : Type 0} → some c ≡ None → X
    some_none h = absurd (never h)
      where
        never : some c ≡ None → ⊥
        never e = cc

pub shrunk_item_kept : (d e : Itemed) (i : ℕ) (c w : Plain) → IsList d
    → item_at i (items_of d.items.items) ≡ Some c → Shrinks c w → IsInside w
    → items_of e.items.items ≡ put_item i w (items_of d.items.items) → e.size
    ≡ tree_size (list_seen e) → e.height ≡ tree_height (list_seen e) → IsList e
shrunk_item_kept d e i c w kept found s inside is size height =
    let fits = shrunk_fits (λ u. list (put_item i u (items_of d.items.items))) c (list_seen d) w
    (changes_item i c (items_of d.items.items) found) s kept.tree in
    record {
      tree = subst (λ ts. IsTree (list ts)) (sym is)
          (record {
            whole = items_put i w (items_of d.items.items) inside kept.tree.whole;
            size =
                fits.size;
            height = fits.height;
          });
      size = size;
      height = height;
    }

-- an item that is taken out of a list
pub remove_item_of : (ts : List Plain) (i : ℕ) → i < length ts → items_of (without ts i)
    ≡ remove_item i (items_of ts)
remove_item_of [] i h = absurd (omega arith)
remove_item_of (t ∷ ts) zero h = refl
remove_item_of (t ∷ ts) (suc i) h = ap (item t) (remove_item_of ts i (omega arith))

-- what is there is there below
pub there_below : (ms : List Term) (o : Option Plain) (c : Plain) → o ≡ Some c
    → IsSome (option_and_then (get ms) o) → IsSome (get ms c)
there_below ms o c is h = subst (λ p. IsSome (option_and_then (get ms) p)) is h

pub not_there : (ms : List Term) (o : Option Plain) (t u : Plain) → o ≡ None
    → IsSome (option_and_then (get ms) o) → t ≡ u
not_there ms (Some c) t u is h = cc
not_there ms None t u is h = cc

-- what is not there is left
module _ (k l : List ℕ) (u : Plain) (fs : Fields) where
  left_at : (o : Ordering) → match_ordering o None (Some u) (find_field k fs) ≡ None
      → (find_field k fs ≡ None → remove_field k fs ≡ fs)
      → match_ordering o (field l u fs) fs (field l u (remove_field k fs)) ≡ field l u fs
  left_at Less e ih = refl
  left_at Equal e ih = cc
  left_at Greater e ih = ap (field l u) (ih e)

  kept_at : (change : Plain → Plain) (o : Ordering)
      → ((c : Plain) → match_ordering o None (Some u) (find_field k fs) ≡ Some c → change c ≡ c)
      → (((c : Plain) → find_field k fs ≡ Some c → change c ≡ c) → change_field k change fs ≡ fs)
      → match_ordering o (field l u fs) (field l (change u) fs)
      (field l u (change_field k change fs)) ≡ field l u fs
  kept_at change Less h ih = refl
  kept_at change Equal h ih = ap (λ t. field l t fs) (h u refl)
  kept_at change Greater h ih = ap (field l u) (ih h)

field_left : (k : List ℕ) (fs : Fields) → find_field k fs ≡ None → remove_field k fs ≡ fs
field_left k no_fields e = refl
field_left k (field l u fs) e = left_at k l u fs (slice_cmp nat_cmp k l) e (field_left k fs)

field_same : (k : List ℕ) (change : Plain → Plain) (fs : Fields)
    → ((c : Plain) → find_field k fs ≡ Some c → change c ≡ c) → change_field k change fs ≡ fs
field_same k change no_fields h = refl
field_same k change (field l u fs) h =
    kept_at k l u fs change (slice_cmp nat_cmp k l) h (field_same k change fs)

item_left : (i : ℕ) (ts : Items) → item_at i ts ≡ None → remove_item i ts ≡ ts
item_left zero no_items e = refl
item_left (suc i) no_items e = refl
item_left zero (item u us) e = cc
item_left (suc i) (item u us) e = ap (item u) (item_left i us e)

item_same : (i : ℕ) (change : Plain → Plain) (ts : Items)
    → ((c : Plain) → item_at i ts ≡ Some c → change c ≡ c) → change_item i change ts ≡ ts
item_same zero change no_items h = refl
item_same (suc i) change no_items h = refl
item_same zero change (item u us) h = ap (λ t. item t us) (h u refl)
item_same (suc i) change (item u us) h = ap (item u) (item_same i change us h)

child_left : (m : Term) (t : Plain) → child m t ≡ None → remove_child m t ≡ t
child_left (term.Key k) (dict fs) e = ap dict (field_left k fs e)
child_left (term.Index i) (dict fs) e = refl
child_left (term.Key k) (list ts) e = refl
child_left (term.Index i) (list ts) e = ap list (item_left i ts e)
child_left (term.Key k) (text b) e = refl
child_left (term.Index i) (text b) e = refl
child_left (term.Key k) (long z) e = refl
child_left (term.Index i) (long z) e = refl
child_left (term.Key k) (boolean b) e = refl
child_left (term.Index i) (boolean b) e = refl
child_left (term.Key k) undef e = refl
child_left (term.Index i) undef e = refl
child_left (term.Key k) null e = refl
child_left (term.Index i) null e = refl

child_same : (m : Term) (change : Plain → Plain) (t : Plain)
    → ((c : Plain) → child m t ≡ Some c → change c ≡ c) → change_child m change t ≡ t
child_same (term.Key k) change (dict fs) h = ap dict (field_same k change fs h)
child_same (term.Index i) change (dict fs) h = refl
child_same (term.Key k) change (list ts) h = refl
child_same (term.Index i) change (list ts) h = ap list (item_same i change ts h)
child_same (term.Key k) change (text b) h = refl
child_same (term.Index i) change (text b) h = refl
child_same (term.Key k) change (long z) h = refl
child_same (term.Index i) change (long z) h = refl
child_same (term.Key k) change (boolean b) h = refl
child_same (term.Index i) change (boolean b) h = refl
child_same (term.Key k) change undef h = refl
child_same (term.Index i) change undef h = refl
child_same (term.Key k) change null h = refl
child_same (term.Index i) change null h = refl

none_below : (ms : List Term) (o : Option Plain) (c : Plain) → option_and_then (get ms) o ≡ None → o
    ≡ Some c → get ms c ≡ None
none_below ms None c h is = cc
none_below ms (Some d) c h is = let same : d ≡ c = cc in rw (← same) h

none_here : (o : Option Plain) → option_and_then (get []) o ≡ None → o ≡ None
none_here None h = refl
none_here (Some d) h = cc

pub left : (ms : List Term) (t : Plain) → get ms t ≡ None → remove ms t ≡ t
left [] t e = refl
left (m ∷ []) t e = child_left m t (none_here (child m t) e)
left (m ∷ n ∷ ms) t e = child_same m (remove (n ∷ ms)) t
    (λ c is. left (n ∷ ms) c (none_below (n ∷ ms) (child m t) c e is))
