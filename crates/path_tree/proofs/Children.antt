-- The children of a tree, one after the other.
use Rattle.std.proofs.Common.{◌≡◌, ℕ, zero, suc, ◌+◌, ◌<◌, List, Some, None, refl, sym, ap, arith}
use Rattle.path_tree.specs.Children.{drop_fields, drop_items, fields_from, items_from}
use Rattle.path_tree.specs.Plain.{Plain, dict, list, text, long, boolean, undef, null, Items, no_items, item, Fields, no_fields, field}
use Rattle.path_tree.specs.Find.{kind_of, child_count, field_count, item_count, key_at, child_at, field_key_at, value_at, item_at}
use Rattle.path_tree.specs.declared.kind.Kind.TheVariants as kind

-- fields
pub all_fields : (fs : Fields) → drop_fields 0 fs ≡ fs
all_fields no_fields = refl
all_fields (field k t fs) = refl

no_more_fields : (fs : Fields) → drop_fields (field_count fs) fs ≡ no_fields
no_more_fields no_fields = refl
no_more_fields (field k t fs) = no_more_fields fs

one_field : (fs : Fields) (i j : ℕ) (k : List ℕ) (c : Plain) → j ≡ suc i → field_key_at i fs
    ≡ Some k → value_at i fs ≡ Some c → drop_fields i fs ≡ field k c (drop_fields j fs)
one_field no_fields i j k c next key child = cc
one_field (field l t fs) zero j k c next key child = let same : l ≡ k = cc in let this : t ≡ c =
    cc in rw (next, same, this) (ap (field k c) (sym (all_fields fs)))
one_field (field l t fs) (suc i) j k c next key child =
    rw next (one_field fs i (suc i) k c refl key child)

key_there : (fs : Fields) (i : ℕ) → i < field_count fs → field_key_at i fs ≡ None → ⊥
key_there no_fields i within none = omega (arith, within)
key_there (field k t fs) zero within none = cc
key_there (field k t fs) (suc i) within none = key_there fs i (omega (arith, within)) none

value_there : (fs : Fields) (i : ℕ) → i < field_count fs → value_at i fs ≡ None → ⊥
value_there no_fields i within none = omega (arith, within)
value_there (field k t fs) zero within none = cc
value_there (field k t fs) (suc i) within none = value_there fs i (omega (arith, within)) none

pub dict_end : (t : Plain) (n : ℕ) → kind_of t ≡ kind.Dict → n ≡ child_count t → fields_from n t
    ≡ no_fields
dict_end (dict fs) n is count = rw count (no_more_fields fs)
dict_end (list ts) n is count = cc
dict_end (text bs) n is count = cc
dict_end (long z) n is count = cc
dict_end (boolean b) n is count = cc
dict_end undef n is count = cc
dict_end null n is count = cc

pub dict_step : (t : Plain) (i : ℕ) (k : List ℕ) (c : Plain) → kind_of t ≡ kind.Dict → key_at i t
    ≡ Some k → child_at i t ≡ Some c → fields_from i t ≡ field k c (fields_from (i + 1) t)
dict_step (dict fs) i k c is key child = one_field fs i (i + 1) k c (omega arith) key child
dict_step (list ts) i k c is key child = cc
dict_step (text bs) i k c is key child = cc
dict_step (long z) i k c is key child = cc
dict_step (boolean b) i k c is key child = cc
dict_step undef i k c is key child = cc
dict_step null i k c is key child = cc

pub dict_key : (t : Plain) (i : ℕ) → kind_of t ≡ kind.Dict → i < child_count t → key_at i t ≡ None
    → ⊥
dict_key (dict fs) i is within none = key_there fs i within none
dict_key (list ts) i is within none = cc
dict_key (text bs) i is within none = cc
dict_key (long z) i is within none = cc
dict_key (boolean b) i is within none = cc
dict_key undef i is within none = cc
dict_key null i is within none = cc

pub dict_child : (t : Plain) (i : ℕ) → kind_of t ≡ kind.Dict → i < child_count t → child_at i t
    ≡ None → ⊥
dict_child (dict fs) i is within none = value_there fs i within none
dict_child (list ts) i is within none = cc
dict_child (text bs) i is within none = cc
dict_child (long z) i is within none = cc
dict_child (boolean b) i is within none = cc
dict_child undef i is within none = cc
dict_child null i is within none = cc

-- items
pub all_items : (ts : Items) → drop_items 0 ts ≡ ts
all_items no_items = refl
all_items (item t ts) = refl

no_more_items : (ts : Items) → drop_items (item_count ts) ts ≡ no_items
no_more_items no_items = refl
no_more_items (item t ts) = no_more_items ts

one_item : (ts : Items) (i j : ℕ) (c : Plain) → j ≡ suc i → item_at i ts ≡ Some c → drop_items i ts
    ≡ item c (drop_items j ts)
one_item no_items i j c next child = cc
one_item (item t ts) zero j c next child = let this : t ≡ c = cc in
    rw (next, this) (ap (item c) (sym (all_items ts)))
one_item (item t ts) (suc i) j c next child = rw next (one_item ts i (suc i) c refl child)

item_there : (ts : Items) (i : ℕ) → i < item_count ts → item_at i ts ≡ None → ⊥
item_there no_items i within none = omega (arith, within)
item_there (item t ts) zero within none = cc
item_there (item t ts) (suc i) within none = item_there ts i (omega (arith, within)) none

pub list_end : (t : Plain) (n : ℕ) → kind_of t ≡ kind.List → n ≡ child_count t → items_from n t
    ≡ no_items
list_end (list ts) n is count = rw count (no_more_items ts)
list_end (dict fs) n is count = cc
list_end (text bs) n is count = cc
list_end (long z) n is count = cc
list_end (boolean b) n is count = cc
list_end undef n is count = cc
list_end null n is count = cc

pub list_step : (t : Plain) (i : ℕ) (c : Plain) → kind_of t ≡ kind.List → child_at i t ≡ Some c
    → items_from i t ≡ item c (items_from (i + 1) t)
list_step (list ts) i c is child = one_item ts i (i + 1) c (omega arith) child
list_step (dict fs) i c is child = cc
list_step (text bs) i c is child = cc
list_step (long z) i c is child = cc
list_step (boolean b) i c is child = cc
list_step undef i c is child = cc
list_step null i c is child = cc

pub list_child : (t : Plain) (i : ℕ) → kind_of t ≡ kind.List → i < child_count t → child_at i t
    ≡ None → ⊥
list_child (list ts) i is within none = item_there ts i within none
list_child (dict fs) i is within none = cc
list_child (text bs) i is within none = cc
list_child (long z) i is within none = cc
list_child (boolean b) i is within none = cc
list_child undef i is within none = cc
list_child null i is within none = cc
