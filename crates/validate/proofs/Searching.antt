-- The search for an undef in the children of a value, one after the other.
use Rattle.std.proofs.Common.{◌≡◌, ℕ, ◌+◌, ◌<◌, List, [], Option, Some, None, refl, ap}
use Rattle.path_tree.specs.Plain.{Plain, dict, list, text, long, boolean, undef, null}
use Rattle.path_tree.specs.Children.{child_fields, child_items, fields_from, items_from}
use Rattle.path_tree.specs.Find.{child_at, child_count, key_at, kind_of}
use Rattle.path_tree.specs.declared.kind.Kind.TheVariants as kind
use Rattle.path_tree.proofs.Children.{dict_child, dict_end, dict_key, dict_step, list_child, list_end, list_step}
use Rattle.validate.specs.Checked.{first_undef, or_else, undef_in_fields, undef_in_items}
use Rattle.validate.specs.Walks.{undef_at_index, undef_at_key}
use Rattle.validate.proofs.Walking.{items_start, fields_start}

-- what is found, by the kind of the value
pub undef_found : (t : Plain) → kind_of t ≡ kind.Undef → first_undef t ≡ Some []
undef_found undef h = refl
undef_found (dict fs) h = cc
undef_found (list ts) h = cc
undef_found (text bs) h = cc
undef_found (long z) h = cc
undef_found (boolean b) h = cc
undef_found null h = cc

pub list_found : (t : Plain) → kind_of t ≡ kind.List → first_undef t
    ≡ undef_in_items 0 (child_items t)
list_found (list ts) h = refl
list_found (dict fs) h = cc
list_found (text bs) h = cc
list_found (long z) h = cc
list_found (boolean b) h = cc
list_found undef h = cc
list_found null h = cc

pub dict_found : (t : Plain) → kind_of t ≡ kind.Dict → first_undef t
    ≡ undef_in_fields (child_fields t)
dict_found (dict fs) h = refl
dict_found (list ts) h = cc
dict_found (text bs) h = cc
dict_found (long z) h = cc
dict_found (boolean b) h = cc
dict_found undef h = cc
dict_found null h = cc

pub none_in_text : (t : Plain) → kind_of t ≡ kind.Text → first_undef t ≡ None
none_in_text (text bs) h = refl
none_in_text (dict fs) h = cc
none_in_text (list ts) h = cc
none_in_text (long z) h = cc
none_in_text (boolean b) h = cc
none_in_text undef h = cc
none_in_text null h = cc

pub none_in_long : (t : Plain) → kind_of t ≡ kind.Long → first_undef t ≡ None
none_in_long (long z) h = refl
none_in_long (dict fs) h = cc
none_in_long (list ts) h = cc
none_in_long (text bs) h = cc
none_in_long (boolean b) h = cc
none_in_long undef h = cc
none_in_long null h = cc

pub none_in_boolean : (t : Plain) → kind_of t ≡ kind.Bool → first_undef t ≡ None
none_in_boolean (boolean b) h = refl
none_in_boolean (dict fs) h = cc
none_in_boolean (list ts) h = cc
none_in_boolean (text bs) h = cc
none_in_boolean (long z) h = cc
none_in_boolean undef h = cc
none_in_boolean null h = cc

pub none_in_null : (t : Plain) → kind_of t ≡ kind.Null → first_undef t ≡ None
none_in_null null h = refl
none_in_null (dict fs) h = cc
none_in_null (list ts) h = cc
none_in_null (text bs) h = cc
none_in_null (long z) h = cc
none_in_null (boolean b) h = cc
none_in_null undef h = cc

one_item : (i : ℕ) (t : Plain) (c : Option Plain) → kind_of t ≡ kind.List → i < child_count t
    → child_at i t ≡ c → undef_in_items i (items_from i t)
    ≡ or_else (undef_at_index i c) (undef_in_items (i + 1) (items_from (i + 1) t))
one_item i t None is within child = absurd (list_child t i is within child)
one_item i t (Some c) is within child = ap (undef_in_items i) (list_step t i c is child)

pub items_more : (i : ℕ) (t : Plain) → kind_of t ≡ kind.List → i < child_count t
    → undef_in_items i (items_from i t) ≡ or_else (undef_at_index i (child_at i t))
    (undef_in_items (i + 1) (items_from (i + 1) t))
items_more i t is within = one_item i t (child_at i t) is within refl

pub items_end : (i : ℕ) (t : Plain) → kind_of t ≡ kind.List → i ≡ child_count t
    → undef_in_items i (items_from i t) ≡ None
items_end i t is end = ap (undef_in_items i) (list_end t i is end)

one_field : (i : ℕ) (t : Plain) (k : Option (List ℕ)) (c : Option Plain) → kind_of t ≡ kind.Dict
    → i < child_count t → key_at i t ≡ k → child_at i t ≡ c → undef_in_fields (fields_from i t)
    ≡ or_else (undef_at_key k c) (undef_in_fields (fields_from (i + 1) t))
one_field i t None c is within key child = absurd (dict_key t i is within key)
one_field i t (Some k) None is within key child = absurd (dict_child t i is within child)
one_field i t (Some k) (Some c) is within key child =
    ap undef_in_fields (dict_step t i k c is key child)

pub fields_more : (i : ℕ) (t : Plain) → kind_of t ≡ kind.Dict → i < child_count t
    → undef_in_fields (fields_from i t) ≡ or_else (undef_at_key (key_at i t) (child_at i t))
    (undef_in_fields (fields_from (i + 1) t))
fields_more i t is within = one_field i t (key_at i t) (child_at i t) is within refl refl

pub fields_end : (i : ℕ) (t : Plain) → kind_of t ≡ kind.Dict → i ≡ child_count t
    → undef_in_fields (fields_from i t) ≡ None
fields_end i t is end = ap undef_in_fields (dict_end t i is end)

pub ruleset finds = (
  undef_found,
  list_found,
  dict_found,
  none_in_text,
  none_in_long,
  none_in_boolean,
  none_in_null,
)

pub ruleset in_items = (items_start, items_more, items_end)

pub ruleset in_fields = (fields_start, fields_more, fields_end)
