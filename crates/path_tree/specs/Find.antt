-- What is found in a tree.
use Rattle.std.specs.Prelude.{ℕ, zero, suc, ℤ, Bool, List, [], ◌∷◌, Option, Some, None, option_and_then}
use Rattle.std.specs.Ordering.{nat_cmp, match_ordering}
use Rattle.std.specs.Cmp.Lexicographic.{slice_cmp}
use Rattle.path_tree.specs.Plain.{Plain, dict, list, text, long, boolean, undef, null, Items, no_items, item, Fields, no_fields, field}
use Rattle.path_tree.specs.declared.path.Term.{Term}
use Rattle.path_tree.specs.declared.kind.Kind.{Kind}
use Rattle.path_tree.specs.declared.kind.Kind.TheVariants as kind
use Rattle.path_tree.specs.declared.path.Term.TheVariants as term

-- the value of a key, among fields in byte order of their keys
abbrev pub find_field : List ℕ → Fields → Option Plain
find_field k no_fields = None
find_field k (field l t fs) = match_ordering (slice_cmp nat_cmp k l) None (Some t) (find_field k fs)

abbrev pub item_at : ℕ → Items → Option Plain
item_at n no_items = None
item_at zero (item t ts) = Some t
item_at (suc n) (item t ts) = item_at n ts

-- what a term finds in a tree
abbrev pub child : Term → Plain → Option Plain
child (term.Key k) (dict fs) = find_field k fs
child (term.Index i) (list ts) = item_at i ts
child m t = None

-- what terms find, each in what the one before found
abbrev pub get : List Term → Plain → Option Plain
get [] t = Some t
get (m ∷ ms) t = option_and_then (get ms) (child m t)

abbrev pub value_at : ℕ → Fields → Option Plain
value_at n no_fields = None
value_at zero (field k t fs) = Some t
value_at (suc n) (field k t fs) = value_at n fs

-- the i-th child, of a dict in byte order of keys
abbrev pub child_at : ℕ → Plain → Option Plain
child_at i (dict fs) = value_at i fs
child_at i (list ts) = item_at i ts
child_at i (text bs) = None
child_at i (long z) = None
child_at i (boolean b) = None
child_at i undef = None
child_at i null = None

abbrev pub field_key_at : ℕ → Fields → Option (List ℕ)
field_key_at n no_fields = None
field_key_at zero (field k t fs) = Some k
field_key_at (suc n) (field k t fs) = field_key_at n fs

-- the i-th key of a dict, in byte order
abbrev pub key_at : ℕ → Plain → Option (List ℕ)
key_at i (dict fs) = field_key_at i fs
key_at i (list ts) = None
key_at i (text bs) = None
key_at i (long z) = None
key_at i (boolean b) = None
key_at i undef = None
key_at i null = None

abbrev pub item_count : Items → ℕ
item_count no_items = 0
item_count (item t ts) = suc (item_count ts)

abbrev pub field_count : Fields → ℕ
field_count no_fields = 0
field_count (field k t fs) = suc (field_count fs)

-- how many items a dict or a list has
abbrev pub child_count : Plain → ℕ
child_count (dict fs) = field_count fs
child_count (list ts) = item_count ts
child_count (text bs) = 0
child_count (long z) = 0
child_count (boolean b) = 0
child_count undef = 0
child_count null = 0

abbrev pub text_of : Plain → Option (List ℕ)
text_of (text bs) = Some bs
text_of (dict fs) = None
text_of (list ts) = None
text_of (long z) = None
text_of (boolean b) = None
text_of undef = None
text_of null = None

abbrev pub long_of : Plain → Option ℤ
long_of (long z) = Some z
long_of (dict fs) = None
long_of (list ts) = None
long_of (text bs) = None
long_of (boolean b) = None
long_of undef = None
long_of null = None

abbrev pub boolean_of : Plain → Option Bool
boolean_of (boolean b) = Some b
boolean_of (dict fs) = None
boolean_of (list ts) = None
boolean_of (text bs) = None
boolean_of (long z) = None
boolean_of undef = None
boolean_of null = None

abbrev pub kind_of : Plain → Kind
kind_of (dict fs) = kind.Dict
kind_of (list ts) = kind.List
kind_of (text bs) = kind.Text
kind_of (long z) = kind.Long
kind_of (boolean b) = kind.Bool
kind_of undef = kind.Undef
kind_of null = kind.Null
