-- The children of a tree from one on.
use Rattle.std.specs.Prelude.{ℕ, zero, suc}
use Rattle.path_tree.specs.Plain.{Plain, dict, list, text, long, boolean, undef, null, Items, no_items, item, Fields, no_fields, field}

abbrev pub child_fields : Plain → Fields
child_fields (dict fs) = fs
child_fields (list ts) = no_fields
child_fields (text bytes) = no_fields
child_fields (long z) = no_fields
child_fields (boolean b) = no_fields
child_fields undef = no_fields
child_fields null = no_fields

abbrev pub child_items : Plain → Items
child_items (dict fs) = no_items
child_items (list ts) = ts
child_items (text bytes) = no_items
child_items (long z) = no_items
child_items (boolean b) = no_items
child_items undef = no_items
child_items null = no_items

abbrev pub drop_fields : ℕ → Fields → Fields
drop_fields n no_fields = no_fields
drop_fields zero (field k t fs) = field k t fs
drop_fields (suc n) (field k t fs) = drop_fields n fs

abbrev pub drop_items : ℕ → Items → Items
drop_items n no_items = no_items
drop_items zero (item t ts) = item t ts
drop_items (suc n) (item t ts) = drop_items n ts

-- the fields of a dict, and the items of a list, from one on
abbrev pub fields_from : ℕ → Plain → Fields
fields_from n t = drop_fields n (child_fields t)

abbrev pub items_from : ℕ → Plain → Items
items_from n t = drop_items n (child_items t)
