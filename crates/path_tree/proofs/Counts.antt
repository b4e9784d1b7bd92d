-- How many children a tree has.
use Rattle.std.proofs.Common.{◌≤◌, arith}
use Rattle.path_tree.specs.Plain.{Plain, dict, list, text, long, boolean, undef, null, Items, no_items, item, Fields, no_fields, field, tree_size, items_size, fields_size}
use Rattle.path_tree.specs.Find.{child_count, item_count, field_count}

pub one_le-size : (t : Plain) → 1 ≤ tree_size t
one_le-size (dict fs) = omega arith
one_le-size (list ts) = omega arith
one_le-size (text b) = omega arith
one_le-size (long z) = omega arith
one_le-size (boolean b) = omega arith
one_le-size undef = omega arith
one_le-size null = omega arith

items_few : (ts : Items) → item_count ts ≤ items_size ts
items_few no_items = omega arith
items_few (item t ts) = omega (arith, items_few ts, one_le-size t)

fields_few : (fs : Fields) → field_count fs ≤ fields_size fs
fields_few no_fields = omega arith
fields_few (field k t fs) = omega (arith, fields_few fs, one_le-size t)

-- a tree has no more children than its size
pub few_children : (t : Plain) → child_count t ≤ tree_size t
few_children (dict fs) = omega (arith, fields_few fs)
few_children (list ts) = omega (arith, items_few ts)
few_children (text b) = omega arith
few_children (long z) = omega arith
few_children (boolean b) = omega arith
few_children undef = omega arith
few_children null = omega arith
