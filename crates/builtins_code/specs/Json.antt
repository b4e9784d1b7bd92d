-- JSON texts (RFC 8259) and trees.
use Rattle.std.specs.Prelude.{Bool, true, false, not, ◌&&◌, ◌||◌, pos, List, [], ◌∷◌, is_some, unwrap_or, Result, Err, if◌then◌else◌}
use Rattle.serde_json.specs.Data.{Data, number, string, array, object, Members, no_members, member}
use Rattle.serde_json.specs.Data as js
use Rattle.serde_json.specs.Find.{as_i64}
use Rattle.serde_json.specs.Read.{read}
use Rattle.base.specs.Answers.{given}
use Rattle.path_tree.specs.Grammar.{is_key}
use Rattle.path_tree.specs.Lists.{within_limits}
use Rattle.path_tree.specs.Plain.{Plain, dict, list, text, long, boolean, undef, null, Items, no_items, item, Fields, no_fields, field}
use Rattle.path_tree.specs.Values.{text_value}
use Rattle.path_tree.specs.declared.refused.Refused.{Refused}
use Rattle.path_tree.specs.declared.refused.Refused.TheVariants.{BadArgument, BadIndex}
use Rattle.json_profile.specs.Json.{json_text_of}

-- an undef or a null is the tree, or is in it
abbrev mutual
  pub holds_undef : Plain → Bool
  holds_undef (dict fs) = field_holds_undef fs
  holds_undef (list ts) = item_holds_undef ts
  holds_undef undef = true
  holds_undef null = true
  holds_undef (text bytes) = false
  holds_undef (long z) = false
  holds_undef (boolean b) = false

  pub item_holds_undef : Items → Bool
  item_holds_undef no_items = false
  item_holds_undef (item t ts) = holds_undef t || item_holds_undef ts

  pub field_holds_undef : Fields → Bool
  field_holds_undef no_fields = false
  field_holds_undef (field k t fs) = holds_undef t || field_holds_undef fs

-- json_encode(v): v as compact JSON, keys in byte order
abbrev pub json_encode_of : List Plain → Result Plain Refused
json_encode_of (v ∷ []) =
    if holds_undef v then Err BadArgument else text_value (json_text_of v)
json_encode_of _ = Err BadArgument

-- each number is one of 64 bits with a sign
abbrev mutual
  pub are_longs : Data → Bool
  are_longs (number n) = is_some (as_i64 n)
  are_longs (array ds) = items_are_longs ds
  are_longs (object ms) = members_are_longs ms
  are_longs (string s) = true
  are_longs (js.boolean b) = true
  are_longs js.null = true

  pub items_are_longs : js.Items → Bool
  items_are_longs js.no_items = true
  items_are_longs (js.item d ds) = are_longs d && items_are_longs ds

  pub members_are_longs : Members → Bool
  members_are_longs no_members = true
  members_are_longs (member k d ms) = are_longs d && members_are_longs ms

-- each name of a member is a key
abbrev mutual
  pub are_keys : Data → Bool
  are_keys (array ds) = items_are_keys ds
  are_keys (object ms) = members_are_keys ms
  are_keys (number n) = true
  are_keys (string s) = true
  are_keys (js.boolean b) = true
  are_keys js.null = true

  pub items_are_keys : js.Items → Bool
  items_are_keys js.no_items = true
  items_are_keys (js.item d ds) = are_keys d && items_are_keys ds

  pub members_are_keys : Members → Bool
  members_are_keys no_members = true
  members_are_keys (member k d ms) = is_key k && (are_keys d && members_are_keys ms)

-- null gives undef; the members of an object, which stand in byte order, each name once with its
-- last value, give the fields of a dict
abbrev mutual
  pub tree_of : Data → Plain
  tree_of js.null = undef
  tree_of (js.boolean b) = boolean b
  tree_of (number n) = long (unwrap_or (as_i64 n) (pos 0))
  tree_of (string s) = text s
  tree_of (array ds) = list (items_trees ds)
  tree_of (object ms) = dict (members_trees ms)

  pub items_trees : js.Items → Items
  items_trees js.no_items = no_items
  items_trees (js.item d ds) = item (tree_of d) (items_trees ds)

  pub members_trees : Members → Fields
  members_trees no_members = no_fields
  members_trees (member k d ms) = field k (tree_of d) (members_trees ms)

-- first the numbers, then the keys, then the size and the height
abbrev pub value_of : Data → Result Plain Refused
value_of d =
    if not (are_longs d) then Err BadArgument
    else if not (are_keys d) then Err BadIndex
    else within_limits (tree_of d)

-- json_decode(t): the tree of what the crate serde_json reads in t
abbrev pub json_decode_of : List Plain → Result Plain Refused
json_decode_of (text t ∷ []) = given BadArgument (read t) value_of
json_decode_of _ = Err BadArgument
