-- A tree as JSON.
use Rattle.std.specs.Prelude.{ℕ, List, [], ◌∷◌, ◌++◌}
use Rattle.std.specs.Fmt.{signed_decimal}
use Rattle.json.specs.Json.{Json, null, boolean, number, string, array, object, Members, no_members, member}
use Rattle.json.specs.Json as js
use Rattle.json.specs.Print.{print}
use Rattle.json.specs.Tree.{json_tokens}
use Rattle.path_tree.specs.Plain.{Plain, dict, list, text, long, undef, Items, no_items, item, Fields, no_fields, field}
use Rattle.base.specs.Characters.{line_feed}
use Rattle.path_tree.specs.Plain as plain

-- an undef or a null is written as null; no profile holds one
abbrev mutual
  pub json : Plain → Json
  json (dict fs) = object (fields_json fs)
  json (list ts) = array (items_json ts)
  json (text bs) = string bs
  json (long z) = number (signed_decimal z)
  json (plain.boolean b) = boolean b
  json undef = null
  json plain.null = null

  pub items_json : Items → js.Items
  items_json no_items = js.no_items
  items_json (item t ts) = js.item (json t) (items_json ts)

  pub fields_json : Fields → Members
  fields_json no_fields = no_members
  fields_json (field k t fs) = member k (json t) (fields_json fs)

-- compact JSON
abbrev pub json_text_of : Plain → List ℕ
json_text_of t = print (json_tokens (json t))

-- one line of it, and a line feed
abbrev pub profile_of : Plain → List ℕ
profile_of t = json_text_of t ++ line_feed ∷ []
