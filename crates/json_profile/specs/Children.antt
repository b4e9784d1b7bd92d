-- The JSON tokens of the children of a tree from one on, with the closing bracket.
use Rattle.std.specs.Prelude.{ℕ, List}
use Rattle.json.specs.Token.{Token}
use Rattle.json.specs.Tree.{items_tokens, members_tokens}
use Rattle.path_tree.specs.Children.{fields_from, items_from}
use Rattle.path_tree.specs.Plain.{Plain}
use Rattle.json_profile.specs.Json.{items_json, fields_json}

abbrev pub fields_tokens : ℕ → Plain → List Token
fields_tokens n t = members_tokens (fields_json (fields_from n t))

abbrev pub children_tokens : ℕ → Plain → List Token
children_tokens n t = items_tokens (items_json (items_from n t))
