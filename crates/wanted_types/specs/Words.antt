-- A type as words for a reader, without the names that it has.
use Rattle.std.specs.Prelude.{ℕ, ℤ, Bool, true, false, ◌||◌, List, [], ◌∷◌, ◌++◌, take, length, nat_lt, if◌then◌else◌, ◌-◌, Option, Some, None, is_some, codes}
use Rattle.std.specs.List.{flat_map}
use Rattle.std.specs.Fmt.{signed_decimal}
use Rattle.type_defs.specs.Resolved.{Resolved, Known, Shape, OfBase, Named, Ranged, ListOf, DictOf, Link, Record, Choice, Fields, none, more}
use Rattle.type_defs.specs.declared.resolved.Base.{Base}
use Rattle.type_defs.specs.declared.resolved.Base.TheVariants as base
use Rattle.type_defs.specs.declared.resolved.Range.{Range}
use Rattle.wanted_types.specs.declared.words.TheConstants.{MAX_NAMES}

abbrev pub base_word : Base → List ℕ
base_word base.Text = codes "string"
base_word base.Long = codes "long"
base_word base.Boolean = codes "boolean"
base_word base.Number = codes "number"
base_word base.Property = codes "property"
base_word base.Resource = codes "resource"
base_word base.Element = codes "element"
base_word base.List = codes "list"
base_word base.Dict = codes "dict"

abbrev pub end_text : Option ℤ → List ℕ
end_text None = []
end_text (Some z) = signed_decimal z

-- `(LOW..HIGH)`, and nothing for a range without ends
abbrev pub range_text : Range → List ℕ
range_text r =
    if is_some r.low || is_some r.high
    then codes "(" ++ end_text r.low ++ codes ".." ++ end_text r.high ++ codes ")" else []

abbrev pub quoted : List ℕ → List ℕ
quoted text = codes "'" ++ text ++ codes "'"

abbrev pub later_names : List ℕ → List ℕ
later_names text = codes ", " ++ quoted text

abbrev pub rest_mark : ℕ → List ℕ
rest_mark count = if nat_lt MAX_NAMES count then codes ", .." else []

-- the first of these texts in quotes, and a mark where there are more
abbrev pub names : List (List ℕ) → List ℕ
names [] = []
names (text ∷ texts) =
    quoted text ++ flat_map later_names (take (MAX_NAMES - 1) texts)
    ++ rest_mark (length (text ∷ texts))

abbrev pub keys_in : Fields → List (List ℕ)
keys_in none = []
keys_in (more k r t fs) = k ∷ keys_in fs

abbrev pub choices : List (List ℕ) → List ℕ
choices texts = codes "one of " ++ names texts

abbrev pub dict_words : List (List ℕ) → List ℕ
dict_words [] = codes "a dict"
dict_words (key ∷ keys) = codes "a dict with " ++ names (key ∷ keys)

-- the keys that a dict may have, for one who looks for a key among them
abbrev pub fields_words : List (List ℕ) → List ℕ
fields_words [] = codes "a dict without keys"
fields_words (key ∷ keys) = codes "one of the fields " ++ names (key ∷ keys)

abbrev mutual
  -- a value has to pass a test, that of the type or of one that it names
  pub is_tested : Resolved → Bool
  is_tested (Known s c n d) = is_some c || shape_tested s

  pub shape_tested : Shape → Bool
  shape_tested (OfBase b) = false
  shape_tested (Named t) = is_tested t
  shape_tested (Ranged t r) = is_tested t
  shape_tested (ListOf t r) = false
  shape_tested (DictOf t r) = false
  shape_tested (Link t) = false
  shape_tested (Record e fs) = false
  shape_tested (Choice texts) = false

abbrev pub test_text : Bool → List ℕ
test_text true = codes " that passes its test"
test_text false = []

abbrev mutual
  -- a type, without its test
  pub words : Resolved → List ℕ
  words (Known s c n d) = shape_words s

  pub shape_words : Shape → List ℕ
  shape_words (OfBase b) = base_word b
  shape_words (Named t) = words t
  shape_words (Ranged t r) = words t ++ range_text r
  shape_words (ListOf t r) = codes "list" ++ range_text r ++ codes " of " ++ words t
  shape_words (DictOf t r) = codes "dict" ++ range_text r ++ codes " of " ++ words t
  shape_words (Link t) = codes "a link to " ++ words t ++ test_text (is_tested t)
  shape_words (Record e fs) = dict_words (keys_in fs)
  shape_words (Choice texts) = choices texts

abbrev pub type_text : Resolved → List ℕ
type_text t = words t ++ test_text (is_tested t)
