-- The names of types.
use Rattle.std.specs.Prelude.{ℕ, Bool, ◌==◌, ◌||◌, if◌then◌else◌, List, [], ◌∷◌, codes, bytes_eq, Option, Some, None, is_some}
use Rattle.std.specs.Cmp.Lexicographic.{pointwise}
use Rattle.type_defs.specs.Resolved.{Resolved}
use Rattle.type_defs.specs.declared.resolved.Base.{Base}
use Rattle.type_defs.specs.declared.resolved.Base.TheVariants as base

-- the names that the language gives
abbrev pub base_words : List (List ℕ × Base)
base_words =
    (codes "string", base.Text) ∷ (codes "long", base.Long) ∷ (codes "boolean", base.Boolean)
    ∷ (codes "number", base.Number) ∷ (codes "property", base.Property)
    ∷ (codes "resource", base.Resource) ∷ (codes "element", base.Element)
    ∷ (codes "list", base.List) ∷ (codes "dict", base.Dict) ∷ (codes "nlist", base.Dict) ∷ []

abbrev pub base_among : List ℕ → List (List ℕ × Base) → Option Base
base_among name [] = None
base_among name (w ∷ ws) = if pointwise ◌==◌ name w.0 then Some w.1 else base_among name ws

abbrev pub base_of : List ℕ → Option Base
base_of name = base_among name base_words

-- what the names that were defined stand for
abbrev pub Defined : Type 0
Defined = List ℕ → Option Resolved

-- a name that no definition may take: a base type, `choice`, or one that is defined
abbrev pub is_taken : Defined → List ℕ → Bool
is_taken known name =
    is_some (base_of name) || pointwise ◌==◌ name (codes "choice") || is_some (known name)

-- the definitions with one more
abbrev pub with_type : List ℕ → Resolved → Defined → Defined
with_type name t known n = if bytes_eq name n then Some t else known n
