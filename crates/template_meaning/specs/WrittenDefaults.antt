-- The defaults that are written in a type.
use Rattle.std.specs.Prelude.{List, [], ◌∷◌, ◌++◌, Option, Some, None}
use Rattle.pan_ast.specs.Syntax.{Item}
use Rattle.pan_ast.specs.Types.{FullType, Full, TypeForm, Formed, Head, Named, Record, Choice, Field, Own, Include, Fields, none, more}

abbrev pub written : Option Item → List Item
written None = []
written (Some i) = i ∷ []

abbrev mutual
  -- their items, in the order of the text: a type's own stands behind those of its fields
  pub defaults_in : FullType → List Item
  defaults_in (Full form default test) = form_defaults form ++ written default

  pub form_defaults : TypeForm → List Item
  form_defaults (Formed head suffixes) = head_defaults head

  pub head_defaults : Head → List Item
  head_defaults (Named name p bounds) = []
  head_defaults (Record extensible fs) = fields_defaults fs
  head_defaults (Choice texts) = []

  pub fields_defaults : Fields → List Item
  fields_defaults none = []
  fields_defaults (more f fs) = field_defaults f ++ fields_defaults fs

  pub field_defaults : Field → List Item
  field_defaults (Own k p required full) = defaults_in full
  field_defaults (Include p name q) = []
