-- How deep a type is: a base type and a choice 1, and each name, range, suffix and record 1 more
-- than the deepest type in it.
use Rattle.std.specs.Prelude.{ℕ, ◌+◌, max}
use Rattle.type_defs.specs.Resolved.{Resolved, Known, Shape, OfBase, Named, Ranged, ListOf, DictOf, Link, Record, Choice, Fields, none, more}

abbrev mutual
  pub type_depth : Resolved → ℕ
  type_depth (Known s c n d) = 1 + shape_depth s

  -- the depth of the deepest type in a shape
  pub shape_depth : Shape → ℕ
  shape_depth (OfBase b) = 0
  shape_depth (Named t) = type_depth t
  shape_depth (Ranged t r) = type_depth t
  shape_depth (ListOf t r) = type_depth t
  shape_depth (DictOf t r) = type_depth t
  shape_depth (Link t) = type_depth t
  shape_depth (Record e fs) = fields_depth fs
  shape_depth (Choice xs) = 0

  pub fields_depth : Fields → ℕ
  fields_depth none = 0
  fields_depth (more k r t fs) = max (type_depth t) (fields_depth fs)
