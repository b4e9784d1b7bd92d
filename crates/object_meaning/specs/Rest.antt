-- What a build makes besides the tree of its object: all that a check looks at, and the log of the
-- changes that made the tree.
use Rattle.std.specs.Prelude.{List}
use Rattle.pan_ast.specs.declared.change.Change.{Change}
use Rattle.pan_ast.specs.declared.place.Place.{Place}
use Rattle.assign_rules.specs.Globals.{GlobalsValue}
use Rattle.dml_meaning.specs.Around.{Function}
use Rattle.type_defs.specs.Bindings.{Bound, Valid}

pub record Rest : Type 0 where
  -- the place of the object's header
  pub header : Place
  pub globals : GlobalsValue
  pub functions : List Function
  pub bindings : List Bound
  pub valids : List Valid
  pub log : List Change
