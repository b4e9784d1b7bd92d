-- What an evaluation is told how to open, of which one level is given and the next is made.
use Rattle.std.specs.Prelude.{List, Option}
use Rattle.path_tree.specs.Plain.{Plain}
use Rattle.path_tree.specs.declared.operators.UnaryOp.{UnaryOp}
use Rattle.pan_ast.specs.declared.place.Place.{Place}
use Rattle.pan_ast.specs.Syntax.{Item, Node, Reference}
use Rattle.dml_meaning.specs.Run.{Run}
use Rattle.dml_meaning.specs.Around.{Around}

-- why a reference stands as an argument: to be read, to be deleted by a call at a place, to be
-- changed
pub data Purpose : Type 0 where
  ToRead : Purpose
  ToDelete : Place → Purpose
  ToChange : Purpose

-- the values of a reference's indexes, as many as were looked at, and what they lead to
pub record Reached : Type 0 where
  pub keys : List Plain
  pub value : Option Plain

-- what can be opened: an item, an operator before its operand, an argument that is a reference, by
-- its item's place
pub record Means : Type 0 where
  pub opens : Around → Item → Run Plain
  pub signs : Around → Place → UnaryOp → Node → Run Plain
  pub reaches : Around → Purpose → Place → Reference → Run Reached
