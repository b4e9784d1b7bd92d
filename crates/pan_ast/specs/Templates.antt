-- The syntax of a template as plain data.
use Rattle.std.specs.Prelude.{ℕ, Bool, List}
use Rattle.pan_ast.specs.declared.place.Place.{Place}
use Rattle.pan_ast.specs.declared.template.TemplateKind.{TemplateKind}
use Rattle.pan_ast.specs.Syntax.{Item}
use Rattle.pan_ast.specs.Types.{FullType}

-- the first Bool of an assignment or a variable says `final`, the second `?=`
pub data StatementForm : Type 0 where
  Assign : Bool → List ℕ → Bool → Item → StatementForm
  Variable : Bool → List ℕ → Bool → Item → StatementForm
  Function : List ℕ → Item → StatementForm
  Define : List ℕ → FullType → StatementForm
  Bind : List ℕ → FullType → StatementForm
  Valid : List ℕ → Item → StatementForm
  Include : Item → StatementForm
  Prefix : List ℕ → StatementForm
  deriving IsSet as StatementForm-set

pub record Statement : Type 0 where
  pub place : Place
  pub form : StatementForm
  deriving IsSet as Statement-set

pub record Template : Type 0 where
  pub kind : TemplateKind
  pub name : List ℕ
  pub name_place : Place
  pub place : Place
  pub statements : List Statement
  deriving IsSet as Template-set
