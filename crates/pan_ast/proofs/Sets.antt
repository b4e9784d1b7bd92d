-- Two proofs that a template, or a fault, is the same are the same: so a type may keep such a fact
-- as a ghost.
use Rattle.std.specs.Prelude.{ℕ, ℤ, Bool, List, Option, Result}
use Rattle.std.proofs.Props.{props}
use Rattle.path_tree.specs.declared.operators.UnaryOp.{UnaryOp}
use Rattle.path_tree.specs.declared.operators.BinaryOp.{BinaryOp}
use Rattle.pan_ast.specs.declared.fault.Fault.{Fault}
use Rattle.pan_ast.specs.declared.place.Place.{Place}
use Rattle.pan_ast.specs.declared.types.Bounds.{Bounds}
use Rattle.pan_ast.specs.declared.types.Suffix.{Suffix}
use Rattle.pan_ast.specs.Syntax.{Item, Item-set}
use Rattle.pan_ast.specs.Types.{FullType, FullType-set}
use Rattle.pan_ast.specs.Templates.{StatementForm, StatementForm-set, Template}

text_set : IsSet (List ℕ)
text_set = hlevel props

place_set : IsSet Place
place_set = hlevel props

int_set : IsSet ℤ
int_set = hlevel props

bool_set : IsSet Bool
bool_set = hlevel props

unary_set : IsSet UnaryOp
unary_set = hlevel props

binary_set : IsSet BinaryOp
binary_set = hlevel props

ruleset leaves = (text_set, place_set, int_set, bool_set, unary_set, binary_set, props)

pub item_set : IsSet Item
item_set = hlevel (Item-set, leaves)

option_set : IsSet (Option Item)
option_set = hlevel (item_set, props)

suffixes_set : IsSet (List Suffix)
suffixes_set = hlevel props

bounds_set : IsSet (Option Bounds)
bounds_set = hlevel props

texts_set : IsSet (List (List ℕ))
texts_set = hlevel props

pub full_set : IsSet FullType
full_set = hlevel (FullType-set, option_set, suffixes_set, bounds_set, texts_set, leaves)

form_set : IsSet StatementForm
form_set = hlevel (StatementForm-set, item_set, full_set, leaves)

pub template_set : IsSet Template
template_set = hlevel (form_set, leaves)

pub fault_set : IsSet Fault
fault_set = hlevel props

-- what a reading of a file gives
pub reading_set : IsSet (Result Template Fault)
reading_set = hlevel (template_set, fault_set, props)
