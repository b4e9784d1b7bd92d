-- What a statement is in a structure template.
use Rattle.std.specs.Prelude.{◌≡◌, Bool, true, false}
use Rattle.pan_ast.specs.Seen.{item_seen}
use Rattle.pan_ast.specs.Templates.{StatementForm}
use Rattle.pan_ast.specs.Templates as statement
use Rattle.dml_leaves.specs.declared.making.StructureForm.{StructureForm}
use Rattle.dml_leaves.specs.declared.making.StructureForm.TheVariants as form

abbrev pub is_wrong : StatementForm → Bool
is_wrong (statement.Assign false d c i) = false
is_wrong (statement.Include i) = false
is_wrong f = true

abbrev pub IsStructureForm : StatementForm → StructureForm → Type 0
IsStructureForm f (form.Assign d c i) = f ≡ statement.Assign false d.now c (item_seen i.now)
IsStructureForm f (form.Include i) = f ≡ statement.Include (item_seen i.now)
IsStructureForm f form.Wrong = is_wrong f ≡ true
