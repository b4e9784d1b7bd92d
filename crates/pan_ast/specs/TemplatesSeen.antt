-- The plain template that a template in memory spells.
use Rattle.std.specs.Prelude.{map}
use Rattle.pan_ast.specs.declared.template.StatementForm.{StatementForm as RStatementForm}
use Rattle.pan_ast.specs.declared.template.StatementForm.TheVariants as forms
use Rattle.pan_ast.specs.declared.template.Statement.{Statement as RStatement}
use Rattle.pan_ast.specs.declared.template.Template.{Template as RTemplate}
use Rattle.pan_ast.specs.Seen.{item_seen}
use Rattle.pan_ast.specs.TypesSeen.{full_seen}
use Rattle.pan_ast.specs.Templates.{StatementForm, Statement, Template}
use Rattle.pan_ast.specs.Templates as plain

abbrev pub form_seen : RStatementForm → StatementForm
form_seen (forms.Assign l p c i) = plain.Assign l p c (item_seen i)
form_seen (forms.Variable l n c i) = plain.Variable l n c (item_seen i)
form_seen (forms.Function n b) = plain.Function n (item_seen b.value)
form_seen (forms.Define n f) = plain.Define n (full_seen f.value)
form_seen (forms.Bind p f) = plain.Bind p (full_seen f.value)
form_seen (forms.Valid p b) = plain.Valid p (item_seen b.value)
form_seen (forms.Include i) = plain.Include (item_seen i)
form_seen (forms.Prefix p) = plain.Prefix p

abbrev pub statement_seen : RStatement → Statement
statement_seen s = record { place = s.place; form = form_seen s.form }

abbrev pub template_seen : RTemplate → Template
template_seen t = record {
  kind = t.kind;
  name = t.name;
  name_place = t.name_place;
  place = t.place;
  statements = map statement_seen t.statements.items;
}
