use Rattle.std.proofs.Common.{◌≡◌, ◌++◌, drop}
use Rattle.pan_ast.specs.TypesSeen.{fields_seen}
use Rattle.template_meaning.specs.WrittenDefaults.{fields_defaults}
use Rattle.plain_statements.specs.Seen.{items_at}
use Rattle.plain_statements.proofs.written_types.+written.Given as goal

abbrev pub invariant-push_of_fields-fields : goal.invariant-push_of_fields-fields
invariant-push_of_fields-fields l =
    items_at l.list.items ++ fields_defaults (fields_seen (drop l.field-index l.fields))
    ≡ items_at l.fn.list.items ++ fields_defaults (fields_seen l.fields)
