use Rattle.std.proofs.Common.{◌≡◌, [], drop}
use Rattle.pan_ast.specs.TypesSeen.{fields_seen}
use Rattle.type_defs.specs.Fields.{IsMeasured, done_seen}
use Rattle.type_defs.specs.Resolving.{fields_resolved}
use Rattle.type_defs.specs.Tables.{known}
use Rattle.type_defs.proofs.resolving.+resolving.Given as goal

-- what is done and what is left gives the whole
abbrev pub invariant-resolve_fields-loop-field : goal.invariant-resolve_fields-loop-field
invariant-resolve_fields-loop-field l = record {
  gives : fields_resolved (known l.types) l.template (fields_seen (drop l.field-index l.fields))
      (done_seen l.done) l.left
      ≡ fields_resolved (known l.types) l.template (fields_seen l.fields) [] l.values;
  measured : IsMeasured l.done;
}
