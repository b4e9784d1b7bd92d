use Rattle.std.proofs.Common.{◌≡◌, drop}
use Rattle.type_defs.specs.Tables.{all_seen}
use Rattle.type_defs.specs.Resolving.{has_field}
use Rattle.type_defs.proofs.fields.has_field.Given as goal

abbrev pub invariant-loop-field : goal.invariant-loop-field
invariant-loop-field l =
    has_field l.key (all_seen (drop l.field-index l.done)) ≡ has_field l.key (all_seen l.done)
