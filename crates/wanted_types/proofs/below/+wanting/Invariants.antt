use Rattle.std.proofs.Common.{◌≡◌, drop}
use Rattle.type_defs.specs.Resolved.{fields_of}
use Rattle.type_defs.specs.Tables.{all_seen}
use Rattle.wanted_types.specs.Below.{field_wanted, no_field, record_wanted}
use Rattle.wanted_types.proofs.below.+wanting.Given as goal

abbrev pub invariant-field_wanted-loop-field : goal.invariant-field_wanted-loop-field
invariant-field_wanted-loop-field l =
    field_wanted (fields_of (all_seen (drop l.field-index l.fields)))
    (no_field (fields_of (all_seen l.fields))) l.key l.terms
    ≡ record_wanted (fields_of (all_seen l.fields)) l.key l.terms
