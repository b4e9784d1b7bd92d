use Rattle.std.proofs.Common.{◌≡◌, drop}
use Rattle.type_defs.specs.Tables.{all_seen}
use Rattle.type_defs.specs.Resolved.{fields_of}
use Rattle.validate.specs.Check.{has_key}
use Rattle.validate.proofs.extra.has_key.Given as goal

abbrev pub invariant-loop-field : goal.invariant-loop-field
invariant-loop-field l =
    has_key l.key (fields_of (all_seen (drop l.field-index l.fields)))
    ≡ has_key l.key (fields_of (all_seen l.fields))
