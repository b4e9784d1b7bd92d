use Rattle.std.proofs.Common.{◌≡◌, drop}
use Rattle.type_defs.specs.Tables.{all_seen}
use Rattle.type_defs.specs.Resolving.{all_more}
use Rattle.type_defs.proofs.fields.all_more.Given as goal

abbrev pub invariant-loop-field : goal.invariant-loop-field
invariant-loop-field l =
    all_more l.place (all_seen l.done.items) (all_seen (drop l.field-index l.fields))
    ≡ all_more l.place (all_seen l.fn.done.items) (all_seen l.fields)
