use Rattle.std.proofs.Common.{◌≡◌, ◌++◌, drop}
use Rattle.type_defs.specs.Resolved.{fields_of}
use Rattle.type_defs.specs.Tables.{all_seen}
use Rattle.wanted_types.specs.Words.{keys_in}
use Rattle.wanted_types.proofs.words.keys_in.Given as goal

-- what is done, and the keys of what is left
abbrev pub invariant-loop-field : goal.invariant-loop-field
invariant-loop-field l =
    l.keys.items ++ keys_in (fields_of (all_seen (drop l.field-index l.fields)))
    ≡ keys_in (fields_of (all_seen l.fields))
