-- The types that have names, and the fields of a record, as plain data.
use Rattle.std.specs.Prelude.{List, map, option_map}
use Rattle.std.specs.Ordering.{nat_cmp}
use Rattle.std.specs.Cmp.Lexicographic.{slice_cmp}
use Rattle.std.specs.BTreeMap.{get}
use Rattle.type_defs.specs.declared.resolved.RecordField.{RecordField as RField}
use Rattle.type_defs.specs.declared.types.Types.{Types}
use Rattle.type_defs.specs.Names.{Defined}
use Rattle.type_defs.specs.Resolved.{Field}
use Rattle.type_defs.specs.ResolvedSeen.{resolved_seen, field_seen}

-- what the names of a table stand for
abbrev pub known : Types → Defined
known t name = option_map resolved_seen (get (slice_cmp nat_cmp) t.by_name name)

abbrev pub all_seen : List RField → List Field
all_seen fs = map field_seen fs
