-- The fields of a record while it is read.
use Rattle.std.specs.Prelude.{◌≡◌, List}
use Rattle.type_defs.specs.declared.fields.Fields.{Fields as RFields}
use Rattle.type_defs.specs.Depth.{fields_depth}
use Rattle.type_defs.specs.Resolved.{Field, fields_of}
use Rattle.type_defs.specs.Tables.{all_seen}

abbrev pub done_seen : RFields → List Field
done_seen d = all_seen d.list.items

-- what is kept as the depth of the deepest is that
abbrev pub IsMeasured : RFields → Type 0
IsMeasured d = d.deepest ≡ fields_depth (fields_of (done_seen d))
