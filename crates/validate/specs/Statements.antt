-- Valid statements in memory, as plain data.
use Rattle.std.specs.Prelude.{List, map}
use Rattle.type_defs.specs.declared.bindings.Valid.{Valid as RValid}
use Rattle.type_defs.specs.Bindings.{Valid}
use Rattle.type_defs.specs.BindingsSeen.{valid_seen}

abbrev pub valids_seen : List RValid → List Valid
valids_seen ss = map valid_seen ss
