-- What stands for the keys of a record's fields while a value's keys are looked for among them.
use Rattle.std.specs.Prelude.{◌≡◌, ℕ, List, bytes_eq}
use Rattle.std.specs.HashSet.{HashSet, contains}
use Rattle.type_defs.specs.Resolved.{Fields, fields_of}
use Rattle.type_defs.specs.Tables.{all_seen}
use Rattle.validate.specs.declared.extra.Keys.{Keys}
use Rattle.validate.specs.declared.extra.Keys.TheVariants as keys
use Rattle.validate.specs.Check.{has_key}

abbrev pub AreKeys : {S : Type 0} → HashSet (List ℕ) S → Fields → Type 0
AreKeys set fs = (k : List ℕ) → contains bytes_eq set k ≡ has_key k fs

abbrev pub HasKeys : Keys → Fields → Type 0
HasKeys (keys.Few fields) fs = fs ≡ fields_of (all_seen fields.now)
HasKeys (keys.Many set) fs = AreKeys set fs
