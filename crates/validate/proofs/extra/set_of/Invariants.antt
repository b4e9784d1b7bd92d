use Rattle.std.proofs.Common.{◌≡◌, ◌||◌, ℕ, List, drop}
use Rattle.std.specs.Prelude.{bytes_eq}
use Rattle.std.specs.HashSet.{contains}
use Rattle.type_defs.specs.Tables.{all_seen}
use Rattle.type_defs.specs.Resolved.{fields_of}
use Rattle.validate.specs.Check.{has_key}
use Rattle.validate.proofs.extra.set_of.Given as goal

-- a key is in the set, or that of a field that is left
abbrev pub invariant-loop-field : goal.invariant-loop-field
invariant-loop-field l =
    (k : List ℕ) → (contains bytes_eq l.keys k || has_key k
    (fields_of (all_seen (drop l.field-index l.fields))))
    ≡ has_key k (fields_of (all_seen l.fields))
