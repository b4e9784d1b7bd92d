-- What a register tells of impact. Inner contracts use it.
use Rattle.std.specs.Prelude.{ℕ, List, Bool, map, nat_eq}
use Rattle.pan_impact.specs.declared.register.Entry.{Entry}
use Rattle.questions.specs.declared.key.Key.{Key}
use Rattle.read_sets.specs.declared.trace.Item.{Item}

-- a key, and whether nothing was there
abbrev pub seen_pair : Key × ℕ → Key × Bool
seen_pair q = (q.0, nat_eq q.1 0)

-- .. of an item
abbrev pub seen_item : Item → Key × Bool
seen_item i = seen_pair (i.key, i.number)

-- a name with the keys that were read under it
abbrev pub seen_entry : Entry → List ℕ × List (Key × Bool)
seen_entry e = (e.name, map seen_item e.items)

abbrev pub seen_in : List Entry → List (List ℕ × List (Key × Bool))
seen_in entries = map seen_entry entries
