-- Lines of dependency files by what is kept of the items. Inner contracts use it.
use Rattle.std.specs.Prelude.{ℕ, List, [], map, fold, flat_map, if◌then◌else◌}
use Rattle.std.specs.BTreeSet.{insert_key}
use Rattle.std.specs.Cmp.Lexicographic.{slice_cmp}
use Rattle.std.specs.Ordering.{nat_cmp}
use Rattle.json_profile.specs.Dependencies.{line_of, with_feed}
use Rattle.questions.specs.declared.key.Key.{Key}
use Rattle.questions.specs.declared.key.Key.TheVariants as key
use Rattle.read_sets.specs.Items.{pair_of}
use Rattle.read_sets.specs.declared.trace.Item.{Item}
use Rattle.engine_session.specs.declared.kept_deps.Asked.{Asked}
use Rattle.engine_session.specs.declared.kept_deps.Asked.TheVariants.{File, Object}

-- an item that has the same line
abbrev pub asked_pair : Asked → Key × ℕ
asked_pair (File name is_there) = (key.File name, if is_there then 1 else 0)
asked_pair (Object name) = (key.Under name [], 0)

abbrev pub asked_line : Asked → List ℕ
asked_line asked = line_of (asked_pair asked)

abbrev pub asked_lines : List Asked → List (List ℕ)
asked_lines asked = map asked_line asked

abbrev pub item_line : Item → List ℕ
item_line item = line_of (pair_of item)

abbrev pub item_lines : List Item → List (List ℕ)
item_lines items = map item_line items

-- lines in byte order, each once, with their ends
abbrev pub lines_text : List (List ℕ) → List ℕ
lines_text lines = flat_map with_feed (fold (insert_key (slice_cmp nat_cmp)) [] lines)
