-- Keys as a trace keeps them, with the numbers that words give them.
use Rattle.std.specs.Prelude.{◌≡◌, ℕ, List, [], ◌∷◌, ◌++◌, cond, map, Option, Some, None}
use Rattle.path_tree.specs.Plain.{Plain}
use Rattle.questions.specs.declared.key.Key.{Key}
use Rattle.questions.specs.declared.key.Key.TheVariants.{Under}
use Rattle.questions.specs.Contents.{Content, is_among}
use Rattle.questions.specs.Told.{numbered}
use Rattle.questions.specs.Run.{Meter}
use Rattle.asking.specs.Asked.{Word}
use Rattle.read_sets.specs.declared.trace.Item.{Item}
use Rattle.read_sets.specs.Items.{keys_in, pairs_of}

-- the items with a key, where it is new
abbrev pub with_item : Key → ℕ → List Item → List Item
with_item k n items =
    cond (is_among k (keys_in items)) items (items ++ record { key = k; number = n } ∷ [])

-- the items with the key of an object that is known
abbrev pub with_told : List ℕ → Option (ℕ × Option Plain) → List Item → List Item
with_told p None items = items
with_told p (Some q) items = with_item (Under p []) q.0 items

-- each key has its number
abbrev pub AreNumbered : (Key → Word Content) → List Item → Type 0
AreNumbered tells items = pairs_of items ≡ map (numbered tells) (keys_in items)

-- the work left and the keys asked, as definitions see them
abbrev pub meter_of : ℕ → List Item → Meter
meter_of left items = record { left = left; asked = keys_in items }
