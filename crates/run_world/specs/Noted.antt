-- Keys as a trace keeps them, with the numbers that words give them.
use Rattle.std.specs.Prelude.{◌≡◌, ℕ, List, [], ◌∷◌, ◌++◌, cond, map}
use Rattle.std.specs.HashSet.{HashSet, contains}
use Rattle.asking.specs.Asked.{Word}
use Rattle.questions.specs.declared.key.Key.{Key}
use Rattle.questions.specs.Keys.{key_eq}
use Rattle.questions.specs.Contents.{Content, is_among}
use Rattle.questions.specs.Told.{numbered}
use Rattle.read_sets.specs.declared.trace.Item.{Item}
use Rattle.read_sets.specs.Items.{keys_in, pairs_of}

abbrev pub item_of : Key → ℕ → Item
item_of k n = record { key = k; number = n }

-- the items with a key, where it is new
abbrev pub with_item : Key → ℕ → List Item → List Item
with_item k n items = cond (is_among k (keys_in items)) items (items ++ item_of k n ∷ [])

-- a set has the keys, and no other
abbrev pub HasKeys : {S : Type 0} → HashSet Key S → List Item → Type 0
HasKeys set items = (k : Key) → contains key_eq set k ≡ is_among k (keys_in items)

-- each key has its number
abbrev pub AreNumbered : (Key → Word Content) → List Item → Type 0
AreNumbered tells items = pairs_of items ≡ map (numbered tells) (keys_in items)

-- two ways to tell of keys tell the same
abbrev pub AreWords : (Key → Word Content) → (Key → Word Content) → Type 0
AreWords tells told = (k : Key) → tells k ≡ told k
