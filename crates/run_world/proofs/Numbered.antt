-- Keys keep their numbers.
use Rattle.std.proofs.Common.{◌≡◌, ◌∙◌, ap, sym, refl, ℕ, List, [], ◌∷◌, ◌++◌, Bool, true, false, cond, map}
use Rattle.std.proofs.lemmas.List.{map-append}
use Rattle.questions.specs.declared.key.Key.{Key}
use Rattle.questions.specs.Contents.{Content, is_among, with_key}
use Rattle.asking.specs.Asked.{Word}
use Rattle.questions.specs.Told.{number_of, numbered}
use Rattle.read_sets.specs.declared.trace.Item.{Item}
use Rattle.read_sets.specs.Items.{keys_in}
use Rattle.run_world.specs.Noted.{item_of, with_item, AreNumbered}

keys_on : (k : Key) (n : ℕ) (items : List Item) (b : Bool)
    → keys_in (cond b items (items ++ item_of k n ∷ []))
    ≡ cond b (keys_in items) (keys_in items ++ k ∷ [])
keys_on k n items true = refl
keys_on k n items false = map-append (λ i. i.key) items (item_of k n ∷ [])

-- the keys of the items with a key
pub keys_with : (k : Key) (n : ℕ) (items : List Item) → keys_in (with_item k n items)
    ≡ with_key k (keys_in items)
keys_with k n items = keys_on k n items (is_among k (keys_in items))

numbered_on : (tells : Key → Word Content) (k : Key) (n : ℕ) (items : List Item) (b : Bool)
    → number_of (tells k) ≡ n → AreNumbered tells items
    → AreNumbered tells (cond b items (items ++ item_of k n ∷ []))
numbered_on tells k n items true e h = h
numbered_on tells k n items false e h =
    map-append (λ i. (i.key, i.number)) items (item_of k n ∷ []) ∙ ap (λ xs. xs ++ (k, n) ∷ []) h
    ∙ ap (λ m. map (numbered tells) (keys_in items) ++ (k, m) ∷ []) (sym e)
    ∙ sym (ap (map (numbered tells)) (map-append (λ i. i.key) items (item_of k n ∷ []))
    ∙ map-append (numbered tells) (keys_in items) (k ∷ []))

pub numbered_with : (tells : Key → Word Content) (k : Key) (n : ℕ) (items : List Item)
    → number_of (tells k) ≡ n → AreNumbered tells items → AreNumbered tells (with_item k n items)
numbered_with tells k n items e h = numbered_on tells k n items (is_among k (keys_in items)) e h
