-- The set of the keys, with one key more.
use Rattle.std.proofs.Common.{◌≡◌, ◌∙◌, ap, sym, refl, ℕ, Bool, true, false, ◌||◌, cond, List, [], ◌∷◌, ◌++◌}
use Rattle.std.specs.HashSet.{HashSet, contains}
use Rattle.questions.specs.declared.key.Key.{Key}
use Rattle.questions.specs.Contents.{is_among}
use Rattle.questions.specs.Keys.{key_eq}
use Rattle.read_sets.specs.declared.trace.Item.{Item}
use Rattle.read_sets.specs.Items.{keys_in}
use Rattle.run_world.specs.Noted.{HasKeys, item_of}

or_false : (b : Bool) → (b || false) ≡ b
or_false true = refl
or_false false = refl

-- a key among those of a list with one item more
among_more : (k : Key) (items : List Item) (x : Item) → is_among k (keys_in (items ++ x ∷ []))
    ≡ (is_among k (keys_in items) || key_eq x.key k)
among_more k [] x = or_false (key_eq x.key k)
among_more k (i ∷ items) x = at (key_eq i.key k) (among_more k items x)
  where
    at : (b : Bool) → is_among k (keys_in (items ++ x ∷ []))
        ≡ (is_among k (keys_in items) || key_eq x.key k)
        → (b || is_among k (keys_in (items ++ x ∷ [])))
        ≡ ((b || is_among k (keys_in items)) || key_eq x.key k)
    at true e = refl
    at false e = e

either_way : (b c : Bool) → cond b true c ≡ (c || b)
either_way true true = refl
either_way true false = refl
either_way false true = refl
either_way false false = refl

pub noted_key : {S : Type 0} → (old new : HashSet Key S) (items : List Item) (key : Key)
    (number : ℕ) → HasKeys old items →
    ((k : Key) → contains key_eq new k ≡ cond (key_eq key k) true (contains key_eq old k))
    → HasKeys new (items ++ item_of key number ∷ [])
noted_key old new items key number h added k =
    added k ∙ either_way (key_eq key k) (contains key_eq old k) ∙ ap (λ b. b || key_eq key k) (h k)
    ∙ sym (among_more k items (item_of key number))

pub ruleset noted = (noted_key)
