-- A trace that is copied item by item.
use Rattle.std.proofs.Common.{◌≡◌, ◌||◌, ◌++◌, Some, None, List, [], ◌∷◌, Bool, true, false, not, refl, sym, ap, ◌∙◌}
use Rattle.questions.specs.Keys.{key_eq}
use Rattle.questions.specs.KeyLaws.{key_same, key_refl}
use Rattle.questions.specs.Contents.{is_among}
use Rattle.read_sets.specs.declared.trace.Item.{Item}
use Rattle.read_sets.specs.Items.{keys_in, are_once}
use Rattle.engine_machine.proofs.Truths.{both}
use Rattle.engine_turns.specs.declared.rows.Row.{Row}
use Rattle.engine_rows.specs.Storing.{kept_rows, with_some, kept_in}
use Rattle.rebuild.proofs.Moves.{not_true}

among_middle : (xs : List Item) (x : Item) (ys : List Item)
    → is_among x.key (keys_in (xs ++ x ∷ ys)) ≡ true
among_middle [] x ys = ap (λ b. b || is_among x.key (keys_in ys)) (key_refl x.key)
among_middle (z ∷ xs) x ys = at (key_eq z.key x.key) (among_middle xs x ys)
  where
    at : (b : Bool) → is_among x.key (keys_in (xs ++ x ∷ ys)) ≡ true → b
        || is_among x.key (keys_in (xs ++ x ∷ ys)) ≡ true
    at true e = refl
    at false e = e

-- a key that stands once does not stand before
pub once_new : (xs : List Item) (x : Item) (ys : List Item) → are_once (keys_in (xs ++ x ∷ ys))
    ≡ true → is_among x.key (keys_in xs) ≡ false
once_new [] x ys once = refl
once_new (z ∷ xs) x ys once =
    let two = both (not (is_among z.key (keys_in (xs ++ x ∷ ys))))
    (are_once (keys_in (xs ++ x ∷ ys))) once in
    at (key_eq z.key x.key) refl (not_true (is_among z.key (keys_in (xs ++ x ∷ ys))) two.0)
    (once_new xs x ys two.1)
  where
    at : (b : Bool) → key_eq z.key x.key ≡ b → is_among z.key (keys_in (xs ++ x ∷ ys)) ≡ false
        → is_among x.key (keys_in xs) ≡ false → b || is_among x.key (keys_in xs) ≡ false
    at true same out later =
        absurd (let clash : true ≡ false =
        sym (among_middle xs x ys) ∙ ap (λ k. is_among k (keys_in (xs ++ x ∷ ys)))
        (sym (key_same z.key x.key same)) ∙ out in cc)
    at false same out later = later

-- one more object
pub kept_cons : {T : Type 0} (r : Row T) (rows : List (Row T)) → kept_rows (r ∷ rows)
    ≡ kept_rows (r ∷ []) ++ kept_rows rows
kept_cons r rows = at (kept_in r)
  where
    at : (x : _) → with_some x (kept_rows rows) ≡ with_some x [] ++ kept_rows rows
    at None = refl
    at (Some k) = refl
