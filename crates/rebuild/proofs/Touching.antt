-- Rows that are touched.
use Rattle.std.proofs.Common.{◌≡◌, ◌<◌, ◌+◌, ◌||◌, ℕ, zero, suc, List, [], ◌∷◌, Bool, true, false, cond, Option, Some, None, option_map, map, length, drop, get_or, slice_set, refl, sym, ap, ◌∙◌}
use Rattle.std.specs.Prelude.{bytes_eq}
use Rattle.std.specs.List.{list_any}
use Rattle.engine_laws.specs.Names.{Name, equal}
use Rattle.engine_laws.proofs.Names.{equal-true}
use Rattle.engine_turns.specs.declared.rows.Row.{Row}
use Rattle.engine_turns.specs.Places.{row_place, row_in, of_row, column, names}
use Rattle.engine_turns.proofs.ByName.{placed, no_place, row_at, changed}
use Rattle.rebuild.specs.Reaching.{calmless, IsTouched}
use Rattle.rebuild.proofs.Appends.{split_at}

same_set : {T : Type 0} → (rows : List (Row T)) (i : ℕ) (r e : Row T) → calmless r
    ≡ calmless (get_or rows i e) → map calmless (slice_set rows i r) ≡ map calmless rows
same_set [] i r e same = refl
same_set (x ∷ rows) zero r e same = ap (λ y. y ∷ map calmless rows) same
same_set (x ∷ rows) (suc i) r e same = ap (λ l. calmless x ∷ l) (same_set rows i r e same)

or_none : (b : Bool) → b ≡ b || (false || false)
or_none true = refl
or_none false = refl

-- an object without a row
pub none_touched : {T : Type 0} → (p : Name) (rows : List (Row T)) → row_place p 0 rows ≡ None
    → IsTouched (p ∷ []) rows rows
none_touched {T} p rows none = record { same = refl; flags = λ q. at q (bytes_eq q p) refl }
  where
    at : (q : Name) (b : Bool) → bytes_eq q p ≡ b → column (λ r. r.touched) true rows q
        ≡ column (λ r. r.touched) true rows q || (b || false)
    at q true same = (λ i. of_row (λ (r : Row T). r.touched) true (gone i))
        ∙ sym (λ i. of_row (λ (r : Row T). r.touched) true (gone i) || true)
      where
        gone : row_in q rows ≡ None
        gone = ap (λ z. row_in z rows) (equal-true q p same) ∙ no_place p rows none
    at q false off = or_none (column (λ r. r.touched) true rows q)

-- and one with a row
pub one_touched : {T : Type 0} → (p : Name) (rows : List (Row T)) (i : ℕ) → row_place p 0 rows
    ≡ Some i → (r : Row T) → r ≡ get_or rows i r → IsTouched (p ∷ []) rows
    (slice_set rows i (record r { touched = true }))
one_touched {T} p rows i found r is = record {
  same = same_set rows i (record r { touched = true }) r (ap calmless is);
  flags = λ q. ap (λ f. f q) (changed (λ z. z.touched) true p rows i (placed p rows i found)
      (record r { touched = true }) (row_at rows i r found is) true refl) ∙ at q (equal q p);
}
  where
    at : (q : Name) (b : Bool) → cond b true (column (λ z. z.touched) true rows q)
        ≡ column (λ z. z.touched) true rows q || (b || false)
    at q true = all (column (λ z. z.touched) true rows q)
      where
        all : (a : Bool) → true ≡ a || true
        all true = refl
        all false = refl
    at q false = or_none (column (λ z. z.touched) true rows q)

joins : (a b c : Bool) → (a || (b || false)) || c ≡ a || (b || c)
joins true b c = refl
joins false true c = refl
joins false false c = refl

-- one object more
pub touched_next : {T : Type 0} → (first rows new : List (Row T)) (objects : List Name) (i : ℕ)
    (p : Name) → i < length objects → p ≡ get_or objects i p → IsTouched (p ∷ []) rows new
    → ((q : Name) → column (λ r. r.touched) true rows q || list_any (bytes_eq q) (drop i objects)
    ≡ column (λ r. r.touched) true first q || list_any (bytes_eq q) objects) → (q : Name) → column
    (λ r. r.touched) true new q || list_any (bytes_eq q) (drop (i + 1) objects)
    ≡ column (λ r. r.touched) true first q || list_any (bytes_eq q) objects
touched_next first rows new objects i p lt is step before q =
    ap (λ b. b || list_any (bytes_eq q) (drop (i + 1) objects)) (step.flags q)
    ∙ joins (column (λ r. r.touched) true rows q) (bytes_eq q p)
    (list_any (bytes_eq q) (drop (i + 1) objects))
    ∙ sym (ap (λ l. column (λ r. r.touched) true rows q || list_any (bytes_eq q) l)
    (split_at objects i p lt is))
    ∙ before q

module _ {T : Type 0} where
  names_same : (rows : List (Row T)) → names (map calmless rows) ≡ names rows
  names_same [] = refl
  names_same (r ∷ rows) = ap (λ ns. r.name ∷ ns) (names_same rows)

  row_same : (p : Name) (rows : List (Row T)) → row_in p (map calmless rows)
      ≡ option_map calmless (row_in p rows)
  row_same p [] = refl
  row_same p (x ∷ rows) = at (equal x.name p) (row_same p rows)
    where
      at : (b : Bool) → row_in p (map calmless rows) ≡ option_map calmless (row_in p rows)
          → cond b (Some (calmless x)) (row_in p (map calmless rows))
          ≡ option_map calmless (cond b (Some x) (row_in p rows))
      at true e = refl
      at false e = e

module _ {T : Type 0} (rows new : List (Row T)) (e : map calmless new ≡ map calmless rows) where
  pub touched_names : names new ≡ names rows
  touched_names = sym (names_same new) ∙ ap names e ∙ names_same rows

  -- a column of rows that has nothing to do with being touched
  pub touched_column : {A : Type 0} (get : Row T → A) (d : A)
      → ((r : Row T) → get (calmless r) ≡ get r) → column get d new ≡ column get d rows
  touched_column get d inv i p =
      (to (row_in p new) ∙ ap (of_row get d) (sym (row_same p new) ∙ ap (row_in p) e
      ∙ row_same p rows) ∙ sym (to (row_in p rows))) i
    where
      to : (x : Option (Row T)) → of_row get d x ≡ of_row get d (option_map calmless x)
      to None = refl
      to (Some r) = sym (inv r)
