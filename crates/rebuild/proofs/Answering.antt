-- What the rows answer is what the state answers.
use Rattle.std.proofs.Common.{◌≡◌, ◌+◌, ◌||◌, List, [], ◌∷◌, Bool, true, false, not, cond, Option, Some, None, filter, refl, sym, ap, ◌∙◌, arith}
use Rattle.engine_laws.specs.Names.{Name, equal}
use Rattle.engine_laws.proofs.Names.{equal-true, equal-is}
use Rattle.engine_laws.specs.Engine.{is_among, how_many, one_if}
use Rattle.engine_machine.proofs.Truths.{both}
use Rattle.engine_turns.specs.declared.rows.Row.{Row}
use Rattle.engine_turns.specs.declared.core_data.Core.{Core}
use Rattle.engine_turns.specs.Places.{row_in, of_row, column, names}
use Rattle.engine_turns.proofs.Once.{are_once}
use Rattle.rebuild.specs.Engines.{situation_of}
use Rattle.rebuild.specs.Answers.{why_at, why_found, reads_at, reads_found, run_names, one_of, open_parts}
use Rattle.engine_turns.proofs.ByName.{no_row, some_row}

module _ {T : Type 0} (c : Core T) (p : Name) where
  pub caused : why_found (row_in p c.rows.items) ≡ why_at (situation_of c) p
  caused = at (row_in p c.rows.items) refl
    where
      at : (x : Option (Row T)) → row_in p c.rows.items ≡ x → why_found x
          ≡ why_at (situation_of c) p
      at None e = rw (no_row p c.rows.items e) refl
      at (Some r) e = rw (some_row p c.rows.items r e) (rw e refl)

  pub asked : reads_found (row_in p c.rows.items) ≡ reads_at (situation_of c) p
  asked = at (row_in p c.rows.items) refl
    where
      at : (x : Option (Row T)) → row_in p c.rows.items ≡ x → reads_found x
          ≡ reads_at (situation_of c) p
      at None e = rw (no_row p c.rows.items e) refl
      at (Some r) e = rw (some_row p c.rows.items r e) (rw e refl)

not_true : (b : Bool) → not b ≡ true → b ≡ false
not_true true e = absurd (let clash : false ≡ true = e in cc)
not_true false e = refl

-- a column of rows with one more in front, at the names of the others
later_column : {T : Type 0} → (test : Row T → Bool) (d : Bool) (r : Row T) (rows : List (Row T))
    → is_among r.name (names rows) ≡ false → (p : Name) → is_among p (names rows) ≡ true
    → column test d (r ∷ rows) p ≡ column test d rows p
later_column test d r rows out p e = at (equal r.name p) refl
  where
    at : (b : Bool) → equal r.name p ≡ b → of_row test d (cond b (Some r) (row_in p rows))
        ≡ of_row test d (row_in p rows)
    at true is = absurd (let clash : true ≡ false =
        sym e ∙ ap (λ n. is_among n (names rows)) (sym (equal-true r.name p is)) ∙ out in cc)
    at false is = refl

first_column : {T : Type 0} → (test : Row T → Bool) (d : Bool) (r : Row T) (rows : List (Row T))
    → column test d (r ∷ rows) r.name ≡ test r
first_column test d r rows =
    ap (λ b. of_row test d (cond b (Some r) (row_in r.name rows))) (equal-is r.name r.name refl)

here_among : (x : Name) (xs : List Name) → is_among x (x ∷ xs) ≡ true
here_among x xs = ap (λ b. b || is_among x xs) (equal-is x x refl)

later_among : (p x : Name) (xs : List Name) → is_among p xs ≡ true → is_among p (x ∷ xs) ≡ true
later_among p x xs e = at (equal x p)
  where
    at : (b : Bool) → b || is_among p xs ≡ true
    at true = refl
    at false = e

filter_agrees : (f g : Name → Bool) (xs : List Name)
    → ((p : Name) → is_among p xs ≡ true → f p ≡ g p) → filter f xs ≡ filter g xs
filter_agrees f g [] h = refl
filter_agrees f g (x ∷ xs) h =
    ap (λ b. cond b (x ∷ filter f xs) (filter f xs)) (h x (here_among x xs))
    ∙ ap (λ ys. cond (g x) (x ∷ ys) ys) (filter_agrees f g xs (λ p e. h p (later_among p x xs e)))

count_agrees : (f g : Name → Bool) (xs : List Name)
    → ((p : Name) → is_among p xs ≡ true → f p ≡ g p) → how_many f xs ≡ how_many g xs
count_agrees f g [] h = refl
count_agrees f g (x ∷ xs) h =
    ap (λ b. one_if b + how_many f xs) (h x (here_among x xs))
    ∙ ap (λ n. one_if (g x) + n) (count_agrees f g xs (λ p e. h p (later_among p x xs e)))

-- the names of the rows that were run are the objects that were run
pub names_run : {T : Type 0} → (rows : List (Row T)) → are_once (names rows) ≡ true → run_names rows
    ≡ filter (column (λ r. r.run) false rows) (names rows)
names_run [] once = refl
names_run {T} (r ∷ rows) once =
    ap (λ ns. cond r.run (r.name ∷ ns) ns) (names_run rows two.1
    ∙ sym (filter_agrees (column (λ z. z.run) false (r ∷ rows)) (column (λ z. z.run) false rows)
    (names rows) (later_column (λ z. z.run) false r rows (not_true _ two.0))))
    ∙ sym (ap (λ b. cond b (r.name ∷ filter (column (λ z. z.run) false (r ∷ rows)) (names rows))
    (filter (column (λ z. z.run) false (r ∷ rows)) (names rows)))
    (first_column (λ z. z.run) false r rows))
  where
    two : (not (is_among r.name (names rows)) ≡ true) × (are_once (names rows) ≡ true)
    two = both (not (is_among r.name (names rows))) (are_once (names rows)) once

one_same : (b : Bool) → one_of b ≡ one_if b
one_same true = refl
one_same false = refl

-- how many parts of the rows are unsettled is how many of the objects are
pub open_is : {T : Type 0} → (rows : List (Row T)) → are_once (names rows) ≡ true → open_parts rows
    ≡ how_many (column (λ r. r.open_build) true rows) (names rows) + how_many
    (column (λ r. r.open_check) true rows) (names rows)
open_is [] once = refl
open_is {T} (r ∷ rows) once =
    let later = open_is rows two.1 in
    let builds = more (λ z. z.open_build) in
    let checks = more (λ z. z.open_check) in
    let a = one_same r.open_build in
    let b = one_same r.open_check in
    omega (arith, later, builds, checks, a, b)
  where
    two : (not (is_among r.name (names rows)) ≡ true) × (are_once (names rows) ≡ true)
    two = both (not (is_among r.name (names rows))) (are_once (names rows)) once

    more : (test : Row T → Bool) → how_many (column test true (r ∷ rows)) (r.name ∷ names rows)
        ≡ one_if (test r) + how_many (column test true rows) (names rows)
    more test =
        ap (λ b. one_if b + how_many (column test true (r ∷ rows)) (names rows))
        (first_column test true r rows)
        ∙ ap (λ n. one_if (test r) + n) (count_agrees (column test true (r ∷ rows))
        (column test true rows) (names rows) (later_column test true r rows (not_true _ two.0)))
