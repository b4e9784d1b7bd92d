-- The index is brought up to date.
use Rattle.std.proofs.Common.{◌≡◌, ◌<◌, ◌+◌, ◌||◌, ◌&&◌, ◌++◌, ℕ, List, [], ◌∷◌, Bool, true, false, not, cond, Option, Some, None, Result, Ok, Err, OnOk, option_map, length, drop, get_or, refl, sym, ap, ◌∙◌}
use Rattle.questions.specs.declared.key.Key.{Key}
use Rattle.questions.specs.Keys.{key_eq}
use Rattle.questions.specs.KeyLaws.{key_same, key_refl}
use Rattle.read_index.specs.Subjects.{subject, reader_key, reads_key}
use Rattle.read_sets.specs.declared.trace.Item.{Item}
use Rattle.read_sets.specs.Items.{pairs_of}
use Rattle.object_names.specs.Objects.{are_rising}
use Rattle.engine_laws.specs.Names.{Name, equal}
use Rattle.engine_laws.specs.Engine.{is_among, lacks_record, both_items}
use Rattle.engine_laws.proofs.Names.{equal-true, equal-is}
use Rattle.engine_laws.proofs.Touched.{true_else}
use Rattle.engine_machine.proofs.Truths.{both}
use Rattle.engine_turns.specs.declared.rows.CheckRecord.{CheckRecord}
use Rattle.engine_turns.specs.declared.rows.Row.{Row}
use Rattle.engine_turns.specs.Places.{row_in, of_row, column, names}
use Rattle.engine_turns.specs.States.{reads_of, checked_of}
use Rattle.engine_turns.proofs.Once.{are_once}
use Rattle.engine_turns.proofs.ByName.{placed, some_row}
use Rattle.engine_turns.proofs.Sorted.{near_found}
use Rattle.rebuild.specs.Reaching.{Asking, asks_for, is_noted, noted_row, noted_rows}
use Rattle.rebuild.proofs.Appends.{split_at}
use Rattle.rebuild.proofs.Moves.{not_true, not_both}

-- what the index is told of items is what they ask for
reads_asked : (k : Key) (items : List Item) → reads_key k items ≡ asks_for k (pairs_of items)
reads_asked k [] = refl
reads_asked k (x ∷ items) = ap (λ b. key_eq k (subject x.key) || b) (reads_asked k items)

asks_both : (k : Key) (xs ys : List (Key × ℕ)) → asks_for k (xs ++ ys) ≡ asks_for k xs
    || asks_for k ys
asks_both k [] ys = refl
asks_both k (q ∷ xs) ys = at (key_eq k (subject q.0)) (asks_both k xs ys)
  where
    at : (b : Bool) → asks_for k (xs ++ ys) ≡ asks_for k xs || asks_for k ys → b
        || asks_for k (xs ++ ys) ≡ (b || asks_for k xs) || asks_for k ys
    at true ih = refl
    at false ih = ih

-- a row that is not noted
pub row_passed : {T : Type 0} (r : Row T) (asks : Asking) (reader k : Key) → is_noted r ≡ false
    → asks reader k ≡ noted_row r asks reader k
row_passed r asks reader k off =
    sym (ap (λ b. cond (b && key_eq reader (reader_key r.name))
    (asks_for k (both_items (reads_of r) (checked_of r))) (asks reader k)) off)

pub untouched_passed : {T : Type 0} (r : Row T) → r.touched ≡ false → is_noted r ≡ false
untouched_passed r off = ap (λ b. b && not (lacks_record (reads_of r) (checked_of r))) off

-- and one that is
pub row_noted : {T : Type 0} (r : Row T) (asks : Asking) (build : List Item) (check : CheckRecord)
    → r.touched ≡ true → r.build ≡ Some build → r.check ≡ Some check → (reader k : Key)
    → cond (key_eq reader (reader_key r.name)) (reads_key k build || reads_key k check.reads)
    (asks reader k) ≡ noted_row r asks reader k
row_noted r asks build check on is is' reader k =
    ap (λ b. cond (key_eq reader (reader_key r.name)) b (asks reader k))
    ((λ i. reads_asked k build i || reads_asked k check.reads i)
    ∙ sym (asks_both k (pairs_of build) (pairs_of check.reads)))
    ∙ sym (λ i. cond ((on i && not (lacks_record (option_map pairs_of (is i))
    (option_map (λ c. (pairs_of c.reads, c.verdict)) (is' i))))
    && key_eq reader (reader_key r.name)) (asks_for k
    (both_items (option_map pairs_of (is i)) (option_map (λ c. (pairs_of c.reads, c.verdict))
    (is' i)))) (asks reader k))

pub set_noted : {T A E : Type 0} (res : Result A E) (r : Row T) (old new : Asking)
    (build : List Item) (check : CheckRecord) → r.touched ≡ true → r.build ≡ Some build → r.check
    ≡ Some check → OnOk res ((reader k : Key) → new reader k
    ≡ cond (key_eq reader (reader_key r.name)) (reads_key k build || reads_key k check.reads)
    (old reader k)) → OnOk res ((reader k : Key) → new reader k ≡ noted_row r old reader k)
set_noted (Ok a) r old new build check on is is' h =
    λ reader k. h reader k ∙ row_noted r old build check on is is' reader k
set_noted (Err e) r old new build check on is is' h = tt

-- a row at a place is that of its name
row_here : {T : Type 0} (rows : List (Row T)) (i : ℕ) (r : Row T) → are_rising (names rows) ≡ true
    → i < length rows → r ≡ get_or rows i r → row_in r.name rows ≡ Some r
row_here rows i r rising lt is =
    (placed r.name rows i (near_found r.name rows i r rising lt
    (equal-is (get_or rows i r).name r.name (ap (λ z. z.name) (sym is))))).here r ∙ ap Some (sym is)

-- the next row
pub noted_next : {T : Type 0} (rows : List (Row T)) (i : ℕ) (r : Row T) → i < length rows → r
    ≡ get_or rows i r → (old now now' : Asking) → ((reader k : Key) → now' reader k
    ≡ noted_row r now reader k) → ((reader k : Key) → noted_rows (drop i rows) now reader k
    ≡ noted_rows rows old reader k) → (reader k : Key) → noted_rows (drop (i + 1) rows) now' reader
    k ≡ noted_rows rows old reader k
noted_next rows i r lt is old now now' step before reader k =
    (λ j. noted_rows (drop (i + 1) rows) (λ a b. step a b j) reader k)
    ∙ sym (ap (λ l. noted_rows l now reader k) (split_at rows i r lt is))
    ∙ before reader k

-- what the index says of rows that are not touched
pub others_next : {T : Type 0} (rows : List (Row T)) (i : ℕ) (r : Row T) → are_rising (names rows)
    ≡ true → i < length rows → r ≡ get_or rows i r → (old now now' : Asking)
    → ((reader k : Key) → now' reader k ≡ noted_row r now reader k)
    → ((p : Name) (k : Key) → column (λ z. z.touched) false rows p ≡ false → now (reader_key p) k
    ≡ old (reader_key p) k) → (p : Name) (k : Key) → column (λ z. z.touched) false rows p
    ≡ false → now' (reader_key p) k ≡ old (reader_key p) k
others_next {T} rows i r rising lt is old now now' step before p k off =
    step (reader_key p) k ∙ at (key_eq (reader_key p) (reader_key r.name)) refl ∙ before p k off
  where
    at : (b : Bool) → key_eq (reader_key p) (reader_key r.name) ≡ b
        → noted_row r now (reader_key p) k ≡ now (reader_key p) k
    at true same =
        let named : p ≡ r.name = let e : reader_key p ≡ reader_key r.name =
        key_same (reader_key p) (reader_key r.name) same in cc in
        let calm : r.touched ≡ false =
        sym (ap (of_row (λ z. z.touched) false) (row_here rows i r rising lt is))
        ∙ ap (column (λ z. z.touched) false rows) (sym named) ∙ off in
        sym (row_passed r now (reader_key p) k (untouched_passed r calm))
    at false other = (λ j. cond (is_noted r && other j)
        (asks_for k (both_items (reads_of r) (checked_of r))) (now (reader_key p) k))
        ∙ neither (is_noted r)
      where
        neither : (b : Bool) → cond (b && false) (asks_for k
            (both_items (reads_of r) (checked_of r))) (now (reader_key p) k) ≡ now (reader_key p) k
        neither true = refl
        neither false = refl

-- what it says of an object once all rows are noted
abbrev pub noted_found : {T : Type 0} → Option (Row T) → Asking → Key → Key → Bool
noted_found None asks reader k = asks reader k
noted_found (Some r) asks reader k =
    cond (is_noted r) (asks_for k (both_items (reads_of r) (checked_of r))) (asks reader k)

pub noted_at : {T : Type 0} (rows : List (Row T)) → are_once (names rows) ≡ true
    → (asks : Asking) (p : Name) (k : Key) → noted_rows rows asks (reader_key p) k
    ≡ noted_found (row_in p rows) asks (reader_key p) k
noted_at [] once asks p k = refl
noted_at {T} (x ∷ rows) once asks p k =
    noted_at rows two.1 (noted_row x asks) p k ∙ at (equal x.name p) refl (row_in p rows) refl
  where
    two : (not (is_among x.name (names rows)) ≡ true) × (are_once (names rows) ≡ true)
    two = both (not (is_among x.name (names rows))) (are_once (names rows)) once

    on : equal x.name p ≡ true → noted_row x asks (reader_key p) k
        ≡ noted_found (Some x) asks (reader_key p) k
    on is = (λ j. cond (is_noted x
        && (ap (λ z. key_eq (reader_key p) (reader_key z)) (equal-true x.name p is)
        ∙ key_refl (reader_key p)) j) (asks_for k (both_items (reads_of x) (checked_of x)))
        (asks (reader_key p) k)) ∙ whole (is_noted x)
      where
        whole : (b : Bool) → cond (b && true) (asks_for k (both_items (reads_of x) (checked_of x)))
            (asks (reader_key p) k) ≡ cond b (asks_for k (both_items (reads_of x) (checked_of x)))
            (asks (reader_key p) k)
        whole true = refl
        whole false = refl

    off : equal x.name p ≡ false → noted_row x asks (reader_key p) k ≡ asks (reader_key p) k
    off is = (λ j. cond (is_noted x && other j) (asks_for k
        (both_items (reads_of x) (checked_of x))) (asks (reader_key p) k)) ∙ neither (is_noted x)
      where
        other : key_eq (reader_key p) (reader_key x.name) ≡ false
        other = true_else (key_eq (reader_key p) (reader_key x.name))
            (λ same. let e : reader_key p ≡ reader_key x.name =
            key_same (reader_key p) (reader_key x.name) same in let named : p ≡ x.name = cc in
            not_both {A = ⊥} (equal x.name p) (equal-is x.name p (sym named)) is)

        neither : (b : Bool) → cond (b && false) (asks_for k
            (both_items (reads_of x) (checked_of x))) (asks (reader_key p) k)
            ≡ asks (reader_key p) k
        neither true = refl
        neither false = refl

    at : (b : Bool) → equal x.name p ≡ b → (y : Option (Row T)) → row_in p rows ≡ y
        → noted_found y (noted_row x asks) (reader_key p) k
        ≡ noted_found (cond b (Some x) y) asks (reader_key p) k
    at true is None none = on is
    at true is (Some r) some =
        not_both (is_among x.name (names rows)) (ap (λ z. is_among z (names rows))
        (equal-true x.name p is) ∙ some_row p rows r some)
        (not_true (is_among x.name (names rows)) two.0)
    at false is None none = off is
    at false is (Some r) some =
        ap (cond (is_noted r) (asks_for k (both_items (reads_of r) (checked_of r)))) (off is)
