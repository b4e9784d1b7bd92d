-- Items become entries, and an entry enters the table of its object.
use Rattle.std.proofs.Common.{◌≡◌, ◌<◌, ◌+◌, ◌&&◌, ◌||◌, ◌++◌, ℕ, zero, suc, List, [], ◌∷◌, Bool, true, false, cond, nat_le, Option, Some, None, map, length, drop, get_or, slice_set, refl, sym, ap, ◌∙◌, arith}
use Rattle.std.proofs.Math.Seq.{drop-cons}
use Rattle.std.proofs.lemmas.List.{map_push}
use Rattle.path_tree.specs.declared.path.Term.{Term}
use Rattle.path_numbers.specs.Numbers.{number_in, own_or}
use Rattle.path_numbers.specs.declared.table.PathTable.{PathTable}
use Rattle.questions.specs.declared.key.Key.{Key}
use Rattle.questions.specs.declared.key.Key.TheVariants.{File, Under}
use Rattle.questions.specs.Keys.{key_eq, terms_eq}
use Rattle.read_sets.specs.declared.trace.Item.{Item}
use Rattle.read_sets.specs.Items.{pair_of, pairs_of}
use Rattle.engine_laws.specs.Names.{Name, equal}
use Rattle.engine_laws.specs.Engine.{is_among, or_else}
use Rattle.engine_laws.proofs.Names.{equal-true, equal-is}
use Rattle.engine_turns.specs.declared.entering.Entry.{Entry}
use Rattle.engine_turns.specs.declared.rows.Row.{Row}
use Rattle.engine_turns.specs.Places.{row_place, column, names}
use Rattle.engine_turns.specs.States.{own, own_of, table_in}
use Rattle.engine_turns.specs.Entering.{entry_pair, is_wanted, wanted, entered_one, entered_all, bare, IsEntered}
use Rattle.engine_turns.proofs.ByName.{IsAt, placed, no_place, no_row, other_name, column_at, changed, row_at}
use Rattle.engine_turns.proofs.Entered.{same_names}

-- whether a name has a row
pub not_placed : {T : Type 0} → (p : Name) (rows : List (Row T)) → row_place p 0 rows ≡ None
    → is_among p (names rows) ≡ false
not_placed p rows e = no_row p rows (no_place p rows e)

placed_from : {T : Type 0} → (p : Name) (i : ℕ) (rows : List (Row T)) (j : ℕ) → row_place p i rows
    ≡ Some j → is_among p (names rows) ≡ true
placed_from p i [] j e = absurd (let clash : ◌≡◌ {A = Option ℕ} None (Some j) = e in cc)
placed_from p i (x ∷ rows) j e = at (equal x.name p) (placed_from p (suc i) rows j) e
  where
    at : (b : Bool) → (row_place p (suc i) rows ≡ Some j → is_among p (names rows) ≡ true)
        → cond b (Some i) (row_place p (suc i) rows) ≡ Some j → b || is_among p (names rows) ≡ true
    at true later e = refl
    at false later e = later e

pub is_placed : {T : Type 0} → (p : Name) (rows : List (Row T)) (i : ℕ) → row_place p 0 rows
    ≡ Some i → is_among p (names rows) ≡ true
is_placed p rows i e = placed_from p 0 rows i e

no_more : {A : Type 0} (xs : List A) → xs ≡ xs ++ []
no_more [] = refl
no_more (x ∷ xs) = ap (λ l. x ∷ l) (no_more xs)

joined : {A : Type 0} (xs ys zs : List A) → (xs ++ ys) ++ zs ≡ xs ++ (ys ++ zs)
joined [] ys zs = refl
joined (x ∷ xs) ys zs = ap (λ l. x ∷ l) (joined xs ys zs)

wanted_step : (ns : List Name) (q : Key × ℕ) (items : List (Key × ℕ)) → wanted ns (q ∷ [])
    ++ wanted ns items ≡ wanted ns (q ∷ items)
wanted_step ns q items = at (is_wanted ns q)
  where
    at : (b : Bool) → cond b (q ∷ []) [] ++ wanted ns items
        ≡ cond b (q ∷ wanted ns items) (wanted ns items)
    at true = refl
    at false = refl

-- an item that is not entered, and one that is
pub entry_passed : (ns : List Name) (q : Key × ℕ) (made : List Entry) → is_wanted ns q ≡ false
    → map entry_pair made ≡ map entry_pair made ++ wanted ns (q ∷ [])
entry_passed ns q made off =
    no_more (map entry_pair made) ∙ sym (ap (λ b. map entry_pair made ++ cond b (q ∷ []) []) off)

pub entry_made : (ns : List Name) (q : Key × ℕ) (made made' : List Entry) (e : Entry)
    → is_wanted ns q ≡ true → entry_pair e ≡ q → made' ≡ made ++ e ∷ [] → map entry_pair made'
    ≡ map entry_pair made ++ wanted ns (q ∷ [])
entry_made ns q made made' e on is more =
    ap (map entry_pair) more ∙ map_push entry_pair made e
    ∙ ap (λ x. map entry_pair made ++ x ∷ []) is
    ∙ sym (ap (λ b. map entry_pair made ++ cond b (q ∷ []) []) on)

pub entries_step : (ns : List Name) (items : List Item) (i : ℕ) (x : Item) → i < length items → x
    ≡ get_or items i x → (made made' : List (Key × ℕ)) → made' ≡ made ++ wanted ns (pair_of x ∷ [])
    → made ++ wanted ns (pairs_of (drop i items)) ≡ wanted ns (pairs_of items) → made'
    ++ wanted ns (pairs_of (drop (i + 1) items)) ≡ wanted ns (pairs_of items)
entries_step ns items i x lt is made made' more before =
    let next : suc i ≡ i + 1 = omega arith in
    let split : drop i items ≡ x ∷ drop (i + 1) items =
    drop-cons items i x lt ∙ (λ j. sym is j ∷ drop (next j) items) in
    ap (λ m. m ++ wanted ns (pairs_of (drop (i + 1) items))) more
    ∙ joined made (wanted ns (pair_of x ∷ [])) (wanted ns (pairs_of (drop (i + 1) items)))
    ∙ ap (λ l. made ++ l) (wanted_step ns (pair_of x) (pairs_of (drop (i + 1) items))
    ∙ ap (λ l. wanted ns (pairs_of l)) (sym split))
    ∙ before

bare_set : {T : Type 0} → (rows : List (Row T)) (i : ℕ) (r e : Row T) → bare r
    ≡ bare (get_or rows i e) → map bare (slice_set rows i r) ≡ map bare rows
bare_set [] i r e same = refl
bare_set (x ∷ rows) zero r e same = ap (λ y. y ∷ map bare rows) same
bare_set (x ∷ rows) (suc i) r e same = ap (λ l. bare x ∷ l) (bare_set rows i r e same)

own_entered : (b : Bool) (old n : ℕ) → own (own_or b old n)
    ≡ cond (nat_le 3 n && b) (or_else (own old) (Some n)) (own old)
own_entered false old n = at (nat_le 3 n)
  where
    at : (l : Bool) → own old ≡ cond (l && false) (or_else (own old) (Some n)) (own old)
    at true = refl
    at false = refl
own_entered true old n = at (nat_le 3 old) refl
  where
    same : (l : Bool) → Some old ≡ cond (l && true) (Some old) (Some old)
    same true = refl
    same false = refl

    new : (l : Bool) → cond l (Some n) None ≡ cond (l && true) (Some n) None
    new true = refl
    new false = refl

    at : (o : Bool) → nat_le 3 old ≡ o → own (cond o old n)
        ≡ cond (nat_le 3 n && true) (or_else (cond o (Some old) None) (Some n))
        (cond o (Some old) None)
    at true e = ap (λ b. cond b (Some old) None) e ∙ same (nat_le 3 n)
    at false e = new (nat_le 3 n)

-- nothing enters where there is no row
pub no_entry : {T : Type 0} → (p : Name) (terms : List Term) (n : ℕ) (rows : List (Row T))
    → row_place p 0 rows ≡ None → IsEntered ((Under p terms, n) ∷ []) rows rows
no_entry p terms n rows e = record { bare = refl; table = λ k. sym (off k) }
  where
    off : (k : Key) → entered_one (names rows) (Under p terms, n) (table_in rows) k
        ≡ table_in rows k
    off k = ap (λ b. cond ((b && nat_le 3 n) && key_eq (Under p terms) k)
        (or_else (table_in rows k) (Some n)) (table_in rows k)) (not_placed p rows e)

left_alone : {A : Type 0} (w : Bool) (x y : A) → cond (w && false) x y ≡ y
left_alone true x y = refl
left_alone false x y = refl

-- a path enters the table of its row
pub one_entry : {T : Type 0} → (p : Name) (terms : List Term) (n : ℕ) (rows : List (Row T)) (i : ℕ)
    → row_place p 0 rows ≡ Some i → (r : Row T) → r ≡ get_or rows i r → (paths : PathTable)
    → ((t : List Term) → number_in paths t ≡ own_or (terms_eq terms t) (number_in r.paths t) n)
    → IsEntered ((Under p terms, n) ∷ []) rows (slice_set rows i (record r { paths = paths }))
one_entry {T} p terms n rows i found r is paths enters =
    record { bare = bare_set rows i (record r { paths = paths }) r (ap bare is); table = by }
  where
    a : IsAt p rows i
    a = placed p rows i found

    among : is_among p (names rows) ≡ true
    among = is_placed p rows i found

    at : (q : Name) (t : List Term) (b : Bool) → equal q p ≡ b
        → cond b (own (number_in paths t)) (column (own_of t) None rows q)
        ≡ cond ((is_among p (names rows) && nat_le 3 n) && (equal p q && terms_eq terms t))
        (or_else (column (own_of t) None rows q) (Some n)) (column (own_of t) None rows q)
    at q t true same =
        let here : q ≡ p = equal-true q p same in
        let col : column (own_of t) None rows q ≡ own (number_in r.paths t) =
        ap (column (own_of t) None rows) here ∙ column_at (own_of t) None p rows i
        (placed p rows i found) r ∙ ap (own_of t) (sym is) in
        ap own (enters t) ∙ own_entered (terms_eq terms t) (number_in r.paths t) n
        ∙ (λ j. cond ((sym (is_placed p rows i found) j && nat_le 3 n)
        && (sym (equal-is p q (sym here)) j && terms_eq terms t)) (or_else (sym col j) (Some n))
        (sym col j))
    at q t false off =
        sym (ap (λ b. cond ((is_among p (names rows) && nat_le 3 n) && (b && terms_eq terms t))
        (or_else (column (own_of t) None rows q) (Some n)) (column (own_of t) None rows q))
        (other_name p p q refl off)
        ∙ left_alone (is_among p (names rows) && nat_le 3 n)
        (or_else (column (own_of t) None rows q) (Some n)) (column (own_of t) None rows q))

    by : (k : Key) → table_in (slice_set rows i (record r { paths = paths })) k
        ≡ entered_all (names rows) ((Under p terms, n) ∷ []) (table_in rows) k
    by (File f) = sym (left_alone (is_among p (names rows) && nat_le 3 n) (or_else None (Some n))
        None)
    by (Under q t) =
        ap (λ f. f q) (changed (own_of t) None p rows i (placed p rows i found)
        (record r { paths = paths }) (row_at rows i r found is) (own (number_in paths t)) refl)
        ∙ at q t (equal q p) refl

-- one entry more
pub entered_next : {T : Type 0} → (first rows new : List (Row T)) (q : Key × ℕ)
    (rest all : List (Key × ℕ)) → map bare rows ≡ map bare first → IsEntered (q ∷ []) rows new
    → ((k : Key) → entered_all (names first) (q ∷ rest) (table_in rows) k
    ≡ entered_all (names first) all (table_in first) k) → (k : Key) → entered_all (names first) rest
    (table_in new) k ≡ entered_all (names first) all (table_in first) k
entered_next first rows new q rest all same is before k =
    ap (λ t. entered_all (names first) rest t k) (λ i j.
    (is.table j ∙ ap (λ ns. entered_one ns q (table_in rows) j) (same_names first rows same)) i)
    ∙ before k

pub no_items : {A : Type 0} (xs : List A) → length xs ≡ 0 → xs ≡ []
no_items [] e = refl
no_items (x ∷ xs) e = absurd (omega (arith, e))
