-- The paths that keep their numbers at a Take are those that the machine keeps.
use Rattle.std.proofs.Common.{◌≡◌, ◌||◌, ◌&&◌, ◌++◌, ℕ, List, [], ◌∷◌, Bool, true, false, cond, nat_le, Option, Some, None, Result, Ok, Err, OnOk, map, refl, sym, ap, ◌∙◌}
use Rattle.std.proofs.lemmas.List.{map_push}
use Rattle.questions.specs.declared.key.Key.{Key}
use Rattle.questions.specs.declared.key.Key.TheVariants.{File, Under}
use Rattle.questions.specs.Keys.{key_eq}
use Rattle.questions.specs.KeyLaws.{key_same}
use Rattle.read_sets.specs.declared.trace.Item.{Item}
use Rattle.read_sets.specs.Items.{pairs_of}
use Rattle.runner.specs.Ends.{Verdict}
use Rattle.engine_laws.specs.Names.{Name}
use Rattle.engine_laws.specs.Engine.{or_else, if_some, first_number, is_named_in, is_read, is_kept_by}
use Rattle.engine_machine.specs.Machine.{keeping}
use Rattle.engine_machine.specs.Pictures.{target_in}
use Rattle.engine_turns.specs.declared.entering.Entry.{Entry}
use Rattle.engine_turns.specs.declared.rows.Row.{Row}
use Rattle.engine_turns.specs.Entering.{entry_pair, is_wanted, wanted, entered_one, entered_all}
use Rattle.engine_turns.specs.Places.{row_in, of_row, column}
use Rattle.engine_turns.specs.States.{EngineState, own, own_of, table_in, reads_of, checked_of}
use Rattle.engine_turns.proofs.Entered.{all_noted}
use Rattle.rebuild.specs.Keeping.{with_own, own_entry, own_entries, build_items, check_items, row_entries, found_entries, kept_entries}
use Rattle.rebuild.proofs.Appends.{no_more}

-- one entry more
pub own_cons : (table : Key → Option ℕ) (x : Item) (xs : List Item)
    → own_entries table (pairs_of (x ∷ xs)) ≡ own_entries table (pairs_of (x ∷ []))
    ++ own_entries table (pairs_of xs)
own_cons table x xs = ap (λ l. l ++ own_entries table (pairs_of xs))
    (sym (no_more (own_entry table x.key)))

pub kept_cons : {T : Type 0} (rows : List (Row T)) (o : Name) (objects : List Name)
    → kept_entries rows (o ∷ objects) ≡ kept_entries rows (o ∷ []) ++ kept_entries rows objects
kept_cons rows o objects =
    ap (λ l. l ++ kept_entries rows objects) (sym
    (no_more (found_entries (table_in rows) (row_in o rows))))

pub no_own : (table : Key → Option ℕ) (k : Key) (made : List (Key × ℕ)) → table k ≡ None → made
    ≡ made ++ own_entry table k
no_own table k made e = sym (ap (λ x. made ++ with_own k x) e ∙ no_more made)

pub small_own : (n : ℕ) → nat_le 3 n ≡ false → own n ≡ None
small_own n e = ap (λ b. cond b (Some n) None) e

pub an_own : (table : Key → Option ℕ) (k : Key) (n : ℕ) (made made' : List Entry) (e : Entry)
    → entry_pair e ≡ (k, n) → table k ≡ Some n → made' ≡ made ++ e ∷ [] → map entry_pair made'
    ≡ map entry_pair made ++ own_entry table k
an_own table k n made made' e is has more =
    ap (map entry_pair) more ∙ map_push entry_pair made e
    ∙ ap (λ x. map entry_pair made ++ x ∷ []) is
    ∙ sym (ap (λ x. map entry_pair made ++ with_own k x) has)

-- what is not wanted does not enter
all_wanted : (objects : List Name) (items : List (Key × ℕ)) (table : Key → Option ℕ) (k : Key)
    → entered_all objects items table k ≡ entered_all objects (wanted objects items) table k
all_wanted objects [] table k = refl
all_wanted objects (q ∷ items) table k =
    at (is_wanted objects q) refl (λ t. all_wanted objects items t k)
  where
    at : (b : Bool) → is_wanted objects q ≡ b
        → ((t : Key → Option ℕ) → entered_all objects items t k
        ≡ entered_all objects (wanted objects items) t k) → entered_all objects items
        (entered_one objects q table) k ≡ entered_all objects
        (cond b (q ∷ wanted objects items) (wanted objects items)) table k
    at true is ih = ih (entered_one objects q table)
    at false is ih = ap (λ t. entered_all objects items t k)
        (λ i j. cond (is i && key_eq q.0 j) (or_else (table j) (Some q.1)) (table j)) ∙ ih table

module _ (T : Type 0) where
  -- the first number of a list of two parts
  first_both : (k : Key) (xs ys : List (Key × ℕ)) → first_number (keeping {T = T}) k (xs ++ ys)
      ≡ or_else (first_number (keeping {T = T}) k xs) (first_number (keeping {T = T}) k ys)
  first_both k [] ys = refl
  first_both k (q ∷ xs) ys = at (key_eq q.0 k && nat_le 3 q.1) (first_both k xs ys)
    where
      at : (b : Bool) → first_number (keeping {T = T}) k (xs ++ ys)
          ≡ or_else (first_number (keeping {T = T}) k xs) (first_number (keeping {T = T}) k ys)
          → cond b (Some q.1) (first_number (keeping {T = T}) k (xs ++ ys))
          ≡ or_else (cond b (Some q.1) (first_number (keeping {T = T}) k xs))
          (first_number (keeping {T = T}) k ys)
      at true ih = refl
      at false ih = ih

  either : (a b : Bool) (x : Option ℕ) → or_else (cond a x None) (cond b x None)
      ≡ cond (a || b) x None
  either true true None = refl
  either true true (Some n) = refl
  either true false None = refl
  either true false (Some n) = refl
  either false b x = refl

  module _ (table : Key → Option ℕ) (large : (k : Key) (n : ℕ) → table k ≡ Some n → nat_le 3 n
      ≡ true) (k : Key) where
    first_own : (j : Key) → first_number (keeping {T = T}) k (own_entry table j)
        ≡ cond (key_eq j k) (table k) None
    first_own j = at (table j) refl (key_eq j k) refl
      where
        at : (x : Option ℕ) → table j ≡ x → (b : Bool) → key_eq j k ≡ b
            → first_number (keeping {T = T}) k (with_own j x) ≡ cond b (table k) None
        at None is true same = sym (ap table (sym (key_same j k same)) ∙ is)
        at None is false off = refl
        at (Some n) is true same =
            (λ i. cond (same i && large j n is i) (Some n) None)
            ∙ sym (ap table (sym (key_same j k same)) ∙ is)
        at (Some n) is false off = ap (λ b. cond (b && nat_le 3 n) (Some n) None) off

    first_owns : (items : List (Key × ℕ)) → first_number (keeping {T = T}) k
        (own_entries table items) ≡ cond (is_named_in (keeping {T = T}) k items) (table k) None
    first_owns [] = refl
    first_owns (q ∷ items) =
        first_both k (own_entry table q.0) (own_entries table items)
        ∙ (λ i. or_else (first_own q.0 i) (first_owns items i))
        ∙ either (key_eq q.0 k) (is_named_in (keeping {T = T}) k items) (table k)

    first_read : (r : Option (List (Key × ℕ))) (c : Option (List (Key × ℕ) × Verdict))
        → first_number (keeping {T = T}) k (own_entries table (build_items r)
        ++ own_entries table (check_items c)) ≡ cond (is_read (keeping {T = T}) k r c) (table k)
        None
    first_read None None = refl
    first_read None (Some q) = first_owns q.0
    first_read (Some items) None =
        ap (first_number (keeping {T = T}) k) (no_more (own_entries table items)) ∙ first_owns items
    first_read (Some items) (Some q) =
        first_both k (own_entries table items) (own_entries table q.0)
        ∙ (λ i. or_else (first_owns items i) (first_owns q.0 i))
        ∙ either (is_named_in (keeping {T = T}) k items) (is_named_in (keeping {T = T}) k q.0)
        (table k)

own_large : (m n : ℕ) → own m ≡ Some n → nat_le 3 n ≡ true
own_large m n e = at (nat_le 3 m) refl e
  where
    at : (b : Bool) → nat_le 3 m ≡ b → cond b (Some m) None ≡ Some n → nat_le 3 n ≡ true
    at true is e = let same : m ≡ n = cc in ap (nat_le 3) (sym same) ∙ is
    at false is e = absurd (let clash : ◌≡◌ {A = Option ℕ} None (Some n) = e in cc)

module _ {T : Type 0} (rows : List (Row T)) where
  table_large : (k : Key) (n : ℕ) → table_in rows k ≡ Some n → nat_le 3 n ≡ true
  table_large (File f) n e = absurd (let clash : ◌≡◌ {A = Option ℕ} None (Some n) = e in cc)
  table_large (Under p terms) n e = at (row_in p rows) e
    where
      at : (x : Option (Row T)) → of_row (own_of terms) None x ≡ Some n → nat_le 3 n ≡ true
      at None e = absurd (let clash : ◌≡◌ {A = Option ℕ} None (Some n) = e in cc)
      at (Some r) e = own_large _ n e

  module _ (s : EngineState T) (reads : s.reads ≡ column reads_of None rows)
      (checked : s.checked ≡ column checked_of None rows) (k : Key) where
    first_found : (o : Name) → first_number (keeping {T = T}) k
        (found_entries (table_in rows) (row_in o rows))
        ≡ cond (is_read (keeping {T = T}) k (s.reads o) (s.checked o)) (table_in rows k) None
    first_found o = at (row_in o rows) refl
      where
        at : (x : Option (Row T)) → row_in o rows ≡ x
            → first_number (keeping {T = T}) k (found_entries (table_in rows) x)
            ≡ cond (is_read (keeping {T = T}) k (s.reads o) (s.checked o)) (table_in rows k) None
        at None is = sym (λ i. cond (is_read (keeping {T = T}) k
            ((ap (λ f. f o) reads ∙ ap (of_row reads_of None) is) i)
            ((ap (λ f. f o) checked ∙ ap (of_row checked_of None) is) i)) (table_in rows k) None)
        at (Some r) is =
            first_read T (table_in rows) table_large k (reads_of r) (checked_of r)
            ∙ sym (λ i. cond (is_read (keeping {T = T}) k
            ((ap (λ f. f o) reads ∙ ap (of_row reads_of None) is) i)
            ((ap (λ f. f o) checked ∙ ap (of_row checked_of None) is) i)) (table_in rows k)
            None)

    first_kept : (objects : List Name) → first_number (keeping {T = T}) k
        (kept_entries rows objects) ≡ cond (is_kept_by keeping s k objects) (table_in rows k) None
    first_kept [] = refl
    first_kept (o ∷ objects) =
        first_both T k (found_entries (table_in rows) (row_in o rows)) (kept_entries rows objects)
        ∙ (λ i. or_else (first_found o i) (first_kept objects i))
        ∙ either T (is_read (keeping {T = T}) k (s.reads o) (s.checked o))
        (is_kept_by keeping s k objects) (table_in rows k)

    -- entering them in empty tables leaves what the machine keeps
    pub kept_is : (objects : List Name) (table : Key → Option ℕ) → table k ≡ None
        → entered_all objects (kept_entries rows objects) table k
        ≡ if_some (target_in objects k) (cond (is_kept_by keeping s k objects) (table_in rows k)
        None)
    kept_is objects table none =
        all_wanted objects (kept_entries rows objects) table k
        ∙ all_noted T objects (kept_entries rows objects) table k
        ∙ ap (λ x. or_else x (if_some (target_in objects k)
        (first_number (keeping {T = T}) k (kept_entries rows objects)))) none
        ∙ ap (if_some (target_in objects k)) (first_kept objects)

-- an object without a row has no entries
pub none_kept : {T : Type 0} (rows : List (Row T)) (o : Name) (made : List (Key × ℕ))
    → row_in o rows ≡ None → made ≡ made ++ kept_entries rows (o ∷ [])
none_kept rows o made e =
    sym (ap (λ x. made ++ (found_entries (table_in rows) x ++ [])) e ∙ no_more made)

-- and one with a row those of its record
pub some_kept : {T A E : Type 0} (res : Result A E) (rows : List (Row T)) (o : Name) (r : Row T)
    (made made' : List (Key × ℕ)) → row_in o rows ≡ Some r
    → OnOk res (made' ≡ made ++ row_entries (table_in rows) r)
    → OnOk res (made' ≡ made ++ kept_entries rows (o ∷ []))
some_kept (Ok a) rows o r made made' e h =
    h ∙ sym (ap (λ x. made ++ (found_entries (table_in rows) x ++ [])) e
    ∙ ap (λ l. made ++ l) (no_more (row_entries (table_in rows) r)))
some_kept (Err a) rows o r made made' e h = tt
