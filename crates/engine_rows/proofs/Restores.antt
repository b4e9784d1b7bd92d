-- The engine that is restored from what was kept has that state.
use Rattle.std.proofs.Common.{◌≡◌, ◌≤◌, ◌&&◌, ◌++◌, ℕ, suc, List, [], ◌∷◌, Bool, true, false, not, cond, nat_le, Option, Some, None, option_map, Ok, Err, map, length, refl, sym, ap, ◌∙◌, subst}
use Rattle.std.specs.List.{list_all}
use Rattle.std.proofs.lemmas.Bool.{leb-true}
use Rattle.asking.specs.declared.limits.TheConstants.{END_OF_NUMBERS}
use Rattle.base.specs.declared.limits.TheConstants.{MAX_OBJECTS}
use Rattle.load_path.specs.Pictures.{is_below}
use Rattle.path_tree.specs.declared.path.Term.{Term}
use Rattle.object_names.specs.Objects.{are_rising}
use Rattle.questions.specs.declared.key.Key.{Key}
use Rattle.questions.specs.declared.key.Key.TheVariants.{File, Under}
use Rattle.questions.specs.Keys.{key_eq}
use Rattle.questions.specs.KeyLaws.{key_same}
use Rattle.questions.specs.Laws.{is_circular}
use Rattle.runner.specs.Ends.{Verdict}
use Rattle.stored_rows.specs.Rows.{are_rising as stored_rising}
use Rattle.kept_state.specs.declared.kept.KeptFile.{KeptFile}
use Rattle.kept_state.specs.declared.kept.KeptObject.{KeptObject}
use Rattle.kept_state.specs.Stored.{Stored, file_name, object_name}
use Rattle.engine_laws.specs.Names.{Name, equal}
use Rattle.engine_laws.specs.Engine.{NotRun, is_among, or_else, if_some, first_number}
use Rattle.engine_laws.specs.Rows.{if_whole, if_tree, number_read, number_kept, row_entry}
use Rattle.engine_laws.proofs.Names.{equal-true, equal-is}
use Rattle.engine_laws.proofs.Facts.{or_false}
use Rattle.engine_machine.specs.Machine.{Kept, keeping, fault_grade, grade}
use Rattle.engine_machine.specs.Pictures.{target_in}
use Rattle.engine_machine.proofs.Truths.{both}
use Rattle.engine_turns.specs.declared.core_data.Core.{Core}
use Rattle.engine_turns.specs.declared.rows.FileRow.{FileRow}
use Rattle.engine_turns.specs.declared.rows.Last.{Last}
use Rattle.engine_turns.specs.declared.rows.Row.{Row}
use Rattle.engine_turns.specs.Kinds.{is_tree}
use Rattle.engine_turns.specs.Entering.{is_wanted, wanted, entered_one, entered_all, bare, IsEntered}
use Rattle.engine_turns.specs.Places.{row_in, of_row, column, keyed, names, file_names}
use Rattle.engine_turns.specs.Ready.{none_before, is_open, is_unchecked, is_chain, are_known}
use Rattle.engine_turns.specs.States.{EngineState, file_number, last_pair, last_of, reads_of, checked_of, held_of, why_of, chain_of, checking_of, own_of, table_in, picture_of, state_of, are_graded}
use Rattle.engine_turns.proofs.Entered.{all_noted, same_names, same_graded, same_length, same_column}
use Rattle.engine_turns.proofs.Once.{are_once, rising_once}
use Rattle.rebuild.specs.Engines.{EngineSituation}
use Rattle.rebuild.specs.Keeping.{build_items, check_items}
use Rattle.engine_rows.specs.Restoring.{file_row, restored_row, without_paths, has_own_grade, has_number, is_short, is_fit, IsRestored, is_tree_last, has_tree, asks_tree, is_tree_item, tree_items, record_items, all_items}
use Rattle.rebuild.proofs.Appends.{no_more}
use Rattle.rebuild.proofs.Moves.{not_true}

-- each of these is the row of its name
abbrev pub AllFound : {T : Type 0} → List (Row T) → List (Row T) → Type 0
AllFound rows [] = Unit {0}
AllFound rows (r ∷ rest) = (row_in r.name rows ≡ Some r) × AllFound rows rest

equal_sym : (a b : Name) → equal a b ≡ false → equal b a ≡ false
equal_sym a b off = at (equal b a) refl
  where
    at : (x : Bool) → equal b a ≡ x → x ≡ false
    at true is = absurd (let on = equal-is a b (sym (equal-true b a is)) in
        let clash : true ≡ false = sym on ∙ off in cc)
    at false is = refl

later_found : {T : Type 0} (x : Row T) (rows rest : List (Row T)) → is_among x.name (names rest)
    ≡ false → AllFound rows rest → AllFound (x ∷ rows) rest
later_found x rows [] off found = tt
later_found x rows (r ∷ rest) off found =
    let parts = or_false (equal r.name x.name) (is_among x.name (names rest)) off in (
      ap (λ b. cond b (Some x) (row_in r.name rows)) (equal_sym r.name x.name parts.0)
          ∙ found.0,
      later_found x rows rest parts.1 found.1,
    )

pub all_found : {T : Type 0} (rows : List (Row T)) → are_once (names rows) ≡ true
    → AllFound rows rows
all_found [] once = tt
all_found (x ∷ rows) once =
    let two = both (not (is_among x.name (names rows))) (are_once (names rows)) once in (
      ap (λ b. cond b (Some x) (row_in x.name rows)) (equal-is x.name x.name refl),
      later_found x
          rows rows (not_true (is_among x.name (names rows)) two.0) (all_found rows two.1),
    )

-- one more
pub tree_cons : {T : Type 0} (rows : List (Row T)) (q : Key × ℕ) (items : List (Key × ℕ))
    → tree_items rows (q ∷ items) ≡ tree_items rows (q ∷ []) ++ tree_items rows items
tree_cons rows q items = at (is_tree_item rows q)
  where
    at : (b : Bool) → cond b (q ∷ tree_items rows items) (tree_items rows items)
        ≡ cond b (q ∷ []) [] ++ tree_items rows items
    at true = refl
    at false = refl

pub all_cons : {T : Type 0} (rows : List (Row T)) (r : Row T) (rest : List (Row T))
    → all_items rows (r ∷ rest) ≡ all_items rows (r ∷ []) ++ all_items rows rest
all_cons rows r rest = ap (λ l. l ++ all_items rows rest) (sym (no_more (record_items rows r)))

-- what is not wanted does not enter
all_wanted : (objects : List Name) (items : List (Key × ℕ)) (table : Key → Option ℕ) (k : Key)
    → entered_all objects items table k ≡ entered_all objects (wanted objects items) table k
all_wanted objects [] table k = refl
all_wanted objects (q ∷ items) table k =
    at (is_wanted objects q) refl (λ t. all_wanted objects items t k)
  where
    at : (b : Bool) → is_wanted objects q ≡ b
        → ((t : Key → Option ℕ) → entered_all objects items t k
        ≡ entered_all objects (wanted objects items) t k) → entered_all objects items
        (entered_one objects q table) k ≡ entered_all objects
        (cond b (q ∷ wanted objects items) (wanted objects items)) table k
    at true is ih = ih (entered_one objects q table)
    at false is ih = ap (λ t. entered_all objects items t k)
        (λ i j. cond (is i && key_eq q.0 j) (or_else (table j) (Some q.1)) (table j)) ∙ ih table

-- the first number of a list of two parts
first_both : (T : Type 0) (k : Key) (xs ys : List (Key × ℕ))
    → first_number (keeping {T = T}) k (xs ++ ys)
    ≡ or_else (first_number (keeping {T = T}) k xs) (first_number (keeping {T = T}) k ys)
first_both T k [] ys = refl
first_both T k (q ∷ xs) ys = at (key_eq q.0 k && nat_le 3 q.1) (first_both T k xs ys)
  where
    at : (b : Bool) → first_number (keeping {T = T}) k (xs ++ ys)
        ≡ or_else (first_number (keeping {T = T}) k xs) (first_number (keeping {T = T}) k ys)
        → cond b (Some q.1) (first_number (keeping {T = T}) k (xs ++ ys))
        ≡ or_else (cond b (Some q.1) (first_number (keeping {T = T}) k xs))
        (first_number (keeping {T = T}) k ys)
    at true ih = refl
    at false ih = ih

-- what the items of trees name
module _ {T : Type 0} (rows : List (Row T)) (k : Key) where
  abbrev first : List (Key × ℕ) → Option ℕ
  first = first_number (keeping {T = T}) k

  first_tree : (items : List (Key × ℕ)) → first (tree_items rows items)
      ≡ cond (asks_tree rows k) (first items) None
  first_tree [] = at (asks_tree rows k)
    where
      at : (b : Bool) → ◌≡◌ {A = Option ℕ} None (cond b None None)
      at true = refl
      at false = refl
  first_tree (q ∷ items) =
      at (asks_tree rows q.0) (nat_le 3 q.1) (key_eq q.0 k) (asks_tree rows k) refl refl refl refl
      (first_tree items)
    where
      at : (a b c d : Bool) → asks_tree rows q.0 ≡ a → nat_le 3 q.1 ≡ b → key_eq q.0 k ≡ c
          → asks_tree rows k ≡ d → first (tree_items rows items) ≡ cond d (first items) None
          → first (cond (a && b) (q ∷ tree_items rows items) (tree_items rows items))
          ≡ cond d (cond (c && b) (Some q.1) (first items)) None
      at true true true true tree large same asks ih =
          (λ i. cond (same i && large i) (Some q.1) (first (tree_items rows items)))
      at true true true false tree large same asks ih =
          absurd (let clash : true ≡ false =
          sym tree ∙ ap (asks_tree rows) (key_same q.0 k same) ∙ asks in cc)
      at true true false d tree large same asks ih =
          (λ i. cond (same i && large i) (Some q.1) (first (tree_items rows items))) ∙ ih
      at true false true d tree large same asks ih = ih
      at true false false d tree large same asks ih = ih
      at false b true true tree large same asks ih =
          absurd (let clash : false ≡ true =
          sym tree ∙ ap (asks_tree rows) (key_same q.0 k same) ∙ asks in cc)
      at false b true false tree large same asks ih = ih
      at false b false d tree large same asks ih = ih

  either : (b : Bool) (x y : Option ℕ) → or_else (cond b x None) (cond b y None)
      ≡ cond b (or_else x y) None
  either true x y = refl
  either false x y = refl

  first_parts : (r : Option (List (Key × ℕ))) (c : Option (List (Key × ℕ) × Verdict))
      → first (tree_items rows (build_items r) ++ tree_items rows (check_items c))
      ≡ cond (asks_tree rows k) (number_read (keeping {T = T}) k r c) None
  first_parts None None = at (asks_tree rows k)
    where
      at : (b : Bool) → ◌≡◌ {A = Option ℕ} None (cond b None None)
      at true = refl
      at false = refl
  first_parts None (Some q) = first_tree q.0
  first_parts (Some items) None = ap first (no_more (tree_items rows items)) ∙ first_tree items
  first_parts (Some items) (Some q) =
      first_both T k (tree_items rows items) (tree_items rows q.0)
      ∙ (λ i. or_else (first_tree items i) (first_tree q.0 i))
      ∙ either (asks_tree rows k) (first items) (first q.0)

  module _ (s : EngineState T) (reads : s.reads ≡ column reads_of None rows)
      (checked : s.checked ≡ column checked_of None rows) where
    first_all : (rest : List (Row T)) → AllFound rows rest → first (all_items rows rest)
        ≡ cond (asks_tree rows k) (number_kept (keeping {T = T}) s k (names rest)) None
    first_all [] found = first_tree []
    first_all (r ∷ rest) found =
        first_both T k (record_items rows r) (all_items rows rest)
        ∙ (λ i. or_else (first_parts (reads_of r) (checked_of r) i) (first_all rest found.1 i))
        ∙ either (asks_tree rows k) (number_read (keeping {T = T}) k (reads_of r) (checked_of r))
        (number_kept (keeping {T = T}) s k (names rest))
        ∙ (λ i. cond (asks_tree rows k)
        (or_else (number_read (keeping {T = T}) k (sym
        (ap (λ f. f r.name) reads ∙ ap (of_row reads_of None) found.0) i)
        (sym (ap (λ f. f r.name) checked ∙ ap (of_row checked_of None) found.0) i))
        (number_kept (keeping {T = T}) s k (names rest))) None)

-- of a tree the first number, of a fault none
module _ (T : Type 0) (e : Option ℕ) where
  by_fault : (b : Bool) → None ≡ if_whole (fault_grade b) e
  by_fault true = refl
  by_fault false = refl

  by_result : (x : Kept) → cond (is_tree x) e None ≡ if_whole (grade x) e
  by_result (Ok t) = refl
  by_result (Err f) = by_fault (is_circular f.code)

  by_last : (l : Option Last) → cond (is_tree_last l) e None
      ≡ if_tree (keeping {T = T}) (option_map last_pair l) e
  by_last None = refl
  by_last (Some l) = by_result l.result

module _ {T : Type 0} (counter : ℕ) (files : List FileRow) (rows : List (Row T)) where
  abbrev begun : EngineSituation T
  begun = record { picture = picture_of files (names rows); state = state_of counter files rows [] }

  pub entered_table : (new : List (Row T)) → are_rising (names rows) ≡ true
      → ((k : Key) → table_in rows k ≡ None) → IsEntered (all_items rows rows) rows new → (k : Key)
      → table_in new k ≡ row_entry keeping begun k (target_in (names rows) k)
  entered_table new rising none is k =
      is.table k ∙ all_wanted (names rows) (all_items rows rows) (table_in rows) k
      ∙ all_noted T (names rows) (all_items rows rows) (table_in rows) k
      ∙ ap (λ e. or_else e (if_some (target_in (names rows) k)
      (first_number (keeping {T = T}) k (all_items rows rows)))) (none k)
      ∙ ap (if_some (target_in (names rows) k)) (first_all rows k begun.state refl refl rows
      (all_found rows (rising_once (names rows) rising)))
      ∙ at k
    where
      here : (p : Name) (e : Option ℕ) (x : Option (Row T))
          → cond (of_row (λ r. is_tree_last r.last) false x) e None
          ≡ if_tree (keeping {T = T}) (of_row last_of None x) e
      here p e None = refl
      here p e (Some r) = by_last T e r.last

      at_among : (p : Name) (terms : List Term) (b : Bool)
          → if_some (cond b (Some p) None) (cond (has_tree rows p)
          (number_kept (keeping {T = T}) begun.state (Under p terms) (names rows)) None)
          ≡ row_entry (keeping {T = T}) begun (Under p terms) (cond b (Some p) None)
      at_among p terms true = here p (number_kept (keeping {T = T}) begun.state (Under p terms)
          (names rows)) (row_in p rows)
      at_among p terms false = refl

      at : (k : Key) → if_some (target_in (names rows) k)
          (cond (asks_tree rows k) (number_kept (keeping {T = T}) begun.state k (names rows)) None)
          ≡ row_entry (keeping {T = T}) begun k (target_in (names rows) k)
      at (File f) = refl
      at (Under p terms) = at_among p terms (is_among p (names rows))

-- the rows of what was kept
module _ (T : Type 0) where
  pub row_names : (os : List KeptObject) → names (map (restored_row {T = T}) os)
      ≡ map object_name os
  row_names [] = refl
  row_names (o ∷ os) = ap (λ ns. o.name ∷ ns) (row_names os)

  row_grades : (os : List KeptObject) → are_graded (map (restored_row {T = T}) os)
      ≡ list_all has_own_grade os
  row_grades [] = refl
  row_grades (o ∷ os) = ap (λ b. has_own_grade o && b) (row_grades os)

  pub row_kept : (p : Name) (os : List KeptObject) → row_in p (map (restored_row {T = T}) os)
      ≡ option_map restored_row (keyed object_name p os)
  row_kept p [] = refl
  row_kept p (o ∷ os) = at (equal o.name p) (row_kept p os)
    where
      at : (b : Bool) → row_in p (map (restored_row {T = T}) os)
          ≡ option_map restored_row (keyed object_name p os)
          → cond b (Some (restored_row o)) (row_in p (map (restored_row {T = T}) os))
          ≡ option_map restored_row (cond b (Some o) (keyed object_name p os))
      at true ih = refl
      at false ih = ih

  pub no_table : (os : List KeptObject) (k : Key) → table_in (map (restored_row {T = T}) os) k
      ≡ None
  no_table os (File f) = refl
  no_table os (Under p terms) =
      ap (of_row (own_of terms) None) (row_kept p os) ∙ at (keyed object_name p os)
    where
      at : (x : Option KeptObject) → of_row (own_of {T = T} terms) None (option_map restored_row x)
          ≡ None
      at None = refl
      at (Some o) = refl

  row_count : (os : List KeptObject) → length (map (restored_row {T = T}) os) ≡ length os
  row_count [] = refl
  row_count (o ∷ os) = ap suc (row_count os)

pub kept_names : (fs : List KeptFile) → file_names (map file_row fs) ≡ map file_name fs
kept_names [] = refl
kept_names (f ∷ fs) = ap (λ ns. f.name ∷ ns) (kept_names fs)

pub same_rising : (ns : List (List ℕ)) → stored_rising ns ≡ are_rising ns
same_rising [] = refl
same_rising (n ∷ []) = refl
same_rising (n ∷ m ∷ ns) = ap (λ b. is_below n m && b) (same_rising (m ∷ ns))

-- what fits
pub record Fits (s : Stored) : Type 0 where
  pub three : 3 ≤ s.counter
  pub low : s.counter ≤ END_OF_NUMBERS
  pub files : are_rising (map file_name s.files) ≡ true
  pub numbered : list_all has_number s.files ≡ true
  pub short : list_all is_short s.files ≡ true
  pub objects : are_rising (map object_name s.objects) ≡ true
  pub graded : list_all has_own_grade s.objects ≡ true
  pub few : length s.objects ≤ MAX_OBJECTS

pub fits_is : (s : Stored) → is_fit s ≡ true → Fits s
fits_is s e =
    let a = both (nat_le 3 s.counter) _ e in
    let b = both (nat_le s.counter END_OF_NUMBERS) _ a.1 in
    let d = both (stored_rising (map file_name s.files)) _ b.1 in
    let n = both (list_all has_number s.files) _ d.1 in
    let h = both (list_all is_short s.files) _ n.1 in
    let f = both (stored_rising (map object_name s.objects)) _ h.1 in
    let g = both (list_all has_own_grade s.objects) _ f.1 in
    record {
      three = leb-true 3 s.counter a.0;
      low = leb-true s.counter END_OF_NUMBERS b.0;
      files =
          sym (same_rising (map file_name s.files)) ∙ d.0;
      numbered = n.0;
      short = h.0;
      objects =
          sym (same_rising (map object_name s.objects)) ∙ f.0;
      graded = g.0;
      few =
          leb-true (length s.objects) MAX_OBJECTS g.1;
    }

pub rows_rise : {T : Type 0} (s : Stored) (rows : List (Row T)) → is_fit s ≡ true → rows
    ≡ map restored_row s.objects → are_rising (names rows) ≡ true
rows_rise {T} s rows fit made =
    ap are_rising (ap names made ∙ row_names T s.objects) ∙ (fits_is s fit).objects

module _ {T : Type 0} (s : Stored) (c : Core T) (rows : List (Row T)) where
  pub restores : c.limits ≡ s.limits → c.dirs ≡ s.dirs → c.counter ≡ s.counter → c.files.items
      ≡ map file_row s.files → c.chain ≡ [] → c.first_build ≡ 0 → c.first_check ≡ 0 → rows
      ≡ map restored_row s.objects → IsEntered (all_items rows rows) rows c.rows.items → is_fit s
      ≡ true → IsRestored s c
  restores limits dirs counter files chain build check made entered fit = record {
    value = λ i. record {
      limits = limits i;
      dirs = dirs i;
      files = files i;
      situation = record {
        picture = picture_of (files i) (names_are i);
        state = record {
          counter = counter i;
          number = file_number (files i);
          last = same last_of None (λ r. refl) i;
          table = λ k. table_is k i;
          reads = same reads_of None (λ r. refl) i;
          checked = same checked_of None (λ r. refl) i;
          open_build = same (λ r. r.open_build) true (λ r. refl) i;
          open_check = same (λ r. r.open_check) true (λ r. refl) i;
          held = same held_of None (λ r. refl) i;
          chain = chain_of (chain i);
          checking = checking_of (chain i);
          runs = same (λ r. r.run) false (λ r. refl) i;
          why = same why_of NotRun (λ r. refl) i;
          touched = same (λ r. r.touched) true (λ r. refl) i;
        };
      };
    };
    ready = record {
      three = subst (λ n. 3 ≤ n) (sym counter) fits.three;
      rising = ap are_rising names_are ∙ fits.objects;
      files = ap (λ l. are_rising (file_names l)) files ∙ ap are_rising (kept_names s.files)
          ∙ fits.files;
      builds = ap (λ n. none_before is_open n c.rows.items) build;
      checks = ap (λ n. none_before is_unchecked n c.rows.items) check;
      graded = same_graded rows c.rows.items entered.bare ∙ ap are_graded made
          ∙ row_grades T s.objects ∙ fits.graded;
      chain = ap is_chain chain;
      known = ap (are_known (names c.rows.items)) chain;
    };
    low = subst (λ n. n ≤ END_OF_NUMBERS) (sym counter) fits.low;
    few = subst (λ n. n ≤ MAX_OBJECTS)
        (sym (same_length rows c.rows.items entered.bare ∙ ap length made ∙ row_count T s.objects))
        fits.few;
  }
    where
      fits : Fits s
      fits = fits_is s fit

      row_names_are : names rows ≡ map object_name s.objects
      row_names_are = ap names made ∙ row_names T s.objects

      names_are : names c.rows.items ≡ map object_name s.objects
      names_are = same_names rows c.rows.items entered.bare ∙ row_names_are

      same : {A : Type 0} (get : Row T → A) (d : A) → ((r : Row T) → get (bare r) ≡ get r)
          → column get d c.rows.items ≡ column get d (map restored_row s.objects)
      same get d inv = same_column rows c.rows.items entered.bare get d inv ∙ ap (column get d) made

      table_is : (k : Key) → table_in c.rows.items k
          ≡ row_entry (keeping {T = T}) (without_paths s) k
          (target_in (map object_name s.objects) k)
      table_is k =
          entered_table s.counter (map file_row s.files) rows c.rows.items
          (ap are_rising row_names_are ∙ fits.objects) (λ j. ap (λ r. table_in r j) made
          ∙ no_table T s.objects j) entered k
          ∙ (λ i. row_entry (keeping {T = T})
          (record {
            picture = picture_of (map file_row s.files) (row_names_are i);
            state =
                state_of s.counter (map file_row s.files) (made i) [];
          }) k
          (target_in (row_names_are i) k))
