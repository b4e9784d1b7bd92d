-- The rows after a Take are the machine's state after it.
use Rattle.std.proofs.Common.{◌≡◌, ◌≤◌, ◌||◌, ◌&&◌, ℕ, List, [], ◌∷◌, Bool, true, false, cond, Option, Some, None, map, refl, sym, ap, ◌∙◌, arith}
use Rattle.asking.specs.declared.limits.TheConstants.{END_OF_NUMBERS}
use Rattle.foreign_values.specs.declared.Part.{Part}
use Rattle.engine_laws.specs.Names.{Name, equal}
use Rattle.engine_laws.proofs.Names.{equal-true}
use Rattle.engine_laws.specs.Engine.{NotRun, is_among, if_some, is_kept_by, taken, touched_by}
use Rattle.engine_turns.specs.declared.rows.FileRow.{FileRow}
use Rattle.engine_turns.specs.declared.rows.Row.{Row}
use Rattle.engine_turns.specs.Places.{row_in, of_row, column, names, file_names}
use Rattle.engine_turns.specs.States.{EngineState, own_of, table_in, file_number, last_of, reads_of, checked_of, why_of, held_of, picture_of, state_of, is_graded, are_graded}
use Rattle.rebuild.specs.Taking.{numbered, counter_after, counter_or, old_or_none}
use Rattle.load_path.specs.declared.picture.PictureFile.{PictureFile}
use Rattle.engine_turns.specs.declared.core_data.Core.{Core}
use Rattle.rebuild.specs.Renewing.{taken_row, taken_rows, IsTaken}
use Rattle.rebuild.specs.Engines.{situation_of}
use Rattle.rebuild.specs.Reaching.{Asking, AreIndexed, calmless, IsTouched}
use Rattle.rebuild.specs.Keeping.{kept_entries}
use Rattle.rebuild.proofs.Kept.{kept_is}
use Rattle.rebuild.proofs.Touching.{touched_names, touched_column}
use Rattle.engine_turns.specs.Entering.{bare, entered_all, IsEntered}
use Rattle.engine_turns.proofs.Entered.{same_names, same_graded, same_column}
use Rattle.engine_machine.specs.Machine.{keeping}
use Rattle.engine_machine.specs.Pictures.{target_in}
use Rattle.questions.specs.declared.key.Key.{Key}
use Rattle.questions.specs.declared.key.Key.TheVariants.{File, Under}
use Rattle.std.specs.Prelude.{bytes_eq}
use Rattle.std.specs.List.{list_any}
use Rattle.object_names.specs.Objects.{are_rising, begins_above}
use Rattle.load_path.specs.Pictures.{is_rising}
use Rattle.engine_turns.specs.Ready.{is_chain, are_known, none_before, is_open, is_unchecked, IsReady}
use Rattle.engine_turns.proofs.Words.{graded_row}
use Rattle.load_path.specs.Pictures.{begins_above as picture_begins}
use Rattle.engine_machine.proofs.Truths.{both}
use Rattle.engine_turns.proofs.Readies.{both_true}
use Rattle.rebuild.proofs.Takings.{counter_up}
use Rattle.engine_turns.proofs.ByName.{row_named}

taken_named : {T : Type 0} → (s : Bool) (rows : List (Row T)) (p : Name) (x : Option (Row T))
    → row_in p rows ≡ x → (taken_row s p x).name ≡ p
taken_named s rows p None e = refl
taken_named s rows p (Some r) e = row_named p rows r e

-- the row of a name after a Take
pub row_taken : {T : Type 0} → (s : Bool) (rows : List (Row T)) (objects : List Name) (p : Name)
    → row_in p (taken_rows s rows objects) ≡ cond (is_among p objects)
    (Some (taken_row s p (row_in p rows))) None
row_taken s rows [] p = refl
row_taken s rows (o ∷ objects) p =
    ap (λ n. cond (equal n p) (Some (taken_row s o (row_in o rows)))
    (row_in p (taken_rows s rows objects))) (taken_named s rows o (row_in o rows) refl)
    ∙ at (equal o p) refl (row_taken s rows objects p)
  where
    at : (b : Bool) → equal o p ≡ b → row_in p (taken_rows s rows objects)
        ≡ cond (is_among p objects) (Some (taken_row s p (row_in p rows))) None
        → cond b (Some (taken_row s o (row_in o rows))) (row_in p (taken_rows s rows objects))
        ≡ cond (b || is_among p objects) (Some (taken_row s p (row_in p rows))) None
    at true is later = ap (λ n. Some (taken_row s n (row_in n rows))) (equal-true o p is)
    at false is later = later

pub names_taken : {T : Type 0} → (s : Bool) (rows : List (Row T)) (objects : List Name)
    → names (taken_rows s rows objects) ≡ objects
names_taken s rows [] = refl
names_taken s rows (o ∷ objects) =
    λ i. taken_named s rows o (row_in o rows) refl i ∷ names_taken s rows objects i

module _ {T : Type 0} {A : Type 0} (s : Bool) (get : Row T → A) (d : A) (rows : List (Row T))
    (objects : List Name) where
  -- a column that a Take keeps
  kept_column : ((p : Name) (x : Option (Row T)) → get (taken_row s p x) ≡ of_row get d x)
      → column get d (taken_rows s rows objects)
      ≡ (λ p. cond (is_among p objects) (column get d rows p) d)
  kept_column keeps i p = (ap (of_row get d) (row_taken s rows objects p) ∙ at (is_among p objects))
      i
    where
      at : (b : Bool) → of_row get d (cond b (Some (taken_row s p (row_in p rows))) None)
          ≡ cond b (column get d rows p) d
      at true = keeps p (row_in p rows)
      at false = refl

  -- a column that it sets
  set_column : ((p : Name) (x : Option (Row T)) → get (taken_row s p x) ≡ d)
      → column get d (taken_rows s rows objects) ≡ (λ p. d)
  set_column sets i p = (ap (of_row get d) (row_taken s rows objects p) ∙ at (is_among p objects)) i
    where
      at : (b : Bool) → of_row get d (cond b (Some (taken_row s p (row_in p rows))) None) ≡ d
      at true = sets p (row_in p rows)
      at false = refl

-- what a Take makes of the rows: those of the objects take what was kept, what is reached is
-- touched,
-- and the paths that keep their numbers are entered
pub record IsMade {T : Type 0} (settled : Bool) (objects reached : List Name)
    (rows new : List (Row T)) : Type 0 where
  pub touched : List (Row T)
  pub touches : IsTouched reached (taken_rows settled rows objects) touched
  pub enters : IsEntered (kept_entries rows objects) touched new

module _ {T : Type 0} (settled : Bool) (objects reached : List Name) (rows new : List (Row T))
    (m : IsMade settled objects reached rows new) where
  -- a column that has to do with neither flags nor paths
  same_taken : {A : Type 0} (get : Row T → A) (d : A) → ((r : Row T) → get (bare r) ≡ get r)
      → ((r : Row T) → get (calmless r) ≡ get r) → column get d new
      ≡ column get d (taken_rows settled rows objects)
  same_taken get d inv inv' =
      same_column m.touched new m.enters.bare get d inv
      ∙ touched_column (taken_rows settled rows objects) m.touched m.touches.same get d inv'

  pub names_made : names new ≡ objects
  names_made =
      same_names m.touched new m.enters.bare
      ∙ touched_names (taken_rows settled rows objects) m.touched m.touches.same
      ∙ names_taken settled rows objects

  -- the flag of an object
  pub flag_made : (p : Name) → column (λ r. r.touched) true new p
      ≡ column (λ r. r.touched) true (taken_rows settled rows objects) p
      || list_any (bytes_eq p) reached
  flag_made p = ap (λ f. f p) (same_column m.touched new m.enters.bare (λ r. r.touched) true
      (λ r. refl)) ∙ m.touches.flags p

  no_own_paths : (k : Key) → table_in m.touched k ≡ None
  no_own_paths (File f) = refl
  no_own_paths (Under p terms) =
      ap (λ f. f p) (touched_column (taken_rows settled rows objects) m.touched m.touches.same
      (own_of terms) None (λ r. refl))
      ∙ ap (λ f. f p) (set_column settled (own_of terms) None rows objects none)
    where
      none : (q : Name) (x : Option (Row T)) → own_of terms (taken_row settled q x) ≡ None
      none q None = refl
      none q (Some r) = refl

  -- the tables are those that the machine keeps
  table_made : (s : EngineState T) → s.reads ≡ column reads_of None rows → s.checked
      ≡ column checked_of None rows → (k : Key) → table_in new k
      ≡ if_some (target_in objects k) (cond (is_kept_by keeping s k objects) (table_in rows k) None)
  table_made s reads checked k =
      m.enters.table k
      ∙ ap (λ ns. entered_all ns (kept_entries rows objects) (table_in m.touched) k)
      (touched_names (taken_rows settled rows objects) m.touched m.touches.same
      ∙ names_taken settled rows objects)
      ∙ kept_is rows s reads checked k objects (table_in m.touched) (no_own_paths k)

  last_kept : (p : Name) (x : Option (Row T)) → last_of (taken_row settled p x)
      ≡ of_row last_of None x
  last_kept p None = refl
  last_kept p (Some r) = refl

  reads_kept : (p : Name) (x : Option (Row T)) → reads_of (taken_row settled p x)
      ≡ of_row reads_of None x
  reads_kept p None = refl
  reads_kept p (Some r) = refl

  checked_kept : (p : Name) (x : Option (Row T)) → checked_of (taken_row settled p x)
      ≡ of_row checked_of None x
  checked_kept p None = refl
  checked_kept p (Some r) = refl

  run_kept : (p : Name) (x : Option (Row T)) → (taken_row settled p x).run
      ≡ of_row (λ r. r.run) false x
  run_kept p None = refl
  run_kept p (Some r) = refl

  why_kept : (p : Name) (x : Option (Row T)) → why_of (taken_row settled p x)
      ≡ of_row why_of NotRun x
  why_kept p None = refl
  why_kept p (Some r) = refl

  build_set : (p : Name) (x : Option (Row T)) → (taken_row settled p x).open_build ≡ true
  build_set p None = refl
  build_set p (Some r) = refl

  check_set : (p : Name) (x : Option (Row T)) → (taken_row settled p x).open_check ≡ true
  check_set p None = refl
  check_set p (Some r) = refl

  held_set : (p : Name) (x : Option (Row T)) → held_of (taken_row settled p x) ≡ None
  held_set p None = refl
  held_set p (Some r) = refl

  taken_is : (counter counter' : ℕ) (files files' : List FileRow) (parts : List Part)
      (touched : Name → Bool) → ((p : Name) → column (λ r. r.touched) true new p ≡ touched p)
      → state_of counter' files' new [] ≡ taken keeping (picture_of files' objects) touched
      (file_number files') counter' (state_of counter files rows parts)
  taken_is counter counter' files files' parts touched flags i = record {
    counter = counter';
    number = file_number files';
    last = (same_taken last_of None (λ r. refl) (λ r. refl)
        ∙ kept_column settled last_of None rows objects last_kept) i;
    table = λ k. table_made (state_of counter files rows parts) refl refl k i;
    reads = (same_taken reads_of None (λ r. refl) (λ r. refl)
        ∙ kept_column settled reads_of None rows objects reads_kept) i;
    checked = (same_taken checked_of None (λ r. refl) (λ r. refl)
        ∙ kept_column settled checked_of None rows objects checked_kept) i;
    open_build = (same_taken (λ r. r.open_build) true (λ r. refl) (λ r. refl)
        ∙ set_column settled (λ r. r.open_build) true rows objects build_set) i;
    open_check = (same_taken (λ r. r.open_check) true (λ r. refl) (λ r. refl)
        ∙ set_column settled (λ r. r.open_check) true rows objects check_set) i;
    held = (same_taken held_of None (λ r. refl) (λ r. refl)
        ∙ set_column settled held_of None rows objects held_set) i;
    chain = [];
    checking = None;
    runs = (same_taken (λ r. r.run) false (λ r. refl) (λ r. refl)
        ∙ kept_column settled (λ r. r.run) false rows objects run_kept) i;
    why = (same_taken why_of NotRun (λ r. refl) (λ r. refl)
        ∙ kept_column settled why_of NotRun rows objects why_kept) i;
    touched = λ p. flags p i;
  }

graded_one : {T : Type 0} → (s : Bool) (rows : List (Row T)) (p : Name) → are_graded rows ≡ true
    → (x : Option (Row T)) → row_in p rows ≡ x → is_graded (taken_row s p x).last ≡ true
graded_one s rows p g None e = refl
graded_one s rows p g (Some r) e = graded_row rows p r g e

graded_taken : {T : Type 0} → (s : Bool) (rows : List (Row T)) (objects : List Name)
    → are_graded rows ≡ true → are_graded (taken_rows s rows objects) ≡ true
graded_taken s rows [] g = refl
graded_taken s rows (o ∷ objects) g =
    both_true (is_graded (taken_row s o (row_in o rows)).last)
    (are_graded (taken_rows s rows objects)) (graded_one s rows o g (row_in o rows) refl)
    (graded_taken s rows objects g)

-- the files are in the picture's order
pub rising_numbered : (old : List FileRow) (counter : ℕ) (files : List PictureFile)
    → is_rising files ≡ true → are_rising (file_names (numbered old counter files)) ≡ true
rising_numbered old counter [] q = refl
rising_numbered old counter (f ∷ []) q = refl
rising_numbered old counter (f ∷ g ∷ files) q =
    let next = counter_or counter (old_or_none old f.name f.content) in
    let two = both (picture_begins f.name (g ∷ files)) (is_rising (g ∷ files)) q in
    both_true (begins_above f.name (file_names (numbered old next (g ∷ files))))
    (are_rising (file_names (numbered old next (g ∷ files)))) two.0
    (rising_numbered old next (g ∷ files) two.1)

-- rows alike but for flags and paths
module _ {T : Type 0} where
  graded_same : (rows : List (Row T)) → are_graded (map calmless rows) ≡ are_graded rows
  graded_same [] = refl
  graded_same (r ∷ rows) = ap (λ b. is_graded r.last && b) (graded_same rows)

-- the data after a Take
pub record IsCommitted {T : Type 0} (files : List PictureFile) (c new : Core T) : Type 0 where
  pub limits : new.limits ≡ c.limits
  pub dirs : new.dirs ≡ c.dirs
  pub counter : new.counter ≡ counter_after c.files.items c.counter files
  pub numbers : new.files.items ≡ numbered c.files.items c.counter files
  pub chain : new.chain ≡ []
  pub builds : new.first_build ≡ 0
  pub checks : new.first_check ≡ 0
  pub low : c.counter ≤ END_OF_NUMBERS → new.counter ≤ END_OF_NUMBERS

module _ {T : Type 0} (c new : Core T) (files : List PictureFile) (settled : Bool)
    (objects reached : List Name) (m : IsMade settled objects reached c.rows.items new.rows.items)
    (d : IsCommitted files c new) where
  abbrev touched_after : Name → Bool
  touched_after = touched_by (situation_of c) (picture_of (numbered c.files.items c.counter files)
      objects) (file_number (numbered c.files.items c.counter files))

  ready_taken : IsReady c → is_rising files ≡ true → are_rising objects ≡ true → IsReady new
  ready_taken ready in_order once =
      let ns = names_made settled objects reached c.rows.items new.rows.items m in
      let taken = taken_rows settled c.rows.items objects in
      record {
        three = let u = counter_up c.files.items c.counter files in let t = ready.three in let k =
            d.counter in omega (arith, u, t, k);
        rising = ap are_rising ns ∙ once;
        files = ap (λ fs. are_rising (file_names fs)) d.numbers
            ∙ rising_numbered c.files.items c.counter files in_order;
        builds = ap (λ n. none_before is_open n new.rows.items) d.builds;
        checks = ap (λ n. none_before is_unchecked n new.rows.items) d.checks;
        graded = same_graded m.touched new.rows.items m.enters.bare ∙ sym (graded_same m.touched)
            ∙ ap are_graded m.touches.same ∙ graded_same taken
            ∙ graded_taken settled c.rows.items objects ready.graded;
        chain = ap is_chain d.chain;
        known = ap (are_known (names new.rows.items)) d.chain;
      }

  pub core_taken : (asks : Asking) → IsReady c → is_rising files ≡ true → are_rising objects ≡ true
      → (AreIndexed asks (situation_of c) → (p : Name) → column (λ r. r.touched) true new.rows.items
      p ≡ touched_after p) → IsTaken asks files objects c new
  core_taken asks ready in_order once flags = record {
    state = λ indexed. (λ i. state_of (d.counter i) (d.numbers i) new.rows.items (d.chain i))
        ∙ taken_is settled objects reached c.rows.items new.rows.items m c.counter
        (counter_after c.files.items c.counter files) c.files.items
        (numbered c.files.items c.counter files) c.chain touched_after (flags indexed);
    ready = ready_taken ready in_order once;
    limits = d.limits;
    dirs = d.dirs;
    files_are = d.numbers;
    objects_are = names_made settled objects reached c.rows.items new.rows.items m;
    low = d.low;
  }
