-- What is kept of an engine, and that it goes on where it is restored.
use Rattle.std.proofs.Common.{◌≡◌, ◌||◌, ℕ, List, [], ◌∷◌, Bool, true, false, not, cond, Option, Some, None, option_map, map, refl, sym, ap, ◌∙◌, subst, inl, inr}
use Rattle.std.proofs.Math.Logic.{∥∥₁_map, ∥∥₁_elim}
use Rattle.std.proofs.Props.{props}
use Rattle.load_path.specs.declared.picture.PictureFile.{PictureFile}
use Rattle.pan_ast.specs.declared.work.Limits.{Limits}
use Rattle.questions.specs.declared.key.Key.{Key}
use Rattle.questions.specs.declared.key.Key.TheVariants.{File, Under}
use Rattle.read_sets.specs.declared.trace.Item.{Item}
use Rattle.read_sets.specs.Items.{pairs_of}
use Rattle.runner.specs.Ends.{Verdict}
use Rattle.runner.specs.Meaning.{IsLawful}
use Rattle.kept_state.specs.declared.kept.KeptObject.{KeptObject}
use Rattle.kept_state.specs.Stored.{Stored, object_name}
use Rattle.engine_laws.specs.Names.{Name, equal}
use Rattle.engine_laws.specs.Runner.{IsIn}
use Rattle.engine_laws.specs.Engine.{NotRun, is_among}
use Rattle.engine_laws.specs.Rows.{AreNamed, AreSoundRows}
use Rattle.engine_laws.specs.Restored.{with_numbers, at_rest, restored, AllSettled}
use Rattle.engine_laws.proofs.Names.{equal-true}
use Rattle.engine_laws.proofs.Touched.{in_among, among_in}
use Rattle.engine_laws.proofs.Reached.{reached_scratch}
use Rattle.engine_laws.proofs.Resting.{keeps_sound_rows}
use Rattle.engine_machine.specs.Machine.{Kept, runner_of, keeping, judge_of}
use Rattle.engine_machine.specs.Pictures.{picture_in}
use Rattle.engine_turns.specs.declared.core_data.Core.{Core}
use Rattle.engine_turns.specs.declared.rows.CheckRecord.{CheckRecord}
use Rattle.engine_turns.specs.declared.rows.Last.{Last}
use Rattle.engine_turns.specs.declared.rows.FileRow.{FileRow}
use Rattle.engine_turns.specs.declared.rows.Row.{Row}
use Rattle.engine_turns.specs.Places.{row_in, of_row, column, keyed, names}
use Rattle.engine_turns.specs.Ready.{core_state, IsReady}
use Rattle.engine_turns.specs.States.{EngineState, last_pair, check_pair, pictured, file_number, last_of, reads_of, checked_of, held_of, why_of, picture_of}
use Rattle.engine_turns.proofs.Once.{rising_once}
use Rattle.object_names.specs.Objects.{are_rising}
use Rattle.rebuild.specs.Engines.{Meanings, situation_of, value_of, turns_left_of, IsEngine}
use Rattle.engine_rows.specs.Restoring.{file_row, restored_row, without_paths, restored_situation, restored_value, IsSoundKept, IsRestored}
use Rattle.read_index.specs.Subjects.{reader_key}
use Rattle.rebuild.specs.Reaching.{Asking, AreIndexed}
use Rattle.rebuild.specs.Sound.{IsSound}
use Rattle.engine_rows.specs.Storing.{kept_file, items_of, kept_object, with_some, kept_at, kept_objects, kept_of, kept_parts, kept_in, kept_rows}
use Rattle.rebuild.proofs.Fewer.{counts}
use Rattle.engine_rows.proofs.Restores.{AllFound, all_found, row_kept, no_table}

names_set : IsSet (List Name)
names_set = hlevel props

pub pairs_items : (items : List (Key × ℕ)) → pairs_of (items_of items) ≡ items
pairs_items [] = refl
pairs_items (q ∷ items) = ap (λ l. q ∷ l) (pairs_items items)

pub items_pairs : (items : List Item) → items_of (pairs_of items) ≡ items
items_pairs [] = refl
items_pairs (x ∷ items) = ap (λ l. x ∷ l) (items_pairs items)

-- what is kept of a row that has all of it
pub kept_row_is : {T : Type 0} (r : Row T) (l : Last) (build : List Item) (c : CheckRecord)
    (k : KeptObject) → r.last ≡ Some l → r.build ≡ Some build → r.check ≡ Some c → k
    ≡ kept_parts r.name l build c → Some k ≡ kept_in r
kept_row_is r l build c k is-0 is-1 is-2 same =
    ap Some same
    ∙ sym (λ i. Some (record {
      name = r.name;
      number = l.number;
      built = l.result;
      build_reads =
          items_pairs build i;
      verdict = c.verdict;
      check_reads = items_pairs c.reads i;
    }))
    ∙ sym (λ i. kept_object r.name (option_map last_pair (is-0 i)) (option_map pairs_of (is-1 i))
    (option_map check_pair (is-2 i)))

files_again : (files : List FileRow) → map file_row (map kept_file files) ≡ files
files_again [] = refl
files_again (f ∷ files) = ap (λ l. f ∷ l) (files_again files)

name_kept : (o : Name) (l : Option (ℕ × Kept)) (r : Option (List (Key × ℕ)))
    (c : Option (List (Key × ℕ) × Verdict)) (k : KeptObject) → kept_object o l r c ≡ Some k → k.name
    ≡ o
name_kept o None r c k e = absurd (let clash : ◌≡◌ {A = Option KeptObject} None (Some k) = e in cc)
name_kept o (Some l) None c k e =
    absurd (let clash : ◌≡◌ {A = Option KeptObject} None (Some k) = e in cc)
name_kept o (Some l) (Some items) None k e =
    absurd (let clash : ◌≡◌ {A = Option KeptObject} None (Some k) = e in cc)
name_kept o (Some l) (Some items) (Some c) k e =
    let same : record {
      name = o;
      number = l.0;
      built = l.1;
      build_reads = items_of items;
      verdict =
          c.1;
      check_reads = items_of c.0;
    } ≡ k = cc in
    sym (ap object_name same)

module _ {T : Type 0} (s : EngineState T) where
  abbrev pub rows_of : List Name → List (Row T)
  rows_of os = map restored_row (kept_objects s os)

  -- the row of a name is that of what is kept of it
  row_stored : (p : Name) (os : List Name) → row_in p (rows_of os)
      ≡ cond (is_among p os) (option_map restored_row (kept_at s p)) None
  row_stored p [] = refl
  row_stored p (o ∷ os) = at (equal o p) refl (kept_at s o) refl (row_stored p os)
    where
      nothing : (b : Bool) (x : Option KeptObject) → x ≡ None
          → cond b (option_map (restored_row {T = T}) x) None ≡ option_map restored_row x
      nothing true x e = refl
      nothing false x e = sym (ap (option_map restored_row) e)

      at : (b : Bool) → equal o p ≡ b → (x : Option KeptObject) → kept_at s o ≡ x
          → row_in {T = T} p (rows_of os) ≡ cond (is_among p os)
          (option_map restored_row (kept_at s p)) None → row_in {T = T} p
          (map restored_row (with_some x (kept_objects s os)))
          ≡ cond (b || is_among p os) (option_map restored_row (kept_at s p)) None
      at true is None e ih = ih ∙ nothing (is_among p os) (kept_at s p)
          (ap (kept_at s) (sym (equal-true o p is)) ∙ e)
      at true is (Some k) e ih =
          ap (λ b. cond b (Some (restored_row k)) (row_in p (rows_of os)))
          (ap (λ n. equal n p) (name_kept o (s.last o) (s.reads o) (s.checked o) k e) ∙ is)
          ∙ sym (ap (option_map restored_row) (ap (kept_at s) (sym (equal-true o p is)) ∙ e))
      at false is None e ih = ih
      at false is (Some k) e ih =
          ap (λ b. cond b (Some (restored_row k)) (row_in p (rows_of os)))
          (ap (λ n. equal n p) (name_kept o (s.last o) (s.reads o) (s.checked o) k e) ∙ is)
          ∙ ih

  -- an object that has all that is kept
  pub record IsWhole (o : Name) : Type 0 where
    pub last : ℕ × Kept
    pub items : List (Key × ℕ)
    pub check : List (Key × ℕ) × Verdict
    pub is_last : s.last o ≡ Some last
    pub is_reads : s.reads o ≡ Some items
    pub is_checked : s.checked o ≡ Some check

  abbrev object_of_whole : (o : Name) → IsWhole o → KeptObject
  object_of_whole o a = record {
    name = o;
    number = a.last.0;
    built = a.last.1;
    build_reads =
        items_of a.items;
    verdict = a.check.1;
    check_reads = items_of a.check.0;
  }

  kept_whole : (o : Name) (a : IsWhole o) → kept_at s o ≡ Some (object_of_whole o a)
  kept_whole o a i = kept_object o (a.is_last i) (a.is_reads i) (a.is_checked i)

  names_again : (os : List Name) → ((o : Name) → IsIn o os → IsWhole o)
      → map object_name (kept_objects s os) ≡ os
  names_again [] whole = refl
  names_again (o ∷ os) whole =
      ap (λ x. map object_name (with_some x (kept_objects s os)))
      (kept_whole o (whole o (inl refl)))
      ∙ ap (λ l. o ∷ l) (names_again os (λ p i. whole p (inr i)))

  module _ (os : List Name) (whole : (o : Name) → IsIn o os → IsWhole o) where
    again : {A : Type 0} (get : Row T → A) (d : A) (v : Name → A)
        → ((o : Name) (a : IsWhole o) → get (restored_row (object_of_whole o a)) ≡ v o) → (p : Name)
        → column get d (rows_of os) p ≡ cond (is_among p os) (v p) d
    again {A} get d v same p = ap (of_row get d) (row_stored p os) ∙ at (is_among p os) refl
      where
        at : (b : Bool) → is_among p os ≡ b → of_row get d
            (cond b (option_map restored_row (kept_at s p)) None) ≡ cond b (v p) d
        at true is =
            let a = whole p (in_among p os is) in
            ap (λ x. of_row get d (option_map restored_row x)) (kept_whole p a) ∙ same p a
        at false is = refl

    last_again : (p : Name) → column last_of None (rows_of os) p
        ≡ cond (is_among p os) (s.last p) None
    last_again = again last_of None s.last (λ o a. sym a.is_last)

    reads_again : (p : Name) → column reads_of None (rows_of os) p
        ≡ cond (is_among p os) (s.reads p) None
    reads_again = again reads_of None s.reads (λ o a. ap Some (pairs_items a.items)
        ∙ sym a.is_reads)

    checked_again : (p : Name) → column checked_of None (rows_of os) p
        ≡ cond (is_among p os) (s.checked p) None
    checked_again = again checked_of None s.checked
        (λ o a. ap (λ l. Some (l, a.check.1)) (pairs_items a.check.0) ∙ sym a.is_checked)

    closed : (b : Bool) → cond b false true ≡ not b
    closed true = refl
    closed false = refl

    constant : {A : Type 0} (b : Bool) (x : A) → cond b x x ≡ x
    constant true x = refl
    constant false x = refl

    open_again : (get : Row T → Bool) → ((o : KeptObject) → get (restored_row o) ≡ false)
        → (p : Name) → column get true (rows_of os) p ≡ not (is_among p os)
    open_again get same p = again get true (λ o. false) (λ o a. same (object_of_whole o a)) p
        ∙ closed (is_among p os)

    always : {A : Type 0} (get : Row T → A) (d : A) → ((o : KeptObject) → get (restored_row o) ≡ d)
        → (p : Name) → column get d (rows_of os) p ≡ d
    always get d same p = again get d (λ o. d) (λ o a. same (object_of_whole o a)) p
        ∙ constant (is_among p os) d

-- each key that names an object asks for it
pub keys_named : (T : Type 0) (files : List PictureFile) (objects : List Name)
    → AreNamed (keeping {T = T}) (picture_in files objects)
keys_named T files objects (File f) p e i =
    absurd (let clash : ◌≡◌ {A = Option Name} None (Some p) = e in cc)
keys_named T files objects (Under q terms) p e i =
    let same : q ≡ p = let both : ◌≡◌ {A = Option Name} (Some q) (Some p) = e in cc in
    ap (λ b. cond b (Some q) None) (ap (λ n. is_among n objects) same ∙ among_in p objects i)
    ∙ ap Some same

module _ {T : Type 0} (c : Core T) where
  abbrev s : EngineState T
  s = core_state c

  abbrev objects : List Name
  objects = names c.rows.items

  -- the code's rows give what is kept
  kept_here : (r : Row T) → row_in r.name c.rows.items ≡ Some r → kept_in r ≡ kept_at s r.name
  kept_here r found i = kept_object r.name (sym (ap (of_row last_of None) found) i)
      (sym (ap (of_row reads_of None) found) i) (sym (ap (of_row checked_of None) found) i)

  kept_found : (rest : List (Row T)) → AllFound c.rows.items rest → kept_rows rest
      ≡ kept_objects s (names rest)
  kept_found [] found i = []
  kept_found (r ∷ rest) found i = with_some (kept_here r found.0 i) (kept_found rest found.1 i)

  pub rows_kept : are_rising (names c.rows.items) ≡ true → kept_rows c.rows.items
      ≡ kept_objects s (names c.rows.items)
  rows_kept rising = kept_found c.rows.items (all_found c.rows.items
      (rising_once (names c.rows.items) rising))

  -- what is restored from it
  pub restored_is : ((o : Name) → IsIn o (names c.rows.items) → IsWhole s o)
      → restored_situation (kept_of (value_of c)) ≡ restored keeping (situation_of c)
  restored_is whole = ap (with_numbers keeping) at
    where
      at : without_paths (kept_of (value_of c)) ≡ at_rest (situation_of c)
      at i = record {
        picture = picture_of (files_again c.files.items i) (names_again s objects whole i);
        state = record {
          counter = c.counter;
          number = file_number (files_again c.files.items i);
          last = λ p. last_again s objects whole p i;
          table = λ k. no_table T (kept_objects s objects) k i;
          reads = λ p. reads_again s objects whole p i;
          checked = λ p. checked_again s objects whole p i;
          open_build = λ p. open_again s objects whole (λ r. r.open_build) (λ o. refl) p i;
          open_check = λ p. open_again s objects whole (λ r. r.open_check) (λ o. refl) p i;
          held = λ p. always s objects whole held_of None (λ o. refl) p i;
          chain = [];
          checking = None;
          runs = λ p. always s objects whole (λ r. r.run) false (λ o. refl) p i;
          why = λ p. always s objects whole why_of NotRun (λ o. refl) p i;
          touched = λ p. always s objects whole (λ r. r.touched) true (λ o. refl) p i;
        };
      }

module _ {T : Type 0} (m : Meanings T) where
  module _ (lawful : (dirs : List (List ℕ)) (limits : Limits) → IsLawful (m dirs limits))
      (c : Core T) (ready : IsReady c) where
    settled_whole : IsEngine m (value_of c) → AllSettled (runner_of (m c.dirs c.limits).build)
        keeping (judge_of (m c.dirs c.limits).check) (situation_of c) → (o : Name)
        → IsIn o (names c.rows.items) → IsWhole (core_state c) o
    settled_whole e all o i =
        let scratch = reached_scratch (runner_of (m c.dirs c.limits).build) keeping
        (judge_of (m c.dirs c.limits).check) (situation_of c) e in
        let b = scratch.builds o i (all o i).0 in
        let d = scratch.checks o i (all o i).1 in
        record {
          last = (b.0, _);
          items = b.2;
          check = (d.0, d.1);
          is_last = b.1;
          is_reads =
              b.3;
          is_checked = d.2;
        }

    -- what is kept of an engine in which all is settled is sound
    keeps_sound : turns_left_of c ≡ 0 → IsEngine m (value_of c)
        → IsSoundKept m (kept_of (value_of c))
    keeps_sound none e =
        let all = (counts m lawful c ready e).settled none in
        let rows = keeps_sound_rows (runner_of (m c.dirs c.limits).build) keeping
        (judge_of (m c.dirs c.limits).check) (situation_of c) e
        (keys_named T (pictured c.files.items) (names c.rows.items)) all in
        subst (AreSoundRows (runner_of (m c.dirs c.limits).build) keeping
        (judge_of (m c.dirs c.limits).check)) (sym (restored_is c (settled_whole e all))) rows

    pub kept_sound : turns_left_of c ≡ 0 → ∥ IsEngine m (value_of c) ∥₁
        → ∥ IsSoundKept m (kept_of (value_of c)) ∥₁
    kept_sound none kept = ∥∥₁_map kept (keeps_sound none)

    -- and it is all of it
    keeps_all : turns_left_of c ≡ 0 → IsEngine m (value_of c)
        → map object_name (kept_of (value_of c)).objects ≡ names c.rows.items
    keeps_all none e = names_again (core_state c) (names c.rows.items)
        (settled_whole e ((counts m lawful c ready e).settled none))

    pub kept_all : turns_left_of c ≡ 0 → ∥ IsEngine m (value_of c) ∥₁
        → map object_name (kept_of (value_of c)).objects ≡ names c.rows.items
    kept_all none kept = ∥∥₁_elim kept (names_set _ _) (keeps_all none)

  -- an engine that is restored from what is sound
  pub sound_engine : (s : Stored) → IsSoundKept m s → IsEngine m (restored_value s)
  sound_engine s sound = record {
    begin = restored_situation s;
    sound = inr sound;
    events =
        [];
    allowed = tt;
    leads = refl;
  }

  -- which has read nothing yet
  pub restored_sound : (s : Stored) (c : Core T) (asks : Asking) → IsRestored s c
      → ((r k : Key) → asks r k ≡ false) → ∥ IsSoundKept m s ∥₁ → IsSound m c asks
  restored_sound s c asks is none sound = record {
    reached = ∥∥₁_map sound (λ kept. subst (IsEngine m) (sym is.value) (sound_engine s kept));
    indexed = subst (AreIndexed asks) (sym (ap (λ e. e.situation) is.value)) (
      λ p k off. none (reader_key p) k,
      λ p k off. absurd
          (let clash : true ≡ false = sym (all_touched p) ∙ off in cc),
    );
  }
    where
      touched : (x : Option KeptObject) → of_row {T = T} (λ r. r.touched) true
          (option_map restored_row x) ≡ true
      touched None = refl
      touched (Some o) = refl

      all_touched : (p : Name) → column {T = T} (λ r. r.touched) true (map restored_row s.objects) p
          ≡ true
      all_touched p = ap (of_row (λ r. r.touched) true) (row_kept T p s.objects)
          ∙ touched (keyed object_name p s.objects)
