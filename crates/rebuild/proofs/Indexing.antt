-- The index says what the objects ask for, at each event.
use Rattle.std.proofs.Common.{◌≡◌, ◌||◌, ◌&&◌, ◌++◌, ℕ, List, Bool, true, false, not, cond, nat_eq, length, Option, Some, None, refl, sym, ap, ◌∙◌, subst, inl, inr, ⊎_elim, ◌⊎◌}
use Rattle.std.specs.Prelude.{bytes_eq}
use Rattle.std.specs.List.{list_any}
use Rattle.std.proofs.Math.Logic.{∥∥₁_elim}
use Rattle.std.proofs.Props.{props}
use Rattle.std.proofs.lemmas.List.Folds.{list_any-append}
use Rattle.load_path.specs.declared.picture.PictureFile.{PictureFile}
use Rattle.object_names.specs.Objects.{are_rising}
use Rattle.questions.specs.declared.key.Key.{Key}
use Rattle.questions.specs.declared.key.Key.TheVariants.{File}
use Rattle.questions.specs.Keys.{key_eq}
use Rattle.read_index.specs.Subjects.{reader_key}
use Rattle.read_index.specs.Reached.{AreReaching}
use Rattle.engine_laws.specs.Names.{Name}
use Rattle.engine_laws.specs.Engine.{is_among, lacks_record, both_items, is_touched, touched_by}
use Rattle.engine_laws.specs.Runner.{IsIn}
use Rattle.engine_laws.proofs.Touched.{true_else, among_in, IsSpared, is_spared}
use Rattle.engine_laws.proofs.Narrowing.{left_alone, turn_touched}
use Rattle.engine_machine.specs.Machine.{runner_of, keeping, judge_of}
use Rattle.engine_machine.specs.Pictures.{target_in}
use Rattle.engine_machine.proofs.RunnerLaws.{is_in, target_among}
use Rattle.engine_turns.specs.declared.core_data.Core.{Core}
use Rattle.engine_turns.specs.declared.rows.FileRow.{FileRow}
use Rattle.engine_turns.specs.declared.rows.Row.{Row}
use Rattle.engine_turns.specs.Places.{row_in, of_row, column, names, file_names, file_number_in}
use Rattle.engine_turns.specs.Ready.{core_state, IsReady}
use Rattle.engine_turns.specs.States.{reads_of, checked_of, pictured, picture_of, file_number}
use Rattle.engine_turns.proofs.Once.{rising_once}
use Rattle.engine_turns.proofs.ByName.{no_row, some_row}
use Rattle.rebuild.specs.Engines.{EngineSituation, Meanings, situation_of, value_of, turns_left_of, IsEngine, after_turn, after_forget, new_situation}
use Rattle.rebuild.specs.Reaching.{Asking, asks_for, AreIndexed, touched_first, is_noted, noted_rows, cleared, missing, touched_keys, changed_files, moved_keys}
use Rattle.rebuild.specs.Renewing.{taken_row, IsTaken}
use Rattle.rebuild.specs.Taking.{numbered}
use Rattle.rebuild.proofs.Flags.{by_itself, IsMoving, IsGiven, flags_are, new_flag}
use Rattle.rebuild.proofs.Moves.{not_both, missing_in, missing_only, touched_in, touched_only, changed_only, eq_turned, file_changes}
use Rattle.rebuild.proofs.Noting.{noted_found, noted_at}
use Rattle.rebuild.proofs.Taken.{IsMade, flag_made, row_taken}

truth_set : IsSet Bool
truth_set = hlevel props

pub row_none : {T : Type 0} (p : Name) (rows : List (Row T)) → is_among p (names rows) ≡ false
    → row_in p rows ≡ None
row_none {T} p rows off = at (row_in p rows) refl
  where
    at : (x : Option (Row T)) → row_in p rows ≡ x → x ≡ None
    at None e = refl
    at (Some r) e = not_both (is_among p (names rows)) (some_row p rows r e) off

-- an object that is not touched is one
touched_among : {T : Type 0} (p : Name) (rows : List (Row T)) → column (λ r. r.touched) true rows p
    ≡ false → is_among p (names rows) ≡ true
touched_among {T} p rows off = at (row_in p rows) refl
  where
    at : (x : Option (Row T)) → row_in p rows ≡ x → is_among p (names rows) ≡ true
    at None e = absurd (let clash : true ≡ false =
        sym (ap (of_row (λ r. r.touched) true) e) ∙ off in cc)
    at (Some r) e = some_row p rows r e

or_parts : (a b : Bool) → a || b ≡ false → (a ≡ false) × (b ≡ false)
or_parts true b e = absurd (let clash : true ≡ false = e in cc)
or_parts false b e = (refl, e)

and_right : (b : Bool) → true && b ≡ false → b ≡ false
and_right b e = e

module _ {T : Type 0} (c : Core T) (ready : IsReady c) (fs : List FileRow)
    (fs_rise : are_rising (file_names fs) ≡ true) (objects : List Name) (settled : Bool)
    (is_settled : settled ≡ nat_eq (turns_left_of c) 0) where
  abbrev rows : List (Row T)
  rows = c.rows.items

  abbrev os : List Name
  os = names c.rows.items

  abbrev number : Key → ℕ
  number = file_number fs

  abbrev itself : Name → Bool
  itself = by_itself (pictured c.files.items) (pictured fs) os objects (core_state c) number

  abbrev Moving : Key → Type 0
  Moving = IsMoving (pictured c.files.items) (pictured fs) os objects (core_state c) number

  abbrev pub all_moved : List Key
  all_moved = missing os objects ++ moved_keys settled c objects fs

  among_old : (j : Key) (q : Name) → target_in os j ≡ Some q → IsIn q os
  among_old j q e = is_in q os (target_among os j q e).0

  row_itself : (p : Name) (r : Row T) → row_in p rows ≡ Some r → itself p ≡ touched_first settled r
  row_itself p r e = (λ i. lacks_record (of_row reads_of None (e i)) (of_row checked_of None (e i))
      || (not (sym is_settled i) && of_row (λ z. z.touched) true (e i)))

  -- what is among the keys that move
  abbrev Has : List Key → Key → Type 0
  Has ks k = list_any (key_eq k) ks ≡ true

  has_both : (k : Key) (xs ys : List Key) → Has xs k ⊎ Has ys k → Has (xs ++ ys) k
  has_both k xs ys h = list_any-append (key_eq k) xs ys
      ∙ ⊎_elim (λ (a : Has xs k). left a) (λ (b : Has ys k). right b) h
    where
      left : list_any (key_eq k) xs ≡ true → list_any (key_eq k) xs || list_any (key_eq k) ys ≡ true
      left a = ap (λ b. b || list_any (key_eq k) ys) a

      right : list_any (key_eq k) ys ≡ true → list_any (key_eq k) xs || list_any (key_eq k) ys
          ≡ true
      right b = at (list_any (key_eq k) xs)
        where
          at : (a : Bool) → a || list_any (key_eq k) ys ≡ true
          at true = refl
          at false = b

  has_either : (k : Key) (xs ys : List Key) → Has (xs ++ ys) k → Has xs k ⊎ Has ys k
  has_either k xs ys h = at (list_any (key_eq k) xs) refl
      (sym (list_any-append (key_eq k) xs ys) ∙ h)
    where
      at : (b : Bool) → list_any (key_eq k) xs ≡ b → b || list_any (key_eq k) ys ≡ true → Has xs k
          ⊎ Has ys k
      at true is e = inl is
      at false is e = inr e

  abbrev some_files : List Key
  some_files = changed_files c.files.items fs ++ changed_files fs c.files.items

  file_in : (f : Name) → Moving (File f) → Has all_moved (File f)
  file_in f m = has_both (File f) (missing os objects) _
      (inr (has_both (File f) (missing objects os) _
      (inr (has_both (File f) (touched_keys settled rows) some_files
      (inr (file_changes f c.files.items fs m))))))

  object_in : (p : Name) → Moving (reader_key p) → Has all_moved (reader_key p)
  object_in p m =
      ⊎_elim
      (λ (a : (is_among p os ≡ true) × (is_among p objects ≡ false)). has_both (reader_key p)
      (missing os objects) _ (inl (missing_in p os objects a.0 a.1)))
      (⊎_elim
      (λ (a : (is_among p os ≡ false) × (is_among p objects ≡ true)). has_both (reader_key p)
      (missing os objects) _ (inr (has_both (reader_key p) (missing objects os) _
      (inl (missing_in p objects os a.1 a.0)))))
      (λ (a : (is_among p os ≡ true) × (itself p ≡ true)). has_both (reader_key p)
      (missing os objects) _ (inr (has_both (reader_key p) (missing objects os) _
      (inr (has_both (reader_key p) (touched_keys settled rows) some_files
      (inl (by_row (row_in p rows) refl a.0 a.1))))))))
      m
    where
      by_row : (x : Option (Row T)) → row_in p rows ≡ x → is_among p os ≡ true → itself p ≡ true
          → Has (touched_keys settled rows) (reader_key p)
      by_row None e among on = not_both (is_among p os) among (no_row p rows e)
      by_row (Some r) e among on = touched_in settled p rows r e (sym (row_itself p r e) ∙ on)

  moving_as : (k j : Key) → k ≡ j → Moving j → Moving k
  moving_as k j e m = subst Moving (sym e) m

  only : (k : Key) → Has all_moved k → Moving k
  only k h =
      ⊎_elim
      (λ (a : Has (missing os objects) k). let m = missing_only k os objects a in
      moving_as k (reader_key m.0) m.1 (inl (m.2, m.3)))
      (λ (b : Has (moved_keys settled c objects fs) k). ⊎_elim
      (λ (a : Has (missing objects os) k). let m = missing_only k objects os a in
      moving_as k (reader_key m.0) m.1 (inr (inl (m.3, m.2))))
      (λ (b : Has (touched_keys settled rows ++ some_files) k). ⊎_elim
      (λ (a : Has (touched_keys settled rows) k). let m =
      touched_only settled k rows (rising_once os ready.rising) a in
      moving_as k (reader_key m.0.name) m.1
      (inr (inr (some_row m.0.name rows m.0 m.2, row_itself m.0.name m.0 m.2 ∙ m.3))))
      (λ (b : Has some_files k). ⊎_elim
      (λ (a : Has (changed_files c.files.items fs) k). let m =
      changed_only k c.files.items fs (rising_once (file_names c.files.items) ready.files) a in
      moving_as k (File m.0) m.1 m.3)
      (λ (a : Has (changed_files fs c.files.items) k). let m =
      changed_only k fs c.files.items (rising_once (file_names fs) fs_rise) a in
      moving_as k (File m.0) m.1 (eq_turned (file_number_in c.files.items m.0)
      (file_number_in fs m.0) m.3))
      (has_either k (changed_files c.files.items fs) (changed_files fs c.files.items) b))
      (has_either k (touched_keys settled rows) some_files b))
      (has_either k (missing objects os) (touched_keys settled rows ++ some_files) b))
      (has_either k (missing os objects) (moved_keys settled c objects fs) h)

  -- the index after it was brought up to date
  abbrev pub IsBrought : Asking → Asking → Type 0
  IsBrought old asks = (r k : Key) → asks r k ≡ cond settled (noted_rows rows old r k) (old r k)

  module _ (old asks : Asking) (indexed : AreIndexed old (situation_of c))
      (brought : IsBrought old asks) where
    absent : (p : Name) (k : Key) → is_among p os ≡ false → asks (reader_key p) k ≡ false
    absent p k off = brought (reader_key p) k ∙ at settled
      where
        at : (b : Bool) → cond b (noted_rows rows old (reader_key p) k) (old (reader_key p) k)
            ≡ false
        at true = noted_at rows (rising_once os ready.rising) old p k
            ∙ ap (λ x. noted_found x old (reader_key p) k) (row_none p rows off) ∙ indexed.0 p k off
        at false = indexed.0 p k off

    fits : (p : Name) (k : Key) → is_among p os ≡ true → itself p ≡ false → asks (reader_key p) k
        ≡ asks_for k (both_items ((core_state c).reads p) ((core_state c).checked p))
    fits p k among off = by_row (row_in p rows) refl
      where
        by_row : (x : Option (Row T)) → row_in p rows ≡ x → asks (reader_key p) k
            ≡ asks_for k (both_items ((core_state c).reads p) ((core_state c).checked p))
        by_row None e = not_both (is_among p os) among (no_row p rows e)
        by_row (Some r) e = brought (reader_key p) k ∙ at settled refl
            (sym (row_itself p r e) ∙ off)
          where
            calm : r.touched ≡ false → old (reader_key p) k
                ≡ asks_for k (both_items ((core_state c).reads p) ((core_state c).checked p))
            calm is = indexed.1 p k (ap (of_row (λ z. z.touched) true) e ∙ is)

            noted : (b : Bool) → r.touched ≡ b → lacks_record (reads_of r) (checked_of r) ≡ false
                → cond (is_noted r) (asks_for k (both_items (reads_of r) (checked_of r)))
                (old (reader_key p) k) ≡ asks_for k (both_items ((core_state c).reads p)
                ((core_state c).checked p))
            noted true on has =
                (λ i. cond (on i && not (has i))
                (asks_for k (both_items (reads_of r) (checked_of r))) (old (reader_key p) k))
                ∙ sym (λ i. asks_for k (both_items (of_row reads_of None (e i))
                (of_row checked_of None (e i))))
            noted false is has = (λ i. cond (is i && not (lacks_record (reads_of r) (checked_of r)))
                (asks_for k (both_items (reads_of r) (checked_of r))) (old (reader_key p) k))
                ∙ calm is

            at : (b : Bool) → settled ≡ b → lacks_record (reads_of r) (checked_of r)
                || (not settled && r.touched) ≡ false → cond b
                (noted_rows rows old (reader_key p) k) (old (reader_key p) k)
                ≡ asks_for k (both_items ((core_state c).reads p) ((core_state c).checked p))
            at true is off =
                noted_at rows (rising_once os ready.rising) old p k
                ∙ ap (λ x. noted_found x old (reader_key p) k) e
                ∙ noted r.touched refl (or_parts (lacks_record (reads_of r) (checked_of r)) _ off).0
            at false is off = calm (sym (ap (λ b. not b && r.touched) is)
                ∙ (or_parts (lacks_record (reads_of r) (checked_of r)) (not settled && r.touched)
                off).1)

    pub is_given : IsGiven (pictured c.files.items) (pictured fs) os objects (core_state c) number
        asks all_moved
    is_given = record {
      small = λ p terms. refl;
      absent = absent;
      fits = fits;
      file_in =
          file_in;
      object_in = object_in;
      only = only;
    }

    module _ (reached : List Name) (r : AreReaching asks all_moved reached) (new : Core T)
        (m : IsMade settled objects reached rows new.rows.items) where
      abbrev touches : Name → Bool
      touches = touched_by (situation_of c) (picture_of fs objects) number

      -- the flags after the Take
      pub flags_made : (p : Name) → column (λ z. z.touched) true new.rows.items p ≡ touches p
      flags_made p =
          flag_made settled objects reached rows new.rows.items m p
          ∙ ap (λ x. of_row (λ z. z.touched) true x || list_any (bytes_eq p) reached)
          (row_taken settled rows objects p)
          ∙ at (is_among p objects) refl
        where
          by_row : is_among p objects ≡ true → (x : Option (Row T)) → row_in p rows ≡ x
              → (taken_row settled p x).touched || list_any (bytes_eq p) reached ≡ touches p
          by_row among None e = sym (new_flag (pictured c.files.items) (pictured fs) os objects
              (core_state c) number asks all_moved is_given reached r p (no_row p rows e))
          by_row among (Some z) e =
              ap (λ b. b || list_any (bytes_eq p) reached) (sym (row_itself p z e))
              ∙ flags_are (pictured c.files.items) (pictured fs) os objects (core_state c) number
              asks all_moved is_given reached r p among (some_row p rows z e)

          at : (b : Bool) → is_among p objects ≡ b → of_row (λ z. z.touched) true
              (cond b (Some (taken_row settled p (row_in p rows))) None)
              || list_any (bytes_eq p) reached ≡ touches p
          at true is = by_row is (row_in p rows) refl
          at false is = sym (ap (λ b. not b || is_touched (situation_of c) (picture_of fs objects)
              number (length os) p) is)

      -- the index after the Take
      pub index_made : (files : List PictureFile) → IsTaken old files objects c new → fs
          ≡ numbered c.files.items c.counter files → (asks' : Asking)
          → ((q k : Key) → asks' q k ≡ cleared (missing os objects) asks q k)
          → AreIndexed asks' (situation_of new)
      index_made files t is asks' clears = (gone, kept)
        where
          gone : (p : Name) (k : Key) → is_among p (names new.rows.items) ≡ false
              → asks' (reader_key p) k ≡ false
          gone p k off = clears (reader_key p) k ∙ at (is_among p os) refl
            where
              out : is_among p objects ≡ false
              out = ap (is_among p) (sym t.objects_are) ∙ off

              none : (b : Bool) → asks (reader_key p) k ≡ false
                  → cond b false (asks (reader_key p) k) ≡ false
              none true e = refl
              none false e = e

              at : (b : Bool) → is_among p os ≡ b
                  → cond (list_any (key_eq (reader_key p)) (missing os objects)) false
                  (asks (reader_key p) k) ≡ false
              at true is = ap (λ b. cond b false (asks (reader_key p) k))
                  (missing_in p os objects is out)
              at false is = none (list_any (key_eq (reader_key p)) (missing os objects))
                  (absent p k is)

          kept : (p : Name) (k : Key) → (core_state new).touched p ≡ false → asks' (reader_key p) k
              ≡ asks_for k (both_items ((core_state new).reads p) ((core_state new).checked p))
          kept p k off =
              clears (reader_key p) k
              ∙ ap (λ b. cond b false (asks (reader_key p) k)) there
              ∙ fits p k was by_none
              ∙ sym ((λ i. asks_for k (both_items ((t.state indexed i).reads p)
              ((t.state indexed i).checked p)))
              ∙ (λ i. asks_for k (both_items (cond (here i) ((core_state c).reads p) None)
              (cond (here i) ((core_state c).checked p) None))))
            where
              calm : touches p ≡ false
              calm = sym (flags_made p) ∙ off

              spared : IsSpared (situation_of c) (picture_of fs objects) number among_old p
              spared = is_spared (situation_of c) (picture_of fs objects) number among_old p calm

              here : is_among p objects ≡ true
              here = spared.is_object

              was : is_among p os ≡ true
              was = among_in p os spared.was_object

              there : list_any (key_eq (reader_key p)) (missing os objects) ≡ false
              there = true_else (list_any (key_eq (reader_key p)) (missing os objects))
                  (λ e. let o = missing_only (reader_key p) os objects e in
                  let key : reader_key p ≡ reader_key o.0 = o.1 in let named : p ≡ o.0 = cc in
                  not_both {A = ⊥} (is_among p objects) here (ap (λ z. is_among z objects) named
                  ∙ o.3))

              by_none : itself p ≡ false
              by_none = (λ i. spared.has_record i || spared.before i)

-- where the index was brought up to date in part
pub index_kept : {T : Type 0} (c : Core T) (old asks : Asking) → AreIndexed old (situation_of c)
    → ((p : Name) (k : Key) → column (λ r. r.touched) false c.rows.items p
    ≡ false → asks (reader_key p) k ≡ old (reader_key p) k) → AreIndexed asks (situation_of c)
index_kept {T} c old asks indexed others = (
  λ p k off. others p k (ap (of_row (λ (r : Row T). r.touched) false) (row_none p c.rows.items off))
      ∙ indexed.0 p k off,
  λ p k off. others p k (calm p off) ∙ indexed.1 p k off,
)
  where
    calm : (p : Name) → column (λ r. r.touched) true c.rows.items p ≡ false
        → column (λ r. r.touched) false c.rows.items p ≡ false
    calm p = at (row_in p c.rows.items)
      where
        at : (x : Option (Row T)) → of_row (λ r. r.touched) true x ≡ false
            → of_row (λ r. r.touched) false x ≡ false
        at None e = refl
        at (Some r) e = e

-- the same index says what it said
pub index_same : {T : Type 0} (x : EngineSituation T) (old asks : Asking)
    → ((r k : Key) → asks r k ≡ old r k) → AreIndexed old x → AreIndexed asks x
index_same x old asks same indexed = (
  λ p k off. same (reader_key p) k ∙ indexed.0 p k off,
  λ p k off. same (reader_key p) k
      ∙ indexed.1 p k off,
)

pub index_new : {T : Type 0} (x : EngineSituation T) (asks : Asking) → x ≡ new_situation
    → ((r k : Key) → asks r k ≡ false) → AreIndexed asks x
index_new {T} x asks is none = subst (AreIndexed asks) (sym is) new
  where
    new : AreIndexed {T = T} asks new_situation
    new = (
      λ p k off. none (reader_key p) k,
      λ p k off. absurd
          (let clash : true ≡ false = off in cc),
    )

module _ {T : Type 0} (m : Meanings T) (c n : Core T) (asks : Asking)
    (indexed : AreIndexed asks (situation_of c)) where
  pub index_turned : situation_of n ≡ after_turn m (value_of c) → ∥ IsEngine m (value_of c) ∥₁
      → AreIndexed asks (situation_of n)
  index_turned is kept = subst (AreIndexed asks) (sym is) after
    where
      read : (p : Name) (k : Key) → (after_turn m (value_of c)).state.touched p ≡ false
          → IsEngine m (value_of c) → asks (reader_key p) k
          ≡ asks_for k (both_items ((after_turn m (value_of c)).state.reads p)
          ((after_turn m (value_of c)).state.checked p))
      read p k off e =
          let run = runner_of (m c.dirs c.limits).build in
          let jd = judge_of (m c.dirs c.limits).check in
          let calm : (core_state c).touched p ≡ false =
          ap (λ f. f p) (sym (turn_touched run keeping jd (situation_of c) e)) ∙ off in
          let among = is_in p (names c.rows.items) (touched_among p c.rows.items calm) in
          indexed.1 p k calm ∙ ap (asks_for k)
          (sym (left_alone run keeping jd (situation_of c) e p among calm).items)

      after : AreIndexed asks (after_turn m (value_of c))
      after = (indexed.0, λ p k off. ∥∥₁_elim kept (truth_set _ _) (read p k off))

  pub index_forgot : situation_of n ≡ after_forget m (value_of c) → AreIndexed asks (situation_of n)
  index_forgot is = subst (AreIndexed asks) (sym is) indexed
