-- Which keys are among those that a Take moves.
use Rattle.std.proofs.Common.{◌≡◌, ◌||◌, ◌++◌, ℕ, List, [], ◌∷◌, Bool, true, false, not, cond, nat_eq, Option, Some, None, refl, sym, ap, ◌∙◌}
use Rattle.std.specs.Prelude.{bytes_eq}
use Rattle.std.specs.List.{list_any}
use Rattle.std.proofs.lemmas.List.Folds.{list_any-append}
use Rattle.std.proofs.lemmas.Bool.{eqb-true, eq-eqb}
use Rattle.questions.specs.declared.key.Key.{Key}
use Rattle.questions.specs.declared.key.Key.TheVariants.{File}
use Rattle.questions.specs.Keys.{key_eq}
use Rattle.questions.specs.KeyLaws.{key_same, key_refl}
use Rattle.read_index.specs.Subjects.{reader_key}
use Rattle.engine_laws.specs.Names.{Name, equal}
use Rattle.engine_laws.specs.Engine.{is_among}
use Rattle.engine_laws.proofs.Names.{equal-true, equal-is}
use Rattle.engine_laws.proofs.Touched.{or_left, or_right, true_else}
use Rattle.engine_machine.proofs.Truths.{both}
use Rattle.engine_turns.specs.declared.rows.FileRow.{FileRow}
use Rattle.engine_turns.specs.declared.rows.Row.{Row}
use Rattle.engine_turns.specs.Places.{row_in, names, file_names, file_number_in}
use Rattle.engine_turns.proofs.Once.{are_once}
use Rattle.engine_turns.proofs.ByName.{some_row}
use Rattle.rebuild.specs.Reaching.{touched_first, missing, touched_keys, changed_files}
use Rattle.rebuild.proofs.Appends.{no_more}

pub not_true : (b : Bool) → not b ≡ true → b ≡ false
not_true true e = absurd (let clash : false ≡ true = e in cc)
not_true false e = refl

pub not_both : {A : Type 0} (b : Bool) → b ≡ true → b ≡ false → A
not_both b e f = absurd (let clash : true ≡ false = sym e ∙ f in cc)

missing_cons : (p : Name) (ps others : List Name) → missing (p ∷ ps) others
    ≡ missing (p ∷ []) others ++ missing ps others
missing_cons p ps others = at (is_among p others)
  where
    at : (b : Bool) → cond b (missing ps others) (reader_key p ∷ missing ps others)
        ≡ cond b [] (reader_key p ∷ []) ++ missing ps others
    at true = refl
    at false = refl

pub missing_rows : {T : Type 0} (others : List Name) (r : Row T) (rows : List (Row T))
    → missing (names (r ∷ rows)) others ≡ missing (names (r ∷ [])) others
    ++ missing (names rows) others
missing_rows others r rows = missing_cons r.name (names rows) others

pub touched_cons : {T : Type 0} (settled : Bool) (r : Row T) (rows : List (Row T))
    → touched_keys settled (r ∷ rows) ≡ touched_keys settled (r ∷ []) ++ touched_keys settled rows
touched_cons settled r rows = at (touched_first settled r)
  where
    at : (b : Bool) → cond b (reader_key r.name ∷ touched_keys settled rows)
        (touched_keys settled rows) ≡ cond b (reader_key r.name ∷ []) []
        ++ touched_keys settled rows
    at true = refl
    at false = refl

pub changed_cons : (others : List FileRow) (r : FileRow) (files : List FileRow)
    → changed_files (r ∷ files) others ≡ changed_files (r ∷ []) others ++ changed_files files others
changed_cons others r files = at (nat_eq (file_number_in others r.name) r.number)
  where
    at : (b : Bool) → cond b (changed_files files others) (File r.name ∷ changed_files files others)
        ≡ cond b [] (File r.name ∷ []) ++ changed_files files others
    at true = refl
    at false = refl

-- an object among these that is not among the others
pub missing_in : (p : Name) (ps others : List Name) → is_among p ps ≡ true → is_among p others
    ≡ false → list_any (key_eq (reader_key p)) (missing ps others) ≡ true
missing_in p [] others e off = absurd (let clash : false ≡ true = e in cc)
missing_in p (q ∷ ps) others e off = at (missing_in p ps others) (equal q p) refl e
  where
    here : q ≡ p → list_any (key_eq (reader_key p))
        (cond (is_among q others) (missing ps others) (reader_key q ∷ missing ps others)) ≡ true
    here same =
        ap (λ b. list_any (key_eq (reader_key p)) (cond b (missing ps others)
        (reader_key q ∷ missing ps others))) (ap (λ z. is_among z others) same ∙ off)
        ∙ or_left (key_eq (reader_key p) (reader_key q))
        (list_any (key_eq (reader_key p)) (missing ps others))
        (ap (λ z. key_eq (reader_key p) (reader_key z)) same ∙ key_refl (reader_key p))

    later : (b : Bool) → list_any (key_eq (reader_key p)) (missing ps others) ≡ true
        → list_any (key_eq (reader_key p)) (cond b (missing ps others)
        (reader_key q ∷ missing ps others)) ≡ true
    later true h = h
    later false h = or_right (key_eq (reader_key p) (reader_key q))
        (list_any (key_eq (reader_key p)) (missing ps others)) h

    at : (is_among p ps ≡ true → is_among p others
        ≡ false → list_any (key_eq (reader_key p)) (missing ps others) ≡ true) → (b : Bool) → equal
        q p ≡ b → b || is_among p ps ≡ true → list_any (key_eq (reader_key p))
        (missing (q ∷ ps) others) ≡ true
    at rest true is e = here (equal-true q p is)
    at rest false is e = later (is_among q others) (rest e off)

pub missing_only : (k : Key) (ps others : List Name) → list_any (key_eq k) (missing ps others)
    ≡ true → (p : Name) × (k ≡ reader_key p) × (is_among p ps ≡ true) × (is_among p others ≡ false)
missing_only k [] others e = absurd (let clash : false ≡ true = e in cc)
missing_only k (q ∷ ps) others e = at (missing_only k ps others) (is_among q others) refl e
  where
    more : (p : Name) × (k ≡ reader_key p) × (is_among p ps ≡ true) × (is_among p others ≡ false)
        → (p : Name) × (k ≡ reader_key p) × (is_among p (q ∷ ps) ≡ true)
        × (is_among p others ≡ false)
    more h = (h.0, h.1, or_right (equal q h.0) (is_among h.0 ps) h.2, h.3)

    here : (list_any (key_eq k) (missing ps others) ≡ true → (p : Name) × (k ≡ reader_key p)
        × (is_among p ps ≡ true) × (is_among p others ≡ false)) → is_among q others
        ≡ false → (b : Bool) → key_eq k (reader_key q) ≡ b → b
        || list_any (key_eq k) (missing ps others) ≡ true → (p : Name) × (k ≡ reader_key p)
        × (is_among p (q ∷ ps) ≡ true) × (is_among p others ≡ false)
    here later off true is e = (
      q,
      key_same k (reader_key q) is,
      or_left (equal q q) (is_among q ps) (equal-is q q refl),
      off,
    )
    here later off false is e = more (later e)

    at : (list_any (key_eq k) (missing ps others) ≡ true → (p : Name) × (k ≡ reader_key p)
        × (is_among p ps ≡ true) × (is_among p others ≡ false)) → (b : Bool) → is_among q others
        ≡ b → list_any (key_eq k) (cond b (missing ps others) (reader_key q ∷ missing ps others))
        ≡ true → (p : Name) × (k ≡ reader_key p) × (is_among p (q ∷ ps) ≡ true)
        × (is_among p others ≡ false)
    at later true is e = more (later e)
    at later false is e = here later is (key_eq k (reader_key q)) refl e

-- an object whose row is touched whatever the others are
module _ {T : Type 0} (settled : Bool) where
  pub touched_in : (p : Name) (rows : List (Row T)) (r : Row T) → row_in p rows ≡ Some r
      → touched_first settled r ≡ true → list_any (key_eq (reader_key p))
      (touched_keys settled rows) ≡ true
  touched_in p [] r e on = absurd (let clash : ◌≡◌ {A = Option (Row T)} None (Some r) = e in cc)
  touched_in p (x ∷ rows) r e on = at (touched_in p rows r) (equal x.name p) refl e
    where
      later : (b : Bool) → list_any (key_eq (reader_key p)) (touched_keys settled rows) ≡ true
          → list_any (key_eq (reader_key p)) (cond b (reader_key x.name ∷ touched_keys settled rows)
          (touched_keys settled rows)) ≡ true
      later true h = or_right (key_eq (reader_key p) (reader_key x.name))
          (list_any (key_eq (reader_key p)) (touched_keys settled rows)) h
      later false h = h

      here : x ≡ r → x.name ≡ p → list_any (key_eq (reader_key p)) (touched_keys settled (x ∷ rows))
          ≡ true
      here same named =
          ap (λ b. list_any (key_eq (reader_key p)) (cond b
          (reader_key x.name ∷ touched_keys settled rows) (touched_keys settled rows)))
          (ap (touched_first settled) same ∙ on)
          ∙ or_left (key_eq (reader_key p) (reader_key x.name))
          (list_any (key_eq (reader_key p)) (touched_keys settled rows))
          (ap (λ z. key_eq (reader_key p) (reader_key z)) named ∙ key_refl (reader_key p))

      at : (row_in p rows ≡ Some r → touched_first settled r
          ≡ true → list_any (key_eq (reader_key p)) (touched_keys settled rows) ≡ true) → (b : Bool)
          → equal x.name p ≡ b → cond b (Some x) (row_in p rows) ≡ Some r
          → list_any (key_eq (reader_key p)) (touched_keys settled (x ∷ rows)) ≡ true
      at rest true is e = let same : x ≡ r = cc in here same (equal-true x.name p is)
      at rest false is e = later (touched_first settled x) (rest e on)

  -- the row of a key of such an object
  abbrev IsTouchedRow : Key → List (Row T) → Type 0
  IsTouchedRow k rows = (r : Row T) × (k ≡ reader_key r.name) × (row_in r.name rows ≡ Some r)
      × (touched_first settled r ≡ true)

  pub touched_only : (k : Key) (rows : List (Row T)) → are_once (names rows) ≡ true
      → list_any (key_eq k) (touched_keys settled rows) ≡ true → IsTouchedRow k rows
  touched_only k [] once e = absurd (let clash : false ≡ true = e in cc)
  touched_only k (x ∷ rows) once e = at (touched_only k rows two.1) (touched_first settled x) refl e
    where
      two : (not (is_among x.name (names rows)) ≡ true) × (are_once (names rows) ≡ true)
      two = both (not (is_among x.name (names rows))) (are_once (names rows)) once

      apart : (r : Row T) → row_in r.name rows ≡ Some r → equal x.name r.name ≡ false
      apart r e = true_else (equal x.name r.name) (λ same. not_both {A = ⊥}
          (is_among x.name (names rows)) (ap (λ z. is_among z (names rows))
          (equal-true x.name r.name same) ∙ some_row r.name rows r e)
          (not_true (is_among x.name (names rows)) two.0))

      more : IsTouchedRow k rows → IsTouchedRow k (x ∷ rows)
      more h = (
        h.0,
        h.1,
        ap (λ b. cond b (Some x) (row_in h.0.name rows)) (apart h.0 h.2)
            ∙ h.2,
        h.3,
      )

      here : (list_any (key_eq k) (touched_keys settled rows) ≡ true → IsTouchedRow k rows)
          → touched_first settled x ≡ true → (b : Bool) → key_eq k (reader_key x.name) ≡ b → b
          || list_any (key_eq k) (touched_keys settled rows) ≡ true → IsTouchedRow k (x ∷ rows)
      here later on true is e = (
        x,
        key_same k (reader_key x.name) is,
        ap (λ b. cond b (Some x) (row_in x.name rows))
            (equal-is x.name x.name refl),
        on,
      )
      here later on false is e = more (later e)

      at : (list_any (key_eq k) (touched_keys settled rows) ≡ true → IsTouchedRow k rows)
          → (b : Bool) → touched_first settled x ≡ b → list_any (key_eq k)
          (cond b (reader_key x.name ∷ touched_keys settled rows) (touched_keys settled rows))
          ≡ true → IsTouchedRow k (x ∷ rows)
      at later true on e = here later on (key_eq k (reader_key x.name)) refl e
      at later false on e = more (later e)

-- a file whose number is another one among the others
pub changed_in : (f : Name) (files others : List FileRow) → is_among f (file_names files) ≡ true
    → nat_eq (file_number_in others f) (file_number_in files f) ≡ false
    → list_any (key_eq (File f)) (changed_files files others) ≡ true
changed_in f [] others e off = absurd (let clash : false ≡ true = e in cc)
changed_in f (x ∷ files) others e off =
    at (changed_in f files others) (bytes_eq x.name f) refl e off
  where
    later : (b : Bool) → list_any (key_eq (File f)) (changed_files files others) ≡ true
        → list_any (key_eq (File f)) (cond b (changed_files files others)
        (File x.name ∷ changed_files files others)) ≡ true
    later true h = h
    later false h = or_right (key_eq (File f) (File x.name))
        (list_any (key_eq (File f)) (changed_files files others)) h

    at : (is_among f (file_names files) ≡ true → nat_eq (file_number_in others f)
        (file_number_in files f) ≡ false → list_any (key_eq (File f)) (changed_files files others)
        ≡ true) → (b : Bool) → bytes_eq x.name f ≡ b → b || is_among f (file_names files)
        ≡ true → nat_eq (file_number_in others f) (cond b x.number (file_number_in files f)) ≡ false
        → list_any (key_eq (File f)) (changed_files (x ∷ files) others) ≡ true
    at rest true is e off =
        let named : x.name ≡ f = equal-true x.name f is in
        ap (λ b. list_any (key_eq (File f)) (cond b (changed_files files others)
        (File x.name ∷ changed_files files others))) (ap
        (λ z. nat_eq (file_number_in others z) x.number) named ∙ off)
        ∙ or_left (key_eq (File f) (File x.name)) (list_any (key_eq (File f))
        (changed_files files others)) (ap (λ z. key_eq (File f) (File z)) named
        ∙ key_refl (File f))
    at rest false is e off = later (nat_eq (file_number_in others x.name) x.number) (rest e off)

abbrev IsChangedFile : Key → List FileRow → List FileRow → Type 0
IsChangedFile k files others =
    (f : Name) × (k ≡ File f) × (is_among f (file_names files) ≡ true)
    × (nat_eq (file_number_in others f) (file_number_in files f) ≡ false)

pub changed_only : (k : Key) (files others : List FileRow) → are_once (file_names files) ≡ true
    → list_any (key_eq k) (changed_files files others) ≡ true → IsChangedFile k files others
changed_only k [] others once e = absurd (let clash : false ≡ true = e in cc)
changed_only k (x ∷ files) others once e =
    at (changed_only k files others two.1) (nat_eq (file_number_in others x.name) x.number) refl e
  where
    two : (not (is_among x.name (file_names files)) ≡ true) × (are_once (file_names files) ≡ true)
    two = both (not (is_among x.name (file_names files))) (are_once (file_names files)) once

    apart : (f : Name) → is_among f (file_names files) ≡ true → bytes_eq x.name f ≡ false
    apart f e = true_else (bytes_eq x.name f) (λ same. not_both {A = ⊥}
        (is_among x.name (file_names files)) (ap (λ z. is_among z (file_names files))
        (equal-true x.name f same) ∙ e) (not_true (is_among x.name (file_names files)) two.0))

    more : IsChangedFile k files others → IsChangedFile k (x ∷ files) others
    more h = (
      h.0,
      h.1,
      or_right (equal x.name h.0) (is_among h.0 (file_names files)) h.2,
      ap
          (λ b. nat_eq (file_number_in others h.0) (cond b x.number (file_number_in files h.0)))
          (apart h.0 h.2) ∙ h.3,
    )

    here : (list_any (key_eq k) (changed_files files others) ≡ true → IsChangedFile k files others)
        → nat_eq (file_number_in others x.name) x.number ≡ false → (b : Bool)
        → key_eq k (File x.name) ≡ b → b || list_any (key_eq k) (changed_files files others) ≡ true
        → IsChangedFile k (x ∷ files) others
    here later off true is e = (
      x.name,
      key_same k (File x.name) is,
      or_left (equal x.name x.name)
          (is_among x.name (file_names files)) (equal-is x.name x.name refl),
      ap
          (λ b. nat_eq (file_number_in others x.name) (cond b x.number
          (file_number_in files x.name)))
          (equal-is x.name x.name refl) ∙ off,
    )
    here later off false is e = more (later e)

    at : (list_any (key_eq k) (changed_files files others) ≡ true → IsChangedFile k files others)
        → (b : Bool) → nat_eq (file_number_in others x.name) x.number ≡ b
        → list_any (key_eq k) (cond b (changed_files files others)
        (File x.name ∷ changed_files files others)) ≡ true → IsChangedFile k (x ∷ files) others
    at later true is e = more (later e)
    at later false is e = here later is (key_eq k (File x.name)) refl e

-- a file that is none has the number 0
no_number : (f : Name) (files : List FileRow) → is_among f (file_names files) ≡ false
    → file_number_in files f ≡ 0
no_number f [] e = refl
no_number f (x ∷ files) e = at (no_number f files) (bytes_eq x.name f) e
  where
    at : (is_among f (file_names files) ≡ false → file_number_in files f ≡ 0) → (b : Bool) → b
        || is_among f (file_names files) ≡ false → cond b x.number (file_number_in files f) ≡ 0
    at rest true e = absurd (let clash : true ≡ false = e in cc)
    at rest false e = rest e

pub eq_turned : (a b : ℕ) → nat_eq a b ≡ false → nat_eq b a ≡ false
eq_turned a b off = true_else (nat_eq b a) (λ e. not_both {A = ⊥} (nat_eq a b)
    (eq-eqb a b (sym (eqb-true b a e))) off)

-- a file whose numbers differ is among the changed ones of one list or of the other
pub file_changes : (f : Name) (old new : List FileRow)
    → nat_eq (file_number_in new f) (file_number_in old f) ≡ false
    → list_any (key_eq (File f)) (changed_files old new ++ changed_files new old) ≡ true
file_changes f old new off =
    list_any-append (key_eq (File f)) (changed_files old new) (changed_files new old)
    ∙ at (is_among f (file_names old)) refl (is_among f (file_names new)) refl
  where
    at : (a : Bool) → is_among f (file_names old) ≡ a → (b : Bool) → is_among f (file_names new) ≡ b
        → list_any (key_eq (File f)) (changed_files old new)
        || list_any (key_eq (File f)) (changed_files new old) ≡ true
    at true is b is' = or_left (list_any (key_eq (File f)) (changed_files old new))
        (list_any (key_eq (File f)) (changed_files new old)) (changed_in f old new is off)
    at false is true is' = or_right (list_any (key_eq (File f)) (changed_files old new))
        (list_any (key_eq (File f)) (changed_files new old))
        (changed_in f new old is' (eq_turned (file_number_in new f) (file_number_in old f) off))
    at false is false is' = not_both (nat_eq (file_number_in new f) (file_number_in old f))
        (eq-eqb (file_number_in new f) (file_number_in old f)
        (no_number f new is' ∙ sym (no_number f old is))) off

-- an object that is among the others, and one that is not
pub not_missing : (p : Name) (others : List Name) (made : List Key) → is_among p others ≡ true
    → made ≡ made ++ missing (p ∷ []) others
not_missing p others made e = sym (ap (λ b. made ++ cond b [] (reader_key p ∷ [])) e ∙ no_more made)

pub one_missing : (p : Name) (others : List Name) (made made' : List Key) (k : Key)
    → is_among p others ≡ false → k ≡ reader_key p → made' ≡ made ++ k ∷ [] → made' ≡ made
    ++ missing (p ∷ []) others
one_missing p others made made' k e is more =
    more ∙ ap (λ j. made ++ j ∷ []) is ∙ sym (ap (λ b. made ++ cond b [] (reader_key p ∷ [])) e)
