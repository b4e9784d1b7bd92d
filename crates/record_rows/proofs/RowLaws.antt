-- What rows give is what has these rows.
use Rattle.std.proofs.Common.{◌≡◌, ℕ, zero, suc, ◌+◌, ◌<◌, ◌⊎◌, ◌&&◌, Bool, true, false, cond, List, [], ◌∷◌, ◌++◌, map, length, take, drop, Option, Some, None, Result, Ok, Err, refl, sym, ap, subst, ◌∙◌, arith, inl, inr}
use Rattle.std.specs.Prelude.{slice_get, position, codes, bytes_eq, not, nat_lt}
use Rattle.std.specs.List.{list_all, prefix_len}
use Rattle.std.proofs.lemmas.Slice.Eq.{bytes_eq-Decides}
use Rattle.std.proofs.lemmas.List.{append-nil, take_at, drop_at, length-append}
use Rattle.std.proofs.lemmas.Bool.{lt-ltb}
use Rattle.load_path.specs.FileNames.{is_file_name}
use Rattle.pan_ast.specs.declared.fault.Fault.{Fault}
use Rattle.path_tree.specs.Grammar.{is_name}
use Rattle.path_tree.specs.Plain.{Plain}
use Rattle.kept_state.specs.declared.kept.KeptFile.{KeptFile}
use Rattle.kept_state.specs.declared.kept.KeptObject.{KeptObject}
use Rattle.kept_state.specs.Stored.{Stored}
use Rattle.stored_rows.specs.declared.row.StoredRow.{StoredRow}
use Rattle.record_rows.specs.declared.format.Format.{Format}
use Rattle.record_rows.specs.declared.format.Format.TheVariants.{First, Second, Third}
use Rattle.record_rows.specs.Forms.{Form, ◌>>=◌, IsBytes, if_ended, whole}
use Rattle.record_rows.specs.Fields.{Header, header, built_of, of_built, built}
use Rattle.record_rows.specs.Rows.{file_parts_of, of_file_parts, are_file_parts, file_parts, parts_of_file, file_row, is_kept_file, object_parts_of, of_object_parts, are_object_parts, object_parts, parts_of_object, object_row, is_kept_object, header_in, header_row, rows_in, are_in_order, is_kept, Spells, empty, left_by, Give}
use Rattle.record_rows.specs.Reading.{behind, AreBytes, file_with, file_by, file_named, file_at, object_with, object_by, object_named, object_at, all_at, is_header, objects_left, with_header, if_in_order, kept_with, header_at, kept_by, given_by}
use Rattle.record_rows.proofs.Laws.{IsForm, Taken, bind_some, some_is, cond_is, and_true, true_and, is_number64, is_only, is_seen_as, is_pair, is_either}
use Rattle.record_rows.proofs.FieldLaws.{is_content, is_fault, is_verdict, is_trace_in, is_header as header_is}
use Rattle.record_rows.proofs.TreeLaws.{is_tree}

-- ---- all of a row's bytes

record IsWhole {X : Type 0} (f : Form X) (bytes : List ℕ) (x : X) : Type 0 where
  spelled : bytes ≡ f.spell x
  fits : f.fits x ≡ true

whole_found : {X : Type 0} (f : Form X) → IsForm f → (bytes : List ℕ) (x : X) → IsBytes bytes
    → whole f bytes ≡ Some x → IsWhole f bytes x
whole_found {X} f is bytes x h e =
    let a = bind_some (f.read bytes) if_ended x e in
    at a.0 (is.found bytes a.0.0 a.0.1 h a.1) a.2
  where
    at : (p : X × List ℕ) → Taken f bytes p.0 p.1 → if_ended p ≡ Some x → IsWhole f bytes x
    at (y, []) t e =
        let same = some_is y x e in
        record {
          spelled = t.takes.parts ∙ append-nil (f.spell y) ∙ ap f.spell same;
          fits =
              ap f.fits (sym same) ∙ t.fits;
        }
    at (y, b ∷ bs) t e = absurd (let clash : ◌≡◌ {A = Option X} None (Some x) = e in cc)

whole_again : {X : Type 0} (f : Form X) → IsForm f → (x : X) → f.fits x ≡ true → whole f (f.spell x)
    ≡ Some x
whole_again f is x fits =
    ap (λ r. r >>= if_ended) (ap f.read (sym (append-nil (f.spell x))) ∙ is.again x [] fits)

-- ---- files and objects

is_built : IsForm built
is_built = is_seen_as built_of of_built _ back forth (is_either _ _ is_tree is_fault)
  where
    back : (x : Plain ⊎ Fault) → of_built (built_of x) ≡ x
    back (inl t) = refl
    back (inr f) = refl

    forth : (r : Result Plain Fault) → built_of (of_built r) ≡ r
    forth (Ok t) = refl
    forth (Err f) = refl

are_file : (counter : ℕ) → IsForm (file_parts counter)
are_file counter = is_only (are_file_parts counter) _
    (is_seen_as file_parts_of of_file_parts _ (λ x. refl) (λ p. refl)
    (is_pair _ _ is_number64 is_content))

are_object : (format : Format) (counter : ℕ) → IsForm (object_parts format counter)
are_object format counter =
    is_only (are_object_parts counter) _ (is_seen_as object_parts_of of_object_parts _ (λ x. refl)
    (λ p. refl) (is_pair _ _ is_number64 (is_pair _ _ is_built
    (is_pair _ _ (is_trace_in format counter) (is_pair _ _ is_verdict
    (is_trace_in format counter))))))

eq_of : (a b : List ℕ) → bytes_eq a b ≡ true → a ≡ b
eq_of a b e = (bytes_eq-Decides a b).0 e

of_eq : (a b : List ℕ) → a ≡ b → bytes_eq a b ≡ true
of_eq a b e = (bytes_eq-Decides a b).1 e

take_front : (n : ℕ) (name : List ℕ) → take n name ++ drop n name ≡ name
take_front zero name = refl
take_front (suc n) [] = refl
take_front (suc n) (c ∷ cs) = ap (λ r. c ∷ r) (take_front n cs)

behind_is : (front name rest : List ℕ) → behind front name ≡ Some rest → name ≡ front ++ rest
behind_is front name rest e =
    let c = cond_is (bytes_eq (take (length front) name) front) (drop (length front) name) rest e in
    sym (take_front (length front) name) ∙ ap (λ r. r ++ drop (length front) name)
    (eq_of (take (length front) name) front c.0) ∙ ap (λ r. front ++ r) c.1

behind_again : (front rest : List ℕ) → behind front (front ++ rest) ≡ Some rest
behind_again front rest =
    ap (λ r. cond (bytes_eq r front) (Some (drop (length front) (front ++ rest))) None)
    (take_at front rest (length front) refl)
    ∙ ap (λ b. cond b (Some (drop (length front) (front ++ rest))) None) (of_eq front front refl)
    ∙ ap Some (drop_at front rest (length front) refl)

-- a row was spelled by a value that has one
record IsRow {A : Type 0} (row_of : A → StoredRow) (is_one : A → Bool) (row : StoredRow)
    (x : A) : Type 0 where
  is : row ≡ row_of x
  kept : is_one x ≡ true

row_is : (row : StoredRow) (name bytes : List ℕ) → row.name ≡ name → row.bytes ≡ bytes → row
    ≡ record { name = name; bytes = bytes }
row_is row name bytes e f i = record { name = e i; bytes = f i }

file_found : (counter : ℕ) (row : StoredRow) (f : KeptFile) → IsBytes row.bytes
    → file_at counter row ≡ Some f → IsRow (file_row counter) (is_kept_file counter) row f
unfolding file_at
file_found counter row f h e =
    let a = bind_some (behind (codes "f/") row.name) (file_named counter row.bytes) f e in
    let b = cond_some (is_file_name a.0) (file_by counter a.0 row.bytes) f a.2 in
    let c = bind_some (whole (file_parts counter) row.bytes) (λ p. Some (file_with a.0 p)) f b.1 in
    let w = whole_found (file_parts counter) (are_file counter) row.bytes c.0 h c.1 in
    let same = some_is (file_with a.0 c.0) f c.2 in
    subst (IsRow (file_row counter) (is_kept_file counter) row) same (record {
      is = row_is row (codes "f/" ++ a.0) ((file_parts counter).spell c.0)
          (behind_is (codes "f/") row.name a.0 a.1) w.spelled;
      kept = true_and (is_file_name a.0) ((file_parts counter).fits c.0) b.0 w.fits;
    })
  where
    cond_some : {A : Type 0} (b : Bool) (x : Option A) (y : A) → cond b x None ≡ Some y → (b ≡ true)
        × (x ≡ Some y)
    cond_some true x y e = (refl, e)
    cond_some {A} false x y e = absurd (let clash : ◌≡◌ {A = Option A} None (Some y) = e in cc)

file_again : (counter : ℕ) (f : KeptFile) → is_kept_file counter f ≡ true
    → file_at counter (file_row counter f) ≡ Some f
unfolding file_at
file_again counter f kept =
    let two = and_true (is_file_name f.name) ((file_parts counter).fits (parts_of_file f)) kept in
    ap (λ r. r >>= file_named counter ((file_parts counter).spell (parts_of_file f)))
    (behind_again (codes "f/") f.name)
    ∙ ap (λ b. cond b (file_by counter f.name ((file_parts counter).spell (parts_of_file f))) None)
    two.0
    ∙ ap (λ r. r >>= λ p. Some (file_with f.name p))
    (whole_again (file_parts counter) (are_file counter) (parts_of_file f) two.1)

object_found : (format : Format) (counter : ℕ) (row : StoredRow) (o : KeptObject)
    → IsBytes row.bytes → object_at format counter row ≡ Some o
    → IsRow (object_row format counter) (is_kept_object format counter) row o
unfolding object_at
object_found format counter row o h e =
    let a = bind_some (behind (codes "o/") row.name) (object_named format counter row.bytes) o e in
    let b = cond_some (is_name a.0) (object_by format counter a.0 row.bytes) o a.2 in
    let c = bind_some (whole (object_parts format counter) row.bytes)
    (λ p. Some (object_with a.0 p)) o b.1 in
    let w = whole_found (object_parts format counter) (are_object format counter) row.bytes c.0 h
    c.1 in
    let same = some_is (object_with a.0 c.0) o c.2 in
    subst (IsRow (object_row format counter) (is_kept_object format counter) row) same (record {
      is = row_is row (codes "o/" ++ a.0) ((object_parts format counter).spell c.0)
          (behind_is (codes "o/") row.name a.0 a.1) w.spelled;
      kept = true_and (is_name a.0) ((object_parts format counter).fits c.0) b.0 w.fits;
    })
  where
    cond_some : {A : Type 0} (b : Bool) (x : Option A) (y : A) → cond b x None ≡ Some y → (b ≡ true)
        × (x ≡ Some y)
    cond_some true x y e = (refl, e)
    cond_some {A} false x y e = absurd (let clash : ◌≡◌ {A = Option A} None (Some y) = e in cc)

object_again : (format : Format) (counter : ℕ) (o : KeptObject) → is_kept_object format counter o
    ≡ true → object_at format counter (object_row format counter o) ≡ Some o
unfolding object_at
object_again format counter o kept =
    let two = and_true (is_name o.name) ((object_parts format counter).fits (parts_of_object o))
    kept in
    ap (λ r. r >>= object_named format counter ((object_parts format counter).spell
    (parts_of_object o))) (behind_again (codes "o/") o.name)
    ∙ ap (λ b. cond b (object_by format counter o.name
    ((object_parts format counter).spell (parts_of_object o))) None) two.0
    ∙ ap (λ r. r >>= λ p. Some (object_with o.name p))
    (whole_again (object_parts format counter) (are_object format counter) (parts_of_object o)
    two.1)

-- ---- lists of rows

record AreRows {A : Type 0} (row_of : A → StoredRow) (is_one : A → Bool) (rows : List StoredRow)
    (xs : List A) : Type 0 where
  are : rows ≡ map row_of xs
  kept : list_all is_one xs ≡ true

module _ {A : Type 0} (row_of : A → StoredRow) (is_one : A → Bool)
    (read : StoredRow → Option A) where
  all_found : ((row : StoredRow) (x : A) → IsBytes row.bytes → read row
      ≡ Some x → IsRow row_of is_one row x) → (rows : List StoredRow) (xs : List A) → AreBytes rows
      → all_at read rows ≡ Some xs → AreRows row_of is_one rows xs
  unfolding all_at
  all_found each [] xs h e =
      subst (AreRows row_of is_one []) (some_is [] xs e) (record { are = refl; kept = refl })
  all_found each (r ∷ rows) xs h e =
      let a = bind_some (read r) (λ y. all_at read rows >>= λ ys. Some (y ∷ ys)) xs e in
      let b = bind_some (all_at read rows) (λ ys. Some (a.0 ∷ ys)) xs a.2 in
      let one = each r a.0 h.0 a.1 in
      let more = all_found each rows b.0 h.1 b.1 in
      subst (AreRows row_of is_one (r ∷ rows)) (some_is (a.0 ∷ b.0) xs b.2) (record {
        are = ap (λ q. q ∷ rows) one.is ∙ ap (λ qs. row_of a.0 ∷ qs) more.are;
        kept = true_and (is_one a.0) (list_all is_one b.0) one.kept more.kept;
      })

  all_again : ((x : A) → is_one x ≡ true → read (row_of x) ≡ Some x) → (xs : List A)
      → list_all is_one xs ≡ true → all_at read (map row_of xs) ≡ Some xs
  unfolding all_at
  all_again each [] e = refl
  all_again each (x ∷ xs) e =
      let two = and_true (is_one x) (list_all is_one xs) e in
      ap (λ r. r >>= λ y. all_at read (map row_of xs) >>= λ ys. Some (y ∷ ys)) (each x two.0)
      ∙ ap (λ r. r >>= λ ys. Some (x ∷ ys)) (all_again each xs two.1)

bytes_take : (n : ℕ) (rows : List StoredRow) → AreBytes rows → AreBytes (take n rows)
bytes_take zero rows h = tt
bytes_take (suc n) [] h = tt
bytes_take (suc n) (r ∷ rows) h = (h.0, bytes_take n rows h.1)

bytes_drop : (n : ℕ) (rows : List StoredRow) → AreBytes rows → AreBytes (drop n rows)
bytes_drop zero rows h = h
bytes_drop (suc n) [] h = tt
bytes_drop (suc n) (r ∷ rows) h = bytes_drop n rows h.1

bytes_get : (rows : List StoredRow) (i : ℕ) (r : StoredRow) → AreBytes rows → slice_get rows i
    ≡ Some r → IsBytes r.bytes
bytes_get [] i r h e = absurd (let clash : ◌≡◌ {A = Option StoredRow} None (Some r) = e in cc)
bytes_get (q ∷ rows) zero r h e = subst (λ x. IsBytes x.bytes) (some_is q r e) h.0
bytes_get (q ∷ rows) (suc i) r h e = bytes_get rows i r h.1 e

around : (rows : List StoredRow) (i : ℕ) (r : StoredRow) → slice_get rows i ≡ Some r → rows
    ≡ take i rows ++ r ∷ drop (suc i) rows
around [] i r e = absurd (let clash : ◌≡◌ {A = Option StoredRow} None (Some r) = e in cc)
around (q ∷ rows) zero r e = ap (λ x. x ∷ rows) (some_is q r e)
around (q ∷ rows) (suc i) r e = ap (λ rs. q ∷ rs) (around rows i r e)

-- what stands behind the longest front that passes does not pass
behind_front : (test : StoredRow → Bool) (rows : List StoredRow) (r : StoredRow)
    → slice_get rows (prefix_len test rows) ≡ Some r → test r ≡ false
behind_front test [] r g = absurd (let clash : ◌≡◌ {A = Option StoredRow} None (Some r) = g in cc)
behind_front test (q ∷ rows) r g = at (test q) refl g (behind_front test rows r)
  where
    at : (b : Bool) → test q ≡ b → slice_get (q ∷ rows) (cond b (1 + prefix_len test rows) 0)
        ≡ Some r → (slice_get rows (prefix_len test rows) ≡ Some r → test r ≡ false) → test r
        ≡ false
    at true is g later = let one : 1 + prefix_len test rows ≡ suc (prefix_len test rows) =
        omega arith in later (ap (slice_get (q ∷ rows)) (sym one) ∙ g)
    at false is g later = ap test (sym (some_is q r g)) ∙ is

place_passes : (rows : List StoredRow) (i : ℕ) (r : StoredRow) → position is_header rows ≡ Some i
    → slice_get rows i ≡ Some r → is_header r ≡ true
place_passes rows i r e g =
    let c = cond_is (nat_lt (prefix_len (λ x. not (is_header x)) rows) (length rows))
    (prefix_len (λ x. not (is_header x)) rows) i e in
    at (is_header r) (behind_front (λ x. not (is_header x)) rows r (ap (slice_get rows) c.1 ∙ g))
  where
    at : (b : Bool) → not b ≡ false → b ≡ true
    at true e = refl
    at false e = absurd (let clash : true ≡ false = e in cc)

front_behind : (files : List KeptFile) (counter : ℕ) (back : List StoredRow) (r : StoredRow)
    → is_header r ≡ true → prefix_len (λ x. not (is_header x))
    (map (file_row counter) files ++ r ∷ back) ≡ length files
front_behind [] counter back r e =
    ap (λ b. cond (not b) (1 + prefix_len (λ x. not (is_header x)) back) 0) e
front_behind (f ∷ fs) counter back r e =
    ap (λ n. 1 + n) (front_behind fs counter back r e) ∙ omega arith

length_rows : (files : List KeptFile) (counter : ℕ) → length (map (file_row counter) files)
    ≡ length files
length_rows [] counter = refl
length_rows (f ∷ fs) counter = ap suc (length_rows fs counter)

place_behind : (files : List KeptFile) (counter : ℕ) (back : List StoredRow) (r : StoredRow)
    → is_header r ≡ true → position is_header (map (file_row counter) files ++ r ∷ back)
    ≡ Some (length files)
place_behind files counter back r e =
    let n = front_behind files counter back r e in
    let whole = map (file_row counter) files ++ r ∷ back in
    let lt : length files < length whole =
    omega (
      arith,
      length-append (map (file_row counter) files) (r ∷ back),
      length_rows files
          counter,
    ) in
    ap (λ k. cond (nat_lt k (length whole)) (Some k) None) n
    ∙ ap (λ b. cond b (Some (length files)) None) (lt-ltb (length files) (length whole) lt)

get_behind : (front back : List StoredRow) (r : StoredRow)
    → slice_get (front ++ r ∷ back) (length front) ≡ Some r
get_behind [] back r = refl
get_behind (q ∷ front) back r = get_behind front back r

drop_behind : (front back : List StoredRow) (r : StoredRow)
    → drop (suc (length front)) (front ++ r ∷ back) ≡ back
drop_behind [] back r = refl
drop_behind (q ∷ front) back r = drop_behind front back r

given_around : (front back : List StoredRow) (r : StoredRow) → given_by (front ++ r ∷ back)
    ≡ (position is_header (front ++ r ∷ back) >>= kept_by (front ++ r ∷ back))
unfolding given_by
given_around [] back r = refl
given_around (q ∷ front) back r = refl

left_is : (format : Format) (counter : ℕ) (h : Header) (files : List KeptFile)
    (objects : List KeptObject) → with_header h files objects
    ≡ left_by h.format (record {
      counter = h.counter;
      limits = h.limits;
      dirs = h.dirs;
      files =
          files;
      objects = objects;
    })
left_is format counter h files objects = at h.format
  where
    at : (f : Format) → record {
      counter = h.counter;
      limits = h.limits;
      dirs = h.dirs;
      files =
          files;
      objects = objects_left f objects;
    } ≡ left_by f
        (record {
          counter = h.counter;
          limits = h.limits;
          dirs = h.dirs;
          files = files;
          objects =
              objects;
        })
    at First = refl
    at Second = refl
    at Third = refl

kept_found : (rows : List StoredRow) (i : ℕ) (s : Stored) → AreBytes rows → position is_header rows
    ≡ Some i → kept_by rows i ≡ Some s → Give rows s
kept_found rows i s h place e =
    let a = bind_some (header_at (slice_get rows i))
    (λ h. kept_with h (take i rows) (drop (i + 1) rows)) s e in
    let b = bind_some (slice_get rows i) (λ r. whole header r.bytes) a.0 a.1 in
    let c = bind_some (all_at (file_at a.0.counter) (take i rows))
    (λ files. all_at (object_at a.0.format a.0.counter) (drop (i + 1) rows) >>= λ objects.
    if_in_order a.0 files objects) s a.2 in
    let d = bind_some (all_at (object_at a.0.format a.0.counter) (drop (i + 1) rows))
    (λ objects. if_in_order a.0 c.0 objects) s c.2 in
    let g = cond_is (are_in_order c.0 d.0) (with_header a.0 c.0 d.0) s d.2 in
    let w = whole_found header header_is b.0.bytes a.0 (bytes_get rows i b.0 h b.1) b.2 in
    let named = eq_of b.0.name (codes "h") (place_passes rows i b.0 place b.1) in
    let row : b.0 ≡ header_row a.0 = row_is b.0 (codes "h") (header.spell a.0) named w.spelled in
    let one : i + 1 ≡ suc i = omega arith in
    let after : drop (i + 1) rows ≡ drop (suc i) rows = ap (λ n. drop n rows) one in
    let files = all_found (file_row a.0.counter) (is_kept_file a.0.counter) (file_at a.0.counter)
    (file_found a.0.counter) (take i rows) c.0 (bytes_take i rows h) c.1 in
    let objects = all_found (object_row a.0.format a.0.counter)
    (is_kept_object a.0.format a.0.counter) (object_at a.0.format a.0.counter)
    (object_found a.0.format a.0.counter) (drop (suc i) rows) d.0 (bytes_drop (suc i) rows h)
    (ap (all_at (object_at a.0.format a.0.counter)) (sym after) ∙ d.1) in
    let all : Stored = record {
      counter = a.0.counter;
      limits = a.0.limits;
      dirs = a.0.dirs;
      files =
          c.0;
      objects = d.0;
    } in
    let are : rows ≡ rows_in a.0.format all =
    around rows i b.0 b.1
    ∙ ap (λ q. take i rows ++ q ∷ drop (suc i) rows) row
    ∙ ap (λ fs. fs ++ header_row a.0 ∷ drop (suc i) rows) files.are
    ∙ ap (λ os. map (file_row a.0.counter) c.0 ++ header_row a.0 ∷ os) objects.are in
    let spells : Spells a.0.format all rows = record {
      kept = true_and _ _ (true_and _ _ (true_and _ _ w.fits files.kept) objects.kept) g.0;
      rows_are = are;
    } in
    inr (a.0.format, all, spells, sym g.1 ∙ left_is a.0.format a.0.counter a.0 c.0 d.0)

pub given_found : (rows : List StoredRow) (s : Stored) → AreBytes rows → given_by rows ≡ Some s
    → Give rows s
unfolding given_by
given_found [] s h e = inl (refl, sym (some_is empty s e))
given_found (r ∷ rows) s h e =
    let a = bind_some (position is_header (r ∷ rows)) (kept_by (r ∷ rows)) s e in
    kept_found (r ∷ rows) a.0 s h a.1 a.2

spelled_again : (format : Format) (s : Stored) → is_kept format s ≡ true
    → given_by (rows_in format s) ≡ Some (left_by format s)
spelled_again format s kept =
    let a = and_true (header.fits (header_in format s) && list_all (is_kept_file s.counter) s.files
    && list_all (is_kept_object format s.counter) s.objects) (are_in_order s.files s.objects)
    kept in
    let b = and_true (header.fits (header_in format s) && list_all (is_kept_file s.counter) s.files)
    (list_all (is_kept_object format s.counter) s.objects) a.0 in
    let c = and_true (header.fits (header_in format s)) (list_all (is_kept_file s.counter) s.files)
    b.0 in
    let front = map (file_row s.counter) s.files in
    let back = map (object_row format s.counter) s.objects in
    let r = header_row (header_in format s) in
    let len : length front ≡ length s.files = length_rows s.files s.counter in
    let h = header_in format s in
    let one : length front + 1 ≡ suc (length front) = omega arith in
    given_around front back r
    ∙ ap (λ p. p >>= kept_by (front ++ r ∷ back))
    (place_behind s.files s.counter back r refl ∙ ap Some (sym len))
    ∙ ap (λ g. header_at g >>= λ h. kept_with h (take (length front) (front ++ r ∷ back))
    (drop (length front + 1) (front ++ r ∷ back))) (get_behind front back r)
    ∙ ap (λ g. g >>= λ h. kept_with h (take (length front) (front ++ r ∷ back))
    (drop (length front + 1) (front ++ r ∷ back))) (whole_again header header_is h c.0)
    ∙ ap (λ fs. kept_with h fs (drop (length front + 1) (front ++ r ∷ back)))
    (take_at front (r ∷ back) (length front) refl)
    ∙ ap (λ n. kept_with h front (drop n (front ++ r ∷ back))) one
    ∙ ap (kept_with h front) (drop_behind front back r)
    ∙ ap (λ g. g >>= λ files. all_at (object_at format s.counter) back >>= λ objects. if_in_order h
    files objects) (all_again (file_row s.counter) (is_kept_file s.counter) (file_at s.counter)
    (file_again s.counter) s.files c.1)
    ∙ ap (λ g. g >>= λ objects. if_in_order h s.files objects)
    (all_again (object_row format s.counter) (is_kept_object format s.counter)
    (object_at format s.counter) (object_again format s.counter) s.objects b.1)
    ∙ ap (λ b. cond b (Some (with_header h s.files s.objects)) None) a.1
    ∙ ap Some (left_is format s.counter h s.files s.objects)

pub given_again : (rows : List StoredRow) (s : Stored) → Give rows s → given_by rows ≡ Some s
unfolding given_by
given_again rows s (inl e) = ap given_by e.0 ∙ ap Some (sym e.1)
given_again rows s (inr g) =
    ap given_by g.2.rows_are ∙ spelled_again g.0 g.1 g.2.kept ∙ ap Some (sym g.3)
