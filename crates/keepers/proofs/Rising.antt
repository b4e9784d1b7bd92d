-- Rows in byte order, after one is taken out or put in.
use Rattle.std.proofs.Common.{◌≡◌, ◌⊎◌, inl, inr, ℕ, Bool, true, false, List, [], ◌∷◌, map, ◌&&◌, cond, Option, Some, None, refl, sym, ap, subst, ◌∙◌}
use Rattle.std.specs.Prelude.{bytes_eq}
use Rattle.std.specs.declared.cmp.Ordering.{Ordering}
use Rattle.std.specs.declared.cmp.Ordering.TheVariants.{Less, Equal, Greater}
use Rattle.std.specs.Ordering.{is_lt, is_eq, nat_cmp, match_ordering, ordering_reverse}
use Rattle.std.specs.Cmp.Lexicographic.{slice_cmp}
use Rattle.std.proofs.lemmas.Bool.{and_parts}
use Rattle.std.proofs.lemmas.Cmp.{nat_list_cmp_total}
use Rattle.std.proofs.lemmas.Slice.Eq.{bytes_eq-Decides}
use Rattle.std.proofs.lemmas.Map.Text.{is_eq-slice_cmp}
use Rattle.std.proofs.lemmas.Map.Lookups.{exact_bytes}
use Rattle.stored_rows.specs.declared.row.StoredRow.{StoredRow}
use Rattle.stored_rows.specs.Rows.{row_name, are_rising, bytes_under}
use Rattle.stored_rows.proofs.Above.{comes_after, names_rise, above_none}
use Rattle.keepers.specs.Keeping.{Change, Follows, Lists, unchanged, gone, set as added, all_gone, all_set, replaced}
use Rattle.keepers.specs.Kept.{cell_of}
use Rattle.keepers.specs.Sorted.{without, with_row, Becomes}

less_of : (o : Ordering) → is_lt o ≡ true → o ≡ Less
less_of Less h = refl
less_of Equal h = cc
less_of Greater h = cc

both : (a b : Bool) → a ≡ true → b ≡ true → a && b ≡ true
both true b p q = q
both false b p q = cc

-- what comes after a later name comes after an earlier one
after_then : (last : Option (List ℕ)) (a b : List ℕ) → comes_after last a ≡ true
    → is_lt (slice_cmp nat_cmp a b) ≡ true → comes_after last b ≡ true
after_then None a b p q = refl
after_then (Some l) a b p q = ap is_lt (nat_list_cmp_total.trans l a b (less_of _ p) (less_of _ q))

rises_from : (last : Option (List ℕ)) (name : List ℕ) (rows : List StoredRow)
    → comes_after last name ≡ true → names_rise (Some name) rows ≡ true
    → names_rise last rows ≡ true
rises_from last name [] p q = refl
rises_from last name (r ∷ rs) p q = both _ _ (after_then last name r.name p (and_parts _ _ q).0)
    (and_parts _ _ q).1

-- ---- a name is taken out

rises_without : (last : Option (List ℕ)) (name : List ℕ) (rows : List StoredRow)
    → names_rise last rows ≡ true → names_rise last (without name rows) ≡ true
rises_without last name [] h = refl
rises_without last name (r ∷ rs) h =
    let later = rises_without (Some r.name) name rs (and_parts _ _ h).1 in
    elim (bytes_eq r.name name) as (λ b. names_rise last (cond b (without name rs)
    (r ∷ without name rs)) ≡ true) [
      | true ↦ rises_from last r.name (without name rs) (and_parts _ _ h).0 later
      | false ↦ both _ _ (and_parts _ _ h).0 later
    ]

-- x: the row has the name; y: the name is asked for; z: the row has the name asked for
taken_by : (x y z : Bool) (b mine rest : Option (List ℕ)) → (x ≡ true → z ≡ y)
    → (x ≡ false → y ≡ true → z ≡ false) → mine ≡ cond y None rest
    → cond x mine (cond z b mine) ≡ cond y None (cond z b rest)
taken_by true true z b mine rest p q ih = ih
taken_by true false z b mine rest p q ih = ih ∙ sym (ap (λ c. cond c b rest) (p refl))
taken_by false true z b mine rest p q ih = ap (λ c. cond c b mine) (q refl refl) ∙ ih
taken_by false false z b mine rest p q ih = ap (λ k. cond z b k) ih

pushed : (c : Bool) (r : StoredRow) (rs : List StoredRow) (n : List ℕ)
    → bytes_under (cond c rs (r ∷ rs)) n ≡ cond c (bytes_under rs n) (cond (bytes_eq r.name n)
    (Some r.bytes) (bytes_under rs n))
pushed true r rs n = refl
pushed false r rs n = refl

none_left : (b : Bool) → ◌≡◌ {A = Option (List ℕ)} None (cond b None None)
none_left true = refl
none_left false = refl

other_name : (a name n : List ℕ) → bytes_eq a name ≡ false → bytes_eq name n ≡ true → (b : Bool)
    → bytes_eq a n ≡ b → b ≡ false
other_name a name n x y true z =
    let same : a ≡ name = (bytes_eq-Decides a n).0 z ∙ sym ((bytes_eq-Decides name n).0 y) in
    let clash : true ≡ false = sym ((bytes_eq-Decides a name).1 same) ∙ x in cc
other_name a name n x y false z = refl

holds_without : (name n : List ℕ) (rows : List StoredRow)
    → bytes_under (without name rows) n ≡ gone name n (bytes_under rows n)
holds_without name n [] = none_left (bytes_eq name n)
holds_without name n (r ∷ rs) =
    pushed (bytes_eq r.name name) r (without name rs) n
    ∙ taken_by (bytes_eq r.name name) (bytes_eq name n) (bytes_eq r.name n) (Some r.bytes)
    (bytes_under (without name rs) n) (bytes_under rs n)
    (λ x. ap (λ k. bytes_eq k n) ((bytes_eq-Decides r.name name).0 x))
    (λ x y. other_name r.name name n x y _ refl) (holds_without name n rs)

-- ---- a row is put in

turned : (a b : List ℕ) → slice_cmp nat_cmp a b ≡ Greater → is_lt (slice_cmp nat_cmp b a) ≡ true
turned a b h = ap is_lt (nat_list_cmp_total.antisymm b a ∙ ap ordering_reverse h)

rises_by : (last : Option (List ℕ)) (new r : StoredRow) (rs : List StoredRow) (o : Ordering)
    → comes_after last new.name ≡ true → names_rise last (r ∷ rs) ≡ true
    → (is_lt (slice_cmp nat_cmp r.name new.name) ≡ true
    → names_rise (Some r.name) (with_row new rs) ≡ true)
    → slice_cmp nat_cmp r.name new.name ≡ o
    → names_rise last (match_ordering o (r ∷ with_row new rs) (new ∷ rs) (new ∷ r ∷ rs)) ≡ true
rises_by last new r rs Less p h later is = both _ _ (and_parts _ _ h).0 (later (ap is_lt is))
rises_by last new r rs Equal p h later is =
    both _ _ p (subst (λ k. names_rise (Some k) rs ≡ true) (exact_bytes r.name new.name is)
    (and_parts _ _ h).1)
rises_by last new r rs Greater p h later is =
    both _ _ p (both _ _ (turned r.name new.name is) (and_parts _ _ h).1)

rises_with : (last : Option (List ℕ)) (new : StoredRow) (rows : List StoredRow)
    → comes_after last new.name ≡ true → names_rise last rows ≡ true
    → names_rise last (with_row new rows) ≡ true
rises_with last new [] p h = both _ _ p refl
rises_with last new (r ∷ rs) p h =
    rises_by last new r rs _ p h (λ below. rises_with (Some r.name) new rs below
    (and_parts _ _ h).1) refl

swap : (y z : Bool) (mine his rest : Option (List ℕ)) → (y ≡ true → z ≡ false)
    → cond z his (cond y mine rest) ≡ cond y mine (cond z his rest)
swap true true mine his rest other = absurd (let e = other refl in cc)
swap true false mine his rest other = refl
swap false z mine his rest other = refl

over : (y z : Bool) (mine his rest : Option (List ℕ)) → z ≡ y
    → cond y mine rest ≡ cond y mine (cond z his rest)
over true z mine his rest same = refl
over false z mine his rest same = sym (ap (λ c. cond c his rest) same)

holds_by : (new r : StoredRow) (n : List ℕ) (rs : List StoredRow) (o : Ordering)
    → bytes_under (with_row new rs) n ≡ added new.name new.bytes n (bytes_under rs n)
    → slice_cmp nat_cmp r.name new.name ≡ o
    → bytes_under (match_ordering o (r ∷ with_row new rs) (new ∷ rs) (new ∷ r ∷ rs)) n
    ≡ added new.name new.bytes n (bytes_under (r ∷ rs) n)
holds_by new r n rs Less later is =
    let apart : bytes_eq r.name new.name ≡ false = sym (is_eq-slice_cmp r.name new.name)
    ∙ ap is_eq is in
    ap (λ k. cond (bytes_eq r.name n) (Some r.bytes) k) later
    ∙ swap (bytes_eq new.name n) (bytes_eq r.name n) (Some new.bytes) (Some r.bytes)
    (bytes_under rs n) (λ y. other_name r.name new.name n apart y _ refl)
holds_by new r n rs Equal later is = over (bytes_eq new.name n) (bytes_eq r.name n) (Some new.bytes)
    (Some r.bytes) (bytes_under rs n) (ap (λ k. bytes_eq k n) (exact_bytes r.name new.name is))
holds_by new r n rs Greater later is = refl

holds_with : (new : StoredRow) (n : List ℕ) (rows : List StoredRow)
    → bytes_under (with_row new rows) n ≡ added new.name new.bytes n (bytes_under rows n)
holds_with new n [] = refl
holds_with new n (r ∷ rs) = holds_by new r n rs _ (holds_with new n rs) refl

-- ---- one after the other

-- so much is left to do
pub record Leaves (left whole : Change) (first now : List StoredRow) : Type 0 where
  pub rise : are_rising (map row_name first) ≡ true → are_rising (map row_name now) ≡ true
  pub holds : (n : List ℕ) → left n (bytes_under now n) ≡ whole n (bytes_under first n)

still : (rows next : List StoredRow) → (names_rise None rows ≡ true → names_rise None next ≡ true)
    → are_rising (map row_name rows) ≡ true → are_rising (map row_name next) ≡ true
still rows next go h = sym (above_none next) ∙ go (above_none rows ∙ h)

pub one_gone : (names rest : List (List ℕ)) (name : List ℕ) (whole : Change)
    (first now : List StoredRow) → names ≡ name ∷ rest → Leaves (all_gone names) whole first now
    → Leaves (all_gone rest) whole first (without name now)
one_gone names rest name whole first now is l = record {
  rise = λ h. still now (without name now) (rises_without None name now) (l.rise h);
  holds = λ n. ap (all_gone rest n) (holds_without name n now)
      ∙ ap (λ k. all_gone k n (bytes_under now n)) (sym is) ∙ l.holds n;
}

pub one_set : (rows rest : List StoredRow) (row : StoredRow) (whole : Change)
    (first now : List StoredRow) → rows ≡ row ∷ rest → Leaves (all_set rows) whole first now
    → Leaves (all_set rest) whole first (with_row row now)
one_set rows rest row whole first now is l = record {
  rise = λ h. still now (with_row row now) (rises_with None row now refl) (l.rise h);
  holds = λ n. ap (all_set rest n) (holds_with row n now)
      ∙ ap (λ k. all_set k n (bytes_under now n)) (sym is) ∙ l.holds n;
}

-- ---- what a keeper tells

pub stays : (rows : List StoredRow) → Follows unchanged (cell_of rows) (cell_of rows)
stays rows n = inr refl

pub lists : (rows : List StoredRow) → are_rising (map row_name rows) ≡ true
    → Lists (cell_of rows) rows
lists rows rise = record { rise = rise; each = λ n. refl }

pub replaces : (names : List (List ℕ)) (set : List StoredRow) (old mid new : List StoredRow)
    → Becomes (all_gone names) old mid → Becomes (all_set set) mid new
    → Follows (replaced names set) (cell_of old) (cell_of new)
replaces names set old mid new one two n =
    inr (ap (λ o. Some o) (two.holds n ∙ ap (all_set set n) (one.holds n)))
