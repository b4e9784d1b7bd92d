-- Rowids that rise are told apart.
use Rattle.std.proofs.Common.{◌≡◌, inl, inr, ◌≤◌, ◌+◌, ℕ, suc, ℤ, Bool, true, false, List, [], ◌∷◌, filter, map, cond, Option, Some, None, refl, sym, ap, ◌∙◌, arith, sum_by}
use Rattle.std.specs.declared.cmp.Ordering.{Ordering}
use Rattle.std.specs.declared.cmp.Ordering.TheVariants.{Less, Equal, Greater}
use Rattle.std.specs.Ordering.{is_lt}
use Rattle.std.specs.List.{list_all}
use Rattle.std.proofs.lemmas.Bool.{and_parts}
use Rattle.std.proofs.lemmas.List.Sums.{sum_by-cons}
use Rattle.std.proofs.lemmas.List.Sorted.{sum_by-IsPermutation}
use Rattle.sqlite_value.specs.declared.value.Value.{Value}
use Rattle.sqlite_value.specs.declared.value.Value.TheVariants.{Null, Int, Real, Text, Blob}
use Rattle.sqlite_value.specs.Order.{Row, column, value_cmp}
use Rattle.sqlite_value.specs.declared.keys.Key.{Key}
use Rattle.sqlite_value.proofs.OrderLemmas.{value_cmp_total, value_cmp-Int}
use Rattle.sqlite_trees.specs.Tree.{Trees, rowid, has_rowid}
use Rattle.sqlite_trees.specs.View.{is_int}
use Rattle.sqlite_sql.specs.Term.{Term, col, holds}
use Rattle.sqlite_sql.specs.Query.{Output, output}
use Rattle.sqlite_rules.specs.Lists.{Has}
use Rattle.sqlite_rules.specs.Edit.{id_in}
use Rattle.sqlite_rules.proofs.ListLemmas.{all_from}
use Rattle.row_table.specs.Rows.{times, AreNumbered, comes_above, ids_rise}
use Rattle.row_table.proofs.Texts.{query_over}
use Rattle.row_table.proofs.Numbering.{tied, times_none, bool_cases}
use Rattle.row_table.proofs.Answers.{IsShown, shown_has}

never_both : (o : Ordering) → o ≡ Less → o ≡ Equal → ⊥
never_both Less a b = cc
never_both Equal a b = cc
never_both Greater a b = cc

pub less_of : (o : Ordering) → is_lt o ≡ true → o ≡ Less
less_of Less h = refl
less_of Equal h = cc
less_of Greater h = cc

-- an integer that comes above is one
int_above : (last : Option ℤ) (v : Value) → comes_above last v ≡ true → v ≡ Int (id_in v)
int_above None Null h = cc
int_above None (Int z) h = refl
int_above None (Real x) h = cc
int_above None (Text t) h = cc
int_above None (Blob b) h = cc
int_above (Some y) Null h = cc
int_above (Some y) (Int z) h = refl
int_above (Some y) (Real x) h = cc
int_above (Some y) (Text t) h = cc
int_above (Some y) (Blob b) h = cc

above : (y : ℤ) (v : Value) → comes_above (Some y) v ≡ true → value_cmp (Int y) v ≡ Less
above y Null h = cc
above y (Int z) h = value_cmp-Int y z ∙ less_of _ h
above y (Real x) h = cc
above y (Text t) h = cc
above y (Blob b) h = cc

pub rising_ints : (last : Option ℤ) (rows : List Row) → ids_rise last rows ≡ true → (r : Row)
    → Has rows r → is_int (rowid r) ≡ true
rising_ints last [] rise r h = absurd h
rising_ints last (x ∷ xs) rise r (inl same) =
    ap (λ (y : Row). is_int (rowid y)) same ∙ ap is_int
    (int_above last (column x 0) (and_parts _ _ rise).0)
rising_ints last (x ∷ xs) rise r (inr later) =
    rising_ints (Some (id_in (column x 0))) xs (and_parts _ _ rise).1 r later

all_above : (y : ℤ) (rows : List Row) → ids_rise (Some y) rows ≡ true → (r : Row) → Has rows r
    → value_cmp (Int y) (rowid r) ≡ Less
all_above y [] rise r h = absurd h
all_above y (x ∷ xs) rise r (inl same) =
    ap (λ (k : Row). value_cmp (Int y) (rowid k)) same ∙ above y (column x 0) (and_parts _ _ rise).0
all_above y (x ∷ xs) rise r (inr later) =
    let here = above y (column x 0) (and_parts _ _ rise).0 in
    let is = int_above (Some y) (column x 0) (and_parts _ _ rise).0 in
    let next : value_cmp (column x 0) (rowid r) ≡ Less =
    ap (λ v. value_cmp v (rowid r)) is ∙ all_above (id_in (column x 0)) xs
    (and_parts _ _ rise).1 r later in
    value_cmp_total.trans (Int y) (column x 0) (rowid r) here next

pub rising_once : (last : Option ℤ) (rows : List Row) → ids_rise last rows ≡ true → (id : ℤ)
    → times id rows ≤ 1
rising_once last [] rise id = omega arith
rising_once last (x ∷ xs) rise id =
    let is = int_above last (column x 0) (and_parts _ _ rise).0 in
    let later = rising_once (Some (id_in (column x 0))) xs (and_parts _ _ rise).1 id in
    elim (bool_cases (has_rowid id x)) [
      | inl mine ↦ (
          let none : times id xs ≡ 0 = times_none id xs (λ r h. elim (bool_cases (has_rowid id r)) [
            | inl his ↦ absurd (never_both _ (ap (λ v. value_cmp v (rowid r)) is
                ∙ all_above (id_in (column x 0)) xs (and_parts _ _ rise).1 r h)
                (tied id x r mine his))
            | inr other ↦ other
          ]) in
          let one : times id (x ∷ xs) ≡ suc (times id xs) =
          ap (λ b. cond b (suc (times id xs)) (times id xs)) mine in
          omega arith)
      | inr other ↦ (let same : times id (x ∷ xs) ≡ times id xs =
          ap (λ b. cond b (suc (times id xs)) (times id xs)) other in omega arith)
    ]

-- how many outputs show the rowid
counted : ℤ → List Output → ℕ
counted id = sum_by (λ o. cond (has_rowid id o.1) 1 0)

cond_more : (b : Bool) (n : ℕ) → cond b (suc n) n ≡ cond b 1 0 + n
cond_more true n = omega arith
cond_more false n = omega arith

times_counted : (id : ℤ) (outputs : List Output) → times id (map (λ o. o.1) outputs)
    ≡ counted id outputs
unfolding counted
times_counted id [] = refl
times_counted id (o ∷ os) =
    cond_more (has_rowid id o.1) _ ∙ ap (λ n. cond (has_rowid id o.1) 1 0 + n) (times_counted id os)
    ∙ sym (sum_by-cons (λ o. cond (has_rowid id o.1) 1 0) o os)

all_rows : (rows : List Row) (params : Row) → filter (λ r. list_all (holds (params ∷ r ∷ [])) [])
    rows ≡ rows
all_rows [] params = refl
all_rows (r ∷ rs) params = ap (λ t. r ∷ t) (all_rows rs params)

times_shown : (id : ℤ) (order : List (Term × Key)) (rows : List Row)
    → times id (map (λ o. o.1)
    (map (output (record (query_over [] (col 1 0 ∷ [])) { order = order }))
    (map (λ r. [] ∷ r ∷ []) rows))) ≡ times id rows
times_shown id order [] = refl
times_shown id order (r ∷ rs) = ap (λ n. cond (has_rowid id r) (suc n) n) (times_shown id order rs)

-- the rowids of an answer that rise are those of a table in which none comes twice
pub numbered_by : (order : List (Term × Key)) (db : Trees) (rows : List Row)
    → IsShown (record (query_over [] (col 1 0 ∷ [])) { order = order }) [] db [] rows
    → ids_rise None rows ≡ true → AreNumbered (db 0)
unfolding counted
numbered_by order db rows s rise = record {
  ints = all_from _ (db 0) (λ r h. rising_ints None rows rise (column r 0 ∷ [])
      (shown_has _ [] db [] rows s r h refl));
  once = λ id.
      let q = record (query_over [] (col 1 0 ∷ [])) { order = order } in
      let all = map (output q) (map (λ r. [] ∷ r ∷ [])
      (filter (λ r. list_all (holds ([] ∷ r ∷ [])) []) (db 0))) in
      let shown : times id rows ≡ times id (db 0) =
      ap (times id) s.shown ∙ times_counted id s.outputs
      ∙ sum_by-IsPermutation (λ (o : Output). cond (has_rowid id o.1) 1 0) all s.outputs s.same
      ∙ sym (times_counted id all)
      ∙ ap (λ l. times id (map (λ (o : Output). o.1)
      (map (output q) (map (λ (r : Row). [] ∷ r ∷ []) l)))) (all_rows (db 0) [])
      ∙ times_shown id order (db 0) in
      let most = rising_once None rows rise id in
      omega arith;
}
