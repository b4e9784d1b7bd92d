-- Rows that are told apart by their rowids.
use Rattle.std.proofs.Common.{◌≡◌, ◌⊎◌, inl, inr, ◌≤◌, ℕ, suc, ℤ, Bool, true, false, List, [], ◌∷◌, filter, cond, not, ◌||◌, refl, sym, ap, ◌∙◌, subst, arith}
use Rattle.std.specs.declared.cmp.Ordering.{Ordering}
use Rattle.std.specs.declared.cmp.Ordering.TheVariants.{Less, Equal, Greater}
use Rattle.std.specs.Ordering.{is_eq, match_ordering, ordering_reverse}
use Rattle.std.specs.List.{list_any}
use Rattle.sqlite_value.specs.declared.value.Value.TheVariants.{Int}
use Rattle.sqlite_value.specs.Order.{Row, value_cmp}
use Rattle.sqlite_value.proofs.OrderLemmas.{value_cmp_total}
use Rattle.sqlite_trees.specs.Tree.{rowid, has_rowid, put_row, without_rowid}
use Rattle.sqlite_trees.specs.View.{is_int}
use Rattle.sqlite_rules.specs.Lists.{Has}
use Rattle.sqlite_rules.specs.Edit.{without_all, is_taken}
use Rattle.sqlite_rules.proofs.ListLemmas.{all_has, all_from, some_from, has_filtered}
use Rattle.sqlite_rules.proofs.TableLemmas.{put_has}
use Rattle.row_table.specs.Rows.{times, AreNumbered}

pub filter_same : (p q : Row → Bool) (rows : List Row) → ((r : Row) → Has rows r → p r ≡ q r)
    → filter p rows ≡ filter q rows
filter_same p q [] same = refl
filter_same p q (r ∷ rs) same =
    ap (λ b. cond b (r ∷ filter p rs) (filter p rs)) (same r (inl refl))
    ∙ ap (λ t. cond (q r) (r ∷ t) t) (filter_same p q rs (λ x h. same x (inr h)))

twice : (p q : Row → Bool) (rows : List Row) → filter (λ r. not (q r))
    (filter (λ r. not (p r)) rows) ≡ filter (λ r. not (p r || q r)) rows
twice p q [] = refl
twice p q (r ∷ rs) = elim (p r) as (λ b. filter (λ x. not (q x))
    (cond (not b) (r ∷ filter (λ x. not (p x)) rs) (filter (λ x. not (p x)) rs))
    ≡ cond (not (b || q r)) (r ∷ filter (λ x. not (p x || q x)) rs)
    (filter (λ x. not (p x || q x)) rs)) [
      | true ↦ twice p q rs
      | false ↦ ap (λ t. cond (not (q r)) (r ∷ t) t) (twice p q rs)
    ]

all_kept : (rows : List Row) → rows ≡ filter (λ r. not false) rows
all_kept [] = refl
all_kept (r ∷ rs) = ap (λ t. r ∷ t) (all_kept rs)

-- taking out several rowids is one filter
pub without_is : (ids : List ℤ) (rows : List Row) → without_all rows ids
    ≡ filter (λ r. not (list_any (λ id. has_rowid id r) ids)) rows
without_is [] rows = all_kept rows
without_is (id ∷ ids) rows =
    without_is ids (without_rowid id rows) ∙ twice (has_rowid id)
    (λ r. list_any (λ i. has_rowid i r) ids) rows

pub equal_of : (o : Ordering) → is_eq o ≡ true → o ≡ Equal
equal_of Less h = cc
equal_of Equal h = refl
equal_of Greater h = cc

pub times_has : (id : ℤ) (rows : List Row) (a : Row) → Has rows a → has_rowid id a ≡ true
    → 1 ≤ times id rows
times_has id [] a h is = absurd h
times_has id (r ∷ rs) a (inl same) is = let here : has_rowid id r ≡ true =
    ap (has_rowid id) (sym same) ∙ is in rw here (omega arith)
times_has id (r ∷ rs) a (inr later) is =
    let more = times_has id rs a later is in
    elim (has_rowid id r) as (λ b. 1 ≤ cond b (suc (times id rs)) (times id rs))
    [ true ↦ omega arith | false ↦ more ]

-- of two rows with one rowid, where it comes once
pub same_row : (id : ℤ) (rows : List Row) (a b : Row) → times id rows ≤ 1 → Has rows a → Has rows b
    → has_rowid id a ≡ true → has_rowid id b ≡ true → a ≡ b
same_row id [] a b once ha hb isa isb = absurd ha
same_row id (r ∷ rs) a b once (inl sa) (inl sb) isa isb = sa ∙ sym sb
same_row id (r ∷ rs) a b once (inl sa) (inr lb) isa isb =
    let here : has_rowid id r ≡ true = ap (has_rowid id) (sym sa) ∙ isa in
    let more = times_has id rs b lb isb in
    let both : suc (times id rs) ≤ 1 = rw here at once in
    absurd (omega arith)
same_row id (r ∷ rs) a b once (inr la) (inl sb) isa isb =
    let here : has_rowid id r ≡ true = ap (has_rowid id) (sym sb) ∙ isb in
    let more = times_has id rs a la isa in
    let both : suc (times id rs) ≤ 1 = rw here at once in
    absurd (omega arith)
same_row id (r ∷ rs) a b once (inr la) (inr lb) isa isb =
    same_row id rs a b (fewer (has_rowid id r) (times id rs) once) la lb isa isb
  where
    fewer : (c : Bool) (n : ℕ) → cond c (suc n) n ≤ 1 → n ≤ 1
    fewer true n h = omega arith
    fewer false n h = h

fewer_kept : (id : ℤ) (p : Row → Bool) (rows : List Row) → times id (filter p rows) ≤ times id rows
fewer_kept id p [] = omega arith
fewer_kept id p (r ∷ rs) = step (p r) (has_rowid id r) (fewer_kept id p rs)
  where
    step : (b c : Bool) → times id (filter p rs) ≤ times id rs
        → times id (cond b (r ∷ filter p rs) (filter p rs)) ≤ cond (has_rowid id r)
        (suc (times id rs)) (times id rs)
    step true c h = elim (has_rowid id r) as (λ d. cond d (suc (times id (filter p rs)))
        (times id (filter p rs)) ≤ cond d (suc (times id rs)) (times id rs))
        [ true ↦ omega arith | false ↦ h ]
    step false c h = elim (has_rowid id r) as (λ d. times id (filter p rs) ≤ cond d
        (suc (times id rs)) (times id rs)) [ true ↦ omega arith | false ↦ h ]

pub numbered_kept : (p : Row → Bool) (rows : List Row) → AreNumbered rows
    → AreNumbered (filter p rows)
numbered_kept p rows n = record {
  ints = all_from _ (filter p rows) (λ x h. all_has _ rows x n.ints (has_filtered p rows x h).0);
  once = λ id. let few = fewer_kept id p rows in let most = n.once id in omega arith;
}

free_here : (a b : Bool) → (a || b) ≡ false → (a ≡ false) × (b ≡ false)
free_here true b h = absurd (cc)
free_here false b h = (refl, h)

times_put : (id : ℤ) (new : Row) (rows : List Row) → is_taken rows new ≡ false
    → times id (put_row new rows) ≡ cond (has_rowid id new) (suc (times id rows)) (times id rows)
times_put id new [] free = refl
times_put id new (r ∷ rs) free =
    by (value_cmp (rowid r) (rowid new)) (free_here _ _ free).0
    (times_put id new rs (free_here _ _ free).1)
  where
    swap : (t u : Bool) (n : ℕ) → cond t (suc (cond u (suc n) n)) (cond u (suc n) n)
        ≡ cond u (suc (cond t (suc n) n)) (cond t (suc n) n)
    swap true true n = refl
    swap true false n = refl
    swap false true n = refl
    swap false false n = refl

    by : (o : Ordering) → is_eq o ≡ false → times id (put_row new rs)
        ≡ cond (has_rowid id new) (suc (times id rs)) (times id rs)
        → times id (match_ordering o (r ∷ put_row new rs) (new ∷ rs) (new ∷ r ∷ rs))
        ≡ cond (has_rowid id new) (suc (times id (r ∷ rs))) (times id (r ∷ rs))
    by Less other ih = ap (λ n. cond (has_rowid id r) (suc n) n) ih
        ∙ swap (has_rowid id r) (has_rowid id new) (times id rs)
    by Equal other ih = absurd (cc)
    by Greater other ih = refl

pub times_none : (id : ℤ) (rows : List Row) → ((r : Row) → Has rows r → has_rowid id r ≡ false)
    → times id rows ≡ 0
times_none id [] none = refl
times_none id (r ∷ rs) none =
    ap (λ b. cond b (suc (times id rs)) (times id rs)) (none r (inl refl))
    ∙ times_none id rs (λ x h. none x (inr h))

pub bool_cases : (b : Bool) → (b ≡ true) ⊎ (b ≡ false)
bool_cases true = inl refl
bool_cases false = inr refl

-- two rows with one rowid tie
pub tied : (id : ℤ) (a b : Row) → has_rowid id a ≡ true → has_rowid id b ≡ true
    → value_cmp (rowid a) (rowid b) ≡ Equal
tied id a b isa isb =
    let first : value_cmp (rowid a) (Int id) ≡ Equal = equal_of _ isa in
    let second : value_cmp (rowid b) (Int id) ≡ Equal = equal_of _ isb in
    value_cmp_total.congr (rowid a) (Int id) (rowid b) first
    ∙ value_cmp_total.antisymm (Int id) (rowid b) ∙ ap ordering_reverse second

pub numbered_put : (new : Row) (rows : List Row) → is_int (rowid new) ≡ true → is_taken rows new
    ≡ false → AreNumbered rows → AreNumbered (put_row new rows)
numbered_put new rows int free n = record {
  ints = all_from _ (put_row new rows) (λ x h. elim (put_has new rows x h) [
    | inl same ↦ subst (λ (r : Row). is_int (rowid r) ≡ true) (sym same) int
    | inr was ↦ all_has _
        rows x n.ints was
  ]);
  once = λ id. elim (bool_cases (has_rowid id new)) [
    | inl mine ↦ (
        let none = times_none id rows (λ r h. elim (bool_cases (has_rowid id r)) [
          | inl his ↦ absurd (let taken =
              some_from (λ x. is_eq (value_cmp (rowid x) (rowid new))) rows r h
              (ap is_eq (tied id r new his mine)) in let clash : true ≡ false = sym taken ∙ free in
              cc)
          | inr other ↦ other
        ]) in
        let one = times_put id new rows free
        ∙ ap (λ b. cond b (suc (times id rows)) (times id rows)) mine in
        omega arith)
    | inr other ↦ (let same =
        times_put id new rows free ∙ ap (λ b. cond b (suc (times id rows)) (times id rows)) other in
        let most = n.once id in omega arith)
  ];
}
