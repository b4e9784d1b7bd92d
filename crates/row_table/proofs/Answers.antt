-- The rows that a query of the keeper shows.
use Rattle.std.proofs.Common.{◌≡◌, ℕ, Bool, true, false, List, [], ◌∷◌, ◌++◌, filter, map, cond, Some, refl, sym, ap, ◌∙◌, subst}
use Rattle.std.specs.List.{flat_map, list_all}
use Rattle.std.specs.List.Sorted.{IsPermutation, IsSorted}
use Rattle.std.specs.Ordering.{is_eq}
use Rattle.std.proofs.lemmas.Map.Text.{is_eq-slice_cmp}
use Rattle.std.proofs.lemmas.List.Sorted.{Contains-permutation, IsPermutation-sym}
use Rattle.sqlite_rules.specs.Lists.{Has}
use Rattle.sqlite_rules.proofs.ListLemmas.{has_kept, has_filtered, has_contained, contains_had}
use Rattle.sqlite_rules.proofs.ProbeLemmas.{has_mapped, mapped_has}
use Rattle.sqlite_value.specs.declared.value.Value.{Value}
use Rattle.sqlite_value.specs.declared.value.Value.TheVariants.{Null, Int, Real, Text, Blob}
use Rattle.sqlite_value.specs.Order.{Row}
use Rattle.sqlite_value.specs.declared.keys.Key.{Key}
use Rattle.sqlite_value.specs.declared.keys.Collation.TheVariants.{Binary}
use Rattle.sqlite_value.proofs.OrderLemmas.{value_cmp-Text, value_cmp-apart}
use Rattle.sqlite_sql.specs.declared.ops.BinaryOp.TheVariants.{Compare}
use Rattle.sqlite_sql.specs.declared.ops.CompareOp.TheVariants.{Eq}
use Rattle.sqlite_sql.specs.Ops.{binary, is_true, from_truth}
use Rattle.sqlite_sql.specs.Term.{Term, Env, eval_all, holds}
use Rattle.sqlite_sql.specs.Query.{Query, IsAnswer, Output, output, output_cmp}
use Rattle.sqlite_sql.specs.Program.{overlay}
use Rattle.sqlite_trees.specs.Tree.{Trees}
use Rattle.row_table.specs.Rows.{is_text}
use Rattle.row_table.proofs.Texts.{query_over}

truth_is : (b : Bool) → is_true (from_truth (Some b)) ≡ b
truth_is true = refl
truth_is false = refl

-- the test `name = ?1`
pub test_is : (v : Value) (n : List ℕ) → is_true (binary (Compare Eq Binary) v (Text n))
    ≡ is_text n v
unfolding binary
test_is Null n = refl
test_is (Int z) n = truth_is _ ∙ ap is_eq (value_cmp-apart (Int z) (Text n) (λ e. cc))
test_is (Real x) n = truth_is _ ∙ ap is_eq (value_cmp-apart (Real x) (Text n) (λ e. cc))
test_is (Text t) n = truth_is _ ∙ ap is_eq (value_cmp-Text t n) ∙ is_eq-slice_cmp t n
test_is (Blob b) n = truth_is _ ∙ ap is_eq (value_cmp-apart (Blob b) (Text n) (λ e. cc))

env : Row → Row → Env
env params r = params ∷ r ∷ []

passes : List Term → Row → Row → Bool
passes terms params r = list_all (holds (params ∷ r ∷ [])) terms

matched : (test : Row → Bool) (params : Row) (rows : List Row)
    → flat_map (λ r. cond (test r) ((params ∷ r ∷ []) ∷ []) []) rows
    ≡ map (λ r. params ∷ r ∷ []) (filter test rows)
matched test params [] = refl
matched test params (r ∷ rs) =
    elim (test r) as (λ b. cond b ((params ∷ r ∷ []) ∷ []) []
    ++ flat_map (λ x. cond (test x) ((params ∷ x ∷ []) ∷ []) []) rs
    ≡ map (λ x. params ∷ x ∷ []) (cond b (r ∷ filter test rs) (filter test rs))) [
      | true ↦ ap (λ t. (params ∷ r ∷ []) ∷ t) (matched test params rs)
      | false ↦ matched test params rs
    ]

-- the answer of a query over the table, in some order that its keys allow
pub record IsShown (q : Query) (terms : List Term) (db : Trees) (params : Row)
    (rows : List Row) : Type 0 where
  pub outputs : List Output
  pub same : IsPermutation
      (map (output q) (map (λ r. params ∷ r ∷ []) (filter
      (λ r. list_all (holds (params ∷ r ∷ [])) terms) (db 0)))) outputs
  pub sorted : IsSorted (output_cmp q) outputs
  pub shown : rows ≡ map (λ o. o.1) outputs

pub shows : (terms project : List Term) (order : List (Term × Key)) (db : Trees) (params : Row)
    (rows : List Row)
    → IsAnswer (record (query_over terms project) { order = order }) (overlay db []) params rows
    → IsShown (record (query_over terms project) { order = order }) terms db params rows
shows terms project order db params rows a =
    let q : Query = record (query_over terms project) { order = order } in
    let staged = a.grouped ∙ matched (λ r. list_all (holds (params ∷ r ∷ [])) terms) params (db 0)
    in
    record {
      outputs = a.ordered;
      same = subst (λ k. IsPermutation k a.ordered) (a.distinct ∙ ap (map (output q)) staged)
          a.same;
      sorted = a.sorted;
      shown = a.shown;
    }

module _ (q : Query) (terms : List Term) (db : Trees) (params : Row) (rows : List Row)
    (s : IsShown q terms db params rows) where
  all : List Output
  all = map (output q) (map (λ r. params ∷ r ∷ [])
      (filter (λ r. list_all (holds (params ∷ r ∷ [])) terms) (db 0)))

  -- each row that passes is shown
  pub shown_has : (r : Row) → Has (db 0) r → list_all (holds (params ∷ r ∷ [])) terms ≡ true
      → Has rows (eval_all q.project (params ∷ r ∷ []))
  unfolding all
  shown_has r h passes =
      let o = output q (params ∷ r ∷ []) in
      let there : Has all o = mapped_has (output q) _ (params ∷ r ∷ [])
      (mapped_has (λ x. params ∷ x ∷ []) _ r (has_kept
      (λ x. list_all (holds (params ∷ x ∷ [])) terms) (db 0) r h passes)) in
      let moved = has_contained s.outputs o (Contains-permutation all s.outputs o s.same
      (contains_had all o there)) in
      subst (λ l. Has l (eval_all q.project (params ∷ r ∷ []))) (sym s.shown)
      (mapped_has (λ (k : Output). k.1) s.outputs o moved)

  -- and no other
  pub shown_from : (x : Row) → Has rows x → (r : Row) × Has (db 0) r
      × (list_all (holds (params ∷ r ∷ [])) terms ≡ true)
      × (x ≡ eval_all q.project (params ∷ r ∷ []))
  unfolding all
  shown_from x h =
      let o = has_mapped (λ (k : Output). k.1) s.outputs x (subst (λ l. Has l x) s.shown h) in
      let there : Has all o.0 =
      has_contained all o.0 (Contains-permutation s.outputs all o.0
      (IsPermutation-sym _ _ s.same) (contains_had s.outputs o.0 o.1)) in
      let e = has_mapped (output q) _ o.0 there in
      let r = has_mapped (λ (x : Row). params ∷ x ∷ []) _ e.0 e.1 in
      let kept = has_filtered (λ x. list_all (holds (params ∷ x ∷ [])) terms) (db 0) r.0 r.1 in
      (r.0, kept.0, kept.1, o.2 ∙ ap (λ (k : Output). k.1) (e.2 ∙ ap (output q) r.2))
