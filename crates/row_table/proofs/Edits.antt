-- A statement of the keeper, as a change of what each name holds.
use Rattle.std.proofs.Common.{◌≡◌, inl, inr, ℕ, ℤ, List, [], ◌∷◌, ◌&&◌, not, filter, Bool, true, false, cond, Option, Some, None, Ok, Err, Result, OnOk, IsTrue, refl, sym, ap, subst, ◌∙◌, arith}
use Rattle.std.specs.Prelude.{bytes_eq}
use Rattle.std.specs.List.{list_any}
use Rattle.std.specs.declared.cmp.Ordering.{Ordering}
use Rattle.std.specs.declared.cmp.Ordering.TheVariants.{Less, Equal, Greater}
use Rattle.std.specs.Ordering.{is_eq, ordering_reverse}
use Rattle.std.proofs.lemmas.Slice.Eq.{bytes_eq-Decides}
use Rattle.sqlite_value.specs.declared.value.Value.TheVariants.{Null, Int, Text, Blob}
use Rattle.sqlite_value.specs.declared.keys.Collation.TheVariants.{Binary}
use Rattle.sqlite_value.specs.Order.{Row, column, value_cmp}
use Rattle.sqlite_value.proofs.OrderLemmas.{value_cmp_total}
use Rattle.sqlite_sql.specs.declared.ops.BinaryOp.TheVariants.{Compare}
use Rattle.sqlite_sql.specs.declared.ops.CompareOp.TheVariants.{Eq}
use Rattle.sqlite_sql.specs.Term.{Term, col, op2}
use Rattle.sqlite_sql.specs.Ops.{binary, is_true}
use Rattle.sqlite_trees.specs.Tree.{rowid, has_rowid}
use Rattle.sqlite_rules.specs.Lists.{Has}
use Rattle.sqlite_rules.specs.Calls.{ids_of}
use Rattle.sqlite_rules.specs.Edit.{id_in, next_rowid}
use Rattle.sqlite_rules.proofs.ListLemmas.{all_has, some_has, some_from}
use Rattle.sqlite_rules.proofs.ProbeLemmas.{has_mapped, mapped_has}
use Rattle.sqlite_rules.proofs.TableLemmas.{int_is}
use Rattle.sqlite.specs.declared.error.Error.{Error}
use Rattle.sqlite.specs.State.{State, HasCleanDisk, ExecutesInside, KeepsCommit, Survives}
use Rattle.sqlite.proofs.StateLemmas.{survives_then}
use Rattle.std.proofs.lemmas.Bool.{cases_Bool}
use Rattle.row_table.specs.Rows.{stored, is_text, held, AreNumbered}
use Rattle.row_table.specs.Steps.{IsReady, Edits, Makes, IsStep}
use Rattle.keepers.specs.Keeping.{Change, gone, set as added, all_gone, all_set, replaced}
use Rattle.stored_rows.specs.declared.row.StoredRow.{StoredRow}
use Rattle.row_table.proofs.Texts.{add_text, drop_text}
use Rattle.row_table.proofs.Numbering.{filter_same, without_is, same_row, numbered_kept, numbered_put}
use Rattle.row_table.proofs.Holding.{held_without, held_put}
use Rattle.row_table.proofs.Answers.{test_is, shows, shown_has, shown_from}
use Rattle.row_table.proofs.Writings.{Drops, drops, puts}

reversed : (o : Ordering) → o ≡ ordering_reverse o → o ≡ Equal
reversed Less h = cc
reversed Equal h = refl
reversed Greater h = cc

itself : (id : ℤ) (r : Row) → rowid r ≡ Int id → has_rowid id r ≡ true
itself id r is = ap is_eq (ap (λ v. value_cmp v (Int id)) is
    ∙ reversed _ (value_cmp_total.antisymm (Int id) (Int id)))

and_true : (b : Bool) → b && true ≡ b
and_true true = refl
and_true false = refl

same_bools : (a b : Bool) → (a ≡ true → b ≡ true) → (b ≡ true → a ≡ true) → a ≡ b
same_bools true true f g = refl
same_bools true false f g = sym (f refl)
same_bools false true f g = g refl
same_bools false false f g = refl

named_test : Term
named_test = op2 (Compare Eq Binary) (col 1 1) (col 0 0)

-- the rowids that a removal finds are those of the rows with the name
module _ (name : List ℕ) (old new : State) (numbered : AreNumbered (old.now.trees 0))
    (d : Drops name old new) where
  rows : List Row
  rows = old.now.trees 0

  found_is : (r : Row) → Has rows r → list_any (λ id. has_rowid id r) (ids_of d.found)
      ≡ is_text name (column r 1)
  unfolding rows
  found_is r h =
      let s = shows (op2 (Compare Eq Binary) (col 1 1) (col 0 0) ∷ []) (col 1 0 ∷ []) []
      old.now.trees (Text name ∷ []) d.found (d.answer.answer Null) in
      let passing = λ (x : Row). and_true
      (is_true (binary (Compare Eq Binary) (column x 1) (Text name)))
      ∙ test_is (column x 1) name in
      let int_of = λ (x : Row) (there : Has rows x). int_is (rowid x)
      (all_has _ rows x numbered.ints there) in
      same_bools _ _
      (λ any.
      let id = some_has (λ i. has_rowid i r) (ids_of d.found) any in
      let x = has_mapped (λ (y : Row). id_in (rowid y)) d.found id.0 id.1 in
      let it = shown_from _ _ old.now.trees (Text name ∷ []) d.found s x.0 x.1 in
      let same_id : id.0 ≡ id_in (rowid it.0) = x.2 ∙ ap (λ (y : Row). id_in (rowid y)) it.3 in
      let his = itself id.0 it.0 (int_of it.0 it.1 ∙ ap Int (sym same_id)) in
      let same = same_row id.0 rows r it.0 (numbered.once id.0) h it.1 id.2 his in
      ap (λ (y : Row). is_text name (column y 1)) same ∙ sym (passing it.0) ∙ it.2)
      (λ text.
      let there = shown_has _ _ old.now.trees (Text name ∷ []) d.found s r h (passing r ∙ text) in
      let id = mapped_has (λ (y : Row). id_in (rowid y)) d.found _ there in
      some_from (λ i. has_rowid i r) (ids_of d.found) (id_in (rowid r)) id
      (itself _ r (int_of r h)))

  left_is : new.now.trees 0 ≡ filter (λ r. not (is_text name (column r 1))) (old.now.trees 0)
  unfolding rows
  left_is = d.rows ∙ without_is (ids_of d.found) (old.now.trees 0)
      ∙ filter_same _ _ (old.now.trees 0) (λ r h. ap not (found_is r h))

  pub left_numbered : AreNumbered (new.now.trees 0)
  left_numbered = subst AreNumbered (sym left_is) (numbered_kept _ (old.now.trees 0) numbered)

  pub left_holds : (n : List ℕ) → held (new.now.trees 0) n ≡ gone name n (held (old.now.trees 0) n)
  left_holds n = ap (λ l. held l n) left_is ∙ held_without name n (old.now.trees 0)

pub takes : (old new : State) (name : List ℕ) (r : Result ℕ Error)
    → ExecutesInside 0 drop_text (Text name ∷ []) old new r → IsReady old
    → OnOk r (Edits (gone name) old new)
takes old new name (Err e) h ready = tt
takes old new name (Ok count) h ready =
    let d = drops old new name count ready.schema h.0 in
    record {
      ready = record {
        schema = d.schema;
        sound = d.sound;
        inside = h.1.mode;
        numbered =
            left_numbered name old new ready.numbered d;
      };
      rows = left_holds name old new ready.numbered d;
    }

pub adds : (old new : State) (name bytes : List ℕ) (r : Result ℕ Error)
    → ExecutesInside 0 add_text (Text name ∷ Blob bytes ∷ []) old new r → IsReady old
    → held (old.now.trees 0) name ≡ None → OnOk r (Edits (added name bytes) old new)
adds old new name bytes (Err e) h ready none = tt
adds old new name bytes (Ok count) h ready none =
    let p = puts old new name bytes count ready.schema h.0 in
    let row = stored (next_rowid (old.now.trees 0)) name bytes in
    record {
      ready = record {
        schema = p.schema;
        sound = p.sound;
        inside = h.1.mode;
        numbered =
            subst AreNumbered (sym p.rows) (numbered_put row (old.now.trees 0) refl p.free
            ready.numbered);
      };
      rows = λ n. ap (λ l. held l n) p.rows ∙ held_put (next_rowid (old.now.trees 0)) name bytes n
          (old.now.trees 0) p.free none;
    }

pub inside_keeps : (old new : State) (sql : List ℕ) (params : Row) (r : Result ℕ Error)
    → ExecutesInside 0 sql params old new r → KeepsCommit old new
inside_keeps old new sql params (Ok count) h =
    record { was_open = λ _. h.1.was_open; committed = λ _. h.1.committed_is }
inside_keeps old new sql params (Err e) (inl (h, inl same)) =
    record { was_open = λ _. same.0.was_open; committed = λ _. same.0.committed_is }
inside_keeps old new sql params (Err e) (inl (h, inr undone)) =
    record { was_open = undone.was_open; committed = λ is. (undone.undone is).1 }
inside_keeps old new sql params (Err e) (inr h) =
    record { was_open = λ _. h.2.0.was_open; committed = λ _. h.2.0.committed_is }

-- ---- clauses of statements

unchanged_keeps : (a b : State) → b ≡ a → KeepsCommit a b
unchanged_keeps a b same =
    record {
      was_open = λ is. subst (λ (s : State). IsTrue s.is_open) same is;
      committed =
          λ _. ap (λ (s : State). s.committed) same;
    }

pub step_is : (old new : State) (sql : List ℕ) (params : Row) (r : Result ℕ Error)
    → (old.in_transaction ≡ false → new ≡ old)
    → (HasCleanDisk new → IsTrue old.in_transaction → ExecutesInside 0 sql params old new r)
    → Survives old new (λ _. ⊥) → IsStep old new
step_is old new sql params r ended runs survives = record {
  kept = λ clean. elim (cases_Bool old.in_transaction) [
    | inl inside ↦ inside_keeps old new sql params r (runs clean inside)
    | inr outside ↦ unchanged_keeps old new (ended outside)
  ];
  survives = survives;
}

keeps_then : (a b c : State) → KeepsCommit a b → KeepsCommit b c → KeepsCommit a c
keeps_then a b c first second = record {
  was_open = λ is. first.was_open (second.was_open is);
  committed = λ is. second.committed is ∙ first.committed (second.was_open is);
}

pub step_then : (a b c : State) → IsStep a b → IsStep b c → IsStep a c
step_then a b c first second = record {
  kept = λ clean. keeps_then a b c
      (first.kept (let less = second.survives.clean in omega (arith, clean, less)))
      (second.kept clean);
  survives = survives_then a b c _ _ (λ _. ⊥) (λ _ db none. none) (λ _ db none. none) first.survives
      second.survives;
}

pub step_itself : (a : State) → IsStep a a
step_itself a = record {
  kept = λ clean. unchanged_keeps a a refl;
  survives = record {
    clean = omega arith;
    shield = λ s. s;
    counts = omega arith;
    limit =
        refl;
    closes = λ clean is. inl is;
    crash = λ clean db may. inl may;
  };
}

pub takes_if : (old new : State) (name : List ℕ) (r : Result ℕ Error)
    → (HasCleanDisk new → IsTrue old.in_transaction → ExecutesInside 0 drop_text (Text name ∷ [])
    old new r) → OnOk r (Makes (gone name) old new)
takes_if old new name (Err e) runs = tt
takes_if old new name (Ok count) runs =
    λ clean ready. takes old new name (Ok count) (runs clean ready.inside) ready

pub adds_if : (old new : State) (name bytes : List ℕ) (r : Result ℕ Error)
    → (HasCleanDisk new → IsTrue old.in_transaction → ExecutesInside 0 add_text
    (Text name ∷ Blob bytes ∷ []) old new r) → held (old.now.trees 0) name ≡ None
    → OnOk r (Makes (added name bytes) old new)
adds_if old new name bytes (Err e) runs none = tt
adds_if old new name bytes (Ok count) runs none =
    λ clean ready. adds old new name bytes (Ok count) (runs clean ready.inside) ready none

either_gone : (b : Bool) (bytes : List ℕ) (content : Option (List ℕ))
    → cond b (Some bytes) (cond b None content) ≡ cond b (Some bytes) content
either_gone true bytes content = refl
either_gone false bytes content = refl

itself_gone : (name : List ℕ) (content : Option (List ℕ)) → gone name name content ≡ None
itself_gone name content = ap (λ b. cond b None content) ((bytes_eq-Decides name name).1 refl)

-- taken out and put in
pub sets : (a b c : State) (name bytes : List ℕ) → IsStep b c → Makes (gone name) a b
    → (held (b.now.trees 0) name ≡ None → Makes (added name bytes) b c)
    → Makes (added name bytes) a c
sets a b c name bytes step first second clean ready =
    let early : HasCleanDisk b = let less = step.survives.clean in omega (arith, clean, less) in
    let one = first early ready in
    let two = second (one.rows name ∙ itself_gone name _) clean one.ready in
    record {
      ready = two.ready;
      rows =
          λ n. two.rows n ∙ ap (added name bytes n) (one.rows n)
          ∙ either_gone (bytes_eq name n) bytes (held (a.now.trees 0) n);
    }

-- ---- one name after the other

module _ (first mid new : State) where
  left_done : (left rest : List (List ℕ)) (name : List ℕ) (whole : Change) → left ≡ name ∷ rest
      → IsStep mid new
      → (HasCleanDisk mid → IsReady first → IsReady mid
      × ((n : List ℕ) → all_gone left n (held (mid.now.trees 0) n)
      ≡ whole n (held (first.now.trees 0) n)))
      → Makes (gone name) mid new → HasCleanDisk new → IsReady first → IsReady new
      × ((n : List ℕ) → all_gone rest n (held (new.now.trees 0) n)
      ≡ whole n (held (first.now.trees 0) n))
  left_done left rest name whole is step before made clean ready =
      let early : HasCleanDisk mid = let less = step.survives.clean in omega (arith, clean, less) in
      let was = before early ready in
      let edit = made clean was.0 in (
        edit.ready,
        λ n. ap (all_gone rest n) (edit.rows n)
            ∙ ap (λ l. all_gone l n (held (mid.now.trees 0) n)) (sym is) ∙ was.1 n,
      )

  set_done : (left rest : List StoredRow) (row : StoredRow) (whole : Change) → left ≡ row ∷ rest
      → IsStep mid new
      → (HasCleanDisk mid → IsReady first → IsReady mid
      × ((n : List ℕ) → all_set left n (held (mid.now.trees 0) n)
      ≡ whole n (held (first.now.trees 0) n)))
      → Makes (added row.name row.bytes) mid new → HasCleanDisk new → IsReady first → IsReady new
      × ((n : List ℕ) → all_set rest n (held (new.now.trees 0) n)
      ≡ whole n (held (first.now.trees 0) n))
  set_done left rest row whole is step before made clean ready =
      let early : HasCleanDisk mid = let less = step.survives.clean in omega (arith, clean, less) in
      let was = before early ready in
      let edit = made clean was.0 in (
        edit.ready,
        λ n. ap (all_set rest n) (edit.rows n)
            ∙ ap (λ l. all_set l n (held (mid.now.trees 0) n)) (sym is) ∙ was.1 n,
      )

  pub all_left : (left rest : List (List ℕ)) (name : List ℕ) (whole : Change) → left ≡ name ∷ rest
      → IsStep first mid → IsStep mid new
      → (HasCleanDisk mid → IsReady first → IsReady mid
      × ((n : List ℕ) → all_gone left n (held (mid.now.trees 0) n)
      ≡ whole n (held (first.now.trees 0) n)))
      → Makes (gone name) mid new
      → IsStep first new × (HasCleanDisk new → IsReady first → IsReady new
      × ((n : List ℕ) → all_gone rest n (held (new.now.trees 0) n)
      ≡ whole n (held (first.now.trees 0) n)))
  all_left left rest name whole is one two before made =
      (step_then first mid new one two, left_done left rest name whole is two before made)

  pub all_done : (left rest : List StoredRow) (row : StoredRow) (whole : Change) → left ≡ row ∷ rest
      → IsStep first mid → IsStep mid new
      → (HasCleanDisk mid → IsReady first → IsReady mid
      × ((n : List ℕ) → all_set left n (held (mid.now.trees 0) n)
      ≡ whole n (held (first.now.trees 0) n)))
      → Makes (added row.name row.bytes) mid new
      → IsStep first new × (HasCleanDisk new → IsReady first → IsReady new
      × ((n : List ℕ) → all_set rest n (held (new.now.trees 0) n)
      ≡ whole n (held (first.now.trees 0) n)))
  all_done left rest row whole is one two before made =
      (step_then first mid new one two, set_done left rest row whole is two before made)

pub changes : (a b c : State) (names : List (List ℕ)) (rows : List StoredRow) → IsStep b c
    → Makes (all_gone names) a b → Makes (all_set rows) b c → Makes (replaced names rows) a c
changes a b c names rows step first second clean ready =
    let early : HasCleanDisk b = let less = step.survives.clean in omega (arith, clean, less) in
    let one = first early ready in
    let two = second clean one.ready in
    record { ready = two.ready; rows = λ n. two.rows n ∙ ap (all_set rows n) (one.rows n) }
