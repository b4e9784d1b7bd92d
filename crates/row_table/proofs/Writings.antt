-- What the statements of the keeper do.
use Rattle.std.proofs.Common.{◌≡◌, ◌⊎◌, inl, inr, ℕ, List, [], ◌∷◌, ◌&&◌, not, Bool, true, false, cond, None, Ok, Err, Result, refl, ap, subst, ◌∙◌}
use Rattle.sqlite_value.specs.declared.value.Value.{Value}
use Rattle.sqlite_value.specs.declared.value.Value.TheVariants.{Null, Text, Blob}
use Rattle.sqlite_value.specs.Order.{Row}
use Rattle.sqlite_sql.specs.declared.ops.BinaryOp.TheVariants.{Compare}
use Rattle.sqlite_sql.specs.declared.ops.CompareOp.TheVariants.{Eq}
use Rattle.sqlite_value.specs.declared.keys.Collation.TheVariants.{Binary}
use Rattle.sqlite.specs.Ops.{unary}
use Rattle.sqlite.specs.Term.{lit, col, op2}
use Rattle.sqlite.specs.Kind.TheVariants.{Integer}
use Rattle.sqlite.specs.Source.TheVariants.{Values}
use Rattle.sqlite.specs.Command.TheVariants.{Insert, Delete}
use Rattle.sqlite.specs.Edit.{edit_of, next_rowid, put_all, without_all, is_taken, are_fresh}
use Rattle.sqlite.specs.Cast.{cast}
use Rattle.sqlite.specs.Rowids.TheVariants.{Chosen, Given}
use Rattle.sqlite.specs.Does.{Tally, Does}
use Rattle.sqlite.specs.Rows.{Written}
use Rattle.sqlite.specs.Tree.{Trees, put_row}
use Rattle.sqlite_rules.specs.Calls.{ids_of}
use Rattle.sqlite_tied.specs.Compute.{everything}
use Rattle.sqlite.specs.Listing.{understood}
use Rattle.sqlite.specs.Effect.{Database, IsDatabase, Answers}
use Rattle.sqlite.specs.State.{State, mode_of, Executes}
use Rattle.sqlite.proofs.Callers.{IsPlain, statement_of, runs_as, one_step}
use Rattle.row_table.specs.Table.{row_table, row_schema}
use Rattle.row_table.specs.Rows.{stored}
use Rattle.row_table.proofs.Texts.{add_text, drop_text, add_is, drop_is, query_over}

add_plain : IsPlain (understood row_schema add_text)
unfolding understood everything
add_plain = (refl, refl)

drop_plain : IsPlain (understood row_schema drop_text)
unfolding understood everything
drop_plain = (refl, refl)

either : (b : Bool) (x : Value) → cond b x x ≡ x
either true x = refl
either false x = refl

cast_null : cast Integer Null ≡ Null
unfolding unary
cast_null = either _ Null

-- a part that gave a value did not stop on the way
pub went : {B E R : Type 0} {b : B} {Stops : E → Type 0}
    → ((stop : E) × Stops stop × (Ok b ≡ Err stop)) ⊎ R → R
went (inl stopped) = absurd (let e = stopped.2 in cc)
went (inr on) = on

pub same_value : {B E : Type 0} {a b : B} → ◌≡◌ {A = Result B E} (Ok a) (Ok b) → a ≡ b
same_value e = cc

-- the rows after a row with a new rowid went in
pub record Puts (name bytes : List ℕ) (old new : State) : Type 0 where
  pub schema : new.now.schema ≡ row_schema
  pub sound : IsDatabase new.now
  pub free : is_taken (old.now.trees 0) (stored (next_rowid (old.now.trees 0)) name bytes) ≡ false
  pub rows : new.now.trees 0 ≡ put_row (stored (next_rowid (old.now.trees 0)) name bytes)
      (old.now.trees 0)

not_taken : (b : Bool) → not b && true ≡ true → b ≡ false
not_taken true h = cc
not_taken false h = refl

pub puts : (old new : State) (name bytes : List ℕ) (count : ℕ) → old.now.schema ≡ row_schema
    → Executes add_text (Text name ∷ Blob bytes ∷ []) old new (Ok count) → Puts name bytes old new
puts old new name bytes count has h =
    let params = Text name ∷ Blob bytes ∷ [] in
    let db = old.now.trees in
    let command = Insert 0 (Values (lit Null ∷ col 0 0 ∷ col 0 1 ∷ []) 3) in
    let w = runs_as add_text params old new row_schema has command add_is add_plain count h in
    let text = statement_of add_text (understood row_schema add_text) in
    let done = went (subst (λ s. Does old.step_limit (mode_of old) params
    (record old.now { schema = s }) text None command (Ok (w.tally, new.now))) has w.changed) in
    let now = ap (λ (p : Tally × Database). p.1) (same_value (went (went done.2).2).2) in
    let given = went done.1 in
    let written = went (went given.2).2 in
    let counted = went written.2 in
    let trees : done.0.trees ≡ written.0 =
    ap (λ (it : Written). it.trees) (same_value counted.2) ∙ same_value counted.1 in
    let step = one_step row_schema _ db written.0 (edit_of db row_table [] Chosen 0 given.0) refl
    written.1 in
    let news : (edit_of db row_table [] Chosen 0 given.0).news
    ≡ stored (next_rowid (db 0)) name bytes ∷ [] =
    ap (λ all. (edit_of db row_table [] Chosen 0 all).news) given.1.1 ∙ rw cast_null refl in
    let rows : written.0 0 ≡ put_row (stored (next_rowid (db 0)) name bytes) (db 0) =
    step.rows ∙ ap (put_all (db 0)) news in
    record {
      schema = ap (λ (d : Database). d.schema) now;
      sound = w.sound;
      free = not_taken _ (subst (λ l. are_fresh (db 0) l ≡ true) news step.fresh);
      rows = ap (λ (d : Database). d.trees 0) now ∙ ap (λ (t : Trees). t 0) trees ∙ rows;
    }

-- the rows after those that the query found were taken out
pub record Drops (name : List ℕ) (old new : State) : Type 0 where
  pub schema : new.now.schema ≡ row_schema
  pub sound : IsDatabase new.now
  pub found : List Row
  pub answer : Answers (record { schema = row_schema; trees = old.now.trees })
      (record {
        lets = [];
        body =
            query_over (op2 (Compare Eq Binary) (col 1 1) (col 0 0) ∷ []) (col 1 0 ∷ []);
      })
      (Text name ∷ []) found
  pub rows : new.now.trees 0 ≡ without_all (old.now.trees 0) (ids_of found)

pub drops : (old new : State) (name : List ℕ) (count : ℕ) → old.now.schema ≡ row_schema
    → Executes drop_text (Text name ∷ []) old new (Ok count) → Drops name old new
drops old new name count has h =
    let params = Text name ∷ [] in
    let db = old.now.trees in
    let command = Delete 0 (record {
      lets = [];
      body =
          query_over (op2 (Compare Eq Binary) (col 1 1) (col 0 0) ∷ []) (col 1 0 ∷ []);
    }) in
    let w = runs_as drop_text params old new row_schema has command drop_is drop_plain count h in
    let text = statement_of drop_text (understood row_schema drop_text) in
    let done = went (subst (λ s. Does old.step_limit (mode_of old) params
    (record old.now { schema = s }) text None command (Ok (w.tally, new.now))) has w.changed) in
    let now = ap (λ (p : Tally × Database). p.1) (same_value (went (went done.2).2).2) in
    let given = went done.1 in
    let written = went given.2 in
    let trees : done.0.trees ≡ written.0 = ap (λ (it : Written). it.trees) (same_value written.2) in
    let step = one_step row_schema _ db written.0 (edit_of db row_table (ids_of given.0) Given 0 [])
    refl written.1 in
    record {
      schema = ap (λ (d : Database). d.schema) now;
      sound = w.sound;
      found = given.0;
      answer = given.1;
      rows = ap (λ (d : Database). d.trees 0) now ∙ ap (λ (t : Trees). t 0) trees ∙ step.rows;
    }
