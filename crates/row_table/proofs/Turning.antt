-- What becomes of the rows of a connection.
use Rattle.std.proofs.Common.{◌≡◌, inl, inr, ℕ, ◌≤◌, List, [], Bool, true, false, ◌&&◌, if◌then◌else◌, Some, None, option_map, unwrap_or, map, IfSome, Ok, Err, Result, IsTrue, codes, find, refl, sym, ap, ◌∙◌, arith}
use Rattle.std.specs.Prelude.{bytes_eq}
use Rattle.std.proofs.lemmas.Bool.{and_parts}
use Rattle.sqlite_value.specs.Order.{Row}
use Rattle.sqlite_schema.specs.declared.schema.Schema.{Schema}
use Rattle.sqlite_trees.specs.View.{doubt}
use Rattle.sqlite_trees.proofs.Doubt.{no_doubt}
use Rattle.sqlite.specs.declared.error.Error.{Error}
use Rattle.sqlite.specs.Effect.{Database}
use Rattle.sqlite.specs.State.{State, HasCleanDisk, IsUnchanged}
use Rattle.stored_rows.specs.declared.row.StoredRow.{StoredRow}
use Rattle.keepers.specs.Keeping.{Change, Lists, unchanged}
use Rattle.stored_rows.specs.Rows.{bytes_under, row_name, are_rising}
use Rattle.row_table.specs.Table.{row_schema, no_schema}
use Rattle.row_table.specs.Rows.{held, rows_in, spelled, ends}
use Rattle.row_table.specs.Steps.{IsReading, StaysAs, Spells}
use Rattle.row_table.specs.Cells.{cells, Turns}

rows_by : Database → Schema → List Row
rows_by db schema = unwrap_or (option_map (λ t. db.trees t.tree)
    (find (λ t. bytes_eq t.name (codes "rows")) schema.tables)) []

-- the rows of a database with the keeper's table
pub rows_is : (db : Database) → db.schema ≡ row_schema → rows_in db ≡ db.trees 0
unfolding rows_by
rows_is db is = ap (rows_by db) is

-- .. and of one that has nothing in it
pub none_in : (db : Database) → db.schema ≡ no_schema → rows_in db ≡ []
unfolding rows_by
none_in db is = ap (rows_by db) is

pub turns_itself : (s : State) → Turns unchanged s s
turns_itself s clean is = (is, λ n. refl)

pub turns_stays : (old new : State) → StaysAs old new → Turns unchanged old new
turns_stays old new stays clean is = let same = stays clean is in
    (same.0, λ n. ap (λ (d : Database). held (rows_in d) n) same.1)

pub turns_reading : {X : Type 0} (old new : State) (r : Result X Error)
    → (IsTrue old.is_open → old.now ≡ old.committed) → (HasCleanDisk new → IsReading old new r)
    → Turns unchanged old new
turns_reading old new (Ok x) settled reads clean is = let same = (reads clean).0 in
    (same.was_open, λ n. ap (λ (d : Database). held (rows_in d) n) same.now_is)
turns_reading old new (Err e) settled reads clean is = elim (reads clean) [
  | inl unchanged ↦ (
    unchanged.0.was_open,
    λ n. ap (λ (d : Database). held (rows_in d) n)
        unchanged.0.now_is,
  )
  | inr undone ↦ (
    undone.was_open is,
    λ n. ap (λ (d : Database). held (rows_in d) n)
        ((undone.undone is).0 ∙ sym (settled (undone.was_open is))),
  )
]

pub turns_then : (f : Change) (old mid new : State) → doubt mid.is_clean ≤ doubt new.is_clean
    → Turns unchanged old mid → Turns f mid new → Turns f old new
turns_then f old mid new less first second clean is =
    let before : HasCleanDisk mid = omega (arith, clean, less) in
    let two = second clean is in
    let one = first before two.0 in
    (one.0, λ n. two.1 n ∙ ap (f n) (one.1 n))

-- ---- what is told

told_by : State → List StoredRow → List ℕ → Bool → Type 0
told_by s rows n b = IfSome (if b then Some (held (rows_in s.now) n) else None)
    (λ content. content ≡ bytes_under rows n)

each_told : (s : State) (rows : List StoredRow) (n : List ℕ) (b : Bool) → (s.is_open && s.is_clean)
    ≡ b → (HasCleanDisk s → IsTrue s.is_open → held (rows_in s.now) n ≡ bytes_under rows n)
    → told_by s rows n b
unfolding told_by
each_told s rows n true told are = let both = and_parts _ _ told in are (no_doubt _ both.1) both.0
each_told s rows n false told are = tt

pub lists_read : (old new : State) (rows : List Row) (into : List StoredRow) → old.now.schema
    ≡ row_schema → (HasCleanDisk new → Spells old rows) → (HasCleanDisk new → IsUnchanged old new)
    → map spelled into ≡ map ends rows → are_rising (map row_name into) ≡ true
    → Lists (cells new) into
unfolding told_by
lists_read old new rows into has spells same is rise = record {
  rise = rise;
  each = λ n. each_told new into n _ refl (λ clean _.
      ap (λ (d : Database). held (rows_in d) n) (same clean).0.now_is
      ∙ ap (λ l. held l n) (rows_is old.now has) ∙ spells clean into is rise n);
}
