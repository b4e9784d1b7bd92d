-- What a database tells of each row name.
use Rattle.std.specs.Prelude.{◌≡◌, ◌≤◌, ℕ, suc, ℤ, Bool, true, false, ◌&&◌, List, [], ◌∷◌, Option, Some, None, option_map, unwrap_or, cond, find, codes, bytes_eq}
use Rattle.std.specs.Ordering.{is_lt, int_cmp}
use Rattle.sqlite_rules.specs.Edit.{id_in}
use Rattle.stored_rows.specs.declared.row.StoredRow.{StoredRow}
use Rattle.std.specs.List.{AllByRecursion}
use Rattle.sqlite_value.specs.declared.value.Value.{Value}
use Rattle.sqlite_value.specs.declared.value.Value.TheVariants.{Int, Text, Blob}
use Rattle.sqlite_value.specs.Order.{Row, column, bytes}
use Rattle.sqlite_trees.specs.Tree.{rowid, has_rowid}
use Rattle.sqlite_trees.specs.View.{is_int}
use Rattle.sqlite.specs.Effect.{Database}

-- a row of the table: its rowid, the name and the bytes
abbrev pub stored : ℤ → List ℕ → List ℕ → Row
stored id name bytes = Int id ∷ Text name ∷ Blob bytes ∷ []

abbrev pub is_text : List ℕ → Value → Bool
is_text n (Text t) = bytes_eq t n
is_text n v = false

-- the bytes of the first row with the name
abbrev pub held : List Row → List ℕ → Option (List ℕ)
held [] n = None
held (r ∷ rs) n = cond (is_text n (column r 1)) (Some (bytes (column r 2))) (held rs n)

-- the rows of the table with the name `rows`, none where it is missing
abbrev pub rows_in : Database → List Row
rows_in db = unwrap_or (option_map (λ t. db.trees t.tree)
    (find (λ t. bytes_eq t.name (codes "rows")) db.schema.tables)) []

-- how many rows have the rowid
abbrev pub times : ℤ → List Row → ℕ
times id [] = 0
times id (r ∷ rs) = cond (has_rowid id r) (suc (times id rs)) (times id rs)

-- each row has an integer as its rowid, and no two have the same
pub record AreNumbered (rows : List Row) : Type 0 where
  pub ints : AllByRecursion (λ r. is_int (rowid r) ≡ true) rows
  pub once : (id : ℤ) → times id rows ≤ 1

abbrev pub comes_above : Option ℤ → Value → Bool
comes_above None (Int z) = true
comes_above (Some y) (Int z) = is_lt (int_cmp y z)
comes_above last v = false

-- each row begins with an integer, and the integers rise
abbrev pub ids_rise : Option ℤ → List Row → Bool
ids_rise last [] = true
ids_rise last (r ∷ rs) = comes_above last (column r 0) && ids_rise (Some (id_in (column r 0))) rs

-- a row of the answer: a name and its bytes
abbrev pub ends : Row → Value × Value
ends r = (column r 0, column r 1)

abbrev pub spelled : StoredRow → Value × Value
spelled k = (Text k.name, Blob k.bytes)
