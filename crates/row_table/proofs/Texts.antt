-- What the texts of the statements compile to.
use Rattle.std.proofs.Common.{◌≡◌, ℕ, pos, negsuc, List, [], ◌∷◌, codes, false, None, Ok, refl}
use Rattle.sqlite_value.specs.declared.value.Value.TheVariants.{Null, Int}
use Rattle.sqlite_value.specs.declared.keys.Collation.TheVariants.{Binary}
use Rattle.sqlite_sql.specs.declared.ops.BinaryOp.TheVariants.{Compare}
use Rattle.sqlite_sql.specs.declared.ops.CompareOp.TheVariants.{Eq}
use Rattle.sqlite_value.specs.Keys.{ascending}
use Rattle.sqlite.specs.Term.{Term, lit, col, op2}
use Rattle.sqlite.specs.Query.{Query, inner, end}
use Rattle.sqlite.specs.Source.TheVariants.{Values}
use Rattle.sqlite.specs.Command.TheVariants.{Insert, Select, CreateTable, Delete}
use Rattle.sqlite.specs.Compile.{table_defined_by}
use Rattle.sqlite.specs.Change.{created}
use Rattle.sqlite_tied.specs.Compute.{everything}
use Rattle.sqlite.specs.Listing.{understood, reads_listing}
use Rattle.sqlite.proofs.Callers.{command_of, statement_of}
use Rattle.row_table.specs.Table.{row_table, row_schema, no_schema}

abbrev pub make_text : List ℕ
make_text = codes "CREATE TABLE rows (name TEXT PRIMARY KEY NOT NULL, bytes BLOB NOT NULL) STRICT"

abbrev pub all_text : List ℕ
all_text = codes "SELECT name, bytes FROM rows ORDER BY name"

abbrev pub ids_text : List ℕ
ids_text = codes "SELECT rowid FROM rows ORDER BY rowid"

abbrev pub add_text : List ℕ
add_text = codes "INSERT INTO rows (name, bytes) VALUES (?1, ?2)"

abbrev pub drop_text : List ℕ
drop_text = codes "DELETE FROM rows WHERE name = ?1"

abbrev pub query_over : List Term → List Term → Query
query_over filter project = record {
  from = inner 0 end;
  filter = filter;
  group = None;
  project = project;
  distinct = false;
  collations = [];
  order = [];
  limit = lit (Int (negsuc 0));
  offset = lit (Int (pos 0));
}

pub make_is : (command_of (understood no_schema make_text) ≡ CreateTable)
    × (statement_of make_text (understood no_schema make_text) ≡ make_text)
    × (table_defined_by make_text ≡ Ok row_table)
unfolding understood everything
make_is = (refl, refl, refl)

pub made_is : created no_schema row_table ≡ row_schema
made_is = refl

pub add_is : command_of (understood row_schema add_text)
    ≡ Insert 0 (Values (lit Null ∷ col 0 0 ∷ col 0 1 ∷ []) 3)
unfolding understood everything
add_is = refl

pub ids_is : (command_of (understood row_schema ids_text)
    ≡ Select (record {
      lets = [];
      body =
          record (query_over [] (col 1 0 ∷ [])) { order = (col 1 0, ascending Binary) ∷ [] };
    })
    (codes "rowid" ∷ [])) × (reads_listing row_schema ids_text ≡ false)
unfolding understood everything
ids_is = (refl, refl)

pub drop_is : command_of (understood row_schema drop_text)
    ≡ Delete 0 (record {
      lets = [];
      body =
          query_over (op2 (Compare Eq Binary) (col 1 1) (col 0 0) ∷ []) (col 1 0 ∷ []);
    })
unfolding understood everything
drop_is = refl

pub all_is : (command_of (understood row_schema all_text)
    ≡ Select (record {
      lets = [];
      body =
          record (query_over [] (col 1 1 ∷ col 1 2 ∷ []))
          { order = (col 1 1, ascending Binary) ∷ [] };
    })
    (codes "name" ∷ codes "bytes" ∷ [])) × (reads_listing row_schema all_text ≡ false)
unfolding understood everything
all_is = (refl, refl)
