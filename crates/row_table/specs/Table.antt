-- The table of a keeper: a name and its bytes in each row.
use Rattle.std.specs.Prelude.{◌≡◌, ℕ, List, [], ◌∷◌, true, false, None, codes}
use Rattle.sqlite_value.specs.declared.value.Value.TheVariants.{Null}
use Rattle.sqlite_value.specs.declared.keys.Collation.TheVariants.{Binary}
use Rattle.sqlite_value.specs.Keys.{plain}
use Rattle.sqlite_schema.specs.declared.schema.Kind.{Kind}
use Rattle.sqlite_schema.specs.declared.schema.Kind.TheVariants.{Text, Blob}
use Rattle.sqlite_schema.specs.declared.schema.Column.{Column}
use Rattle.sqlite_schema.specs.declared.schema.Table.{Table}
use Rattle.sqlite_schema.specs.declared.schema.Index.{Index}
use Rattle.sqlite_schema.specs.declared.schema.Schema.{Schema}
use Rattle.sqlite_catalog.specs.Listing.{automatic}

abbrev pub required : List ℕ → Kind → Column
required name kind = record {
  name = name;
  kind = kind;
  is_strict = true;
  not_null = true;
  default = Null;
  collation = Binary;
}

abbrev pub row_table : Table
row_table = record {
  name = codes "rows";
  tree = 0;
  columns = required (codes "name") Text ∷ required (codes "bytes") Blob ∷ [];
  key = None;
  primary = 1 ∷ [];
  uniques = (1 ∷ []) ∷ [];
  orders = plain ∷ [];
  checks = [];
  references = [];
  computed = [];
  stamps = record { places = []; terms = []; formats = [] };
  is_counted = false;
}

-- the index that SQLite makes for the key
abbrev pub name_index : Index
name_index = automatic row_table 0 (1 ∷ []) 1

abbrev pub row_schema : Schema
row_schema = record { tables = row_table ∷ []; indexes = name_index ∷ []; views = [] }

abbrev pub no_schema : Schema
no_schema = record { tables = []; indexes = []; views = [] }

-- ---- the parts of the table and of its index

pub record HasName (t : Table) : Type 0 where
  pub name : t.name ≡ codes "rows"
  pub tree : t.tree ≡ 0

pub record HasKey (t : Table) : Type 0 where
  pub key : t.key ≡ None
  pub primary : t.primary ≡ 1 ∷ []
  pub uniques : t.uniques ≡ row_table.uniques
  pub orders : t.orders ≡ row_table.orders

pub record HasNoRules (t : Table) : Type 0 where
  pub checks : t.checks ≡ []
  pub references : t.references ≡ []
  pub computed : t.computed ≡ []
  pub stamps : t.stamps ≡ row_table.stamps
  pub counted : t.is_counted ≡ false

pub record HasPlace (i : Index) : Type 0 where
  pub tree : i.tree ≡ 1
  pub table : i.table ≡ 0
  pub columns : i.columns ≡ 1 ∷ []
  pub order : i.order ≡ plain
  pub unique : i.is_unique ≡ true
