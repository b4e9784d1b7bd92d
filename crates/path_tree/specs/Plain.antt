-- Finite trees: dicts, lists and properties.
use Rattle.std.specs.Prelude.{◌≡◌, ◌≢◌, ℕ, ℤ, ◌≤◌, Bool, true, List, ◌+◌, ◌/◌, max, length}
use Rattle.std.specs.Ordering.{nat_cmp}
use Rattle.std.specs.declared.cmp.Ordering.TheVariants.{Less}
use Rattle.std.specs.Cmp.Lexicographic.{slice_cmp}
use Rattle.base.specs.declared.limits.TheConstants.{MAX_TREE_HEIGHT, MAX_TREE_SIZE}
use Rattle.path_tree.specs.Grammar.{is_key}

-- A tree, with the items of a list in order and the fields of a dict in byte order of their keys.
mutual
  pub data Plain : Type 0 where
    dict : Fields → Plain
    list : Items → Plain
    text : List ℕ → Plain
    long : ℤ → Plain
    boolean : Bool → Plain
    undef : Plain
    null : Plain
    deriving IsSet as Plain-set

  pub data Items : Type 0 where
    no_items : Items
    item : Plain → Items → Items
    deriving IsSet as Items-set

  pub data Fields : Type 0 where
    no_fields : Fields
    field : List ℕ → Plain → Fields → Fields
    deriving IsSet as Fields-set

-- 1 and the sizes of the items; for a text of n bytes 1 + n / 64
abbrev mutual
  pub tree_size : Plain → ℕ
  tree_size (dict fs) = 1 + fields_size fs
  tree_size (list ts) = 1 + items_size ts
  tree_size (text bs) = 1 + length bs / 64
  tree_size (long z) = 1
  tree_size (boolean b) = 1
  tree_size undef = 1
  tree_size null = 1

  pub items_size : Items → ℕ
  items_size no_items = 0
  items_size (item t ts) = tree_size t + items_size ts

  pub fields_size : Fields → ℕ
  fields_size no_fields = 0
  fields_size (field k t fs) = tree_size t + fields_size fs

-- 1 and the height of the highest item
abbrev mutual
  pub tree_height : Plain → ℕ
  tree_height (dict fs) = 1 + fields_height fs
  tree_height (list ts) = 1 + items_height ts
  tree_height (text bs) = 1
  tree_height (long z) = 1
  tree_height (boolean b) = 1
  tree_height undef = 1
  tree_height null = 1

  pub items_height : Items → ℕ
  items_height no_items = 0
  items_height (item t ts) = max (tree_height t) (items_height ts)

  pub fields_height : Fields → ℕ
  fields_height no_fields = 0
  fields_height (field k t fs) = max (tree_height t) (fields_height fs)

-- a key stands before the keys of the fields
abbrev pub IsBefore : List ℕ → Fields → Type 0
IsBefore k no_fields = Unit {0}
IsBefore k (field l t fs) = slice_cmp nat_cmp k l ≡ Less

-- containers hold no null, and the keys of a dict are keys and rise
abbrev mutual
  pub IsWhole : Plain → Type 0
  IsWhole (dict fs) = AreFields fs
  IsWhole (list ts) = AreItems ts
  IsWhole (text bs) = Unit {0}
  IsWhole (long z) = Unit {0}
  IsWhole (boolean b) = Unit {0}
  IsWhole undef = Unit {0}
  IsWhole null = Unit {0}

  pub AreItems : Items → Type 0
  AreItems no_items = Unit {0}
  AreItems (item t ts) = (t ≢ null) × IsWhole t × AreItems ts

  pub AreFields : Fields → Type 0
  AreFields no_fields = Unit {0}
  AreFields (field k t fs) =
      (is_key k ≡ true) × (t ≢ null) × IsWhole t × IsBefore k fs × AreFields fs

-- what holds of every tree
pub record IsTree (t : Plain) : Type 0 where
  pub whole : IsWhole t
  pub size : tree_size t ≤ MAX_TREE_SIZE
  pub height : tree_height t ≤ MAX_TREE_HEIGHT
