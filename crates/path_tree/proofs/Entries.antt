-- Items and entries as lists.
use Rattle.std.proofs.Common.{◌≡◌, ℕ, zero, suc, ◌<◌, ◌≤◌, List, [], ◌∷◌, length, get_or, Some, None, refl, arith, ap}
use Rattle.path_tree.specs.Plain.{Plain}
use Rattle.path_tree.specs.declared.tree.Entry.{Entry}
use Rattle.path_tree.specs.View.{items_of, fields_of}
use Rattle.path_tree.specs.Find.{item_at, item_count, value_at, field_key_at, field_count}

pub item_at_in : (ts : List Plain) (i : ℕ) (d : Plain) → i < length ts → item_at i (items_of ts)
    ≡ Some (get_or ts i d)
item_at_in [] i d h = absurd (omega arith)
item_at_in (t ∷ ts) zero d h = refl
item_at_in (t ∷ ts) (suc i) d h = item_at_in ts i d (omega arith)

pub item_at_past : (ts : List Plain) (i : ℕ) → length ts ≤ i → item_at i (items_of ts) ≡ None
item_at_past [] zero h = refl
item_at_past [] (suc i) h = refl
item_at_past (t ∷ ts) zero h = absurd (omega arith)
item_at_past (t ∷ ts) (suc i) h = item_at_past ts i (omega arith)

pub item_count_of : (ts : List Plain) → item_count (items_of ts) ≡ length ts
item_count_of [] = refl
item_count_of (t ∷ ts) = ap suc (item_count_of ts)

pub value_at_in : (es : List Entry) (i : ℕ) (d : Entry) → i < length es → value_at i (fields_of es)
    ≡ Some (get_or es i d).value
value_at_in [] i d h = absurd (omega arith)
value_at_in (e ∷ es) zero d h = refl
value_at_in (e ∷ es) (suc i) d h = value_at_in es i d (omega arith)

pub value_at_past : (es : List Entry) (i : ℕ) → length es ≤ i → value_at i (fields_of es) ≡ None
value_at_past [] zero h = refl
value_at_past [] (suc i) h = refl
value_at_past (e ∷ es) zero h = absurd (omega arith)
value_at_past (e ∷ es) (suc i) h = value_at_past es i (omega arith)

pub key_at_in : (es : List Entry) (i : ℕ) (d : Entry) → i < length es
    → field_key_at i (fields_of es) ≡ Some (get_or es i d).key
key_at_in [] i d h = absurd (omega arith)
key_at_in (e ∷ es) zero d h = refl
key_at_in (e ∷ es) (suc i) d h = key_at_in es i d (omega arith)

pub key_at_past : (es : List Entry) (i : ℕ) → length es ≤ i → field_key_at i (fields_of es) ≡ None
key_at_past [] zero h = refl
key_at_past [] (suc i) h = refl
key_at_past (e ∷ es) zero h = absurd (omega arith)
key_at_past (e ∷ es) (suc i) h = key_at_past es i (omega arith)

pub field_count_of : (es : List Entry) → field_count (fields_of es) ≡ length es
field_count_of [] = refl
field_count_of (e ∷ es) = ap suc (field_count_of es)

pub ruleset entry_lemmas = (
  item_at_in,
  item_at_past,
  item_count_of,
  value_at_in,
  value_at_past,
  key_at_in,
  key_at_past,
  field_count_of,
)
