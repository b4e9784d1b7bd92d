-- Equal trees.
use Rattle.std.proofs.Common.{◌≡◌, ℕ, zero, suc, ◌+◌, ◌<◌, ◌≤◌, List, [], ◌∷◌, length, get_or, drop, refl, ap, sym, ◌∙◌, arith, add-one, ◌↔◌, IsTrue, false}
use Rattle.path_tree.specs.Plain.{Plain, item, field, tree_size, items_size, fields_size}
use Rattle.path_tree.specs.declared.tree.Entry.{Entry}
use Rattle.path_tree.specs.View.{items_of, fields_of}
use Rattle.path_tree.specs.Find.{item_count, field_count}
use Rattle.path_tree.proofs.Entries.{item_count_of, field_count_of}

pub fields_lengths : (es fs : List Entry) → fields_of es ≡ fields_of fs → length es ≡ length fs
fields_lengths es fs h = sym (field_count_of es) ∙ ap field_count h ∙ field_count_of fs

pub items_lengths : (ts us : List Plain) → items_of ts ≡ items_of us → length ts ≡ length us
items_lengths ts us h = sym (item_count_of ts) ∙ ap item_count h ∙ item_count_of us

entry_smaller : (es : List Entry) (i : ℕ) (d : Entry) → i < length es
    → tree_size (get_or es i d).value ≤ fields_size (fields_of es)
entry_smaller [] i d h = absurd (omega arith)
entry_smaller (e ∷ es) zero d h = omega arith
entry_smaller (e ∷ es) (suc i) d h = omega (arith, entry_smaller es i d (omega arith))

item_smaller_at : (ts : List Plain) (i : ℕ) (d : Plain) → i < length ts
    → tree_size (get_or ts i d) ≤ items_size (items_of ts)
item_smaller_at [] i d h = absurd (omega arith)
item_smaller_at (t ∷ ts) zero d h = omega arith
item_smaller_at (t ∷ ts) (suc i) d h = omega (arith, item_smaller_at ts i d (omega arith))

drop_at : {X : Type 0} (xs : List X) (i : ℕ) (x : X) → i < length xs → x ≡ get_or xs i x → drop i xs
    ≡ x ∷ drop (i + 1) xs
drop_at [] i x h is = absurd (omega arith)
drop_at (y ∷ ys) zero x h is = ap (λ z. z ∷ ys) (sym is)
drop_at (y ∷ ys) (suc i) x h is = rw add-one (rw add-one at (drop_at ys i x (omega arith) is))

-- one more entry
module _ (es fs : List Entry) (i : ℕ) (d e : Entry) (lt : i < length es) (le : i < length fs)
    (is : d ≡ get_or es i d) (js : e ≡ get_or fs i e) where
  first_is : fields_of (drop i es) ≡ field d.key d.value (fields_of (drop (i + 1) es))
  first_is = ap fields_of (drop_at es i d lt is)

  second_is : fields_of (drop i fs) ≡ field e.key e.value (fields_of (drop (i + 1) fs))
  second_is = ap fields_of (drop_at fs i e le js)

  pub entries_equal : d.key ≡ e.key → d.value ≡ e.value
      → (fields_of (drop i es) ≡ fields_of (drop i fs)) ↔ (fields_of es ≡ fields_of fs)
      → (fields_of (drop (i + 1) es) ≡ fields_of (drop (i + 1) fs)) ↔ (fields_of es ≡ fields_of fs)
  entries_equal k v h = (
    λ (r : fields_of (drop (i + 1) es) ≡ fields_of (drop (i + 1) fs)). h.0
        (first_is ∙ joined r ∙ sym second_is),
    λ (r : fields_of es ≡ fields_of fs). parted (sym first_is ∙ h.1 r ∙ second_is),
  )
    where
      joined : fields_of (drop (i + 1) es) ≡ fields_of (drop (i + 1) fs)
          → field d.key d.value (fields_of (drop (i + 1) es))
          ≡ field e.key e.value (fields_of (drop (i + 1) fs))
      joined r = rw (k, v, r) refl

      parted : field d.key d.value (fields_of (drop (i + 1) es))
          ≡ field e.key e.value (fields_of (drop (i + 1) fs)) → fields_of (drop (i + 1) es)
          ≡ fields_of (drop (i + 1) fs)
      parted r = cc

  pub entries_differ : ((d.key ≡ e.key) × (d.value ≡ e.value) → ⊥)
      → (fields_of (drop i es) ≡ fields_of (drop i fs)) ↔ (fields_of es ≡ fields_of fs)
      → fields_of es ≡ fields_of fs → ⊥
  entries_differ never h r = never (parts (sym first_is ∙ h.1 r ∙ second_is))
    where
      parts : field d.key d.value (fields_of (drop (i + 1) es))
          ≡ field e.key e.value (fields_of (drop (i + 1) fs)) → (d.key ≡ e.key)
          × (d.value ≡ e.value)
      parts q = (cc, cc)

-- one more item
module _ (ts us : List Plain) (i : ℕ) (t u : Plain) (lt : i < length ts) (le : i < length us)
    (is : t ≡ get_or ts i t) (js : u ≡ get_or us i u) where
  item_is : items_of (drop i ts) ≡ item t (items_of (drop (i + 1) ts))
  item_is = ap items_of (drop_at ts i t lt is)

  other_is : items_of (drop i us) ≡ item u (items_of (drop (i + 1) us))
  other_is = ap items_of (drop_at us i u le js)

  pub items_equal : t ≡ u → (items_of (drop i ts) ≡ items_of (drop i us))
      ↔ (items_of ts ≡ items_of us) → (items_of (drop (i + 1) ts) ≡ items_of (drop (i + 1) us))
      ↔ (items_of ts ≡ items_of us)
  items_equal v h = (
    λ (r : items_of (drop (i + 1) ts) ≡ items_of (drop (i + 1) us)). h.0
        (item_is ∙ joined r ∙ sym other_is),
    λ (r : items_of ts ≡ items_of us). parted (sym item_is ∙ h.1 r ∙ other_is),
  )
    where
      joined : items_of (drop (i + 1) ts) ≡ items_of (drop (i + 1) us)
          → item t (items_of (drop (i + 1) ts)) ≡ item u (items_of (drop (i + 1) us))
      joined r = rw (v, r) refl

      parted : item t (items_of (drop (i + 1) ts)) ≡ item u (items_of (drop (i + 1) us))
          → items_of (drop (i + 1) ts) ≡ items_of (drop (i + 1) us)
      parted r = cc

  pub items_differ : (t ≡ u → ⊥) → (items_of (drop i ts) ≡ items_of (drop i us))
      ↔ (items_of ts ≡ items_of us) → items_of ts ≡ items_of us → ⊥
  items_differ never h r = never (part (sym item_is ∙ h.1 r ∙ other_is))
    where
      part : item t (items_of (drop (i + 1) ts)) ≡ item u (items_of (drop (i + 1) us)) → t ≡ u
      part q = cc

pub entry_below : (es : List Entry) (i : ℕ) (e : Entry) → i < length es → e ≡ get_or es i e
    → tree_size e.value ≤ fields_size (fields_of es)
entry_below es i e h is =
    omega (arith, entry_smaller es i e h, ap (λ (x : Entry). tree_size x.value) is)

pub item_below : (ts : List Plain) (i : ℕ) (t : Plain) → i < length ts → t ≡ get_or ts i t
    → tree_size t ≤ items_size (items_of ts)
item_below ts i t h is = omega (arith, item_smaller_at ts i t h, ap tree_size is)

-- a test that is false
pub is_false : {X : Type 0} → (X → ⊥) → IsTrue false ↔ X
is_false {X} not_x = (λ (t : IsTrue false). absurd (never t), λ (x : X). absurd (not_x x))
  where
    never : IsTrue false → ⊥
    never t = cc
