-- A value that is put into a dict at a key that is not there.
use Rattle.std.proofs.Common.{◌≡◌, ℕ, ◌+◌, ◌<◌, ◌≤◌, max, Bool, true, false, ◌||◌, List, [], ◌∷◌, None, Ok, refl, ap, sym, ◌∙◌, arith}
use Rattle.std.specs.Prelude.{nat_lt}
use Rattle.std.proofs.lemmas.Bool.Decides.{nat_tests}
use Rattle.base.specs.declared.limits.TheConstants.{MAX_TREE_HEIGHT, MAX_TREE_SIZE}
use Rattle.path_tree.specs.Plain.{Plain, dict, null, Fields, tree_size, tree_height, IsTree}
use Rattle.path_tree.specs.Dicts.{put_new_field}
use Rattle.path_tree.specs.Find.{find_field}
use Rattle.path_tree.specs.Kept.{CanWalk, Walks}
use Rattle.path_tree.specs.Lists.{is_too_large, within_limits}
use Rattle.path_tree.specs.Position.{Stands}
use Rattle.path_tree.specs.Put.{put_field}
use Rattle.path_tree.specs.View.{IsDict, dict_seen, fields_of}
use Rattle.path_tree.specs.declared.path.Term.TheVariants as term
use Rattle.path_tree.specs.declared.tree.Dict.{Dict}
use Rattle.path_tree.specs.declared.tree.Entry.{Entry}
use Rattle.path_tree.proofs.Changes.{field_new, ok_is}
use Rattle.path_tree.proofs.Listing.{is_past, is_within}
use Rattle.path_tree.proofs.Sizes.{adds_field}

-- the two limits
module _ (t : Plain) where
  over_size : MAX_TREE_SIZE < tree_size t → is_too_large t ≡ true
  over_size large = rw (is_past MAX_TREE_SIZE (tree_size t) large) refl

  as_high : tree_size t ≤ MAX_TREE_SIZE → is_too_large t ≡ nat_lt MAX_TREE_HEIGHT (tree_height t)
  as_high small = rw (is_within MAX_TREE_SIZE (tree_size t) small) refl

  small : is_too_large t ≡ false → tree_size t ≤ MAX_TREE_SIZE
  small h = by (nat_lt MAX_TREE_SIZE (tree_size t)) refl h where
    by : (b : Bool) → nat_lt MAX_TREE_SIZE (tree_size t) ≡ b
        → (b || nat_lt MAX_TREE_HEIGHT (tree_height t)) ≡ false → tree_size t ≤ MAX_TREE_SIZE
    by true is h = cc
    by false is h = grind (arith, nat_tests)

  low : is_too_large t ≡ false → tree_height t ≤ MAX_TREE_HEIGHT
  low h = by (nat_lt MAX_TREE_SIZE (tree_size t)) h where
    by : (b : Bool) → (b || nat_lt MAX_TREE_HEIGHT (tree_height t)) ≡ false
        → tree_height t ≤ MAX_TREE_HEIGHT
    by true h = cc
    by false h = grind (arith, nat_tests)

  fits_tree : IsTree t → within_limits t ≡ Ok t
  fits_tree tree = rw (
    is_within MAX_TREE_SIZE (tree_size t) tree.size,
    is_within MAX_TREE_HEIGHT (tree_height t) tree.height,
  ) refl

-- where the key is there
pub stands_gives : (k : List ℕ) (v : Plain) (d : Dict) (i : ℕ) → IsDict d
    → Stands k d.entries.items i → within_limits (dict (put_new_field k v (fields_of
    d.entries.items))) ≡ Ok (dict_seen d)
stands_gives k v d i kept stands =
    let any : Entry = record { key = []; value = null } in
    rw (stands.found any) (fits_tree (dict_seen d) kept.tree)

-- where it is not
module _ (k : List ℕ) (v : Plain) (fs : Fields) (none : find_field k fs ≡ None) where
  pub can_add : is_too_large (dict (put_field k v fs)) ≡ false
      → CanWalk (term.Key k ∷ []) v (dict fs)
  can_add fits = record {
    passed = 0;
    after = dict (put_field k v fs);
    is = field_new [] v k fs none 0;
    size = small (dict (put_field k v fs)) fits;
    height = low (dict (put_field k v fs)) fits;
  }

  pub added_gives : (u : Plain) → is_too_large (dict (put_field k v fs)) ≡ false
      → Walks (term.Key k ∷ []) v (dict fs) u → within_limits (dict (put_field k v fs)) ≡ Ok u
  added_gives u fits walks =
      rw fits (ap (λ t. Ok t) (ok_is (sym (field_new [] v k fs none 0) ∙ walks 0)))

-- the limits by the measures of a dict in memory and of the value
module _ (d : Dict) (v : Plain) (size : ℕ) (kept : IsDict d) (is : size ≡ tree_size v) where
  pub full_by_size : MAX_TREE_SIZE < d.size + size → (k : List ℕ)
      → find_field k (fields_of d.entries.items) ≡ None → nat_lt MAX_TREE_SIZE (d.size + size)
      ≡ is_too_large (dict (put_field k v (fields_of d.entries.items)))
  full_by_size large k none =
      let added = adds_field k (fields_of d.entries.items) none in
      is_past MAX_TREE_SIZE (d.size + size) large
      ∙ sym (over_size (dict (put_field k v (fields_of d.entries.items)))
      (omega (arith, large, is, added.size v, kept.size)))

  pub full_by_height : d.size + size ≤ MAX_TREE_SIZE → (height : ℕ)
      → height ≡ max d.height (tree_height v + 1) → (k : List ℕ)
      → find_field k (fields_of d.entries.items) ≡ None → nat_lt MAX_TREE_HEIGHT height
      ≡ is_too_large (dict (put_field k v (fields_of d.entries.items)))
  full_by_height small height high k none =
      let added = adds_field k (fields_of d.entries.items) none in
      let same : height ≡ tree_height (dict (put_field k v (fields_of d.entries.items))) =
      omega (arith, high, added.height v, kept.height) in
      ap (nat_lt MAX_TREE_HEIGHT) same
      ∙ sym (as_high (dict (put_field k v (fields_of d.entries.items)))
      (omega (arith, small, is, added.size v, kept.size)))
