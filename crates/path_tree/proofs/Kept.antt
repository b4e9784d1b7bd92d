-- A container keeps its size, its height and its order through a put.
use Rattle.std.proofs.Common.{◌≡◌, ℕ, ◌+◌, ◌-◌, ◌≤◌, max, true, List, ◌∷◌, length, Option, Some, None, Ok, ap, sym, ◌∙◌, subst, arith}
use Rattle.path_tree.specs.Grammar.{is_key}
use Rattle.path_tree.specs.Plain.{Plain, dict, list, no_items, tree_size, tree_height, IsTree, AreFields, AreItems}
use Rattle.path_tree.specs.Find.{find_field, item_at}
use Rattle.path_tree.specs.Put.{chain, put_field, put_item}
use Rattle.path_tree.specs.Kept.{CanWalk, Walks, FitsMade, IsInside}
use Rattle.path_tree.specs.View.{IsDict, IsList, dict_seen, list_seen, fields_of, items_of}
use Rattle.path_tree.specs.declared.path.Term.{Term}
use Rattle.path_tree.specs.declared.path.Term.TheVariants as term
use Rattle.path_tree.specs.declared.tree.Dict.{Dict}
use Rattle.path_tree.specs.declared.tree.Items.{Items as Itemed}
use Rattle.path_tree.proofs.Changes.{fits_after, field_new, field_walks, item_new, item_walks}
use Rattle.path_tree.proofs.Sizes.{adds_field, adds_item}
use Rattle.path_tree.proofs.Plans.{size_filled, height_filled}
use Rattle.path_tree.proofs.Entries.{item_at_past, item_count_of}
use Rattle.path_tree.proofs.Whole.{items_put, fields_put}

pub one_item_kept : (l : Itemed) (i : ℕ) (v : Plain) → items_of l.items.items
    ≡ put_item i v no_items → FitsMade (list (put_item i v no_items)) → IsInside v → l.size
    ≡ 1 + i + tree_size v → l.height ≡ 1 + tree_height v → IsList l
one_item_kept l i v is fits inside size height = record {
  tree = subst (λ ts. IsTree (list ts)) (sym is)
      (record { whole = items_put i v no_items inside tt; size = fits.size; height = fits.height });
  size = omega (arith, size, size_filled i v, ap (λ ts. tree_size (list ts)) is);
  height = omega (arith, height, height_filled i v, ap (λ ts. tree_height (list ts)) is);
}

module _ (ms : List Term) (v : Plain) where
  module _ (d e : Dict) (k : List ℕ) (kept : IsDict d)
      (can : CanWalk (term.Key k ∷ ms) v (dict_seen d)) where
    pub added_kept : (w : Plain) → w ≡ chain ms v → find_field k (fields_of d.entries.items) ≡ None
        → fields_of e.entries.items ≡ put_field k w (fields_of d.entries.items) → is_key k ≡ true
        → IsInside w → e.size ≡ d.size + tree_size w → e.height ≡ max d.height (tree_height w + 1)
        → IsDict e
    added_kept w made none is key inside size height =
        let adds = adds_field k (fields_of d.entries.items) none in
        let walks : Walks (term.Key k ∷ ms) v (dict_seen d) (dict_seen e) =
        λ n. field_new ms v k (fields_of d.entries.items) none n
        ∙ ap (λ u. Ok (dict (put_field k u (fields_of d.entries.items)))) (sym made)
        ∙ ap (λ fs. Ok (dict fs)) (sym is) in
        let fits = fits_after (term.Key k ∷ ms) v (dict_seen d) (dict_seen e) can walks in
        record {
          tree = record {
            whole = subst AreFields (sym is) (fields_put k w (fields_of d.entries.items) (λ _. key)
                inside kept.tree.whole);
            size = fits.size;
            height = fits.height;
          };
          size = omega (arith, size, kept.size, adds.size w, ap (λ fs. tree_size (dict fs)) is);
          height = omega (
            arith,
            height,
            kept.height,
            adds.height w,
            ap
                (λ fs. tree_height (dict fs)) is,
          );
        }

    pub changed_kept : (c w : Plain) → find_field k (fields_of d.entries.items) ≡ Some c
        → Walks ms v c w → fields_of e.entries.items ≡ put_field k w (fields_of d.entries.items)
        → IsInside w → e.size ≡ tree_size (dict_seen e) → e.height ≡ tree_height (dict_seen e)
        → IsDict e
    changed_kept c w found walked is inside size height =
        let walks : Walks (term.Key k ∷ ms) v (dict_seen d) (dict_seen e) =
        λ n. field_walks ms v k (fields_of d.entries.items) c w found walked n
        ∙ ap (λ fs. Ok (dict fs)) (sym is) in
        let fits = fits_after (term.Key k ∷ ms) v (dict_seen d) (dict_seen e) can walks in
        record {
          tree = record {
            whole = subst AreFields (sym is) (fields_put k w (fields_of d.entries.items)
                (λ none. absurd_none (sym found ∙ none)) inside kept.tree.whole);
            size = fits.size;
            height = fits.height;
          };
          size = size;
          height = height;
        }
      where
        some : Plain → Option Plain
        some t = Some t

        absurd_none : some c ≡ None → is_key k ≡ true
        absurd_none h = cc

  module _ (d e : Itemed) (i : ℕ) (kept : IsList d)
      (can : CanWalk (term.Index i ∷ ms) v (list_seen d)) where
    pub added_item_kept : (w : Plain) → w ≡ chain ms v → length d.items.items ≤ i
        → items_of e.items.items ≡ put_item i w (items_of d.items.items) → IsInside w → e.size
        ≡ d.size + (i - length d.items.items) + tree_size w → e.height
        ≡ max d.height (tree_height w + 1) → IsList e
    added_item_kept w made past is inside size height =
        let none = item_at_past d.items.items i past in
        let adds = adds_item i (items_of d.items.items) none in
        let walks : Walks (term.Index i ∷ ms) v (list_seen d) (list_seen e) =
        λ n. item_new ms v i (items_of d.items.items) none n
        ∙ ap (λ u. Ok (list (put_item i u (items_of d.items.items)))) (sym made)
        ∙ ap (λ ts. Ok (list ts)) (sym is) in
        let fits = fits_after (term.Index i ∷ ms) v (list_seen d) (list_seen e) can walks in
        record {
          tree = record {
            whole = subst AreItems (sym is) (items_put i w (items_of d.items.items) inside
                kept.tree.whole);
            size = fits.size;
            height = fits.height;
          };
          size = omega (
            arith,
            size,
            kept.size,
            adds.size w,
            item_count_of d.items.items,
            ap
                (λ ts. tree_size (list ts)) is,
          );
          height = omega (
            arith,
            height,
            kept.height,
            adds.height w,
            ap
                (λ ts. tree_height (list ts)) is,
          );
        }

    pub changed_item_kept : (c w : Plain) → item_at i (items_of d.items.items) ≡ Some c
        → Walks ms v c w → items_of e.items.items ≡ put_item i w (items_of d.items.items)
        → IsInside w → e.size ≡ tree_size (list_seen e) → e.height ≡ tree_height (list_seen e)
        → IsList e
    changed_item_kept c w found walked is inside size height =
        let walks : Walks (term.Index i ∷ ms) v (list_seen d) (list_seen e) =
        λ n. item_walks ms v i (items_of d.items.items) c w found walked n
        ∙ ap (λ ts. Ok (list ts)) (sym is) in
        let fits = fits_after (term.Index i ∷ ms) v (list_seen d) (list_seen e) can walks in
        record {
          tree = record {
            whole = subst AreItems (sym is) (items_put i w (items_of d.items.items) inside
                kept.tree.whole);
            size = fits.size;
            height = fits.height;
          };
          size = size;
          height = height;
        }
