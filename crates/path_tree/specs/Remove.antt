-- What a removal leaves.
use Rattle.std.specs.Prelude.{ℕ, zero, suc, List, [], ◌∷◌}
use Rattle.std.specs.Ordering.{nat_cmp, match_ordering}
use Rattle.std.specs.Cmp.Lexicographic.{slice_cmp}
use Rattle.path_tree.specs.Plain.{Plain, dict, list, Items, no_items, item, Fields, no_fields, field}
use Rattle.path_tree.specs.declared.path.Term.{Term}
use Rattle.path_tree.specs.declared.path.Term.TheVariants as term

abbrev pub remove_field : List ℕ → Fields → Fields
remove_field k no_fields = no_fields
remove_field k (field l t fs) =
    match_ordering (slice_cmp nat_cmp k l) (field l t fs) fs (field l t (remove_field k fs))

-- later items move down
abbrev pub remove_item : ℕ → Items → Items
remove_item i no_items = no_items
remove_item zero (item t ts) = ts
remove_item (suc i) (item t ts) = item t (remove_item i ts)

abbrev pub change_field : List ℕ → (Plain → Plain) → Fields → Fields
change_field k change no_fields = no_fields
change_field k change (field l t fs) =
    match_ordering (slice_cmp nat_cmp k l) (field l t fs) (field l (change t) fs)
    (field l t (change_field k change fs))

abbrev pub change_item : ℕ → (Plain → Plain) → Items → Items
change_item i change no_items = no_items
change_item zero change (item t ts) = item (change t) ts
change_item (suc i) change (item t ts) = item t (change_item i change ts)

-- the tree without the child that the term finds
abbrev pub remove_child : Term → Plain → Plain
remove_child (term.Key k) (dict fs) = dict (remove_field k fs)
remove_child (term.Index i) (list ts) = list (remove_item i ts)
remove_child m t = t

-- the tree with the child that the term finds changed
abbrev pub change_child : Term → (Plain → Plain) → Plain → Plain
change_child (term.Key k) change (dict fs) = dict (change_field k change fs)
change_child (term.Index i) change (list ts) = list (change_item i change ts)
change_child m change t = t

-- the tree without what stands at the path; what is not there is left
abbrev pub remove : List Term → Plain → Plain
remove [] t = t
remove (m ∷ []) t = remove_child m t
remove (m ∷ n ∷ ms) t = change_child m (remove (n ∷ ms)) t
