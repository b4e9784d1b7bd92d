-- What a put leaves, and when it is refused.
use Rattle.std.specs.Prelude.{ℕ, zero, suc, ◌+◌, List, [], ◌∷◌, Result, Ok, Err, nat_lt, if◌then◌else◌}
use Rattle.std.specs.Option.{option_map_or}
use Rattle.std.specs.Ordering.{nat_cmp, match_ordering}
use Rattle.std.specs.Cmp.Lexicographic.{slice_cmp}
use Rattle.base.specs.declared.limits.TheConstants.{MAX_TREE_HEIGHT, MAX_TREE_SIZE}
use Rattle.path_tree.specs.Plain.{Plain, dict, list, text, long, boolean, undef, null, Items, no_items, item, Fields, no_fields, field, tree_size, tree_height}
use Rattle.path_tree.specs.Find.{find_field, item_at}
use Rattle.path_tree.specs.declared.path.Term.{Term}
use Rattle.path_tree.specs.declared.path.Term.TheVariants as term
use Rattle.path_tree.specs.declared.path.PutError.{PutError}
use Rattle.path_tree.specs.declared.path.PutError.TheVariants.{ThroughProperty, KeyInList, IndexInDict, TooLarge, TooHigh}

-- the fields with t at the key k
abbrev pub put_field : List ℕ → Plain → Fields → Fields
put_field k t no_fields = field k t no_fields
put_field k t (field l u fs) =
    match_ordering (slice_cmp nat_cmp k l) (field k t (field l u fs)) (field l t fs)
    (field l u (put_field k t fs))

-- the items with t at index i, filled with undef up to there
abbrev pub put_item : ℕ → Plain → Items → Items
put_item zero t no_items = item t no_items
put_item zero t (item u us) = item t us
put_item (suc i) t no_items = item undef (put_item i t no_items)
put_item (suc i) t (item u us) = item u (put_item i t us)

-- what is put where nothing was
abbrev pub chain : List Term → Plain → Plain
chain [] v = v
chain (term.Key k ∷ ms) v = dict (field k (chain ms v) no_fields)
chain (term.Index i ∷ ms) v = list (put_item i (chain ms v) no_items)

abbrev pub over : {E : Type 0} → (Plain → Plain) → Result Plain E → Result Plain E
over f (Ok t) = Ok (f t)
over f (Err e) = Err e

-- One term of a walk into the fields of a dict. made: what is put where nothing is; below: the walk
-- below, where a child is.
abbrev pub walk_dict : Term → Plain → (Plain → Result Plain PutError) → Fields
    → Result Plain PutError
walk_dict (term.Key k) made below fs =
    over (λ c. dict (put_field k c fs)) (option_map_or below (find_field k fs) (Ok made))
walk_dict (term.Index i) made below fs = Err IndexInDict

abbrev pub walk_list : Term → Plain → (Plain → Result Plain PutError) → Items
    → Result Plain PutError
walk_list (term.Index i) made below ts =
    over (λ c. list (put_item i c ts)) (option_map_or below (item_at i ts) (Ok made))
walk_list (term.Key k) made below ts = Err KeyInList

-- n: the terms passed before; whole: what is put in the place of an undef. A null counts as undef.
abbrev pub walk_step : ℕ → Term → Plain → Plain → (Plain → Result Plain PutError) → Plain
    → Result Plain PutError
walk_step n m whole made below (dict fs) = walk_dict m made below fs
walk_step n m whole made below (list ts) = walk_list m made below ts
walk_step n m whole made below (text b) = Err (ThroughProperty n)
walk_step n m whole made below (long z) = Err (ThroughProperty n)
walk_step n m whole made below (boolean b) = Err (ThroughProperty n)
walk_step n m whole made below undef = Ok whole
walk_step n m whole made below null = Ok whole

-- the tree t with v at the path, or why the walk along the path is refused
abbrev pub walk : ℕ → List Term → Plain → Plain → Result Plain PutError
walk n [] v t = Ok v
walk n (m ∷ ms) v t = walk_step n m (chain (m ∷ ms) v) (chain ms v) (walk (n + 1) ms v) t

-- refused where the tree is too large
abbrev pub within_size : Result Plain PutError → Result Plain PutError
within_size (Ok t) = if nat_lt MAX_TREE_SIZE (tree_size t) then Err TooLarge else Ok t
within_size (Err e) = Err e

-- refused where the tree is too high
abbrev pub within_height : Result Plain PutError → Result Plain PutError
within_height (Ok t) = if nat_lt MAX_TREE_HEIGHT (tree_height t) then Err TooHigh else Ok t
within_height (Err e) = Err e

-- the tree t with v at the path, or the first refusal: of the walk, then of the size, then of the
-- height
abbrev pub put : List Term → Plain → Plain → Result Plain PutError
put ms v t = within_height (within_size (walk 0 ms v t))
