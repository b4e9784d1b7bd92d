-- The trees of lists and objects, and a dict with a field more.
use Rattle.std.proofs.Common.{◌≡◌, ℕ, Bool, true, false, ◌||◌, cond, List, [], ◌∷◌, ◌++◌, map, Option, Some, None, Ordering, Less, Equal, Greater, string_bytes, string_cmp, refl, sym, ap, ◌∙◌}
use Rattle.std.specs.Prelude.{Ok, Err, nat_lt}
use Rattle.std.specs.List.{list_any}
use Rattle.std.specs.List.Sorted.{IsStrictlySortedBy}
use Rattle.std.specs.Map.{keys_of}
use Rattle.std.specs.Option.{option_map_or}
use Rattle.std.specs.Ordering.{nat_cmp, match_ordering}
use Rattle.std.specs.Cmp.Lexicographic.{slice_cmp}
use Rattle.base.specs.declared.limits.TheConstants.{MAX_TREE_HEIGHT, MAX_TREE_SIZE}
use Rattle.path_tree.specs.Find.{find_field, kind_of}
use Rattle.path_tree.specs.Lists.{is_null, list_of, within_limits}
use Rattle.path_tree.specs.Plain.{Plain, dict, list, text, long, boolean, undef, null, Fields, tree_size, tree_height}
use Rattle.path_tree.specs.Put.{over, put, put_field, walk, within_height, within_size}
use Rattle.path_tree.specs.View.{items_of}
use Rattle.path_tree.specs.declared.kind.Kind.TheVariants as kind
use Rattle.path_tree.specs.declared.path.Term.TheVariants as term
use Rattle.path_tree.specs.declared.path.PutError.{PutError}
use Rattle.path_tree.specs.declared.path.PutError.TheVariants as put_error
use Rattle.path_tree.specs.declared.refused.Refused.TheVariants.{BadArgument, TooLarge}
use Rattle.serde_json.proofs.Views.{Entry, put_last}
use Rattle.serde_json.specs.Data.{Data, Members, no_members, member, number, string, array, object}
use Rattle.serde_json.specs.Data as js
use Rattle.serde_json.specs.View.{view, items_view, members_view}
use Rattle.serde_json.specs.declared.value.Value.{Value}
use Rattle.builtins_code.specs.Fields.{with_field}
use Rattle.builtins_code.specs.Json.{tree_of, items_trees, members_trees}
use Rattle.builtins_code.proofs.Sizes.{dict_of}

-- JSON has no null of the language
pub never_null : (d : Data) → is_null (tree_of d) ≡ false
never_null js.null = refl
never_null (js.boolean b) = refl
never_null (number n) = refl
never_null (string s) = refl
never_null (array ds) = refl
never_null (object ms) = refl

no_null : (vs : List Value) → list_any is_null (map (λ v. tree_of (view v)) vs) ≡ false
no_null [] = refl
no_null (v ∷ vs) = ap (λ b. b || list_any is_null (map (λ w. tree_of (view w)) vs))
    (never_null (view v)) ∙ no_null vs

items_are : (vs : List Value) → items_of (map (λ v. tree_of (view v)) vs)
    ≡ items_trees (items_view vs)
items_are [] = refl
items_are (v ∷ vs) = rw (items_are vs) refl

-- the list of the trees of values
pub listed : (vs : List Value) → list_of (map (λ v. tree_of (view v)) vs)
    ≡ within_limits (list (items_trees (items_view vs)))
listed vs =
    ap (λ b. cond b (Err BadArgument) (within_limits
    (list (items_of (map (λ v. tree_of (view v)) vs))))) (no_null vs)
    ∙ ap (λ ts. within_limits (list ts)) (items_are vs)

by_order : (o : Ordering) (a b c : Members) → members_trees (match_ordering o a b c)
    ≡ match_ordering o (members_trees a) (members_trees b) (members_trees c)
by_order Less a b c = refl
by_order Equal a b c = refl
by_order Greater a b c = refl

put_member : (k : List ℕ) (d : Data) (ms : Members) → members_trees (js.put k d ms)
    ≡ put_field k (tree_of d) (members_trees ms)
put_member k d no_members = refl
put_member k d (member l e ms) =
    by_order (slice_cmp nat_cmp k l) _ _ _ ∙ rw (put_member k d ms) refl

-- a member that is put behind the others
pub dict_more : (done : List Entry) (e : Entry) (more : List Entry)
    → IsStrictlySortedBy string_cmp (keys_of (done ++ e ∷ more)) →
    with_field (string_bytes e.0) (tree_of (view e.1)) (dict_of done)
    ≡ within_limits (dict_of (done ++ e ∷ []))
dict_more done e more rising =
    ap (λ fs. within_limits (dict fs))
    (sym (put_member (string_bytes e.0) (view e.1) (members_view done))
    ∙ ap members_trees (put_last done e more rising))

-- what a walk of one key into a dict gives
below_is : (k : List ℕ) (v : Plain) (fs : Fields) (o : Option Plain) →
    over (λ c. dict (put_field k c fs)) (option_map_or (walk 1 [] v) o (Ok v))
    ≡ Ok (dict (put_field k v fs))
below_is k v fs None = refl
below_is k v fs (Some c) = refl

in_turn : (w : Plain) (large : Bool) → within_height (cond large (Err put_error.TooLarge) (Ok w))
    ≡ cond large (Err put_error.TooLarge) (cond (nat_lt MAX_TREE_HEIGHT (tree_height w))
    (Err put_error.TooHigh) (Ok w))
in_turn w true = refl
in_turn w false = refl

put_is : (k : List ℕ) (v : Plain) (fs : Fields) → let w = dict (put_field k v fs) in
    put (term.Key k ∷ []) v (dict fs)
    ≡ cond (nat_lt MAX_TREE_SIZE (tree_size w)) (Err put_error.TooLarge)
    (cond (nat_lt MAX_TREE_HEIGHT (tree_height w)) (Err put_error.TooHigh) (Ok w))
put_is k v fs =
    let w = dict (put_field k v fs) in
    ap (λ r. within_height (within_size r)) (below_is k v fs (find_field k fs))
    ∙ in_turn w (nat_lt MAX_TREE_SIZE (tree_size w))

fits : (large high : Bool) (w x : Plain) → cond large (Err put_error.TooLarge)
    (cond high (Err put_error.TooHigh) (Ok w)) ≡ Ok x →
    cond (large || high) (Err TooLarge) (Ok w) ≡ Ok x
fits true high w x h = absurd cc
fits false true w x h = absurd cc
fits false false w x h = let same : w ≡ x = cc in ap (λ y. Ok y) same

fails : (large high : Bool) (w : Plain) (e : PutError)
    → cond large (Err put_error.TooLarge) (cond high (Err put_error.TooHigh) (Ok w)) ≡ Err e →
    cond (large || high) (Err TooLarge) (Ok w) ≡ Err TooLarge
fails true high w e h = refl
fails false true w e h = refl
fails false false w e h = absurd cc

-- a put of one key into a dict that went through
pub put_fits : (k : List ℕ) (v t x : Plain) → kind_of t ≡ kind.Dict → put (term.Key k ∷ []) v t
    ≡ Ok x → with_field k v t ≡ Ok x
put_fits k v (dict fs) x is h = fits _ _ _ x (sym (put_is k v fs) ∙ h)
put_fits k v (list ts) x is h = absurd cc
put_fits k v (text b) x is h = absurd cc
put_fits k v (long z) x is h = absurd cc
put_fits k v (boolean b) x is h = absurd cc
put_fits k v undef x is h = absurd cc
put_fits k v null x is h = absurd cc

-- and one that was refused
pub put_fails : (k : List ℕ) (v t : Plain) (e : PutError) → kind_of t ≡ kind.Dict
    → put (term.Key k ∷ []) v t ≡ Err e → with_field k v t ≡ Err TooLarge
put_fails k v (dict fs) e is h = fails _ _ _ e (sym (put_is k v fs) ∙ h)
put_fails k v (list ts) e is h = absurd cc
put_fails k v (text b) e is h = absurd cc
put_fails k v (long z) e is h = absurd cc
put_fails k v (boolean b) e is h = absurd cc
put_fails k v undef e is h = absurd cc
put_fails k v null e is h = absurd cc
