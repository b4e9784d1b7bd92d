-- Where an undef is in a tree.
use Rattle.std.proofs.Common.{◌≡◌, ℕ, zero, suc, ◌+◌, true, false, ◌||◌, List, [], ◌∷◌, drop, Some, refl, sym, ap, ◌∙◌, subst, arith}
use Rattle.std.specs.List.{list_any, slice_get}
use Rattle.std.proofs.lemmas.Option.{same_Some}
use Rattle.call_values.specs.Children.{children, values_in}
use Rattle.call_values.proofs.Kids.{child_get}
use Rattle.path_tree.specs.Find.{child_at, kind_of}
use Rattle.path_tree.specs.Lists.{items_in}
use Rattle.path_tree.specs.Plain.{Plain, dict, list, text, long, boolean, undef, null, Items, no_items, item, Fields, no_fields, field}
use Rattle.path_tree.specs.declared.kind.Kind.{Kind}
use Rattle.path_tree.specs.declared.kind.Kind.TheVariants as kind
use Rattle.builtins_code.specs.Json.{holds_undef, item_holds_undef, field_holds_undef}

drop_step : {X : Type 0} (i : ℕ) (xs : List X) (x : X) → slice_get xs i ≡ Some x → drop i xs
    ≡ x ∷ drop (suc i) xs
drop_step i [] x e = absurd cc
drop_step zero (y ∷ ys) x e = ap (λ z. z ∷ ys) (same_Some _ _ e)
drop_step (suc i) (y ∷ ys) x e = drop_step i ys x e

-- the children from one on: that one, and those behind it
pub undef_step : (t c : Plain) (i : ℕ) → Some c ≡ child_at i t →
    list_any holds_undef (drop i (children t)) ≡ (holds_undef c
    || list_any holds_undef (drop (i + 1) (children t)))
undef_step t c i e =
    let next : suc i ≡ i + 1 = omega arith in
    ap (list_any holds_undef) (drop_step i (children t) c (sym (child_get i t) ∙ sym e))
    ∙ ap (λ k. holds_undef c || list_any holds_undef (drop k (children t))) next

items_hold : (ts : Items) → list_any holds_undef (items_in ts) ≡ item_holds_undef ts
items_hold no_items = refl
items_hold (item t ts) = ap (λ b. holds_undef t || b) (items_hold ts)

values_hold : (fs : Fields) → list_any holds_undef (values_in fs) ≡ field_holds_undef fs
values_hold no_fields = refl
values_hold (field k t fs) = ap (λ b. holds_undef t || b) (values_hold fs)

-- what has no children is decided by its kind
abbrev pub by_kind : Kind → Plain → Type 0
by_kind kind.Undef t = true ≡ holds_undef t
by_kind kind.Null t = true ≡ holds_undef t
by_kind kind.Text t = false ≡ holds_undef t
by_kind kind.Long t = false ≡ holds_undef t
by_kind kind.Bool t = false ≡ holds_undef t
by_kind kind.List t = list_any holds_undef (children t) ≡ holds_undef t
by_kind kind.Dict t = list_any holds_undef (children t) ≡ holds_undef t

of_kind : (t : Plain) → by_kind (kind_of t) t
of_kind (list ts) = items_hold ts
of_kind (dict fs) = values_hold fs
of_kind (text b) = refl
of_kind (long z) = refl
of_kind (boolean b) = refl
of_kind undef = refl
of_kind null = refl

-- what a tree of a kind holds
pub holds_by_kind : (t : Plain) (k : Kind) → k ≡ kind_of t → by_kind k t
holds_by_kind t k is = let P : Kind → Type 0 = λ q. by_kind q t in subst P (sym is) (of_kind t)

-- the child at i holds one
pub undef_found : (t c : Plain) (i : ℕ) → Some c ≡ child_at i t → true ≡ holds_undef c →
    list_any holds_undef (drop i (children t)) ≡ list_any holds_undef (children t) → true
    ≡ list_any holds_undef (children t)
undef_found t c i e holds all =
    ap (λ b. b || list_any holds_undef (drop (i + 1) (children t))) holds ∙ sym (undef_step t c i e)
    ∙ all

-- it holds none
pub undef_passed : (t c : Plain) (i : ℕ) → Some c ≡ child_at i t → false ≡ holds_undef c →
    list_any holds_undef (drop i (children t)) ≡ list_any holds_undef (children t)
    → list_any holds_undef (drop (i + 1) (children t)) ≡ list_any holds_undef (children t)
undef_passed t c i e holds all =
    ap (λ b. b || list_any holds_undef (drop (i + 1) (children t))) holds ∙ sym (undef_step t c i e)
    ∙ all
