use Rattle.std.proofs.Common.{◌≡◌, ◌≢◌, Err, IfErr, List, [], ◌∷◌, ◌++◌, string_bytes, rules, append_assoc, sym, ap, ◌∙◌, subst, true, ◌&&◌}
use Rattle.std.proofs.lemmas.Bool.{and_parts}
use Rattle.std.specs.List.Sorted.{IsStrictlySortedBy}
use Rattle.std.specs.Map.{keys_of}
use Rattle.std.specs.String.{string_cmp}
use Rattle.base.specs.Answers.{Gives}
use Rattle.path_tree.specs.Grammar.{is_key}
use Rattle.path_tree.specs.Lists.{list_of, within_limits}
use Rattle.path_tree.specs.Plain.{Plain, list}
use Rattle.path_tree.specs.Refusals.{refusal}
use Rattle.path_tree.specs.declared.refused.Refused.TheVariants.{Memory}
use Rattle.serde_json.proofs.Views.{Entry}
use Rattle.serde_json.specs.View.{items_view, members_view, view}
use Rattle.serde_json.specs.declared.value.Value.{Value}
use Rattle.builtins_code.specs.Json.{are_keys, items_trees, members_are_keys, tree_of}
use Rattle.builtins_code.proofs.Sizes.{IsWithin, dict_of, front_within, item_within, kept_is, member_within, part_refused, whole_refused}
use Rattle.builtins_code.proofs.Trees.{dict_more, listed}
use Rattle.builtins_code.proofs.json_trees.+trees.Goals as goal

pub dict_of-returns-in_err-child : goal.dict_of-returns-in_err-child
dict_of-returns-in_err-child t c =
    let r = c.from_residual-in_err-child.result in
    let done = c.loop-name.invariant.0 in
    let e : Entry = (c.in-Some.name.now, c.in-Some.member.now) in
    let left = c.next.new.self in
    let all : c.args.members.now.entries ≡ done ++ e ∷ left =
    c.loop-name.invariant.1 ∙ ap (λ es. done ++ es) c.in-Some.ensures.steps in
    let same : IfErr r (λ x. x ≡ c.in_err-child.field-0.0) = search rules in
    let P : List Entry → Type 0 =
    λ es. Gives (λ (v : Plain). v) refusal r (within_limits (dict_of es)) in
    subst P (sym all) (whole_refused r c.in_err-child.field-0.0 (tree_of (view e.1))
    (dict_of (done ++ e ∷ left)) (member_within done e left)
    c.from_residual-in_err-child.ensures.0 same c.in_err-child.ensures)

pub dict_of-loop-name-preserved : goal.dict_of-loop-name-preserved
dict_of-loop-name-preserved t c =
    let done = c.loop-name.invariant.0 in
    let e : Entry = (c.in-Some.name.now, c.in-Some.member.now) in
    let left = c.next.new.self in
    let all : c.args.members.now.entries ≡ done ++ e ∷ left =
    c.loop-name.invariant.1 ∙ ap (λ es. done ++ es) c.in-Some.ensures.steps in
    let R : List Entry → Type 0 = λ es. IsStrictlySortedBy string_cmp (keys_of es) in
    let put_is = rw (
      c.as_str.ensures.value,
      kept_is (tree_of (view e.1)) c.in_ok-child.child
          c.in_ok-child.ensures,
      c.loop-name.invariant.2,
    ) at c.in_ok-put_field.ensures in
    let grown = sym (dict_more done e left (subst R all c.iter-name-items.ensures.ordered))
    ∙ put_is in
    let is = kept_is (dict_of (done ++ e ∷ [])) c.put_field.new.dict grown in
    let K : List Entry → Type 0 = λ es. members_are_keys (members_view es) ≡ true in
    let keys = and_parts (is_key (string_bytes e.0))
    (are_keys (view e.1) && members_are_keys (members_view left))
    (subst K c.in-Some.ensures.steps c.loop-name.invariant.4) in (
      done ++ e ∷ [],
      all ∙ sym (append_assoc done (e ∷ []) left),
      is,
      ap within_limits is ∙ grown,
      (and_parts (are_keys (view e.1)) (members_are_keys (members_view left)) keys.1).1,
    )

pub dict_of-returns-in_err-put_field : goal.dict_of-returns-in_err-put_field
dict_of-returns-in_err-put_field t c =
    let r = c.from_residual-in_err-put_field.result in
    let done = c.loop-name.invariant.0 in
    let e : Entry = (c.in-Some.name.now, c.in-Some.member.now) in
    let left = c.next.new.self in
    let all : c.args.members.now.entries ≡ done ++ e ∷ left =
    c.loop-name.invariant.1 ∙ ap (λ es. done ++ es) c.in-Some.ensures.steps in
    let R : List Entry → Type 0 = λ es. IsStrictlySortedBy string_cmp (keys_of es) in
    let put_is = rw (
      c.as_str.ensures.value,
      kept_is (tree_of (view e.1)) c.in_ok-child.child
          c.in_ok-child.ensures,
      c.loop-name.invariant.2,
      dict_more done e left
          (subst R all c.iter-name-items.ensures.ordered),
    ) at c.in_err-put_field.ensures in
    let same : IfErr r (λ x. x ≡ c.in_err-put_field.field-0.0) = search rules in
    let P : List Entry → Type 0 =
    λ es. Gives (λ (v : Plain). v) refusal r (within_limits (dict_of es)) in
    subst P (append_assoc done (e ∷ []) left ∙ sym all)
    (whole_refused r c.in_err-put_field.field-0.0 (dict_of (done ++ e ∷ []))
    (dict_of ((done ++ e ∷ []) ++ left)) (front_within (done ++ e ∷ []) left)
    c.from_residual-in_err-put_field.ensures.0 same put_is)

pub list_of-returns : goal.list_of-returns
list_of-returns t c =
    subst (Gives (λ (v : Plain). v) refusal c.list.result)
    (ap list_of c.in_ok-trees.ensures.ok ∙ listed c.args.items.now.items) c.list.ensures

pub trees_of-returns-in_err-tree_of-clause-err : goal.trees_of-returns-in_err-tree_of-clause-err
trees_of-returns-in_err-tree_of-clause-err t c =
    let r = c.from_residual-in_err-tree_of.result in
    let xs = c.deref-item-items.result.now in
    let v = c.item-item.result in
    let same : IfErr r (λ x. x ≡ c.in_err-tree_of.field-0.0) = search rules in
    let W : Value → Type 0 =
    λ w. IsWithin (tree_of (view w)) (list (items_trees (items_view xs))) in
    let within = subst W (sym c.item-item.is) (item_within xs c.loop-item.item-index v
    c.loop-item-test.true) in
    let P : List Value → Type 0 =
    λ vs. IfErr r (λ x. x ≢ Memory → within_limits (list (items_trees (items_view vs))) ≡ Err x)
    in
    subst P c.deref-item-items.ensures.value (part_refused r c.in_err-tree_of.field-0.0
    (tree_of (view v)) (list (items_trees (items_view xs))) within same
    c.in_err-tree_of.ensures)
