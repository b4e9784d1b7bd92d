use Rattle.std.proofs.Common.{◌≡◌, ◌<◌, ◌++◌, Some, sym, ap, ◌∙◌, subst, arith}
use Rattle.std.specs.List.{list_all}
use Rattle.path_tree.specs.Children.{child_fields}
use Rattle.path_tree.specs.Find.{child_at, child_count, key_at}
use Rattle.path_tree.proofs.Children.{all_fields, dict_child, dict_key}
use Rattle.builtins_tree.specs.Merges.{field_pairs}
use Rattle.builtins_tree.specs.Pairs.{has_value}
use Rattle.builtins_tree.proofs.Builds.{all_more, field_pushed, fields_pushed, value_inside}
use Rattle.builtins_tree.proofs.merging.push_pairs.Goals as goal

pub loop-i-init : goal.loop-i-init
loop-i-init c = (
  ap (λ fs. c.args.pairs.now.items ++ field_pairs fs)
      (all_fields (child_fields c.args.dict.now)),
  λ h. h,
)

pub unreachable-requires : goal.unreachable-requires
unreachable-requires c =
    let within : c.loop-i.i < child_count c.args.dict.now =
    subst (λ n. c.loop-i.i < n) c.len-i-end.ensures c.loop-i-test.true in
    dict_key c.args.dict.now c.loop-i.i (sym c.in-Dict.ensures.kind) within
    (sym c.in_default-key_handle.ensures)

pub unreachable-requires-in_default-child_at : goal.unreachable-requires-in_default-child_at
unreachable-requires-in_default-child_at c =
    let within : c.loop-i.i < child_count c.args.dict.now =
    subst (λ n. c.loop-i.i < n) c.len-i-end.ensures c.loop-i-test.true in
    dict_child c.args.dict.now c.loop-i.i (sym c.in-Dict.ensures.kind) within
    (sym c.in_default-child_at.ensures.value)

pub loop-i-preserved : goal.loop-i-preserved
loop-i-preserved c =
    let key : Some c.in_ok-key.key ≡ key_at c.loop-i.i c.args.dict.now =
    ap Some c.in_ok-key.ensures ∙ c.in-Some.ensures in
    let child : Some c.in_ok-value.value ≡ child_at c.loop-i.i c.args.dict.now =
    ap Some c.in_ok-value.ensures ∙ c.in-Some-child_at.ensures.value in (
      field_pushed c.args.dict.now c.in_ok-value.value c.in_ok-key.key c.loop-i.i
          c.loop-i.pairs.items c.push.new.self.items _
          c.in-Dict.ensures.kind key child c.in_ok-push.ensures.items c.loop-i.invariant.0,
      λ h. ap (list_all has_value) c.in_ok-push.ensures.items
          ∙ all_more has_value c.loop-i.pairs.items (record
          { key = c.in_ok-key.key; value = c.in_ok-value.value }) (c.loop-i.invariant.1 h)
          (value_inside c.args.dict.now c.in_ok-value.value c.loop-i.i c.in-Dict.ensures.kind
          c.in-Dict.ensures.tree child),
    )

pub returns-clause-pairs : goal.returns-clause-pairs
returns-clause-pairs c =
    let end : c.loop-i.i ≡ child_count c.args.dict.now =
    omega (arith, c.loop-i-test.false, c.loop-i.auto.i-end, c.len-i-end.ensures) in
    fields_pushed c.args.dict.now c.loop-i.i c.loop-i.pairs.items c.args.pairs.now.items
    c.in-Dict.ensures.kind end c.loop-i.invariant.0
