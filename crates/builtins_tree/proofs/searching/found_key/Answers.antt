use Rattle.std.proofs.Common.{◌<◌, sym, subst}
use Rattle.path_tree.specs.Find.{child_count}
use Rattle.path_tree.proofs.Children.{dict_child, dict_key}
use Rattle.builtins_tree.proofs.searching.found_key.Goals as goal

pub unreachable-requires : goal.unreachable-requires
unreachable-requires c =
    let within : c.loop-i.i < child_count c.args.dict.now =
    subst (λ n. c.loop-i.i < n) c.len-i-end.ensures c.loop-i-test.true in
    dict_key c.args.dict.now c.loop-i.i (sym c.in-Dict.ensures.kind) within
    (sym c.in_default-key_at.ensures.value)

pub unreachable-requires-in_default-child_at : goal.unreachable-requires-in_default-child_at
unreachable-requires-in_default-child_at c =
    let within : c.loop-i.i < child_count c.args.dict.now =
    subst (λ n. c.loop-i.i < n) c.len-i-end.ensures c.loop-i-test.true in
    dict_child c.args.dict.now c.loop-i.i (sym c.in-Dict.ensures.kind) within
    (sym c.in_default-child_at.ensures.value)
