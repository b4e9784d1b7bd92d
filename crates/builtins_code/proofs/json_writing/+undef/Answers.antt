use Rattle.std.proofs.Common.{◌<◌, length, ◌∙◌, arith}
use Rattle.call_values.specs.Children.{children}
use Rattle.call_values.proofs.Kids.{child_there}
use Rattle.path_tree.specs.declared.kind.Kind.TheVariants as kind
use Rattle.builtins_code.proofs.Undefs.{holds_by_kind, undef_found, undef_passed}
use Rattle.builtins_code.proofs.json_writing.+undef.Goals as goal

pub child_holds_undef-unreachable-requires : goal.child_holds_undef-unreachable-requires
child_holds_undef-unreachable-requires t c =
    let below : c.loop-i.i < length (children c.args.tree.now) =
    omega (arith, c.loop-i-test.true, c.child_count-i-end.ensures) in
    child_there c.args.tree.now c.loop-i.i below c.in_default.ensures.value

pub child_holds_undef-returns-then-holds_undef : goal.child_holds_undef-returns-then-holds_undef
child_holds_undef-returns-then-holds_undef t c =
    undef_found c.args.tree.now c.in-Some.child.now c.loop-i.i c.in-Some.ensures.value
    c.if-holds_undef.ensures c.loop-i.invariant

pub child_holds_undef-loop-i-preserved : goal.child_holds_undef-loop-i-preserved
child_holds_undef-loop-i-preserved t c =
    undef_passed c.args.tree.now c.in-Some.child.now c.loop-i.i c.in-Some.ensures.value
    c.if-holds_undef.ensures c.loop-i.invariant

pub holds_undef-returns-in-List : goal.holds_undef-returns-in-List
holds_undef-returns-in-List t c =
    c.child_holds_undef.ensures ∙ holds_by_kind c.args.tree.now kind.List c.in-List.ensures.kind

pub holds_undef-returns-in-Dict : goal.holds_undef-returns-in-Dict
holds_undef-returns-in-Dict t c =
    c.child_holds_undef-in-Dict.ensures ∙ holds_by_kind c.args.tree.now kind.Dict
    c.in-Dict.ensures.kind
