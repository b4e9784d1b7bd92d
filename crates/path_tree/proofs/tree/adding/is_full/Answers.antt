use Rattle.std.proofs.Common.{◌≡◌, ◌+◌, max, arith}
use Rattle.path_tree.specs.Plain.{tree_height}
use Rattle.path_tree.proofs.Lacking.{full_by_height, full_by_size}
use Rattle.path_tree.proofs.tree.adding.is_full.Goals as goal

pub returns-then-dict-size-gt-MAX_TREE_SIZE-clause-full : goal.returns-then-dict-size-gt-MAX_TREE_SIZE-clause-full
returns-then-dict-size-gt-MAX_TREE_SIZE-clause-full c =
    full_by_size c.args.dict.now c.args.value.now c.size.result c.requires c.size.ensures.size
    (omega (arith, c.if-dict-size-gt-MAX_TREE_SIZE.true))

pub returns-else-dict-size-gt-MAX_TREE_SIZE-clause-full : goal.returns-else-dict-size-gt-MAX_TREE_SIZE-clause-full
returns-else-dict-size-gt-MAX_TREE_SIZE-clause-full c =
    let high : c.max.result ≡ max c.args.dict.now.height (tree_height c.args.value.now + 1) =
    omega (arith, c.max.ensures, c.height.ensures.height) in
    full_by_height c.args.dict.now c.args.value.now c.size.result c.requires c.size.ensures.size
    (omega (arith, c.if-dict-size-gt-MAX_TREE_SIZE.false)) c.max.result high
