use Rattle.std.proofs.Common.{sym, ◌∙◌, arith}
use Rattle.path_tree.proofs.Listing.{inside_of, too_high_with, too_large_with}
use Rattle.path_tree.proofs.tree.lists.admit.Goals as goal
use Rattle.path_tree.proofs.tree.lists.admit.Goals.{then-after-gt-MAX_TREE_SIZE-via-then-after-gt-MAX_TREE_SIZE, then-after-gt-MAX_TREE_SIZE-via-else-after-gt-MAX_TREE_SIZE+then-after-gt-MAX_TREE_HEIGHT}

pub returns-then-after-gt-MAX_TREE_SIZE : goal.returns-then-after-gt-MAX_TREE_SIZE
returns-then-after-gt-MAX_TREE_SIZE c =
    let inside = inside_of c.args.value.now (sym c.is_null.ensures.null ∙ c.if-is_null.false)
    c.is_null.ensures.tree in
    elim c.then-after-gt-MAX_TREE_SIZE.branch [
      | then-after-gt-MAX_TREE_SIZE-via-then-after-gt-MAX_TREE_SIZE w ↦ too_large_with
          c.args.list.now c.args.value.now c.requires inside
          (omega (arith, w.if-after-gt-MAX_TREE_SIZE.true, c.size.ensures.size))
      | then-after-gt-MAX_TREE_SIZE-via-else-after-gt-MAX_TREE_SIZE+then-after-gt-MAX_TREE_HEIGHT
          w ↦ too_high_with c.args.list.now c.args.value.now c.requires inside
          (omega (
            arith,
            w.if-after-gt-MAX_TREE_HEIGHT.true,
            c.max.ensures,
            c.height.ensures.height,
          ))
    ]
