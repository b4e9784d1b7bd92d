use Rattle.std.proofs.Common.{◌-◌, drop, refl, arith}
use Rattle.path_tree.specs.Put.{chain}
use Rattle.path_tree.proofs.Sizes.{height_le-size}
use Rattle.path_tree.proofs.Plans.{chain_at, chain_part, wrapped_eq}
use Rattle.path_tree.proofs.tree.planning.plan_made.Goals as goal

pub returns-then-made-gt-MAX_TREE_SIZE : goal.returns-then-made-gt-MAX_TREE_SIZE
returns-then-made-gt-MAX_TREE_SIZE c =
    let h = chain_at c.args.terms.now (c.loop-i.i - 1) c.loop-i.i c.index-terms-i.result
    c.args.value.now (omega arith) (omega arith) c.index-terms-i.is in
    record {
      is = refl;
      large =
          omega (
            arith,
            h.size,
            wrapped_eq c.index-terms-i.result c.loop-i.invariant.size,
            c.wrapped-made.ensures.size,
            chain_part (c.loop-i.i - 1) c.args.terms.now c.args.value.now,
          );
    }

pub loop-i-preserved : goal.loop-i-preserved
loop-i-preserved c =
    let h = chain_at c.args.terms.now (c.loop-i.i - 1) c.loop-i.i c.index-terms-i.result
    c.args.value.now (omega arith) (omega arith) c.index-terms-i.is in
    record {
      size = omega (
        arith,
        h.size,
        wrapped_eq c.index-terms-i.result c.loop-i.invariant.size,
        c.wrapped-made.ensures.size,
      );
      height = omega (arith, h.height, c.loop-i.invariant.height, c.wrapped-made.ensures.height);
      small = omega arith;
      flat = omega (
        arith,
        h.size,
        h.height,
        height_le-size
            (chain (drop (c.loop-i.i - 1) c.args.terms.now) c.args.value.now),
        wrapped_eq
            c.index-terms-i.result c.loop-i.invariant.size,
        c.wrapped-made.ensures.size,
        c.loop-i.invariant.height,
        c.wrapped-made.ensures.height,
      );
      within = omega arith;
    }
