use Rattle.std.proofs.Common.{arith}
use Rattle.path_tree.proofs.Entries.{item_count_of}
use Rattle.path_tree.proofs.Plans.{field_added, field_changed, item_added, item_changed, found_within, item_within, past_end}
use Rattle.path_tree.proofs.tree.+plan.Goals as goal

pub planning::plan_field-grown-requires-in-Some-clause-before
    : goal.planning::plan_field-grown-requires-in-Some-clause-before
planning::plan_field-grown-requires-in-Some-clause-before t c =
    omega (
      arith,
      c.size-in-Some.ensures.size,
      c.size-in-Some-2.ensures.size,
      found_within _ _ _ _
          c.requires.tree c.in-Some.ensures,
    )

pub planning::plan_field-returns-in-None : goal.planning::plan_field-returns-in-None
planning::plan_field-returns-in-None t c =
    field_added _ _ _ _ _ _ c.requires.tree c.in-None.ensures _ _ _ c.size.ensures.size
    c.plan_made.ensures c.grown.ensures

pub planning::plan_field-returns-in-Some : goal.planning::plan_field-returns-in-Some
planning::plan_field-returns-in-Some t c =
    field_changed _ _ _ _ _ _ _ c.requires.tree c.in-Some.ensures _ _ _ _
    c.size-in-Some.ensures.size c.size-in-Some-2.ensures.size c.plan.ensures c.grown-in-Some.ensures

pub planning::plan_item-overflow_sub-filled : goal.planning::plan_item-overflow_sub-filled
planning::plan_item-overflow_sub-filled t c =
    past_end c.args.index c.args.items.now c.in-None.ensures

pub planning::plan_item-grown-requires-in-Some-clause-before
    : goal.planning::plan_item-grown-requires-in-Some-clause-before
planning::plan_item-grown-requires-in-Some-clause-before t c =
    omega (
      arith,
      c.size-in-Some.ensures.size,
      c.size-in-Some-2.ensures.size,
      item_within _ _ _ _
          c.requires.tree c.in-Some.ensures,
    )

pub planning::plan_item-returns-in-None : goal.planning::plan_item-returns-in-None
planning::plan_item-returns-in-None t c =
    item_added _ _ _ _ _ _ c.requires.tree c.in-None.ensures _ _ _
    (omega (arith, c.size.ensures.size, item_count_of c.args.items.now)) c.plan_made.ensures
    c.grown.ensures

pub planning::plan_item-returns-in-Some : goal.planning::plan_item-returns-in-Some
planning::plan_item-returns-in-Some t c =
    item_changed _ _ _ _ _ _ _ c.requires.tree c.in-Some.ensures _ _ _ _ c.size-in-Some.ensures.size
    c.size-in-Some-2.ensures.size c.plan.ensures c.grown-in-Some.ensures
