use Rattle.path_tree.proofs.Listing.{gives_same, pushed_front_is}
use Rattle.path_tree.proofs.tree.lists.push_front.Goals as goal

pub returns-clause-gives : goal.returns-clause-gives
returns-clause-gives c =
    gives_same _ c.insert.result (pushed_front_is c.args.value c.args.list.now.value.items.items)
    c.insert.ensures.gives
