use Rattle.std.proofs.Common.{rules, ◌≡◌, length}
use Rattle.path_tree.proofs.Listing.{gives_same, pushed_is}
use Rattle.path_tree.proofs.tree.lists.push.Goals as goal

pub returns-clause-gives : goal.returns-clause-gives
returns-clause-gives c =
    let end : c.len-end.result ≡ length c.args.list.now.value.items.items = search rules in
    gives_same _ c.insert.result (pushed_is c.args.value c.args.list.now.value.items.items
    c.len-end.result end) c.insert.ensures.gives
