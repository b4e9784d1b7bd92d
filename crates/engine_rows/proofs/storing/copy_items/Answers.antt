use Rattle.std.proofs.Common.{rules, ◌≡◌, ◌<◌, ◌+◌, ◌++◌, drop, length, get_or, sym, ap, ◌∙◌}
use Rattle.read_sets.specs.Items.{keys_in, are_once}
use Rattle.rebuild.proofs.Appends.{split_at}
use Rattle.engine_rows.proofs.Copies.{once_new}
use Rattle.engine_rows.proofs.storing.copy_items.Goals as goal

pub push_copy-requires : goal.push_copy-requires
push_copy-requires c =
    let items = c.args.items.now in
    let at = c.loop-item.item-index in
    let item = c.item-item.result in
    let lt : at < length items = search rules in
    let is : item ≡ get_or items at item = search rules in
    once_new c.loop-item.made item (drop (at + 1) items)
    (ap (λ l. are_once (keys_in (c.loop-item.made ++ l))) (sym (split_at items at item lt is))
    ∙ ap (λ l. are_once (keys_in l)) c.loop-item.invariant ∙ c.requires)
