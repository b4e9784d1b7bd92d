use Rattle.std.proofs.Common.{◌≤◌, rules, arith}
use Rattle.path_tree.specs.Plain.{tree_size, fields_size, items_size}
use Rattle.path_tree.specs.View.{fields_of, items_of}
use Rattle.path_tree.proofs.Sames.{fields_lengths, items_lengths, entry_below, item_below, is_false}
use Rattle.path_tree.proofs.tree.+same.Goals as goal

pub comparing::same_entries-returns-then-first-second : goal.comparing::same_entries-returns-then-first-second
comparing::same_entries-returns-then-first-second t c =
    is_false (λ h. c.if-first-second.true (fields_lengths c.args.first.now c.args.second.now h))

pub comparing::same_items-returns-then-first-second : goal.comparing::same_items-returns-then-first-second
comparing::same_items-returns-then-first-second t c =
    is_false (λ h. c.if-first-second.true (items_lengths c.args.first.now c.args.second.now h))

pub comparing::same_entries-same_entry-requires : goal.comparing::same_entries-same_entry-requires
comparing::same_entries-same_entry-requires t c =
    let h : tree_size c.index-first-i.result.value ≤ fields_size (fields_of c.args.first.now) =
    entry_below c.args.first.now c.loop-i.i c.index-first-i.result (omega arith)
    c.index-first-i.is in
    (search rules, tt)

pub comparing::same_items-equals-requires : goal.comparing::same_items-equals-requires
comparing::same_items-equals-requires t c =
    let h : tree_size c.index-first-i.result ≤ items_size (items_of c.args.first.now) =
    item_below c.args.first.now c.loop-i.i c.index-first-i.result (omega arith)
    c.index-first-i.is in
    (search rules, tt)
