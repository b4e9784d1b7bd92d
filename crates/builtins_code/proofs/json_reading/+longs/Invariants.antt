use Rattle.std.proofs.Common.{◌≡◌, drop}
use Rattle.serde_json.specs.View.{items_view, members_view}
use Rattle.builtins_code.specs.Json.{items_are_longs, members_are_longs}
use Rattle.builtins_code.proofs.json_reading.+longs.Given as goal

abbrev pub invariant-items_are_longs-loop-item : goal.invariant-items_are_longs-loop-item
invariant-items_are_longs-loop-item l =
    items_are_longs (items_view (drop l.item-index l.item-items))
    ≡ items_are_longs (items_view l.item-items)

abbrev pub invariant-members_are_longs-loop-member : goal.invariant-members_are_longs-loop-member
invariant-members_are_longs-loop-member l =
    members_are_longs (members_view l.member-iterator)
    ≡ members_are_longs (members_view l.members.entries)
