use Rattle.std.proofs.Common.{◌≡◌, drop}
use Rattle.serde_json.specs.View.{items_view, members_view}
use Rattle.builtins_code.specs.Json.{items_are_keys, members_are_keys}
use Rattle.builtins_code.proofs.json_reading.+keys.Given as goal

abbrev pub invariant-items_are_keys-loop-item : goal.invariant-items_are_keys-loop-item
invariant-items_are_keys-loop-item l =
    items_are_keys (items_view (drop l.item-index l.item-items))
    ≡ items_are_keys (items_view l.item-items)

abbrev pub invariant-members_are_keys-loop-name : goal.invariant-members_are_keys-loop-name
invariant-members_are_keys-loop-name l =
    members_are_keys (members_view l.name-iterator)
    ≡ members_are_keys (members_view l.members.entries)
