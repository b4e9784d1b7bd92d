-- What the checks of a JSON value find, item by item and member by member.
use Rattle.std.proofs.Common.{◌≡◌, ℕ, ◌+◌, ◌<◌, ◌&&◌, List, drop, length, get_or}
use Rattle.std.proofs.lemmas.List.{at_drop_more}
use Rattle.serde_json.specs.View.{view, items_view}
use Rattle.serde_json.specs.declared.value.Value.{Value}
use Rattle.builtins_code.specs.Json.{are_keys, are_longs, items_are_keys, items_are_longs}

-- the items from one on: that one, and those behind it
pub longs_step : (vs : List Value) (i : ℕ) (d : Value) → i < length vs →
    items_are_longs (items_view (drop i vs)) ≡ (are_longs (view (get_or vs i d))
    && items_are_longs (items_view (drop (i + 1) vs)))
longs_step vs i d h = at_drop_more (λ us. items_are_longs (items_view us)) vs i d h

pub keys_step : (vs : List Value) (i : ℕ) (d : Value) → i < length vs →
    items_are_keys (items_view (drop i vs)) ≡ (are_keys (view (get_or vs i d))
    && items_are_keys (items_view (drop (i + 1) vs)))
keys_step vs i d h = at_drop_more (λ us. items_are_keys (items_view us)) vs i d h
