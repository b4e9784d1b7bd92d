use Rattle.std.proofs.Common.{◌≡◌, ◌++◌, take}
use Rattle.std.specs.List.{flat_map}
use Rattle.wanted_types.specs.Words.{later_names}
use Rattle.wanted_types.proofs.words.push_later.Given as goal

abbrev pub invariant-loop-text : goal.invariant-loop-text
invariant-loop-text l =
    l.into.items ≡ l.initial.into.items ++ flat_map later_names (take l.text-index l.texts)
