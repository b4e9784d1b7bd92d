use Rattle.std.proofs.Common.{◌≡◌, drop}
use Rattle.object_names.specs.Objects.{first_there}
use Rattle.object_names.proofs.first_there.Given as goal

abbrev pub invariant-loop-name : goal.invariant-loop-name
invariant-loop-name l = first_there l.picture (drop l.name-index l.names)
    ≡ first_there l.picture l.names
