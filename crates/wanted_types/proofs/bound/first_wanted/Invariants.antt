use Rattle.std.proofs.Common.{◌≡◌, drop}
use Rattle.type_defs.specs.BindingsSeen.{bounds_seen}
use Rattle.wanted_types.specs.Wanted.{first_wanted}
use Rattle.wanted_types.proofs.bound.first_wanted.Given as goal

abbrev pub invariant-loop-bound : goal.invariant-loop-bound
invariant-loop-bound l =
    first_wanted l.terms (bounds_seen (drop l.bound-index l.bounds))
    ≡ first_wanted l.terms (bounds_seen l.bounds)
