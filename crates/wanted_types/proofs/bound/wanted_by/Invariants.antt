use Rattle.std.proofs.Common.{◌≡◌, drop}
use Rattle.type_defs.specs.BindingsSeen.{bounds_seen}
use Rattle.wanted_types.specs.Wanted.{wanted_by}
use Rattle.wanted_types.proofs.bound.wanted_by.Given as goal

abbrev pub invariant-loop-bound : goal.invariant-loop-bound
invariant-loop-bound l =
    wanted_by l.place l.terms (bounds_seen (drop l.bound-index l.bounds))
    ≡ wanted_by l.place l.terms (bounds_seen l.bounds)
