use Rattle.std.proofs.Common.{◌≡◌, ◌≤◌, ◌-◌, drop, length}
use Rattle.assign_rules.specs.Places.{place_from}
use Rattle.assign_rules.proofs.variables.place_of.Given as goal

abbrev pub invariant-places : goal.invariant-places
invariant-places l = (place_from l.name l.i (drop l.i l.entries) ≡ place_from l.name 0 l.entries)
    × (l.i ≤ length l.entries)

abbrev pub decreases-places : goal.decreases-places
decreases-places l = length l.entries - l.i
