use Rattle.fault_causes.proofs.setters.+setter_within.Given as goal

abbrev pub decreases-setter_within : goal.decreases-setter_within
decreases-setter_within l = l.count
