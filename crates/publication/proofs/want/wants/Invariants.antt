use Rattle.std.proofs.Common.{◌≡◌, ◌++◌, drop}
use Rattle.publication.specs.Wants.{wants_of}
use Rattle.publication.proofs.want.wants.Given as goal

abbrev pub invariant-loop-profile : goal.invariant-loop-profile
invariant-loop-profile l =
    l.made.items ++ wants_of (drop l.profile-index l.profiles) ≡ wants_of l.profiles
