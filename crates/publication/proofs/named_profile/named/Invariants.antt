use Rattle.std.proofs.Common.{◌≡◌, take}
use Rattle.publication.proofs.named_profile.named.Given as goal

abbrev pub invariant-loop-profile : goal.invariant-loop-profile
invariant-loop-profile l = l.made.items ≡ take l.profile-index l.profiles
