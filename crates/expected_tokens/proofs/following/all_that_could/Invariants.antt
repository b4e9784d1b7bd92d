use Rattle.std.proofs.Common.{◌≡◌, take}
use Rattle.expected_tokens.specs.Following.{CouldFollow, IsSifted}
use Rattle.expected_tokens.proofs.following.all_that_could.Given as goal

abbrev pub invariant-loop-candidate : goal.invariant-loop-candidate
invariant-loop-candidate l = (l.tokens.items ≡ l.fn.tokens.items)
    × IsSifted (CouldFollow l.fn.tokens.items l.place) (take l.candidate-index l.candidates)
    l.found.items
