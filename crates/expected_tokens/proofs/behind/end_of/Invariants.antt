use Rattle.std.proofs.Common.{◌≡◌, take}
use Rattle.expected_tokens.specs.Expected.{end_of}
use Rattle.expected_tokens.proofs.behind.end_of.Given as goal

abbrev pub invariant-loop-token : goal.invariant-loop-token
invariant-loop-token l = l.end ≡ end_of (take l.token-index l.tokens)
