use Rattle.std.proofs.Common.{◌≡◌, ◌+◌, drop}
use Rattle.std.specs.List.{position_or_len}
use Rattle.expected_tokens.specs.Expected.{is_at}
use Rattle.expected_tokens.proofs.expecting.count_before.Given as goal

abbrev pub invariant-loop-token : goal.invariant-loop-token
invariant-loop-token l = (l.count ≡ l.token-index)
    × (l.count + position_or_len (is_at l.place) (drop l.token-index l.tokens)
    ≡ position_or_len (is_at l.place) l.tokens)
