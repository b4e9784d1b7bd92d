use Rattle.std.proofs.Common.{[], ◌∷◌, zero, suc, arith}
use Rattle.std.specs.Str.{IsAscii}
use Rattle.std.proofs.lemmas.Str.{IsUtf8-from_ascii}
use Rattle.written_runner.proofs.action.letter_text.Goals as goal

pub unreachable-requires : goal.unreachable-requires
unreachable-requires c = c.in-Err.ensures.cases.0 (IsUtf8-from_ascii (c.args.letter ∷ []) alone)
  where
    alone : IsAscii (c.args.letter ∷ [])
    alone zero = c.if-letter-ge128.false
    alone (suc i) = omega arith
