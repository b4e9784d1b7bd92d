use Rattle.std.proofs.Common.{◌≡◌, ◌+◌, drop}
use Rattle.builtins_text.specs.Formats.{digit_count}
use Rattle.builtins_text.proofs.forms.digit_count.Given as goal

abbrev pub invariant-loop-i : goal.invariant-loop-i
invariant-loop-i l = digit_count l.bytes ≡ l.i + digit_count (drop l.i l.bytes)
