use Rattle.std.proofs.Common.{◌≡◌, ◌++◌, take}
use Rattle.std.specs.Prelude.{flat_map}
use Rattle.session.specs.Texts.{fault_line}
use Rattle.session.proofs.texts.push_faults.Given as goal

abbrev pub invariant-loop-answer : goal.invariant-loop-answer
invariant-loop-answer l =
    l.text.items ≡ l.fn.text.items ++ flat_map fault_line (take l.answer-index l.answers)
