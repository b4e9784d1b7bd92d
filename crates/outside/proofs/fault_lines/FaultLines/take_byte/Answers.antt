use Rattle.std.proofs.Common.{rules, ap}
use Rattle.outside.specs.FaultLines.{Kept}
use Rattle.outside.proofs.LineEnds.{goes_on}
use Rattle.outside.proofs.fault_lines.FaultLines.take_byte.Goals as goal

pub returns : goal.returns
returns c = λ text keeps. goes_on text c.args.self.now _ c.args.byte c.if-byte-eq10.false
    (ap (λ (k : Kept). k.lines) c.self.view_is) (search rules) keeps
