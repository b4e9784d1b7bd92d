use Rattle.std.proofs.Common.{rules, ap, ◌∙◌}
use Rattle.outside.specs.FaultLines.{Kept}
use Rattle.outside.proofs.LineEnds.{ends}
use Rattle.outside.proofs.fault_lines.FaultLines.end_line.Goals as goal

pub returns : goal.returns
returns c = λ text keeps. ends text c.args.self.now _
    (ap (λ (k : Kept). k.lines) c.self.view_is ∙ c.in_ok-keep_line.ensures.lines) (search rules)
    keeps
