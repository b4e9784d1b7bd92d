use Rattle.demo.proofs.Lasting.{begins}
use Rattle.demo.proofs.report.last_line.Goals as goal

pub loop-i-init : goal.loop-i-init
loop-i-init c = begins c.args.text.now
