use Rattle.std.proofs.Common.{rules, arith, ◌≡◌, ◌+◌, ◌++◌, ◌∷◌, [], take}
use Rattle.std.proofs.lemmas.Grind.{common_steps}
use Rattle.fault_notes.specs.Lines.{fault_in}
use Rattle.fault_notes.proofs.Once.{added}
use Rattle.fault_notes.proofs.report.faults_of.Goals as goal

pub loop-line-preserved : goal.loop-line-preserved
loop-line-preserved c =
    let more : take (c.loop-line.line-index + 1) c.args.lines.now
    ≡ take c.loop-line.line-index c.args.lines.now ++ (c.line-item.result ∷ []) =
    grind (arith, common_steps, c.line-item.is, c.loop-line-test.true) in
    let found : c.fault_in.result.now ≡ fault_in c.line-item.result = search rules in
    added (take c.loop-line.line-index c.args.lines.now)
    (take (c.loop-line.line-index + 1) c.args.lines.now) c.line-item.result
    c.fault_in.result.now c.loop-line.faults.items c.add_fault.new.faults.items more found
    c.loop-line.invariant c.in_ok-add_fault.ensures

pub returns : goal.returns
returns c = grind (arith, common_steps)
