use Rattle.std.proofs.Common.{◌≡◌, rules}
use Rattle.outside.specs.Causes.{Rose}
use Rattle.scans.specs.Outcomes.{IsScan, IsPassed}
use Rattle.std.specs.Prelude.{None}
use Rattle.engine_session.specs.Compiler.{compiler}
use Rattle.engine_session.specs.Standing.{counts}
use Rattle.engine_session.proofs.Scanning.{at_passed, next_taken, take_cut, next_too_much, next_failed, scan_cut, if_ok_both, on_err_is}
use Rattle.engine_session.proofs.taking.take_next.Goals as goal

pub returns-in-Ok-clause-took : goal.returns-in-Ok-clause-took
returns-in-Ok-clause-took g c =
    λ begun. if_ok_both c.take.result c.take.ensures.source (c.take.ensures.took begun)
    (λ how not_failed took dirs limits s start at told.
    let machine = compiler (g.R.Runner.meaning dirs limits) dirs in
    let old = c.args.works.now.engine.core in
    let mid = counts (g.R.Runner.runs_of c.args.works.now.runner) c.args.steps.now in
    let now = counts (g.R.Runner.runs_of c.take.new.works.runner) c.take.new.steps in
    next_taken machine dirs limits s old c.take.new.works.engine.core start mid now
    (g.S.Source.coming c.args.source.now) (g.S.Source.coming c.scan.new.source) _ _
    c.in-Ok.picture told c.in-Ok.ensures.ok c.in-Ok.ensures.taken how not_failed
    c.in-Ok.ensures.cause.done (took dirs limits _ start
    (at_passed machine dirs limits s old old start mid mid (g.S.Source.coming c.args.source.now)
    (g.S.Source.coming c.args.source.now) 0 0 at)))

pub returns-in-Ok-clause-cut : goal.returns-in-Ok-clause-cut
returns-in-Ok-clause-cut g c = on_err_is c.take.result (λ dirs limits s start at told next rising.
    let machine = compiler (g.R.Runner.meaning dirs limits) dirs in
    let old = c.args.works.now.engine.core in
    take_cut machine dirs limits s old c.take.new.works.engine.core start
    (counts (g.R.Runner.runs_of c.args.works.now.runner) c.args.steps.now)
    (counts (g.R.Runner.runs_of c.take.new.works.runner) c.take.new.steps)
    (g.S.Source.coming c.args.source.now) (g.S.Source.coming c.scan.new.source) 0 0
    c.in-Ok.picture told c.in-Ok.ensures.ok c.in-Ok.ensures.taken at c.take.ensures.runs
    c.take.ensures.steps next rising)

pub returns-in-Err-TooMuch-clause-took : goal.returns-in-Err-TooMuch-clause-took
returns-in-Err-TooMuch-clause-took g c = λ begun dirs limits s start at told.
    let machine = compiler (g.R.Runner.meaning dirs limits) dirs in
    let core = c.args.works.now.engine.core in
    let now = counts (g.R.Runner.runs_of c.args.works.now.runner) c.args.steps.now in
    let scan : IsScan (g.S.Source.coming c.args.source.now) None = search rules in
    let passes : IsPassed (g.S.Source.coming c.args.source.now)
    (g.S.Source.coming c.scan.new.source) = search rules in
    let same : g.S.Source.fault_count c.scan.new.source ≡ g.S.Source.fault_count c.args.source.now =
    search rules in
    next_too_much machine dirs limits s core core start now now
    (g.S.Source.coming c.args.source.now) (g.S.Source.coming c.scan.new.source)
    (g.S.Source.fault_count c.args.source.now) (g.S.Source.fault_count c.scan.new.source) told
    scan passes same at

pub returns-in-Err-Fault-clause-took : goal.returns-in-Err-Fault-clause-took
returns-in-Err-Fault-clause-took g c = λ begun dirs limits s start at told.
    let machine = compiler (g.R.Runner.meaning dirs limits) dirs in
    let core = c.args.works.now.engine.core in
    let now = counts (g.R.Runner.runs_of c.args.works.now.runner) c.args.steps.now in
    let rose : Rose (g.S.Source.fault_count c.args.source.now)
    (g.S.Source.fault_count c.scan.new.source) = search rules in
    next_failed machine dirs limits s core core start now now (g.S.Source.coming c.args.source.now)
    (g.S.Source.coming c.scan.new.source) (g.S.Source.fault_count c.args.source.now)
    (g.S.Source.fault_count c.scan.new.source) told c.in-Err-Fault.ensures.err rose
    c.in-Err-Fault.ensures.cause.once at

pub returns-in-Err-Memory-clause-cut : goal.returns-in-Err-Memory-clause-cut
returns-in-Err-Memory-clause-cut g c = λ dirs limits s start at told next rising.
    let machine = compiler (g.R.Runner.meaning dirs limits) dirs in
    let core = c.args.works.now.engine.core in
    let now = counts (g.R.Runner.runs_of c.args.works.now.runner) c.args.steps.now in
    scan_cut machine dirs limits s core core start now now (g.S.Source.coming c.args.source.now)
    (g.S.Source.coming c.scan.new.source) 0 0 at next rising

-- nothing was taken
pub returns-in-Err-TooMuch-clause-begun : goal.returns-in-Err-TooMuch-clause-begun
returns-in-Err-TooMuch-clause-begun g c = λ begun e. absurd cc

pub returns-in-Err-Fault-clause-begun : goal.returns-in-Err-Fault-clause-begun
returns-in-Err-Fault-clause-begun g c = λ begun e. absurd cc
