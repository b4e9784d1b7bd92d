use Rattle.runner.specs.Logged.{seen_log}
use Rattle.works_again.proofs.Logs.{logged_values}
use Rattle.fault_causes.proofs.causes.setter_of.Goals as goal

pub setter_within-requires-clause-values : goal.setter_within-requires-clause-values
setter_within-requires-clause-values g c =
    let r = c.requires in
    let m = g.R.Runner.meaning r.0 r.1 in
    let built = c.args.built.now in
    logged_values (m.log built.rest) (seen_log c.in-Some.log) built.tree (c.in-Some.ensures r.0 r.1)
    (g.met.R.Runner.logged r.0 r.1 r.2 r.3.0 built r.3.1)
