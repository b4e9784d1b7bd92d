use Rattle.type_defs.specs.BindingsSeen.{bounds_seen}
use Rattle.defaults.specs.Fills.{store}
use Rattle.defaults.proofs.Replays.{fill_replays}
use Rattle.defaults.proofs.whole.fill.Goals as goal

pub returns-clause-replays : goal.returns-clause-replays
returns-clause-replays g c log =
    fill_replays c.fill_tree.result (bounds_seen c.bounds.result.now)
    (store c.args.tree.now c.args.log.now) (store c.fill_tree.new.tree c.fill_tree.new.log)
    c.args.work.now c.fill_tree.new.work c.fill_tree.ensures.fills log
