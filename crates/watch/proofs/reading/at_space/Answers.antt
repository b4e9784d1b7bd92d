use Rattle.std.proofs.Common.{sym}
use Rattle.watch.proofs.Orders.{after_none, after_some, before_none, before_some}
use Rattle.watch.proofs.reading.at_space.Goals as goal

pub returns-in-Some-clause-before : goal.returns-in-Some-clause-before
returns-in-Some-clause-before c = before_some c.args.words.now c.in-Some.at (sym c.in-Some.ensures)

pub returns-in-Some-clause-after : goal.returns-in-Some-clause-after
returns-in-Some-clause-after c = after_some c.args.words.now c.in-Some.at (sym c.in-Some.ensures)

pub returns-in-None-clause-before : goal.returns-in-None-clause-before
returns-in-None-clause-before c = before_none c.args.words.now (sym c.in-None.ensures)

pub returns-in-None-clause-after : goal.returns-in-None-clause-after
returns-in-None-clause-after c = after_none c.args.words.now (sym c.in-None.ensures)
