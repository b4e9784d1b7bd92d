use Rattle.std.proofs.Common.{ap, sym, ◌∙◌}
use Rattle.read_sets.specs.Items.{pairs_of}
use Rattle.rebuild.specs.Answers.{fault, pending, no_object}
use Rattle.rebuild.specs.Engines.{objects_of, situation_of}
use Rattle.session.specs.declared.Shown.TheVariants.{Settled}
use Rattle.engine_session.proofs.Said.{dep_at, shown_read, shown_else, unread}
use Rattle.engine_session.proofs.KeptTrees.{texts_added, texts_serve}
use Rattle.engine_session.proofs.Numbered.{number_low, numbered}
use Rattle.engine_session.proofs.answering.shown_by.Goals as goal

-- a faithful engine has read what a profile is made of
pub returns-in_default-clause-said : goal.returns-in_default-clause-said
returns-in_default-clause-said g c = λ both. absurd (
    let f = both.faithful in
    let engine = c.args.works.now.engine in
    unread g.R.Runner.meaning engine.core f.kept g.met.R.Runner.laws engine.ready f.sound.reached
    c.args.name.now c.in-Profile.tree.now (c.in-Profile.ensures.scratch f.sound)
    c.in_default.ensures.exact)

pub returns-in_ok-fault_outcome-in-Fault-clause-said :
    goal.returns-in_ok-fault_outcome-in-Fault-clause-said
returns-in_ok-fault_outcome-in-Fault-clause-said g c = λ both.
    let f = both.faithful in
    let core = c.args.works.now.engine.core in
    ap Settled (c.in_ok-fault_outcome-in-Fault.ensures
    (dep_at g.R.Runner.meaning core f.kept (objects_of core) c.args.name.now))
    ∙ shown_else g.R.Runner.meaning core f.kept c.args.name.now (fault c.in-Fault.fault.now)
    (c.in-Fault.ensures.scratch f.sound)

pub returns-in-Pending-clause-said : goal.returns-in-Pending-clause-said
returns-in-Pending-clause-said g c =
    λ both. shown_else g.R.Runner.meaning c.args.works.now.engine.core both.faithful.kept
    c.args.name.now pending
    (c.in-Pending.ensures.scratch both.faithful.sound)

pub returns-in-NoObject-clause-said : goal.returns-in-NoObject-clause-said
returns-in-NoObject-clause-said g c =
    λ both. shown_else g.R.Runner.meaning c.args.works.now.engine.core both.faithful.kept
    c.args.name.now no_object
    (c.in-NoObject.ensures.scratch both.faithful.sound)

-- its number is that of its tree, and was drawn
pub returns-in_ok-outcome-in-Profile-clause-said : goal.returns-in_ok-outcome-in-Profile-clause-said
returns-in_ok-outcome-in-Profile-clause-said g c = λ both.
    let f = both.faithful in
    let engine = c.args.works.now.engine in
    let x = situation_of engine.core in
    let last = numbered x c.args.name.now c.in-Profile.tree.now c.in-Some-number_of.number
    c.in-Profile.ensures.exact c.in-Some-number_of.ensures in
    shown_read g.R.Runner.meaning engine.core f.kept g.met.R.Runner.laws engine.ready
    f.sound.reached c.args.name.now _ c.in-Profile.tree.now (pairs_of c.in-Some.reads.build.now)
    (pairs_of c.in-Some.reads.check.now) (c.in_ok-outcome-in-Profile.ensures.outcome
    (texts_serve x c.args.name.now c.in-Some-number_of.number c.in-Profile.tree.now last _
    both.texts.before)) (c.in-Profile.ensures.scratch f.sound) c.in-Some.ensures.exact

-- the texts that are kept are those of the trees
pub returns-in_ok-outcome-in-Profile-clause-texts :
    goal.returns-in_ok-outcome-in-Profile-clause-texts
returns-in_ok-outcome-in-Profile-clause-texts g c = λ both.
    let core = c.args.works.now.engine.core in
    let x = situation_of core in
    let name = c.args.name.now in
    let tree = c.in-Profile.tree.now in
    let number = c.in-Some-number_of.number in
    let last = numbered x name tree number c.in-Profile.ensures.exact
    c.in-Some-number_of.ensures in
    let low = number_low g.R.Runner.meaning core (c.in-Some.ensures.scratch both.faithful.sound)
    name number _ last in
    texts_added x name number tree low last c.args.texts.now c.outcome.new.self
    c.outcome.ensures.before
    (c.in_ok-outcome-in-Profile.ensures.entries (texts_serve x name number tree last _
    both.texts.before)) both.texts
