use Rattle.std.proofs.Common.{[], refl, subst}
use Rattle.rebuild.specs.Engines.{turns_left_of}
use Rattle.publication.proofs.Planning.{on_err}
use Rattle.publication.specs.declared.answer.Publication.TheVariants as publication
use Rattle.session.specs.Sessions.{NotSaved, built}
use Rattle.engine_session.specs.Standing.{counts, HasSpentAtMost, MakesTurns, TakesNext}
use Rattle.site_build.specs.Rounds.{Reaches}
use Rattle.site_build.specs.Session.{limits_of, state_from}
use Rattle.site_build.specs.declared.building.Reached.TheVariants as reached
use Rattle.site_build.proofs.Settling.{if_told, m, first, at_end, end_rises, build_rises, at_first, reaches_spent, reaches_too_much, cut_failed, cut_turning, reaches_all, reaches_none}
use Rattle.site_build.proofs.building.settle.Goals as goal

pub returns-in_err-take_next-clause-cut : goal.returns-in_err-take_next-clause-cut
returns-in_err-take_next-clause-cut g c =
    let M = g.R.Runner.meaning in
    let before = counts (g.R.Runner.runs_of c.args.works.now.runner) c.args.steps.now in
    let now = counts (g.R.Runner.runs_of c.take_next.new.works.runner) c.take_next.new.steps in
    λ begun. on_err c.from_residual.result (λ work e is. if_told
    (λ ps. HasSpentAtMost (state_from M e work ps) before now)
    (g.S.Source.coming c.args.source.now) (λ ps told. c.in_err-take_next.ensures.cut
    work.directories (limits_of work) (first M e work ps) before
    (at_first M e work ps c.args.works.now.engine.core before is) told
    (built (m M e work ps) (publication.Done []) NotSaved) (build_rises M e work ps)))

pub returns-in-Failed-clause-cut : goal.returns-in-Failed-clause-cut
returns-in-Failed-clause-cut g c =
    let M = g.R.Runner.meaning in
    let before = counts (g.R.Runner.runs_of c.args.works.now.runner) c.args.steps.now in
    let now = counts (g.R.Runner.runs_of c.take_next.new.works.runner) c.take_next.new.steps in
    let coming' = g.S.Source.coming c.take_next.new.source in
    let faults = g.S.Source.fault_count c.args.source.now in
    let faults' = g.S.Source.fault_count c.take_next.new.source in
    λ begun work e is. if_told (λ ps. HasSpentAtMost (state_from M e work ps) before now)
    (g.S.Source.coming c.args.source.now) (λ ps told. cut_failed M e work ps
    c.take_next.new.works.engine.core before now coming' faults faults'
    (subst (λ how. TakesNext (m M e work ps) work.directories (limits_of work)
    (first M e work ps) how c.take_next.new.works.engine.core before now coming' faults faults')
    c.in-Failed.is (c.in_ok-take_next.ensures.took begun work.directories (limits_of work)
    (first M e work ps) before (at_first M e work ps c.args.works.now.engine.core before is)
    told)))

pub returns-in-SpendsNumbers-clause-ok : goal.returns-in-SpendsNumbers-clause-ok
returns-in-SpendsNumbers-clause-ok g c =
    let M = g.R.Runner.meaning in
    let before = counts (g.R.Runner.runs_of c.args.works.now.runner) c.args.steps.now in
    let now = counts (g.R.Runner.runs_of c.take_next.new.works.runner) c.take_next.new.steps in
    let coming' = g.S.Source.coming c.take_next.new.source in
    let faults = g.S.Source.fault_count c.args.source.now in
    let faults' = g.S.Source.fault_count c.take_next.new.source in
    λ begun work e is. if_told (λ ps. Reaches M e work reached.NumbersSpent ps
    c.take_next.new.works.engine.core before now) (g.S.Source.coming c.args.source.now)
    (λ ps told. reaches_spent M e work ps c.take_next.new.works.engine.core before now coming'
    faults faults' (subst (λ how. TakesNext (m M e work ps) work.directories (limits_of work)
    (first M e work ps) how c.take_next.new.works.engine.core before now coming' faults faults')
    c.in-SpendsNumbers.is (c.in_ok-take_next.ensures.took begun work.directories
    (limits_of work) (first M e work ps) before (at_first M e work ps
    c.args.works.now.engine.core before is) told)))

pub returns-in-IsTooMuch-clause-ok : goal.returns-in-IsTooMuch-clause-ok
returns-in-IsTooMuch-clause-ok g c =
    let M = g.R.Runner.meaning in
    let before = counts (g.R.Runner.runs_of c.args.works.now.runner) c.args.steps.now in
    let now = counts (g.R.Runner.runs_of c.take_next.new.works.runner) c.take_next.new.steps in
    let coming' = g.S.Source.coming c.take_next.new.source in
    let faults = g.S.Source.fault_count c.args.source.now in
    let faults' = g.S.Source.fault_count c.take_next.new.source in
    λ begun work e is. if_told (λ ps. Reaches M e work reached.TooMuch ps
    c.take_next.new.works.engine.core before now) (g.S.Source.coming c.args.source.now)
    (λ ps told. reaches_too_much M e work ps c.take_next.new.works.engine.core before now
    coming' faults faults' (subst (λ how. TakesNext (m M e work ps) work.directories
    (limits_of work) (first M e work ps) how c.take_next.new.works.engine.core before now
    coming' faults faults') c.in-IsTooMuch.is (c.in_ok-take_next.ensures.took begun
    work.directories (limits_of work) (first M e work ps) before
    (at_first M e work ps c.args.works.now.engine.core before is) told)))

pub returns-in_err-make_all_turns-clause-cut : goal.returns-in_err-make_all_turns-clause-cut
returns-in_err-make_all_turns-clause-cut g c =
    let M = g.R.Runner.meaning in
    let before = counts (g.R.Runner.runs_of c.args.works.now.runner) c.args.steps.now in
    let mid = counts (g.R.Runner.runs_of c.take_next.new.works.runner) c.take_next.new.steps in
    let now = counts (g.R.Runner.runs_of c.make_all_turns.new.works.runner)
    c.make_all_turns.new.steps in
    let coming' = g.S.Source.coming c.take_next.new.source in
    let faults = g.S.Source.fault_count c.args.source.now in
    let faults' = g.S.Source.fault_count c.take_next.new.source in
    λ begun. on_err c.from_residual-in_err-make_all_turns.result
    (λ work e is. if_told (λ ps. HasSpentAtMost (state_from M e work ps) before now)
    (g.S.Source.coming c.args.source.now) (λ ps told.
    let t = subst (λ how. TakesNext (m M e work ps) work.directories (limits_of work)
    (first M e work ps) how c.take_next.new.works.engine.core before mid coming' faults faults')
    c.in-Taken.is (c.in_ok-take_next.ensures.took begun work.directories (limits_of work)
    (first M e work ps) before (at_first M e work ps c.args.works.now.engine.core before is)
    told) in
    cut_turning M e work ps c.take_next.new.works.engine.core before mid coming' faults faults' t
    (turns_left_of c.take_next.new.works.engine.core) refl now
    (c.in_err-make_all_turns.ensures.cut (c.in_ok-take_next.ensures.begun begun c.in-Taken.is)
    work.directories (limits_of work) t.state before t.stands (at_end M e work ps)
    (end_rises M e work ps))))

pub returns-then-branch-clause-ok : goal.returns-then-branch-clause-ok
returns-then-branch-clause-ok g c =
    let M = g.R.Runner.meaning in
    let before = counts (g.R.Runner.runs_of c.args.works.now.runner) c.args.steps.now in
    let mid = counts (g.R.Runner.runs_of c.take_next.new.works.runner) c.take_next.new.steps in
    let now = counts (g.R.Runner.runs_of c.make_all_turns.new.works.runner)
    c.make_all_turns.new.steps in
    let coming' = g.S.Source.coming c.take_next.new.source in
    let faults = g.S.Source.fault_count c.args.source.now in
    let faults' = g.S.Source.fault_count c.take_next.new.source in
    λ begun work e is. if_told (λ ps. Reaches M e work reached.All ps
    c.make_all_turns.new.works.engine.core before now) (g.S.Source.coming c.args.source.now)
    (λ ps told.
    let t = subst (λ how. TakesNext (m M e work ps) work.directories (limits_of work)
    (first M e work ps) how c.take_next.new.works.engine.core before mid coming' faults faults')
    c.in-Taken.is (c.in_ok-take_next.ensures.took begun work.directories (limits_of work)
    (first M e work ps) before (at_first M e work ps c.args.works.now.engine.core before is)
    told) in
    reaches_all M e work ps c.take_next.new.works.engine.core before mid coming' faults faults' t
    (turns_left_of c.take_next.new.works.engine.core) refl
    c.make_all_turns.new.works.engine.core now (subst
    (λ all. MakesTurns (m M e work ps) work.directories (limits_of work)
    (turns_left_of c.take_next.new.works.engine.core) t.state all
    c.make_all_turns.new.works.engine.core before now) c.if-branch.true
    (c.in_ok-make_all_turns.ensures.made (c.in_ok-take_next.ensures.begun begun c.in-Taken.is)
    work.directories (limits_of work) t.state before t.stands)))

pub returns-clause-ok : goal.returns-clause-ok
returns-clause-ok g c =
    let M = g.R.Runner.meaning in
    let before = counts (g.R.Runner.runs_of c.args.works.now.runner) c.args.steps.now in
    let mid = counts (g.R.Runner.runs_of c.take_next.new.works.runner) c.take_next.new.steps in
    let now = counts (g.R.Runner.runs_of c.make_all_turns.new.works.runner)
    c.make_all_turns.new.steps in
    let coming' = g.S.Source.coming c.take_next.new.source in
    let faults = g.S.Source.fault_count c.args.source.now in
    let faults' = g.S.Source.fault_count c.take_next.new.source in
    λ begun work e is. if_told (λ ps. Reaches M e work reached.NumbersSpent ps
    c.make_all_turns.new.works.engine.core before now) (g.S.Source.coming c.args.source.now)
    (λ ps told.
    let t = subst (λ how. TakesNext (m M e work ps) work.directories (limits_of work)
    (first M e work ps) how c.take_next.new.works.engine.core before mid coming' faults faults')
    c.in-Taken.is (c.in_ok-take_next.ensures.took begun work.directories (limits_of work)
    (first M e work ps) before (at_first M e work ps c.args.works.now.engine.core before is)
    told) in
    reaches_none M e work ps c.take_next.new.works.engine.core before mid coming' faults faults' t
    (turns_left_of c.take_next.new.works.engine.core) refl
    c.make_all_turns.new.works.engine.core now (subst
    (λ all. MakesTurns (m M e work ps) work.directories (limits_of work)
    (turns_left_of c.take_next.new.works.engine.core) t.state all
    c.make_all_turns.new.works.engine.core before now) c.if-branch.false
    (c.in_ok-make_all_turns.ensures.made (c.in_ok-take_next.ensures.begun begun c.in-Taken.is)
    work.directories (limits_of work) t.state before t.stands)))

-- where all turns were made, the engine is faithful
pub returns-then-branch-clause-faithful : goal.returns-then-branch-clause-faithful
returns-then-branch-clause-faithful g c = λ begun all.
    c.in_ok-make_all_turns.ensures.faithful (c.in_ok-take_next.ensures.begun begun c.in-Taken.is)
