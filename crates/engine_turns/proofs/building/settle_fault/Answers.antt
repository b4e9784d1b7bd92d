use Rattle.std.proofs.Common.{refl, ap, ◌∙◌, subst, Err}
use Rattle.read_sets.specs.Items.{pairs_of}
use Rattle.engine_turns.specs.Entering.{wanted, IsEntered}
use Rattle.engine_turns.specs.Places.{names}
use Rattle.engine_turns.specs.Turning.{moved_turn}
use Rattle.engine_turns.proofs.Readies.{stays_on}
use Rattle.engine_turns.proofs.Entered.{ready_entered, top_entered, cause_entered, settled_entered}
use Rattle.engine_turns.proofs.building.settle_fault.Goals as goal

pub returns-clause-state : goal.returns-clause-state
returns-clause-state g c =
    let old = c.args.core.now in
    let new = record old { rows = c.enter_all.new.rows } in
    let is = subst (λ es. IsEntered es old.rows.items c.enter_all.new.rows.items)
    (c.in_ok-entries.ensures
    ∙ (λ i. wanted (names (c.deref.ensures.value i)) (pairs_of (c.items.ensures.items i))))
    c.enter_all.ensures in
    c.end_fault.ensures.state
    ∙ ap (λ y. moved_turn new y (pairs_of c.args.reads) (Err c.args.fault))
    (cause_entered old new refl (pairs_of c.args.reads) is c.args.differs)
    ∙ settled_entered old new refl (pairs_of c.args.reads) is _ (Err c.args.fault)

pub returns-clause-ready : goal.returns-clause-ready
returns-clause-ready g c =
    let old = c.args.core.now in
    let new = record old { rows = c.enter_all.new.rows } in
    stays_on old new c.end_fault.new.core (ready_entered old new refl c.enter_all.ensures.bare
    c.requires.ready) c.end_fault.ensures.ready

pub end_fault-requires-clause-ready : goal.end_fault-requires-clause-ready
end_fault-requires-clause-ready g c =
    let old = c.args.core.now in
    (ready_entered old (record old { rows = c.enter_all.new.rows }) refl c.enter_all.ensures.bare
    c.requires.ready).ready

pub end_fault-requires-clause-top : goal.end_fault-requires-clause-top
end_fault-requires-clause-top g c =
    let old = c.args.core.now in
    top_entered old (record old { rows = c.enter_all.new.rows }) refl c.enter_all.ensures.bare
    c.args.at c.requires.top
