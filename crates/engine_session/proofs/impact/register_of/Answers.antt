use Rattle.std.proofs.Common.{◌≡◌, true, ◌∙◌, subst}
use Rattle.engine_laws.specs.Engine.{is_among}
use Rattle.engine_turns.specs.States.{pictured}
use Rattle.rebuild.specs.Engines.{objects_of}
use Rattle.engine_session.proofs.Registered.{registered_more}
use Rattle.engine_session.proofs.Said.{item_among}
use Rattle.engine_session.proofs.impact.register_of.Goals as goal

pub add_object-requires-clause-object : goal.add_object-requires-clause-object
add_object-requires-clause-object g c =
    subst (λ os. is_among c.name-item.result os ≡ true)
    (c.deref-name-items.ensures.value ∙ c.in_ok-names.ensures)
    (item_among c.deref-name-items.result.now c.loop-name.name-index c.name-item.result
    c.loop-name-test.true c.name-item.is)

pub loop-name-preserved : goal.loop-name-preserved
loop-name-preserved g c = λ f.
    let core = c.args.works.now.engine.core in
    registered_more (g.R.Runner.meaning core.dirs core.limits) (pictured core.files.items)
    (objects_of core) c.deref-name-items.result.now c.loop-name.name-index c.name-item.result
    c.loop-name.register c.add_object.new.register c.loop-name-test.true c.name-item.is
    (c.loop-name.invariant f) (c.in_ok-add_object.ensures f)
