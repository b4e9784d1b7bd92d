use Rattle.std.proofs.Common.{◌∙◌, ap, sym, arith}
use Rattle.questions.specs.Run.{Outcome, Failed}
use Rattle.defaults.specs.Fills.{store}
use Rattle.dml_world.specs.Seen.{meter}
use Rattle.runner.specs.declared.ends.Built.{Built}
use Rattle.template_meaning.specs.Program.{Program}
use Rattle.object_meaning.specs.Rest.{Rest}
use Rattle.object_meaning.specs.Builds.{with_store, rest_of}
use Rattle.plain_statements.specs.Seen.{program_of}
use Rattle.object_run.proofs.Filling.{filled_done, filled_failed, filled_left}
use Rattle.object_run.proofs.building.filled.Goals as goal

pub returns-in-Err-Fault-clause-gives : goal.returns-in-Err-Fault-clause-gives
returns-in-Err-Fault-clause-gives g c = λ told asked.
    let after = meter c.fill.new.work asked in
    let failed = filled_failed told (program_of c.args.program) (meter c.args.work.now asked) after
    _ _ _ c.into_parts-tree.ensures.tree c.into_parts-tree.ensures.log
    (rw c.in-Err-Fault.field-0-is at (c.in-Err-Fault.ensures.fills told asked)) in
    failed ∙ ap {B = Outcome Program (Unit {0})} (λ f. Failed f after)
    (sym c.in_ok-new-in-Err-Fault.ensures.ok)

pub returns-clause-gives : goal.returns-clause-gives
returns-clause-gives g c = λ told asked.
    let after = meter c.fill.new.work asked in
    let program = program_of c.args.program in
    let filled = store c.fill.new.tree c.fill.new.log in (
      with_store program filled,
      filled_done told program (meter c.args.work.now asked) after _ _ filled
          c.into_parts-tree.ensures.tree c.into_parts-tree.ensures.log
          (c.in-Ok.ensures.fills told asked),
      ap {B = Built Rest} (λ o. record {
        object = o;
        tree = c.fill.new.tree;
        rest =
            rest_of c.args.header (with_store program filled);
      }) c.in_ok-share.ensures,
    )

pub returns-in_err-new-in-Err-Fault-clause-gives : goal.returns-in_err-new-in-Err-Fault-clause-gives
returns-in_err-new-in-Err-Fault-clause-gives g c = λ told asked.
    let after = meter c.fill.new.work asked in
    let failed = filled_failed told (program_of c.args.program) (meter c.args.work.now asked) after
    _ _ _ c.into_parts-tree.ensures.tree c.into_parts-tree.ensures.log
    (rw c.in-Err-Fault.field-0-is at (c.in-Err-Fault.ensures.fills told asked)) in
    grind (arith, failed)

pub returns-in-Err-Memory-clause-gives : goal.returns-in-Err-Memory-clause-gives
returns-in-Err-Memory-clause-gives g c = λ told asked.
    filled_left told (program_of c.args.program) (meter c.args.work.now asked)
    (meter c.fill.new.work asked) _ _ c.into_parts-tree.ensures.tree
    c.into_parts-tree.ensures.log (rw c.in-Err-Memory.field-0-is at
    (c.in-Err-Memory.ensures.fills told asked))

pub returns-in_err-share-clause-gives : goal.returns-in_err-share-clause-gives
returns-in_err-share-clause-gives g c = λ told asked.
    let after = meter c.fill.new.work asked in
    let done = filled_done told (program_of c.args.program) (meter c.args.work.now asked) after _ _
    (store c.fill.new.tree c.fill.new.log) c.into_parts-tree.ensures.tree
    c.into_parts-tree.ensures.log (c.in-Ok.ensures.fills told asked) in
    grind (arith, done)
