use Rattle.std.proofs.Common.{ap, ◌∙◌}
use Rattle.std.proofs.lemmas.Result.{IfOk-weaker}
use Rattle.engine_turns.specs.Places.{names}
use Rattle.engine_turns.proofs.Once.{rising_once}
use Rattle.rebuild.specs.Answers.{run_names}
use Rattle.rebuild.proofs.Engines.{ready_is}
use Rattle.rebuild.proofs.Answering.{names_run}
use Rattle.rebuild.proofs.engine.Engine.runs.Goals as goal

pub returns : goal.returns
returns g c =
    let core = c.args.self.now.core in
    IfOk-weaker c.runs_in.result _ _ (λ made is. is ∙ ap run_names c.deref.ensures.value
    ∙ names_run core.rows.items (rising_once (names core.rows.items)
    (ready_is core c.args.self.now.ready).rising)) c.runs_in.ensures
