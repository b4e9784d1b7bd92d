use Rattle.std.proofs.Common.{ap, ◌∙◌}
use Rattle.engine_turns.specs.Places.{row_in}
use Rattle.rebuild.specs.Answers.{why_found}
use Rattle.rebuild.proofs.Answering.{caused}
use Rattle.rebuild.proofs.engine.Engine.why.Goals as goal

pub returns : goal.returns
returns g c = c.why_in.ensures ∙ ap (λ rows. why_found (row_in c.args.name.now rows))
    c.deref.ensures.value ∙ caused c.args.self.now.core c.args.name.now
