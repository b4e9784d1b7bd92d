use Rattle.std.proofs.Common.{ap, ◌∙◌}
use Rattle.engine_turns.specs.Places.{row_in}
use Rattle.rebuild.specs.Answers.{reads_found}
use Rattle.rebuild.specs.Engines.{value_of}
use Rattle.rebuild.proofs.Engines.{true_of}
use Rattle.rebuild.proofs.Answering.{asked}
use Rattle.rebuild.proofs.engine.Engine.reads.Goals as goal

pub returns-clause-exact : goal.returns-clause-exact
returns-clause-exact g c =
    c.reads_in.ensures ∙ ap (λ rows. reads_found (row_in c.args.name.now rows))
    c.deref.ensures.value ∙ asked c.args.self.now.core c.args.name.now

pub returns-clause-scratch : goal.returns-clause-scratch
returns-clause-scratch g c sound =
    true_of g.R.Runner.meaning (value_of c.args.self.now.core) sound.reached
