use Rattle.std.proofs.Common.{subst, ◌∙◌}
use Rattle.std.specs.Prelude.{OnOk}
use Rattle.engine_session.specs.Compiler.{nothing}
use Rattle.engine_session.specs.Standing.{IsIn}
use Rattle.demo.proofs.builds.start_at_root.Goals as goal

pub returns-clause-at : goal.returns-clause-at
returns-clause-at g c = subst (λ d. OnOk c.start.result
    (IsIn d c.args.limits c.start.new.works.engine.core nothing))
    (c.as_slice.ensures ∙ c.in_ok-dirs.ensures) c.start.ensures.at
