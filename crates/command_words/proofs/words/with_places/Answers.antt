use Rattle.std.proofs.Common.{ap, ap₂, ◌∙◌}
use Rattle.std.proofs.lemmas.Result.{IfOk-weaker}
use Rattle.clap.specs.Words.{app_of, with_rule}
use Rattle.command_words.proofs.words.with_places.Goals as goal

pub returns : goal.returns
returns c =
    IfOk-weaker c.arg-3.result _ _ (λ r added. added.shape c.positional-3.ensures.local
    ∙ ap₂ with_rule (c.in_ok-arg-2.ensures.shape c.positional-2.ensures.local
    ∙ ap₂ with_rule (c.in_ok-arg.ensures.shape c.positional.ensures.local
    ∙ ap (with_rule (app_of c.args.command)) c.positional.ensures.rule)
    c.positional-2.ensures.rule) c.positional-3.ensures.rule) c.arg-3.ensures
