use Rattle.std.proofs.Common.{◌∙◌, sym, subst}
use Rattle.base.specs.Answers.{Gives}
use Rattle.path_tree.specs.Refusals.{path_refusal}
use Rattle.path_tree.proofs.Externals.{external_named}
use Rattle.path_tree.proofs.path.external.Goals as goal

pub returns : goal.returns
returns c = subst (Gives (λ x. x) path_refusal c.absolute.result)
    (sym (external_named c.args.text.now c.args.colon c.in-Some.name
    (sym c.in-Some.is ∙ c.in_ok-name.ensures))) c.absolute.ensures
