use Rattle.std.proofs.Common.{subst}
use Rattle.base.specs.Answers.{Gives}
use Rattle.path_tree.specs.Plain.{Plain}
use Rattle.path_tree.specs.Refusals.{refusal}
use Rattle.builtins_patterns.proofs.Given.{matches_given}
use Rattle.builtins_patterns.proofs.grouping.groups.Goals as goal

pub returns : goal.returns
returns c =
    let s = c.searcher.inside in
    subst (Gives (λ (t : Plain). t) refusal c.list.result)
    (matches_given s.source c.args.text.now c.args.searcher.now s.pattern.now s.matcher
    c.searcher.invariant c.searcher.view_is (λ k. (c.type_inv.text k).fits)
    c.in_ok-groups.groups.items c.in_ok-groups.ensures.ok)
    c.list.ensures
