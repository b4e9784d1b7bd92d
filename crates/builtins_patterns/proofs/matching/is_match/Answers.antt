use Rattle.builtins_patterns.proofs.Given.{match_given}
use Rattle.builtins_patterns.proofs.matching.is_match.Goals as goal

pub returns : goal.returns
returns c =
    let s = c.searcher.inside in
    match_given s.source c.args.text.now c.args.searcher.now s.pattern.now s.matcher
    c.searcher.invariant c.searcher.view_is (λ k. (c.type_inv.text k).fits) c.is_match.result
    c.is_match.ensures.found
