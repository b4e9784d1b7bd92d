use Rattle.std.proofs.Common.{◌∙◌, sym}
use Rattle.regex.specs.Strings.{matcher_pattern}
use Rattle.builtins_patterns.proofs.Cutting.{cut_found}
use Rattle.builtins_patterns.proofs.splitting.next_cut.Goals as goal

pub returns-clause-found : goal.returns-clause-found
returns-clause-found c =
    cut_found (matcher_pattern c.args.matcher.now) c.args.text.now c.args.left c.args.after
    c.next_found.result (sym c.is_spent.ensures ∙ c.if-is_spent.false)
    c.next_found.ensures.found
