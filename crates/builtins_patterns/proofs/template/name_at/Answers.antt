use Rattle.std.proofs.Common.{lit<}
use Rattle.builtins_patterns.proofs.Templating.{in_braces}
use Rattle.builtins_patterns.proofs.template.name_at.Goals as goal

pub returns-in-Some : goal.returns-in-Some
returns-in-Some c =
    in_braces c.args.after.now c.in-Some.inside.now c.split_once.result c.utf8.after
    c.in-Some.ensures.0 c.in-Some.ensures.1 (c.split_once.ensures.byte (lit< tt) (λ w o h. h))
