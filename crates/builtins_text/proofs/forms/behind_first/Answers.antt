use Rattle.std.proofs.lemmas.Str.Pattern.{strip_prefix_char}
use Rattle.builtins_text.proofs.Parting.{stripped}
use Rattle.builtins_text.proofs.forms.behind_first.Goals as goal

pub returns : goal.returns
returns c =
    stripped c.args.first c.args.text.now c.strip_prefix.result
    (strip_prefix_char c.args.first c.args.text.now c.strip_prefix.result
    c.strip_prefix.ensures.cases c.requires)
