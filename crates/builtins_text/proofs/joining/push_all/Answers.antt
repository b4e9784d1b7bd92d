use Rattle.std.proofs.Common.{◌++◌, ap, ◌∙◌}
use Rattle.call_values.specs.Drafts.{drafted}
use Rattle.builtins_text.proofs.Joined.{first_pushed}
use Rattle.builtins_text.proofs.joining.push_all.Goals as goal

pub returns : goal.returns
returns c w e =
    c.in_ok-push_rest.ensures (w ++ c.text_of.result.now) (c.in_ok-push.ensures w e)
    ∙ ap drafted (first_pushed c.args.separator.now w c.args.values.now c.first-item.result
    c.text_of.result.now c.text_of.ensures c.first-item.is c.in-len1-up.len_at_least)
