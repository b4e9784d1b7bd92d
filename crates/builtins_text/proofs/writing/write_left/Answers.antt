use Rattle.std.specs.Prelude.{replicate}
use Rattle.builtins_text.specs.Formats.{space}
use Rattle.builtins_text.proofs.Adding.{adds_two_one}
use Rattle.builtins_text.proofs.writing.write_left.Goals as goal

pub returns : goal.returns
returns c =
    adds_two_one c.args.draft.now c.push.new.self c.push-2.new.self c.push_times.new.self
    c.args.sign.now c.args.text.now (replicate c.args.blanks space)
    c.in_ok-push.ensures c.in_ok-push-2.ensures c.in_ok-push_times.ensures
