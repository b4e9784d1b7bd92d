use Rattle.std.specs.Prelude.{replicate}
use Rattle.builtins_text.specs.Formats.{space}
use Rattle.builtins_text.proofs.Adding.{adds_one_two}
use Rattle.builtins_text.proofs.writing.write_right.Goals as goal

pub returns : goal.returns
returns c =
    adds_one_two c.args.draft.now c.push_times.new.self c.push.new.self c.push-2.new.self
    (replicate c.args.blanks space) c.args.sign.now c.args.text.now
    c.in_ok-push_times.ensures c.in_ok-push.ensures c.in_ok-push-2.ensures
