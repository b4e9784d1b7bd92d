use Rattle.std.specs.Prelude.{◌-◌, ◌++◌, length, replicate}
use Rattle.std.proofs.Common.{subst, ap, ◌∙◌}
use Rattle.base.specs.Characters.{digit_0}
use Rattle.call_values.specs.Drafts.{Adds}
use Rattle.builtins_text.proofs.Adding.{adds_one_two}
use Rattle.builtins_text.proofs.writing.write_zeroed.Goals as goal

pub returns : goal.returns
returns c =
    subst (λ n. Adds c.args.draft.now c.push-2.new.self
    (c.args.sign.now ++ (replicate n digit_0 ++ c.args.digits.now)))
    (c.missing-zeros.ensures ∙ ap (λ n. n - length c.args.digits.now) c.missing.ensures)
    (adds_one_two c.args.draft.now c.push.new.self c.push_times.new.self c.push-2.new.self
    c.args.sign.now (replicate c.missing-zeros.result digit_0) c.args.digits.now
    c.in_ok-push.ensures c.in_ok-push_times.ensures c.in_ok-push-2.ensures)
