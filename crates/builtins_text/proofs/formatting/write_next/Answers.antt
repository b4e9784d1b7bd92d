use Rattle.std.proofs.Common.{rules, []}
use Rattle.std.specs.Prelude.{◌∷◌}
use Rattle.builtins_text.specs.Formats.{percent_sign}
use Rattle.builtins_text.proofs.Adding.{added}
use Rattle.builtins_text.proofs.Walks.{next_written, percent_written}
use Rattle.builtins_text.proofs.formatting.write_next.Goals as goal

pub returns-in-Some-clause-ok : goal.returns-in-Some-clause-ok
returns-in-Some-clause-ok c = (
  percent_sign ∷ [],
  c.in_ok-push.ensures,
  percent_written c.args.behind.now c.in-Some.text.now c.args.values.now c.in-Some.ensures.0
      c.in-Some.ensures.1,
)

pub returns-clause-ok : goal.returns-clause-ok
returns-clause-ok c =
    let done = added _ _ _ c.in_ok-write.ensures.ok in (
      done.0,
      done.2,
      next_written c.args.behind.now c.in-Some-form_of.text.now c.in-Some-form_of.form
          c.args.values.now c.in-Some-split_first.value.now c.in-Some-split_first.values.now done.0
          (search rules) c.in-Some-form_of.ensures.form c.in-Some-form_of.ensures.rest
          c.in-Some-split_first.ensures.cases.0 done.1,
    )
