use Rattle.std.proofs.Common.{◌≡◌, IfErr, rules, sym, subst}
use Rattle.std.proofs.lemmas.Result.{IfErr-weaker}
use Rattle.rebuild.specs.Refused.{IsSpent}
use Rattle.rebuild.specs.Taking.{counter_after}
use Rattle.rebuild.proofs.Takings.{spent_next}
use Rattle.rebuild.proofs.taking.number_files.Goals as goal

pub returns-in_err-number_file-clause-refused : goal.returns-in_err-number_file-clause-refused
returns-in_err-number_file-clause-refused g c =
    let old = c.args.old.now in
    let files = c.args.files.now in
    let total = counter_after old c.args.counter.now files in
    let is : IfErr c.from_residual.result (λ e. e ≡ c.in_err-number_file.field-0.0) =
    search rules in
    let spent = spent_next old c.loop-file.counter files c.loop-file.file-index total
    c.file-item.result c.loop-file-test.true c.file-item.is c.loop-file.invariant.counted
    c.in_err-number_file.field-0.0 c.in_err-number_file.ensures.refused in
    IfErr-weaker c.from_residual.result _ _ (λ e same. subst (λ x. IsSpent x total) (sym same)
    spent) is
