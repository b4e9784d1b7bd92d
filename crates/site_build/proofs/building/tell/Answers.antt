use Rattle.std.proofs.Common.{OnErr, subst, sym, ◌∙◌, ap}
use Rattle.outside.specs.Contents.{AppendsPart}
use Rattle.site_build.specs.Session.{text_behind}
use Rattle.site_build.proofs.building.tell.Goals as goal

pub returns-in_ok-line-in-TooManyRemovals-clause-err : goal.returns-in_ok-line-in-TooManyRemovals-clause-err
returns-in_ok-line-in-TooManyRemovals-clause-err g c =
    let r = c.end_with_line-in-TooManyRemovals.result in
    let held = g.O.Sink.held c.args.out.now in
    let held' = g.O.Sink.held c.end_with_line-in-TooManyRemovals.new.out in
    subst (λ text. OnErr r (AppendsPart held text held'))
    (c.deref.ensures.value ∙ c.in_ok-line-in-TooManyRemovals.ensures
    ∙ sym (ap (λ p. text_behind p c.args.report.now) c.in-TooManyRemovals.is))
    c.end_with_line-in-TooManyRemovals.ensures.err
