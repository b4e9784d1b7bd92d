use Rattle.std.proofs.Common.{◌≡◌, rules, subst, sym, ◌∙◌}
use Rattle.std.proofs.lemmas.Result.{IfOk-weaker}
use Rattle.std.specs.Str.{IsUtf8}
use Rattle.watch.proofs.Orders.{named, textless}
use Rattle.watch.proofs.reading.blame.Goals as goal

pub returns-in-Ok : goal.returns-in-Ok
returns-in-Ok c =
    let text : c.in-Ok.text.now ≡ c.at_space.result.1.now = search rules in
    IfOk-weaker c.blame_text.result _ _ (λ order told. told ∙ named c.args.words.now
    c.in-Some.name.now c.at_space.result.0.now c.in-Ok.text.now c.in-Some.ensures
    c.at_space.ensures.before (text ∙ c.at_space.ensures.after)) c.blame_text.ensures

pub returns-in-Err : goal.returns-in-Err
returns-in-Err c = textless c.args.words.now (λ is. c.in-Err.ensures.cases.0 (subst IsUtf8 (sym
    c.at_space.ensures.after) is))
