use Rattle.std.proofs.Common.{◌+◌, ◌<◌, length, drop, get_or, sym, ap, ◌∙◌, arith}
use Rattle.questions.specs.Told.{answers_of}
use Rattle.runner.specs.Words.{words}
use Rattle.written_runner.specs.Written.{action_of, actions, acted, all_acted}
use Rattle.written_runner.specs.Meaning.{outcome_of}
use Rattle.written_runner.specs.Traces.{meter_of}
use Rattle.written_runner.proofs.Lines.{lines_over, lines_next, done_line, last_line}
use Rattle.written_runner.proofs.running.act_all.Goals as goal

pub lines-preserved : goal.lines-preserved
lines-preserved g c =
    let l = c.lines in
    let bytes = c.args.bytes.now in
    let place = c.args.part.now.place in
    let own = c.args.part.now.own.now in
    let act = action_of c.args.part.now.side in
    let o = answers_of (words c.args.picture.now (g.K.Known.numbers c.args.known.now)
    (g.K.Known.objects c.args.known.now)) in
    let old = meter_of l.used.left l.used.trace in
    let within : l.at + 2 < length bytes = let left = c.saturating_sub.ensures in let more =
    c.lines-test.true in omega (arith, left, more) in
    let next = ap (λ acts. all_acted place own acts o l.used.value old)
    (lines_next act bytes l.at within) in
    let came = ap (λ x. outcome_of x c.act.new.used.value
    (meter_of c.act.new.used.left c.act.new.used.trace)) (sym c.in-Done.is)
    ∙ c.in_ok-came.ensures.outcome ∙ ap (λ a. acted place own a o l.used.value old)
    c.action_of-action.ensures in
    record {
      outcome = sym (done_line place own (act (get_or bytes (l.at + 1) 0)
          (get_or bytes (l.at + 2) 0)) (actions act (drop (l.at + 3) bytes)) o l.used.value
          c.act.new.used.value old (meter_of c.act.new.used.left c.act.new.used.trace) came)
          ∙ sym next ∙ l.invariant.outcome;
      numbered = λ before. c.in_ok-came.ensures.numbered (l.invariant.numbered before);
    }

pub returns-in_default : goal.returns-in_default
returns-in_default g c =
    let l = c.lines in
    let bytes = c.args.bytes.now in
    let place = c.args.part.now.place in
    let own = c.args.part.now.own.now in
    let act = action_of c.args.part.now.side in
    let o = answers_of (words c.args.picture.now (g.K.Known.numbers c.args.known.now)
    (g.K.Known.objects c.args.known.now)) in
    let old = meter_of l.used.left l.used.trace in
    let within : l.at + 2 < length bytes = let left = c.saturating_sub.ensures in let more =
    c.lines-test.true in omega (arith, left, more) in
    let next = ap (λ acts. all_acted place own acts o l.used.value old)
    (lines_next act bytes l.at within) in
    let came = c.in_ok-came.ensures.outcome ∙ ap (λ a. acted place own a o l.used.value old)
    c.action_of-action.ensures in
    record {
      outcome = last_line place own (act (get_or bytes (l.at + 1) 0) (get_or bytes (l.at + 2) 0))
          (actions act (drop (l.at + 3) bytes)) o l.used.value c.act.new.used.value old
          (meter_of c.act.new.used.left c.act.new.used.trace) c.in_ok-came.came
          c.in_default.not-Done came ∙ sym next ∙ l.invariant.outcome;
      numbered = λ before. c.in_ok-came.ensures.numbered (l.invariant.numbered before);
    }

pub returns-clause-outcome : goal.returns-clause-outcome
returns-clause-outcome g c =
    let l = c.lines in
    let bytes = c.args.bytes.now in
    let act = action_of c.args.part.now.side in
    let o = answers_of (words c.args.picture.now (g.K.Known.numbers c.args.known.now)
    (g.K.Known.objects c.args.known.now)) in
    let over = lines_over act bytes l.at (let left = c.saturating_sub.ensures in let last =
    c.lines-test.false in omega (arith, left, last)) in
    sym (ap (λ acts. all_acted c.args.part.now.place c.args.part.now.own.now acts o l.used.value
    (meter_of l.used.left l.used.trace)) over) ∙ l.invariant.outcome
