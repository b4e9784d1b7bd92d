use Rattle.std.proofs.Common.{◌≡◌, ◌-◌, length, drop}
use Rattle.questions.specs.Told.{answers_of}
use Rattle.runner.specs.Words.{words}
use Rattle.written_runner.specs.Written.{action_of, actions, all_acted}
use Rattle.written_runner.specs.Traces.{AreNumbered, meter_of}
use Rattle.written_runner.proofs.running.act_all.Given as goal

-- what the lines left to do give is what all of them give
abbrev pub invariant-lines : goal.invariant-lines
invariant-lines g l = record {
  outcome : all_acted l.part.place l.part.own.now
      (actions (action_of l.part.side) (drop l.at l.bytes))
      (answers_of (words l.picture (g.K.Known.numbers l.known) (g.K.Known.objects l.known)))
      l.used.value (meter_of l.used.left l.used.trace)
      ≡ all_acted l.part.place l.part.own.now (actions (action_of l.part.side) (drop 6 l.bytes))
      (answers_of (words l.picture (g.K.Known.numbers l.known) (g.K.Known.objects l.known)))
      l.fn.used.value (meter_of l.fn.used.left l.fn.used.trace);
  numbered : AreNumbered (words l.picture (g.K.Known.numbers l.known) (g.K.Known.objects l.known))
      l.fn.used.trace → AreNumbered (words l.picture (g.K.Known.numbers l.known)
      (g.K.Known.objects l.known)) l.used.trace;
}

abbrev pub decreases-lines : goal.decreases-lines
decreases-lines g l = length l.bytes - l.at
