use Rattle.std.proofs.Common.{◌≡◌, drop}
use Rattle.questions.specs.Told.{answers_of}
use Rattle.runner.specs.Words.{words}
use Rattle.written_runner.specs.Written.{action_of, file_run, first_asked}
use Rattle.written_runner.specs.Traces.{AreNumbered, meter_of}
use Rattle.written_runner.proofs.running.begin.Given as goal

-- what the files left to ask for give is what all of them give
abbrev pub invariant-loop-file : goal.invariant-loop-file
invariant-loop-file g l = record {
  outcome : first_asked l.part.place (drop l.file-index l.files)
      (file_run l.part.place l.part.own.now (action_of l.part.side)) (answers_of
      (words l.picture (g.K.Known.numbers l.known) (g.K.Known.objects l.known))) l.used.value
      (meter_of l.used.left l.used.trace) ≡ first_asked l.part.place l.files
      (file_run l.part.place l.part.own.now (action_of l.part.side)) (answers_of
      (words l.picture (g.K.Known.numbers l.known) (g.K.Known.objects l.known))) l.fn.used.value
      (meter_of l.fn.used.left l.fn.used.trace);
  numbered : AreNumbered (words l.picture (g.K.Known.numbers l.known) (g.K.Known.objects l.known))
      l.fn.used.trace → AreNumbered (words l.picture (g.K.Known.numbers l.known)
      (g.K.Known.objects l.known)) l.used.trace;
}
