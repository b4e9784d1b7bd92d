use Rattle.std.proofs.Common.{◌≡◌, ◌++◌}
use Rattle.session.specs.Sessions.{profiles_of}
use Rattle.engine_session.proofs.building.profiles.Given as goal

abbrev pub invariant-loop-answer : goal.invariant-loop-answer
invariant-loop-answer l =
    l.made.items ++ profiles_of l.answer-iterator.rest.items ≡ profiles_of l.fn.answers.items
