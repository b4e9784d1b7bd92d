use Rattle.std.proofs.Common.{◌≡◌, ◌+◌, ℕ, List, drop}
use Rattle.questions.specs.Contents.{Answers}
use Rattle.questions.specs.Told.{ToldEnough}
use Rattle.dml_meaning.specs.Lookups.{first_present}
use Rattle.dml_world.specs.Seen.{meter}
use Rattle.dml_world.proofs.files.first_present.Given as goal

abbrev pub invariant-files : goal.invariant-files
invariant-files g l =
    let asked = g.W.World.asked in
    let from = λ (o : Answers) (fs : List (List ℕ)). first_present l.place fs o (tt {0}) in
    record {
      gives : ToldEnough g.W.World.answers (asked l.fn.world) (asked l.world)
          (λ told. from told (drop l.file-index l.files) (meter l.work (asked l.world))
          ≡ from told l.files (meter l.fn.work (asked l.fn.world)));
      counted : l.steps + l.work.left ≡ l.fn.steps + l.fn.work.left;
    }
