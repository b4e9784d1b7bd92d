-- What the statements of an object have made is what its run by the definitions gives.
use Rattle.std.specs.Prelude.{◌≡◌, Result, Ok, Err}
use Rattle.questions.specs.Contents.{Answers}
use Rattle.questions.specs.Run.{Meter, Outcome, Done}
use Rattle.questions.specs.Told.{ToldEnough}
use Rattle.dml_world.specs.declared.stop.Stop.{Stop}
use Rattle.dml_world.specs.Exits.{Stops}
use Rattle.pan_ast.specs.declared.place.Place.{Place}
use Rattle.template_meaning.specs.Program.{Program, no_program}
use Rattle.template_meaning.specs.Statements.{Run}
use Rattle.plain_statements.specs.Seen.{program_of}
use Rattle.template_run.specs.declared.objects.Made.{Made}

abbrev pub Makes : Result Made Stop → Meter → Outcome Program Place → Type 0
Makes (Ok x) m o = o ≡ Done x.header (program_of x.program) m
Makes (Err x) m o = Stops x m o

-- what an object's statements have made, from an empty program on
abbrev pub MakesObject : Result Made Stop → Answers → Meter → Meter → Run Place → Type 0
MakesObject r answers m n run = ToldEnough answers m.asked n.asked (λ told.
    Makes r n (run told no_program m))
