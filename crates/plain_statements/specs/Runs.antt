-- What a function of the run returned, and left, is what a run by the definitions gives.
use Rattle.std.specs.Prelude.{◌≡◌, Result, Ok, Err}
use Rattle.questions.specs.Run.{Meter, Outcome, Done}
use Rattle.dml_world.specs.declared.stop.Stop.{Stop}
use Rattle.dml_world.specs.Exits.{Stops}
use Rattle.template_meaning.specs.Program.{Program}

-- its value, with the program and the work that are left; or its fault or its question
abbrev pub Comes : {X Y : Type 0} → (X → Y) → Result X Stop → Program → Meter → Outcome Program Y
    → Type 0
Comes view (Ok x) s m o = o ≡ Done (view x) s m
Comes view (Err x) s m o = Stops x m o
