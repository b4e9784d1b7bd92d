-- How a build and a check end in code, as the definitions have it.
use Rattle.std.specs.Prelude.{◌≡◌, ℕ, List, Result, Ok, Err, map}
use Rattle.pan_ast.specs.declared.place.Place.{Place}
use Rattle.asking.specs.Asked.{Ran, Lost, Finished, Word}
use Rattle.questions.specs.declared.key.Key.{Key}
use Rattle.questions.specs.declared.key.Key.TheVariants.{File, Under}
use Rattle.questions.specs.Contents.{Answers, Content}
use Rattle.questions.specs.Run.{Meter, Outcome, Done, Returned, Failed, Asks}
use Rattle.questions.specs.Told.{Ending, numbered, stopped}
use Rattle.read_sets.specs.declared.trace.Item.{Item}
use Rattle.runner.specs.declared.ends.Built.{Built}
use Rattle.runner.specs.declared.ends.BuildEnd.{BuildEnd}
use Rattle.runner.specs.declared.ends.BuildEnd.TheVariants as build
use Rattle.runner.specs.declared.ends.CheckEnd.{CheckEnd}
use Rattle.runner.specs.declared.ends.CheckEnd.TheVariants as check
use Rattle.runner.specs.Ends.{End}
use Rattle.dml_world.specs.declared.stop.Stop.{Stop}
use Rattle.dml_world.specs.declared.stop.Stop.TheVariants as stop
use Rattle.dml_world.specs.Exits.{Stops}
use Rattle.validate.specs.declared.stop.Stop.{Stop as CheckStop}
use Rattle.validate.specs.declared.stop.Stop.TheVariants as check_stop
use Rattle.template_meaning.specs.Program.{Program}
use Rattle.object_meaning.specs.Rest.{Rest}
use Rattle.object_meaning.specs.Builds.{defaults_run, built_of}
use Rattle.object_run.specs.declared.rest.Rest.{Rest as RRest}

-- an outcome, where what an ending makes of it takes the place of its value and its state
abbrev pub ended : {S X R : Type 0} → Ending S X R → Outcome S X → Outcome (Unit {0}) R
ended f (Done x s m) = Done (f.done x s) tt m
ended f (Returned t s m) = Done (f.returned t s) tt m
ended f (Failed d m) = Failed d m
ended f (Asks k m) = Asks k m

-- what a program makes once its defaults are put, from a meter to another
abbrev pub IsFilled : Result (Built Rest) Stop → Place → List ℕ → Answers → Program → Meter → Meter
    → Type 0
IsFilled (Ok b) header object answers s m n =
    (t : Program) × (defaults_run answers s m ≡ Done tt t n) × (b ≡ built_of object header t)
IsFilled (Err x) header object answers s m n = Stops x n (defaults_run answers s m)

-- such an outcome as a run over words: its end with the keys that it asked and their numbers, or
-- the
-- object that it waits for
abbrev pub ran_ended : {T : Type 0} → (Key → Word Content) → Outcome (Unit {0}) (End T)
    → Ran Key (End T)
ran_ended tells (Done r u m) = Finished (map (numbered tells) m.asked) r
ran_ended tells (Returned t u m) = Lost
ran_ended tells (Failed d m) = Finished (map (numbered tells) m.asked) (Err d)
ran_ended tells (Asks k m) = stopped (tells k)

-- a build's result and what it asked, as an end
abbrev pub IsBuildEnd : Result (Built Rest) Stop → List Item → BuildEnd RRest → Type 0
IsBuildEnd (Ok b) trace end = end ≡ build.Done b trace
IsBuildEnd (Err (stop.Fault f)) trace end = end ≡ build.Fault f.value trace
IsBuildEnd (Err (stop.Need q)) trace end = end ≡ build.Need q.value.object
IsBuildEnd (Err stop.Memory) trace end = ⊥

-- a check that waits for the object of a key
abbrev pub IsNeed : Key → CheckEnd → Type 0
IsNeed (Under p terms) end = end ≡ check.Need p
IsNeed (File f) end = ⊥

-- a check's result and what it asked, as an end
abbrev pub IsCheckEnd : Result (Unit {0}) CheckStop → List Item → CheckEnd → Type 0
IsCheckEnd (Ok x) trace end = end ≡ check.Done trace
IsCheckEnd (Err (check_stop.Fault f)) trace end = end ≡ check.Fault f.value trace
IsCheckEnd (Err (check_stop.Need k)) trace end = IsNeed k.value end
IsCheckEnd (Err check_stop.Memory) trace end = ⊥
