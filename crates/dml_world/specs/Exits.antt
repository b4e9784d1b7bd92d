-- What a function returned, and left, is what a run gives.
use Rattle.std.specs.Prelude.{◌≡◌, List, Result, Ok, Err}
use Rattle.path_tree.specs.declared.refused.Refused.{Refused}
use Rattle.path_tree.specs.declared.refused.Refused.TheVariants as refused
use Rattle.pan_ast.specs.declared.fault.Fault.{Fault}
use Rattle.pan_ast.specs.declared.place.Place.{Place}
use Rattle.pan_ast.specs.declared.work.Work.{Work}
use Rattle.questions.specs.declared.key.Key.{Key}
use Rattle.questions.specs.declared.key.Key.TheVariants.{Under}
use Rattle.questions.specs.Contents.{Answers}
use Rattle.questions.specs.Run.{Meter, Outcome, Done, Returned, Failed, Asks, fault_at}
use Rattle.questions.specs.Told.{LeavesAtMost, ToldEnough}
use Rattle.dml_meaning.specs.Run.{Env, Run, Look}
use Rattle.dml_meaning.specs.Leaves.{code_of}
use Rattle.dml_world.specs.declared.stop.Stop.{Stop}
use Rattle.dml_world.specs.declared.stop.Stop.TheVariants as stop
use Rattle.dml_world.specs.declared.stop.Exit.{Exit}
use Rattle.dml_world.specs.declared.stop.Exit.TheVariants as exit
use Rattle.dml_world.specs.declared.frame.Live.{Live}
use Rattle.dml_world.specs.Seen.{env, meter}

-- A run without state.

-- the run has no value, with what is left; at want of memory the run leaves no more
abbrev pub Stops : {S Y : Type 0} → Stop → Meter → Outcome S Y → Type 0
Stops stop.Memory m o = LeavesAtMost m.left o
Stops (stop.Fault f) m o = o ≡ Failed f.value m
Stops (stop.Need q) m o = o ≡ Asks (Under q.value.object q.value.terms) m

abbrev pub Tells : {X Y : Type 0} → (X → Y) → Result X Stop → Meter → Outcome (Unit {0}) Y → Type 0
Tells view (Ok x) m o = o ≡ Done (view x) tt m
Tells view (Err x) m o = Stops x m o

-- told the answers, from the work left and the keys asked to those that there are then
abbrev pub Looks : {X Y : Type 0} → (X → Y) → Result X Stop → Answers → Work → List Key → Work
    → List Key → Look Y → Type 0
Looks view r answers before old after new run = ToldEnough answers old new (λ told.
    Tells view r (meter after new) (run told tt (meter before old)))

-- A run inside DML.

abbrev pub exit_of : Stop → Exit
exit_of (stop.Fault f) = exit.Fault f
exit_of (stop.Need q) = exit.Need q
exit_of stop.Memory = exit.Memory

-- an early end, with what is left; at want of memory the run leaves no more
abbrev pub Ends : {Y : Type 0} → Exit → Env → Meter → Outcome Env Y → Type 0
Ends exit.Memory e m o = LeavesAtMost m.left o
Ends (exit.Fault f) e m o = o ≡ Failed f.value m
Ends (exit.Need q) e m o = o ≡ Asks (Under q.value.object q.value.terms) m
Ends (exit.Return t) e m o = o ≡ Returned t.value e m

abbrev pub Comes : {X Y : Type 0} → (X → Y) → Result X Exit → Env → Meter → Outcome Env Y → Type 0
Comes view (Ok x) e m o = o ≡ Done (view x) e m
Comes view (Err x) e m o = Ends x e m o

-- told the answers, from what stood there and the keys asked, to what stands there then
abbrev pub Follows : {X Y : Type 0} → (X → Y) → Result X Exit → Answers → Live → List Key → Live
    → List Key → Run Y → Type 0
Follows view r answers before old after new run = ToldEnough answers old new (λ told.
    Comes view r (env after) (meter after.work new) (run told (env before)
    (meter before.work old)))

-- Faults.

-- this fault, or want of memory
abbrev pub IsStop : Stop → Fault → Type 0
IsStop stop.Memory f = Unit {0}
IsStop (stop.Fault g) f = g.value ≡ f
IsStop (stop.Need q) f = ⊥

abbrev pub IsFault : Exit → Fault → Type 0
IsFault exit.Memory f = Unit {0}
IsFault (exit.Fault g) f = g.value ≡ f
IsFault (exit.Need q) f = ⊥
IsFault (exit.Return t) f = ⊥

-- the fault of a refusal; want of memory, and only that, is its own
abbrev pub IsRefused : Refused → Exit → Place → Type 0
IsRefused refused.Memory x p = x ≡ exit.Memory
IsRefused r x p = IsFault x (fault_at (code_of r) p)
