-- What a function returned, and left, is what a run gives.
use Rattle.std.specs.Prelude.{◌≡◌, List, Result, Ok, Err}
use Rattle.path_tree.specs.declared.path.Term.{Term}
use Rattle.pan_ast.specs.declared.fault.Fault.{Fault}
use Rattle.pan_ast.specs.declared.work.Work.{Work}
use Rattle.questions.specs.Contents.{Answers}
use Rattle.questions.specs.declared.key.Key.{Key}
use Rattle.questions.specs.Run.{Meter, Outcome, Done, Failed, Asks}
use Rattle.questions.specs.Told.{LeavesAtMost, ToldEnough}
use Rattle.dml_meaning.specs.Run.{Look}
use Rattle.validate.specs.declared.refusal.Exit.{Exit}
use Rattle.validate.specs.declared.refusal.Exit.TheVariants as exit
use Rattle.validate.specs.declared.refusal.Misfit.{Misfit}
use Rattle.validate.specs.declared.refusal.Refusal.{Refusal as RRefusal}
use Rattle.validate.specs.declared.stop.Stop.{Stop}
use Rattle.validate.specs.declared.stop.Stop.TheVariants as stop
use Rattle.validate.specs.Refusals.{Refusal}

abbrev pub meter : Work → List Key → Meter
meter work asked = record { left = work.left; asked = asked }

abbrev pub refusal_seen : RRefusal → Refusal
refusal_seen r = record { misfit = r.misfit; terms = r.terms.items }

-- an early end, with what is left; at want of memory the run leaves no more
abbrev pub Ends : {Y : Type 0} → Stop → Meter → Outcome (Unit {0}) Y → Type 0
Ends (stop.Fault f) m o = o ≡ Failed f.value m
Ends (stop.Need k) m o = o ≡ Asks k.value m
Ends stop.Memory m o = LeavesAtMost m.left o

abbrev pub Comes : {X Y : Type 0} → (X → Y) → Result X Stop → Meter → Outcome (Unit {0}) Y → Type 0
Comes view (Ok x) m o = o ≡ Done (view x) tt m
Comes view (Err s) m o = Ends s m o

-- told the answers, from the work left and the keys asked to what stands there then
abbrev pub Gives : {X Y : Type 0} → (X → Y) → Result X Stop → Answers → Work → List Key → Work
    → List Key → Look Y → Type 0
Gives view r answers before old after new run = ToldEnough answers old new (λ told.
    Comes view r (meter after new) (run told tt (meter before old)))

-- the same, where a refusal is what the run gives
abbrev pub ComesOrRefuses : {X Y : Type 0} → (X → Y) → Result X Exit → Meter
    → Outcome (Unit {0}) (Result Y Refusal) → Type 0
ComesOrRefuses view (Ok x) m o = o ≡ Done (Ok (view x)) tt m
ComesOrRefuses view (Err (exit.Refused r)) m o = o ≡ Done (Err (refusal_seen r)) tt m
ComesOrRefuses view (Err (exit.Stopped s)) m o = Ends s m o

-- this fault, or want of memory
abbrev pub IsFault : Stop → Fault → Type 0
IsFault (stop.Fault f) d = f.value ≡ d
IsFault (stop.Need k) d = ⊥
IsFault stop.Memory d = Unit {0}

-- this refusal of the value at these terms, or want of memory
abbrev pub IsRefusal : Exit → Misfit → List Term → Type 0
IsRefusal (exit.Refused r) c ts = refusal_seen r ≡ record { misfit = c; terms = ts }
IsRefusal (exit.Stopped stop.Memory) c ts = Unit {0}
IsRefusal (exit.Stopped s) c ts = ⊥
