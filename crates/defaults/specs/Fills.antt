-- What a function that fills returned, and left, is what the definition gives.
use Rattle.std.specs.Prelude.{◌≡◌, ℕ, ◌+◌, List, Result, Ok, Err, Vec}
use Rattle.std.specs.declared.alloc.Global.{Global}
use Rattle.path_tree.specs.Plain.{Plain}
use Rattle.pan_ast.specs.declared.change.Change.{Change}
use Rattle.pan_ast.specs.declared.failure.Failure.{Failure}
use Rattle.pan_ast.specs.declared.failure.Failure.TheVariants as failure
use Rattle.pan_ast.specs.declared.work.Work.{Work}
use Rattle.questions.specs.Contents.{Answers}
use Rattle.questions.specs.declared.key.Key.{Key}
use Rattle.questions.specs.Run.{Meter, Outcome, Done, Failed}
use Rattle.questions.specs.Told.{LeavesAtMost}
use Rattle.pan_ast.specs.declared.fault.Fault.{Fault}
use Rattle.defaults.specs.declared.target.Target.{Target}
use Rattle.defaults.specs.Filled.{Store, Fill}

abbrev pub store : Plain → Vec Change Global → Store
store tree log = record { tree = tree; log = log.items }

abbrev pub meter : Work → List Key → Meter
meter work asked = record { left = work.left; asked = asked }

-- what it gives, with what is left; at want of memory the run leaves no more
abbrev pub Comes : {X : Type 0} → Result X Failure → Store → Meter → Outcome Store (Unit {0})
    → Type 0
Comes (Ok x) s m o = o ≡ Done tt s m
Comes (Err (failure.Fault f)) s m o = o ≡ Failed f m
Comes (Err failure.Memory) s m o = LeavesAtMost m.left o

-- whatever the run is told, and whatever was asked before it
abbrev pub Fills : {X : Type 0} → Result X Failure → Store → Work → Store → Work → Fill → Type 0
Fills r before work after left run = (answers : Answers) (asked : List Key)
    → Comes r after (meter left asked) (run answers before (meter work asked))

abbrev pub target_store : {L : Type 0} → Target L → Store
target_store t = store t.tree t.log

-- the same, of what is filled
abbrev pub FillsTarget : {X L : Type 0} → Result X Failure → Target L → Target L → Fill → Type 0
FillsTarget r before after run =
    Fills r (target_store before) before.work (target_store after) after.work run

-- the steps that were taken, and the work that is left
abbrev pub total : {L : Type 0} → Target L → ℕ
total t = t.steps.now + t.work.left

-- the steps are those that were lent
abbrev pub KeepsLoan : {L : Type 0} → Target L → Target L → Type 0
KeepsLoan before after = after.steps.ghost_name ≡ before.steps.ghost_name

-- this fault, or want of memory
abbrev pub IsFault : Failure → Fault → Type 0
IsFault (failure.Fault f) d = f ≡ d
IsFault failure.Memory d = Unit {0}
