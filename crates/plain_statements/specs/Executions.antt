-- The statements of an object under way, and how what a function returned and left is what a run
-- gives.
use Rattle.std.specs.Prelude.{◌≡◌, ℕ, ◌+◌, Result}
use Rattle.questions.specs.Run.{Meter}
use Rattle.questions.specs.Told.{ToldEnough}
use Rattle.dml_world.specs.declared.stop.Stop.{Stop}
use Rattle.dml_world.specs.declared.world.World as world
use Rattle.dml_world.specs.Seen.{meter}
use Rattle.template_meaning.specs.Statements.{Run}
use Rattle.plain_statements.specs.declared.execution.Execution.{Execution}
use Rattle.plain_statements.specs.Runs.{Comes}
use Rattle.plain_statements.specs.Seen.{program_of}

-- the work that is left, and what was asked
abbrev pub meter_of : {D W C L : Type 0} → world.Ghosts W C → Execution D W L → Meter
meter_of M e = meter e.work.now (M.asked e.world.now)

-- told the world's answers, from the program there, the work left and what was asked, to the
-- program that there is then, the work that is left then and what was asked by then
abbrev pub Executes : {D W C X Y L : Type 0} → (X → Y) → Result X Stop → world.Ghosts W C
    → Execution D W L → Execution D W L → Run Y → Type 0
Executes view r M before after run = ToldEnough M.answers (M.asked before.world.now)
    (M.asked after.world.now) (λ told. Comes view r (program_of after.program) (meter_of M after)
    (run told (program_of before.program) (meter_of M before)))

-- the steps that were taken, and the work that is left
abbrev pub total : {D W L : Type 0} → Execution D W L → ℕ
total e = e.steps.now + e.work.now.left

-- the world, the work and the steps are those that were lent
abbrev pub KeepsLoans : {D W L : Type 0} → Execution D W L → Execution D W L → Type 0
KeepsLoans before after = (after.world.ghost_name ≡ before.world.ghost_name)
    × (after.work.ghost_name ≡ before.work.ghost_name)
    × (after.steps.ghost_name ≡ before.steps.ghost_name)
