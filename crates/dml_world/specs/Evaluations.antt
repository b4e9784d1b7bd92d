-- An evaluation under way, and how what a function returned and left is what a run gives.
use Rattle.std.specs.Prelude.{◌≡◌, ℕ, ◌+◌, Result}
use Rattle.questions.specs.Run.{Meter}
use Rattle.dml_meaning.specs.Run.{Env, Run}
use Rattle.dml_world.specs.declared.stop.Exit.{Exit}
use Rattle.dml_world.specs.declared.evaluation.Evaluation.{Evaluation}
use Rattle.dml_world.specs.declared.world.World as world
use Rattle.dml_world.specs.Exits.{Follows}
use Rattle.dml_world.specs.Seen.{env, meter}

-- told the world's answers, from what stood there and was asked to what stands there and was asked
-- then
abbrev pub Evaluates : {W C X Y L : Type 0} → (X → Y) → Result X Exit → world.Ghosts W C
    → Evaluation W L → Evaluation W L → Run Y → Type 0
Evaluates view r M before after run = Follows view r M.answers before.live
    (M.asked before.world.now) after.live (M.asked after.world.now) run

-- the steps that were taken, and the work that is left
abbrev pub total : {W L : Type 0} → Evaluation W L → ℕ
total e = e.steps.now + e.live.work.left

-- the world and the steps are those that were lent
abbrev pub KeepsLoans : {W L : Type 0} → Evaluation W L → Evaluation W L → Type 0
KeepsLoans before after = (after.world.ghost_name ≡ before.world.ghost_name)
    × (after.steps.ghost_name ≡ before.steps.ghost_name)

-- what stands there, and what was spent
abbrev pub env_of : {W L : Type 0} → Evaluation W L → Env
env_of e = env e.live

abbrev pub meter_of : {W C L : Type 0} → world.Ghosts W C → Evaluation W L → Meter
meter_of M e = meter e.live.work (M.asked e.world.now)
