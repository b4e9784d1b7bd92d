-- A check under way, and how what a function returned and left is what a run gives.
use Rattle.std.specs.Prelude.{◌≡◌, ℕ, ◌+◌, Result}
use Rattle.questions.specs.Run.{Meter}
use Rattle.questions.specs.Told.{ToldEnough}
use Rattle.dml_meaning.specs.Run.{Look}
use Rattle.validate.specs.declared.evaluator.Evaluator as evaluator
use Rattle.validate.specs.declared.refusal.Exit.{Exit}
use Rattle.validate.specs.declared.stop.Stop.{Stop}
use Rattle.validate.specs.declared.validation.Validation.{Validation}
use Rattle.validate.specs.Exits.{ComesOrRefuses, Gives, meter}
use Rattle.validate.specs.Refusals.{Checks}

-- the work that is left, and what was asked
abbrev pub meter_of : {E L : Type 0} → evaluator.Ghosts E → Validation E L → Meter
meter_of M v = meter v.work (M.asked v.evaluator.now)

-- told the evaluator's answers, from the work left and what was asked to what is left and was asked
-- then
abbrev pub Validates : {E X Y L : Type 0} → (X → Y) → Result X Stop → evaluator.Ghosts E
    → Validation E L → Validation E L → Look Y → Type 0
Validates view r M before after run = Gives view r M.answers before.work
    (M.asked before.evaluator.now) after.work (M.asked after.evaluator.now) run

-- the same, where a refusal is what the run gives
abbrev pub Judges : {E X Y L : Type 0} → (X → Y) → Result X Exit → evaluator.Ghosts E
    → Validation E L → Validation E L → Checks Y → Type 0
Judges view r M before after run = ToldEnough M.answers (M.asked before.evaluator.now)
    (M.asked after.evaluator.now) (λ told. ComesOrRefuses view r (meter_of M after)
    (run told tt (meter_of M before)))

-- the steps that were taken, and the work that is left
abbrev pub total : {E L : Type 0} → Validation E L → ℕ
total v = v.steps.now + v.work.left

-- evaluator and steps are those that were lent
abbrev pub KeepsLoans : {E L : Type 0} → Validation E L → Validation E L → Type 0
KeepsLoans before after = (after.evaluator.ghost_name ≡ before.evaluator.ghost_name)
    × (after.steps.ghost_name ≡ before.steps.ghost_name)
