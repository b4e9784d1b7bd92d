-- Steps of work.
use Rattle.std.proofs.Common.{◌≡◌, ℕ, zero, suc, ◌-◌, ◌<◌, refl, arith}
use Rattle.pan_ast.specs.declared.place.Place.{Place}
use Rattle.questions.specs.Contents.{Answers}
use Rattle.questions.specs.Run.{Meter, then, step}
use Rattle.dml_meaning.specs.Run.{Env}
use Rattle.dml_meaning.specs.Meaning.{steps}

-- a step of work, and those after it
pub steps_more : (n : ℕ) (p : Place) (o : Answers) (e : Env) (m : Meter) → 0 < n → steps n p o e m
    ≡ then (step p o e m) (λ _. steps (n - 1) p o)
unfolding steps
steps_more zero p o e m h = absurd (omega arith)
steps_more (suc n) p o e m h = let k : suc n - 1 ≡ n = omega arith in rw k refl
