-- What is kept of faithful works in which all is settled is sound.
use Rattle.std.proofs.Common.{◌≡◌, ℕ, List, subst}
use Rattle.pan_ast.specs.declared.work.Limits.{Limits}
use Rattle.engine_session.specs.Standing.{IsFaithful, compiled_in}
use Rattle.engine_session.specs.declared.works.Works.{Works}
use Rattle.engine_rows.specs.Restoring.{IsSoundKept}
use Rattle.engine_rows.proofs.Stored.{kept_sound}
use Rattle.kept_works.specs.Kept.{kept_by}
use Rattle.kept_works.proofs.Held.{kept_is}
use Rattle.rebuild.specs.Engines.{Meanings, turns_left_of}
use Rattle.rebuild.proofs.Engines.{ready_is}
use Rattle.runner.specs.Meaning.{IsLawful}
use Rattle.runner.specs.declared.runner.Runner as runner
use Rattle.kept_build.proofs.Keeping.{here}

pub is_sound : {R T : Type 0} {M : runner.Ghosts R T} (means : Meanings T)
    → ((dirs : List (List ℕ)) (limits : Limits) → IsLawful (means dirs limits))
    → (works : Works R T M) → turns_left_of works.engine.core ≡ 0 → IsFaithful means works
    → ∥ IsSoundKept means (kept_by works.engine.core.dirs works.engine.core.limits
    (compiled_in works.engine.core)) ∥₁
is_sound means lawful works none faithful =
    let core = works.engine.core in
    let ready = works.engine.ready in
    subst (λ s. ∥ IsSoundKept means s ∥₁) (kept_is core ready core.dirs core.limits
    (compiled_in core) (here core))
    (kept_sound means lawful core (ready_is core ready) none faithful.sound.reached)
