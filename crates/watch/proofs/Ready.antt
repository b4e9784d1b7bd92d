-- What holds before each line, and what is kept of an engine.
use Rattle.std.proofs.Common.{◌≡◌, ℕ, true, List, refl, subst}
use Rattle.engine_session.specs.Compiler.{Compiled}
use Rattle.engine_session.specs.KeptTexts.{AreTexts}
use Rattle.engine_session.specs.Standing.{IsBegun, IsFaithful, IsIn, compiled_in}
use Rattle.engine_session.specs.declared.works.Works.{Works}
use Rattle.engine_session.proofs.Fits.{begins}
use Rattle.engine_rows.specs.Restoring.{IsSoundKept}
use Rattle.engine_rows.proofs.Stored.{kept_sound}
use Rattle.engine_turns.specs.declared.core_data.Core.{Core}
use Rattle.kept_works.specs.Kept.{kept_by}
use Rattle.kept_works.proofs.Held.{kept_is}
use Rattle.pan_ast.specs.declared.work.Limits.{Limits}
use Rattle.rebuild.specs.Engines.{Meanings, situation_of, turns_left_of}
use Rattle.rebuild.proofs.Engines.{ready_is}
use Rattle.runner.specs.Meaning.{IsLawful}
use Rattle.runner.specs.declared.runner.Runner as runner
use Rattle.watch.specs.Sites.{IsReady}
use Rattle.watch.specs.declared.site.Site.{Site}

-- an engine has come to what it has come to
pub here : {T : Type 0} (core : Core T) → IsIn core.dirs core.limits core (compiled_in core)
here core = record { dirs_are = refl; limits_are = refl; is = refl }

-- what is kept of faithful works in which all is settled is sound
pub sound_kept : {R T : Type 0} {M : runner.Ghosts R T} (means : Meanings T)
    → ((dirs : List (List ℕ)) (limits : Limits) → IsLawful (means dirs limits))
    → (works : Works R T M) → turns_left_of works.engine.core ≡ 0 → IsFaithful means works
    → (dirs : List (List ℕ)) (limits : Limits) (e : Compiled T)
    → IsIn dirs limits works.engine.core e → ∥ IsSoundKept means (kept_by dirs limits e) ∥₁
sound_kept means lawful works none faithful dirs limits e is =
    let core = works.engine.core in
    let ready = works.engine.ready in
    subst (λ s. ∥ IsSoundKept means s ∥₁) (kept_is core ready dirs limits e is) (kept_sound means
    lawful core (ready_is core ready) none faithful.sound.reached)

module _ {R S H K T : Type 0} {M : runner.Ghosts R T} (means : Meanings T) (site : Site R S H K T M)
  where
    -- where works are faithful, whether a picture was taken or not
    pub faithful_ready : IsFaithful means site.works
        → AreTexts (situation_of site.works.engine.core) site.carried.texts → IsReady means site
    faithful_ready f texts =
        record { begun = begins means site.works f; faithful = λ taken. f; texts = texts }

    pub failed_ready : IsBegun means site.works
        → (site.has_taken ≡ true → IsFaithful means site.works)
        → AreTexts (situation_of site.works.engine.core) site.carried.texts → IsReady means site
    failed_ready begun faithful texts =
        record { begun = begun; faithful = faithful; texts = texts }
