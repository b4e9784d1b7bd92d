use Rattle.std.proofs.Common.{map, sym, ap, ◌∙◌, subst}
use Rattle.kept_state.specs.Stored.{object_name}
use Rattle.rebuild.proofs.Engines.{ready_is}
use Rattle.engine_rows.specs.Restoring.{IsSoundKept}
use Rattle.engine_rows.proofs.Stored.{kept_sound, kept_all}
use Rattle.kept_works.proofs.Held.{kept_is}
use Rattle.kept_works.proofs.laws.goes_on.Goals as goal

pub returns-clause-sound : goal.returns-clause-sound
returns-clause-sound g c = λ works none faithful dirs limits e is.
    let core = works.engine.core in
    let ready = works.engine.ready in
    subst (λ s. ∥ IsSoundKept g.R.Runner.meaning s ∥₁) (kept_is core ready dirs limits e is)
    (kept_sound g.R.Runner.meaning g.met.R.Runner.laws core (ready_is core ready) none
    faithful.sound.reached)

pub returns-clause-all : goal.returns-clause-all
returns-clause-all g c = λ works none faithful dirs limits e is.
    let core = works.engine.core in
    let ready = works.engine.ready in
    ap (λ s. map object_name s.objects) (sym (kept_is core ready dirs limits e is))
    ∙ kept_all g.R.Runner.meaning g.met.R.Runner.laws core (ready_is core ready) none
    faithful.sound.reached
