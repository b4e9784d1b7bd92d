use Rattle.rebuild.proofs.Engines.{ready_is}
use Rattle.engine_rows.proofs.Stored.{kept_sound, kept_all, sound_engine, restored_sound}
use Rattle.engine_rows.proofs.laws.goes_on.Goals as goal

pub returns-clause-sound : goal.returns-clause-sound
returns-clause-sound g c =
    λ core ready none engine. kept_sound g.R.Runner.meaning g.met.R.Runner.laws core
    (ready_is core ready) none engine

pub returns-clause-all : goal.returns-clause-all
returns-clause-all g c =
    λ core ready none engine. kept_all g.R.Runner.meaning g.met.R.Runner.laws core
    (ready_is core ready) none engine

pub returns-clause-engine : goal.returns-clause-engine
returns-clause-engine g c = λ kept sound. sound_engine g.R.Runner.meaning kept sound

pub returns-clause-restored : goal.returns-clause-restored
returns-clause-restored g c =
    λ kept core asks is none sound. restored_sound g.R.Runner.meaning kept core asks is none sound
