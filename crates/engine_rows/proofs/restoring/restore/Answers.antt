use Rattle.std.proofs.Common.{sym, subst}
use Rattle.kept_state.specs.Stored.{stored}
use Rattle.read_index.specs.Readers.{asks}
use Rattle.rebuild.specs.Sound.{IsSound}
use Rattle.rebuild.proofs.Engines.{is_ready_of}
use Rattle.engine_rows.specs.Restoring.{IsRestored}
use Rattle.engine_rows.proofs.Stored.{restored_sound}
use Rattle.engine_rows.proofs.restoring.restore.Goals as goal

pub with_core-requires-clause-ready : goal.with_core-requires-clause-ready
with_core-requires-clause-ready g c =
    is_ready_of c.in_ok-core.core c.in_ok-core.ensures.restored.ready

pub returns-clause-restored : goal.returns-clause-restored
returns-clause-restored g c = subst (IsRestored (stored c.args.kept)) (sym c.with_core.ensures.core)
    c.in_ok-core.ensures.restored

pub returns-clause-sound : goal.returns-clause-sound
returns-clause-sound g c = λ sound.
    let index = c.with_core.result.index in
    subst (λ core. IsSound g.R.Runner.meaning core (asks index)) (sym c.with_core.ensures.core)
    (restored_sound g.R.Runner.meaning (stored c.args.kept) c.in_ok-core.core (asks index)
    c.in_ok-core.ensures.restored c.with_core.ensures.asks sound)
