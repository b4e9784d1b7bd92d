-- An engine whose exact clauses hold.
use Rattle.engine_turns.specs.declared.core_data.Core.{Core}
use Rattle.rebuild.specs.Engines.{Meanings, situation_of, value_of, IsEngine}
use Rattle.rebuild.specs.Reaching.{Asking, AreIndexed}

-- some list of events leads to the engine's situation, from a new engine or from sound rows, and
-- its
-- index says what its records say
pub record IsSound {T : Type 0} (m : Meanings T) (core : Core T)
    (asks : Asking) : Type 0 where
  pub reached : ∥ IsEngine m (value_of core) ∥₁
  pub indexed : AreIndexed asks (situation_of core)
