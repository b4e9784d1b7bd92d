-- Where an item is opened, as definitions see it.
use Rattle.dml_meaning.specs.Around.{Around}
use Rattle.dml_world.specs.declared.world.World as world
use Rattle.dml_world.specs.Seen.{around_of}
use Rattle.dml_eval.specs.declared.here.Here.{Here}

abbrev pub around_in : {W C : Type 0} → world.Ghosts W C → Here → Around
around_in M here = around_of here.around.now M.reading M.calls
