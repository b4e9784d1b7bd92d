use Rattle.std.proofs.Common.{arith}
use Rattle.dml_meaning.proofs.Leaving.{look_leaves}
use Rattle.dml_world.proofs.paths.look.Goals as goal

pub returns-in-Err-Memory : goal.returns-in-Err-Memory
returns-in-Err-Memory g c = λ keys. (omega arith, λ told. look_leaves _ g.W.World.plain _ _ _ _ _)
