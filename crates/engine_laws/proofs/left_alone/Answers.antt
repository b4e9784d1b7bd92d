use Rattle.engine_laws.proofs.Narrowing.{left_alone}
use Rattle.engine_laws.proofs.left_alone.Goals as goal

pub returns : goal.returns
returns g c = λ run keeping judge. left_alone run keeping judge
