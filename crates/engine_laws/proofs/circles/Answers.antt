use Rattle.engine_laws.proofs.Endless.{has_circles}
use Rattle.engine_laws.proofs.circles.Goals as goal

pub returns : goal.returns
returns g c = λ run w. has_circles run w
