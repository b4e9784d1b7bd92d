use Rattle.engine_laws.proofs.Resting.{keeps_sound_rows}
use Rattle.engine_laws.proofs.keeps_sound_rows.Goals as goal

pub returns : goal.returns
returns g c = λ run keeping judge. keeps_sound_rows run keeping judge
