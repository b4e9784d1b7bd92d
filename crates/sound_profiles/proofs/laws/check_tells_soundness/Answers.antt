use Rattle.sound_profiles.proofs.Profiles.{check_tells}
use Rattle.sound_profiles.proofs.laws.check_tells_soundness.Goals as goal

pub returns : goal.returns
returns c = check_tells
