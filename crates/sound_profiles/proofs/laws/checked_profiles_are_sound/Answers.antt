use Rattle.sound_profiles.proofs.Profiles.{profiles_sound}
use Rattle.sound_profiles.proofs.laws.checked_profiles_are_sound.Goals as goal

pub returns : goal.returns
returns c = profiles_sound
