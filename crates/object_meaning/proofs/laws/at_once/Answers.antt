use Rattle.object_meaning.proofs.BothLawful.{build_ran, check_ran}
use Rattle.object_meaning.proofs.laws.at_once.Goals as goal

pub returns : goal.returns
returns c = record { builds = build_ran; checks = check_ran }
