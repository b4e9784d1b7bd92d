use Rattle.object_meaning.proofs.BothLawful.{build_work, check_work}
use Rattle.object_meaning.proofs.laws.work_at_once.Goals as goal

pub returns : goal.returns
returns c = record { builds = build_work; checks = check_work }
