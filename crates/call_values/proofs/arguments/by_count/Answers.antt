use Rattle.call_values.proofs.Counts.{five}
use Rattle.call_values.proofs.arguments.by_count.Goals as goal

pub returns-in_default : goal.returns-in_default
returns-in_default c = five c.args.arguments.now c.in_default.len_at_least
