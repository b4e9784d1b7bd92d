use Rattle.std.proofs.Common.{arith}
use Rattle.command_words.proofs.Digits.{is_start}
use Rattle.command_words.proofs.commands.start.Goals as goal

pub returns : goal.returns
returns c = is_start c.args.number (omega arith)
