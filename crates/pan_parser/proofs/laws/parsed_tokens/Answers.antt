use Rattle.pan_parser.proofs.Whole.{one_template, parsed_fault, parsed_template}
use Rattle.pan_parser.proofs.laws.parsed_tokens.Goals as goal

pub returns : goal.returns
returns c = record { template = parsed_template; one = one_template; faults = parsed_fault }
