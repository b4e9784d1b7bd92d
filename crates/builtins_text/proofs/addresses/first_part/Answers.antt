use Rattle.builtins_text.proofs.Parting.{parted}
use Rattle.builtins_text.proofs.addresses.first_part.Goals as goal

pub returns : goal.returns
returns c = parted c.args.separator c.args.text.now c.split_once.result c.split_once.ensures.cases
    c.requires
