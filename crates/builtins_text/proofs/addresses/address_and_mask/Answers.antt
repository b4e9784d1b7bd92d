use Rattle.builtins_text.proofs.Parting.{three_parts}
use Rattle.builtins_text.proofs.addresses.address_and_mask.Goals as goal

pub returns-in-Some-first_part : goal.returns-in-Some-first_part
returns-in-Some-first_part c =
    three_parts c.args.text.now c.in-Some.address.now c.in-Some.mask.now
    c.in-Some-first_part.field-0.0.now c.in-Some-first_part.field-0.1.now
    c.in-Some.ensures c.in-Some-first_part.ensures
