use Rattle.builtins_text.proofs.Parting.{five_parts}
use Rattle.builtins_text.proofs.addresses.address_of.Goals as goal

pub returns-in_default-clause-value : goal.returns-in_default-clause-value
returns-in_default-clause-value c =
    five_parts c.args.text.now c.in_ok-a.a.now c.in_ok-a.rest.now c.in_ok-b.b.now c.in_ok-b.rest.now
    c.in_ok-c.c.now c.in_ok-c.d.now
    c.in_default.field-0.0.now c.in_default.field-0.1.now c.in_ok-a.ensures c.in_ok-b.ensures
    c.in_ok-c.ensures c.in_default.ensures
