use Rattle.std.proofs.Common.{◌+◌, length, refl}
use Rattle.publication.proofs.Wholes.{whole_cell, exact_cell}
use Rattle.publication.proofs.reading.is_read_as.Goals as goal

pub returns-in-Ok-true-clause-ok : goal.returns-in-Ok-true-clause-ok
returns-in-Ok-true-clause-ok g c =
    λ same. whole_cell (length c.args.bytes.now + 1)
    (g.H.Shelf.cell c.args.shelf.now c.args.name.now) c.in-Ok-true.field-0 c.eq.result
    c.read.new.into.items c.as_slice.result.now c.args.bytes.now c.in-Ok-true.field-0-test
    c.as_slice.ensures.value same c.eq.ensures refl c.in-Ok-true.ensures.ok

pub returns-in-Ok-true-clause-exact : goal.returns-in-Ok-true-clause-exact
returns-in-Ok-true-clause-exact g c =
    exact_cell (length c.args.bytes.now + 1) (g.H.Shelf.cell c.args.shelf.now c.args.name.now)
    c.in-Ok-true.field-0 c.eq.result c.read.new.into.items c.as_slice.result.now c.args.bytes.now
    c.in-Ok-true.field-0-test c.as_slice.ensures.value c.eq.ensures refl c.in-Ok-true.ensures.ok
