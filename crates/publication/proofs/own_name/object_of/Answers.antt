use Rattle.std.specs.Prelude.{codes}
use Rattle.publication.proofs.Wholes.{no_end}
use Rattle.publication.proofs.own_name.object_of.Goals as goal

pub unreachable-requires : goal.unreachable-requires
unreachable-requires c =
    no_end c.args.name.now (codes ".json") (codes ".dep") c.requires c.in_default.ensures.cases
    c.in_default-strip_suffix.ensures.cases
