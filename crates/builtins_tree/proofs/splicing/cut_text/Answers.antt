use Rattle.std.proofs.Common.{w64, rules}
use Rattle.std.proofs.Math.Facts.{to_z-of_z}
use Rattle.builtins_tree.proofs.Spliced.{no_chars}
use Rattle.builtins_tree.proofs.splicing.cut_text.Goals as goal

pub returns : goal.returns
returns c = rw (
  no_chars,
  to_z-of_z {w = w64} {z = c.args.start} (search rules),
  to_z-of_z {w = w64}
      {z = c.args.count} (search rules),
) at c.splice_text.ensures
