use Rattle.std.proofs.Common.{arith}
use Rattle.scans.proofs.Files.{count_step}
use Rattle.scans.proofs.scanning.count_names.Goals as goal

pub loop-i-preserved : goal.loop-i-preserved
loop-i-preserved g c = record {
  at_most = omega (arith, c.loop-i.invariant.at_most, c.name_count-named.ensures.at_most);
  told = count_step (g.S.Source.scanned c.args.source.now) c.loop-i.i c.loop-i.named
      c.name_count-named.result c.args.count (omega (arith, c.loop-i-test.true))
      c.name_count-named.ensures.told c.loop-i.invariant.told;
}
