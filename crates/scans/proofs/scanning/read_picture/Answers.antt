use Rattle.std.proofs.Common.{◌+◌, sym, ◌∙◌, arith}
use Rattle.scans.proofs.Files.{weight_step, picture_step, scan_much}
use Rattle.scans.proofs.scanning.read_picture.Goals as goal

pub returns-then-passed-gt-MAX_SCAN_BYTES-clause-ok : goal.returns-then-passed-gt-MAX_SCAN_BYTES-clause-ok
returns-then-passed-gt-MAX_SCAN_BYTES-clause-ok g c =
    let long = rw (sym c.in-Ok.ensures.count) at c.in-Ok.ensures.told in
    let here = rw (sym c.loop-i.invariant.scanned) at long in
    let weights = weight_step (g.S.Source.scanned c.loop-i.source) c.loop-i.i c.in-Ok.count
    c.loop-i.passed c.in_ok-passed.field-0 c.loop-i.picture c.read_one.new.picture
    (omega (arith, c.loop-i-test.true)) here c.in_ok-passed.ensures.ok
    c.loop-i.invariant.weights in
    scan_much (g.S.Source.coming c.args.source.now) (g.S.Source.scanned c.begin_scan.new.self)
    c.in-Ok.count c.count_names.result (c.loop-i.i + 1)
    (c.loop-i.passed + c.in_ok-passed.field-0) c.in-Ok.ensures.taken long
    c.count_names.ensures.told (omega (arith, c.if-count_names-gt-MAX_SCAN_FILES.false))
    (omega (arith, c.if-passed-gt-MAX_SCAN_BYTES.true))
    (rw c.loop-i.invariant.scanned at weights)

pub loop-i-preserved : goal.loop-i-preserved
loop-i-preserved g c =
    let long = rw (sym c.in-Ok.ensures.count) at c.in-Ok.ensures.told in
    let here = rw (sym c.loop-i.invariant.scanned) at long in
    record {
      faults = c.in_ok-passed.ensures.cause.done ∙ c.loop-i.invariant.faults;
      opened = c.in_ok-passed.ensures.opened ∙ c.loop-i.invariant.opened;
      few = omega (arith, c.if-passed-gt-MAX_SCAN_BYTES.false);
      count = c.in_ok-passed.ensures.count ∙ c.loop-i.invariant.count;
      scanned = c.in_ok-passed.ensures.scanned ∙ c.loop-i.invariant.scanned;
      coming = c.in_ok-passed.ensures.coming ∙ c.loop-i.invariant.coming;
      weights = rw c.in_ok-passed.ensures.scanned (weight_step (g.S.Source.scanned c.loop-i.source)
          c.loop-i.i c.in-Ok.count c.loop-i.passed c.in_ok-passed.field-0 c.loop-i.picture
          c.read_one.new.picture (omega (arith, c.loop-i-test.true)) here c.in_ok-passed.ensures.ok
          c.loop-i.invariant.weights);
      picture = rw c.in_ok-passed.ensures.scanned (picture_step (g.S.Source.scanned c.loop-i.source)
          c.loop-i.i c.in-Ok.count c.in_ok-passed.field-0 c.loop-i.picture c.read_one.new.picture
          (omega (arith, c.loop-i-test.true)) here c.in_ok-passed.ensures.ok
          c.loop-i.invariant.picture);
    }
