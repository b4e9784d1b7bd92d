use Rattle.std.proofs.Common.{◌≡◌, ◌≤◌, ◌+◌, drop, IfSome, [], sum_by, fold}
use Rattle.base.specs.declared.limits.TheConstants.{MAX_SCAN_BYTES}
use Rattle.scans.specs.Scans.{weight_of, taken_in}
use Rattle.scans.proofs.scanning.read_picture.Given as goal

abbrev pub invariant-loop-i : goal.invariant-loop-i
invariant-loop-i g l = record {
  faults : g.S.Source.fault_count l.source ≡ g.S.Source.fault_count l.initial.source;
  opened : g.S.Source.opened l.source ≡ g.S.Source.opened l.initial.source;
  few : l.passed ≤ MAX_SCAN_BYTES;
  count : g.S.Source.count l.source ≡ l.count;
  scanned : g.S.Source.scanned l.source ≡ g.S.Source.scanned l.initial.source;
  coming : g.S.Source.coming l.source ≡ g.S.Source.coming l.initial.source;
  weights : IfSome (g.S.Source.scanned l.source)
      (λ files. l.passed + sum_by weight_of (drop l.i files) ≡ sum_by weight_of files);
  picture : IfSome (g.S.Source.scanned l.source)
      (λ files. fold taken_in l.picture (drop l.i files) ≡ fold taken_in [] files);
}
