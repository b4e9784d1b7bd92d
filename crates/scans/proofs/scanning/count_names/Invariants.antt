use Rattle.std.proofs.Common.{◌≡◌, ◌≤◌, ◌+◌, drop, length, IfSome, count_by}
use Rattle.scans.specs.Scans.{has_file_name}
use Rattle.scans.proofs.scanning.count_names.Given as goal

abbrev pub invariant-loop-i : goal.invariant-loop-i
invariant-loop-i g l = record {
  at_most : l.named ≤ l.i;
  told : IfSome (g.S.Source.scanned l.source) (λ files. length files
      ≡ l.count → l.named + count_by has_file_name (drop l.i files) ≡ count_by has_file_name files);
}
