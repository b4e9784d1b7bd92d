use Rattle.std.proofs.Common.{◌≡◌, drop}
use Rattle.outside.specs.Kept.{kept}
use Rattle.outside.proofs.sure_shelf.find.Given as goal

abbrev pub invariant-loop-each : goal.invariant-loop-each
invariant-loop-each l = kept (drop l.each-index l.held) l.name ≡ kept l.held l.name
