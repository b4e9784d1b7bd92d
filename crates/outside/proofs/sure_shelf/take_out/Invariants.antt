use Rattle.std.proofs.Common.{◌≡◌, ◌++◌, drop}
use Rattle.outside.specs.Kept.{without}
use Rattle.outside.proofs.sure_shelf.take_out.Given as goal

abbrev pub invariant-loop-each : goal.invariant-loop-each
invariant-loop-each l = l.rest.items ++ without l.name (drop l.each-index l.held)
    ≡ without l.name l.held
