use Rattle.std.proofs.Common.{◌≡◌, take, map}
use Rattle.outside.specs.declared.sure_shelf.Held.{Held}
use Rattle.outside.proofs.sure_shelf.SureShelfShelf.names.Given as goal

abbrev pub invariant-loop-each : goal.invariant-loop-each
invariant-loop-each l = l.into.items ≡ map (λ (h : Held). h.name) (take l.each-index l.each-items)
