use Rattle.std.proofs.Common.{◌≡◌, drop, take}
use Rattle.std.specs.Prelude.{flat_map}
use Rattle.publication.specs.Changing.{Made, removal}
use Rattle.publication.specs.Halves.{cleared, Underway}
use Rattle.publication.proofs.until_failure.clear.Given as goal

abbrev pub invariant-loop-name : goal.invariant-loop-name
invariant-loop-name g l = record {
  faults : g.H.Shelf.fault_count l.shelf ≡ g.H.Shelf.fault_count l.fn.shelf;
  opened : g.H.Shelf.opened l.shelf ≡ g.H.Shelf.opened l.fn.shelf;
  made : Made l.wants (flat_map (removal l.wants) (take l.name-index l.listed))
      (g.H.Shelf.cell l.fn.shelf) (g.H.Shelf.cell l.shelf) (g.H.Shelf.changes l.fn.shelf)
      (g.H.Shelf.changes l.shelf);
  cells : Underway (cleared (drop l.name-index l.listed) l.wants)
      (λ n. cleared l.listed l.wants n (g.H.Shelf.cell l.fn.shelf n)) (g.H.Shelf.cell l.fn.shelf)
      (g.H.Shelf.cell l.shelf);
}
