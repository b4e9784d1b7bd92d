use Rattle.std.proofs.Common.{◌≡◌, ℕ, List, drop, take, is_some, true}
use Rattle.std.specs.Prelude.{bytes_eq, flat_map}
use Rattle.std.specs.HashSet.{contains}
use Rattle.publication.specs.Changing.{Made, Tells, putting}
use Rattle.publication.proofs.Planning.{Pending}
use Rattle.publication.specs.Wants.{proper, wanted}
use Rattle.publication.specs.Listings.{IsAbsentUnless}
use Rattle.publication.specs.Halves.{placed, Underway}
use Rattle.publication.proofs.until_failure.place.Given as goal

abbrev pub invariant-loop-want : goal.invariant-loop-want
invariant-loop-want g l = record {
  faults : g.H.Shelf.fault_count l.shelf ≡ g.H.Shelf.fault_count l.fn.shelf;
  opened : g.H.Shelf.opened l.shelf ≡ g.H.Shelf.opened l.fn.shelf;
  proper : proper (drop l.want-index l.wants) ≡ true;
  absent : (n : List ℕ) → is_some (wanted (drop l.want-index l.wants) n) ≡ true
      → IsAbsentUnless (contains bytes_eq l.there n) (g.H.Shelf.cell l.shelf n);
  pending : Pending l.wants (drop l.want-index l.wants)
      (flat_map (putting (g.H.Shelf.cell l.fn.shelf)) (take l.want-index l.wants));
  made : Tells (g.H.Shelf.cell l.fn.shelf) → Made l.wants
      (flat_map (putting (g.H.Shelf.cell l.fn.shelf)) (take l.want-index l.wants))
      (g.H.Shelf.cell l.fn.shelf) (g.H.Shelf.cell l.shelf) (g.H.Shelf.changes l.fn.shelf)
      (g.H.Shelf.changes l.shelf);
  cells : Underway (placed (drop l.want-index l.wants))
      (λ n. placed l.wants n (g.H.Shelf.cell l.fn.shelf n)) (g.H.Shelf.cell l.fn.shelf)
      (g.H.Shelf.cell l.shelf);
}
