-- A publication that was cut off changes no rows.
use Rattle.std.proofs.Common.{List, ap, inl, inr, refl}
use Rattle.engine_session.specs.Compiler.{Compiled}
use Rattle.publication.specs.declared.publisher.Publisher.{Publisher}
use Rattle.session.specs.Machines.{Machine}
use Rattle.stored_rows.specs.declared.row.StoredRow.{StoredRow}
use Rattle.watch.specs.Shelves.{Shelved, Stock}
use Rattle.watch.specs.Steps.{StopsAnnouncing, StopsPublishing}

pub stopped_announcing : {T : Type 0} (machine : Machine (Compiled T)) (rows : List StoredRow)
    (engine : Compiled T) (publisher : Publisher) (before after : Shelved) (stock : Stock)
    → StopsAnnouncing machine engine publisher before after
    → StopsPublishing machine rows engine publisher (record { shelf = before; stock = stock })
    (record { shelf = after; stock = stock })
stopped_announcing machine rows engine publisher before after stock (inl same) = inl (ap (λ shelf.
    record { shelf = shelf; stock = stock }) same)
stopped_announcing machine rows engine publisher before after stock (inr i) = inr (inl (i, refl))
