use Rattle.row_table.proofs.Turning.{turns_reading}
use Rattle.row_table.proofs.Asking.{ids_told, ids_reading, ids_survives}
use Rattle.row_table.proofs.queries.id_rows.Goals as goal

pub returns-clause-shown : goal.returns-clause-shown
returns-clause-shown g c =
    λ clean. ids_told (λ rows. rows.items) _ _ c.requires.ours c.query_all.result
    (c.query_all.ensures.ok clean)

pub returns-clause-reading : goal.returns-clause-reading
returns-clause-reading g c =
    λ clean. ids_reading (λ rows. rows.items) _ _ c.requires.ours c.query_all.result
    (c.query_all.ensures.ok clean) (c.query_all.ensures.err clean)

pub returns-clause-survives : goal.returns-clause-survives
returns-clause-survives g c =
    ids_survives (λ rows. rows.items) _ _ c.requires.ours c.query_all.result
    c.query_all.ensures.survives

pub returns-clause-turns : goal.returns-clause-turns
returns-clause-turns g c =
    λ settled. turns_reading _ _ c.query_all.result settled
    (λ clean. ids_reading (λ rows. rows.items) _ _ c.requires.ours c.query_all.result
    (c.query_all.ensures.ok clean) (c.query_all.ensures.err clean))
