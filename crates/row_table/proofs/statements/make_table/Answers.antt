use Rattle.std.proofs.Common.{◌≡◌, rules, subst}
use Rattle.sqlite.specs.State.{HasCleanDisk, Survives}
use Rattle.sqlite.specs.Held.{state}
use Rattle.keepers.specs.Keeping.{unchanged}
use Rattle.row_table.specs.Steps.{IsMade, Holds}
use Rattle.row_table.specs.Cells.{Turns}
use Rattle.row_table.proofs.Making.{table_made, table_survives, table_turns}
use Rattle.row_table.proofs.statements.make_table.Goals as goal

pub returns-in_err-commit-clause-survives : goal.returns-in_err-commit-clause-survives
returns-in_err-commit-clause-survives g c =
    let same : c.commit.new.self.0 ≡ c.conn-2-1.given.0 = search rules in
    subst (λ k. Survives (state g.S.Store c.args.conn.now) (state g.S.Store k)
    (Holds unchanged (state g.S.Store c.args.conn.now))) same
    (table_survives g.S.Store c.args.conn.now (state g.S.Store c.add_table.new.tx.conn.now)
    (state g.S.Store c.commit.new.self.0) c.requires.bare
    (rw c.transaction-tx.ensures.begun at c.in_ok-add_table.ensures.step)
    (rw c.transaction-tx.ensures.begun at c.in_ok-add_table.ensures.done)
    c.commit.ensures.survives)

pub returns-clause-survives : goal.returns-clause-survives
returns-clause-survives g c =
    let same : c.commit.new.self.0 ≡ c.conn-2-1.given.0 = search rules in
    subst (λ k. Survives (state g.S.Store c.args.conn.now) (state g.S.Store k)
    (Holds unchanged (state g.S.Store c.args.conn.now))) same
    (table_survives g.S.Store c.args.conn.now (state g.S.Store c.add_table.new.tx.conn.now)
    (state g.S.Store c.commit.new.self.0) c.requires.bare
    (rw c.transaction-tx.ensures.begun at c.in_ok-add_table.ensures.step)
    (rw c.transaction-tx.ensures.begun at c.in_ok-add_table.ensures.done)
    c.commit.ensures.survives)

pub returns-clause-done : goal.returns-clause-done
returns-clause-done g c =
    let same : c.commit.new.self.0 ≡ c.conn-2-1.given.0 = search rules in
    subst (λ k. HasCleanDisk (state g.S.Store k) → IsMade (state g.S.Store k).now) same
    (table_made g.S.Store c.args.conn.now (state g.S.Store c.add_table.new.tx.conn.now)
    (state g.S.Store c.commit.new.self.0) c.requires.bare
    (rw c.transaction-tx.ensures.begun at c.in_ok-add_table.ensures.step)
    (rw c.transaction-tx.ensures.begun at c.in_ok-add_table.ensures.done)
    c.commit.ensures.survives (λ clean. (c.in_ok-commit.ensures.ok clean).1))

pub returns-clause-turned : goal.returns-clause-turned
returns-clause-turned g c =
    let same : c.commit.new.self.0 ≡ c.conn-2-1.given.0 = search rules in
    subst (λ k. Turns unchanged (state g.S.Store c.args.conn.now) (state g.S.Store k)) same
    (table_turns g.S.Store c.args.conn.now (state g.S.Store c.add_table.new.tx.conn.now)
    (state g.S.Store c.commit.new.self.0) c.requires.bare
    (rw c.transaction-tx.ensures.begun at c.in_ok-add_table.ensures.step)
    (rw c.transaction-tx.ensures.begun at c.in_ok-add_table.ensures.done)
    c.commit.ensures.survives (λ clean. (c.in_ok-commit.ensures.ok clean).1))
