use Rattle.std.proofs.Common.{◌≡◌, rules, subst}
use Rattle.sqlite.specs.State.{HasCleanDisk, Survives}
use Rattle.sqlite.specs.Held.{state}
use Rattle.keepers.specs.Keeping.{replaced}
use Rattle.row_table.specs.Steps.{Holds}
use Rattle.row_table.specs.Cells.{Turns}
use Rattle.row_table.proofs.Replacing.{committed_holds, committed_survives, committed_turns}
use Rattle.row_table.proofs.statements.replace_rows.Goals as goal

pub returns-in_err-commit-clause-survives : goal.returns-in_err-commit-clause-survives
returns-in_err-commit-clause-survives g c =
    let same : c.commit.new.self.0 ≡ c.conn-2-1.given.0 = search rules in
    let f = replaced c.args.names.now c.args.rows.now in
    subst (λ k. Survives (state g.S.Store c.args.conn.now) (state g.S.Store k)
    (Holds f (state g.S.Store c.args.conn.now))) same
    (committed_survives g.S.Store f c.args.conn.now (state g.S.Store c.change_rows.new.tx.conn.now)
    (state g.S.Store c.commit.new.self.0) c.requires.ours
    (rw c.transaction-tx.ensures.begun at c.in_ok-change_rows.ensures.step)
    (rw c.transaction-tx.ensures.begun at c.in_ok-change_rows.ensures.done)
    c.commit.ensures.survives)

pub returns-clause-survives : goal.returns-clause-survives
returns-clause-survives g c =
    let same : c.commit.new.self.0 ≡ c.conn-2-1.given.0 = search rules in
    let f = replaced c.args.names.now c.args.rows.now in
    subst (λ k. Survives (state g.S.Store c.args.conn.now) (state g.S.Store k)
    (Holds f (state g.S.Store c.args.conn.now))) same
    (committed_survives g.S.Store f c.args.conn.now (state g.S.Store c.change_rows.new.tx.conn.now)
    (state g.S.Store c.commit.new.self.0) c.requires.ours
    (rw c.transaction-tx.ensures.begun at c.in_ok-change_rows.ensures.step)
    (rw c.transaction-tx.ensures.begun at c.in_ok-change_rows.ensures.done)
    c.commit.ensures.survives)

pub returns-clause-done : goal.returns-clause-done
returns-clause-done g c =
    let same : c.commit.new.self.0 ≡ c.conn-2-1.given.0 = search rules in
    let f = replaced c.args.names.now c.args.rows.now in
    subst (λ k. HasCleanDisk (state g.S.Store k) → Holds f (state g.S.Store c.args.conn.now)
    (state g.S.Store k).now.trees) same
    (committed_holds g.S.Store f c.args.conn.now (state g.S.Store c.change_rows.new.tx.conn.now)
    (state g.S.Store c.commit.new.self.0) c.requires.ours
    (rw c.transaction-tx.ensures.begun at c.in_ok-change_rows.ensures.step)
    (rw c.transaction-tx.ensures.begun at c.in_ok-change_rows.ensures.done)
    c.commit.ensures.survives (λ clean. (c.in_ok-commit.ensures.ok clean).1))

pub returns-clause-turned : goal.returns-clause-turned
returns-clause-turned g c =
    let same : c.commit.new.self.0 ≡ c.conn-2-1.given.0 = search rules in
    let f = replaced c.args.names.now c.args.rows.now in
    subst (λ k. Turns f (state g.S.Store c.args.conn.now) (state g.S.Store k)) same
    (committed_turns g.S.Store f c.args.conn.now (state g.S.Store c.change_rows.new.tx.conn.now)
    (state g.S.Store c.commit.new.self.0) c.requires.ours
    (rw c.transaction-tx.ensures.begun at c.in_ok-change_rows.ensures.step)
    (rw c.transaction-tx.ensures.begun at c.in_ok-change_rows.ensures.done)
    c.commit.ensures.survives (λ clean. (c.in_ok-commit.ensures.ok clean).1))
