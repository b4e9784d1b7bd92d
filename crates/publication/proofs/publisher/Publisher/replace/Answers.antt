use Rattle.publication.specs.Wants.{wants_of}
use Rattle.std.proofs.Common.{ap, is_some}
use Rattle.publication.specs.Published.{Clearing, Dropping, may_stand_in}
use Rattle.publication.proofs.Keys.{drop_begins, bring_begins}
use Rattle.publication.proofs.Logging.{goes_exactly, writes_from, waits_clearing, tells_clearing}
use Rattle.publication.proofs.Planning.{on_err}
use Rattle.publication.proofs.Ending.{clearing_begins, placing_begins, placing_done}
use Rattle.publication.proofs.publisher.Publisher.replace.Goals as goal

pub returns-clause-ok : goal.returns-clause-ok
returns-clause-ok g c =
    let ws = wants_of c.args.profiles.now in
    let count = g.H.Shelf.fault_count c.args.shelf.now in
    let start = g.H.Shelf.cell c.args.shelf.now in
    let began : Clearing ws c.args.gone.now c.new-troubles.result.items count count start start =
    rw c.new-troubles.ensures.items (clearing_begins ws c.args.gone.now c.args.self.now count
    start c.requires.covers c.requires.knows) in
    placing_done _ _ _ _ _ _ (c.in_ok-place.ensures.ok count start
    (placing_begins _ _ _ _ _ _ (c.in_ok-clear.ensures.ok count start began)))

pub returns-in_err-clear-clause-err : goal.returns-in_err-clear-clause-err
returns-in_err-clear-clause-err g c =
    let ws = wants_of c.args.profiles.now in
    let count = g.H.Shelf.fault_count c.args.shelf.now in
    let start = g.H.Shelf.cell c.args.shelf.now in
    let began : Clearing ws c.args.gone.now c.new-troubles.result.items count count start start =
    rw c.new-troubles.ensures.items (clearing_begins ws c.args.gone.now c.args.self.now count
    start c.requires.covers c.requires.knows) in
    on_err c.from_residual.result (c.in_err-clear.ensures.err count start began)

pub returns-in_err-place-clause-err : goal.returns-in_err-place-clause-err
returns-in_err-place-clause-err g c =
    let ws = wants_of c.args.profiles.now in
    let count = g.H.Shelf.fault_count c.args.shelf.now in
    let start = g.H.Shelf.cell c.args.shelf.now in
    let began : Clearing ws c.args.gone.now c.new-troubles.result.items count count start start =
    rw c.new-troubles.ensures.items (clearing_begins ws c.args.gone.now c.args.self.now count
    start c.requires.covers c.requires.knows) in
    on_err c.from_residual-in_err-place.result (c.in_err-place.ensures.err count start
    (placing_begins _ _ _ _ _ _ (c.in_ok-clear.ensures.ok count start began)))

pub returns-clause-log : goal.returns-clause-log
returns-clause-log g c = λ told.
    let ws = wants_of c.args.profiles.now in
    let count = g.H.Shelf.fault_count c.args.shelf.now in
    let start = g.H.Shelf.cell c.args.shelf.now in
    let began : Clearing ws c.args.gone.now c.new-troubles.result.items count count start start =
    rw c.new-troubles.ensures.items (clearing_begins ws c.args.gone.now c.args.self.now count
    start c.requires.covers c.requires.knows) in
    let cleared = c.in_ok-clear.ensures.ok count start began in
    record {
      gone = c.args.gone.now;
      sorted = c.requires.sorted;
      exact = goes_exactly c.args.self.now c.args.profiles.now c.args.gone.now c.requires.going
          c.requires.covers c.requires.known;
      removal_failures = c.clear.new.troubles.items;
      between = g.H.Shelf.changes c.clear.new.shelf;
      removes = rw c.new-troubles.ensures.items at c.in_ok-clear.ensures.log;
      writes = writes_from _ _ _ start _ _ _ (waits_clearing c.args.profiles.now _ _ _ start _
          cleared) (c.in_ok-place.ensures.log (tells_clearing ws _ _ _ start _ cleared told));
    }

pub returns-clause-keys : goal.returns-clause-keys
returns-clause-keys g c = λ n.
    let ws = wants_of c.args.profiles.now in
    let start = may_stand_in c.args.self.now in
    let began : Dropping ws c.args.gone.now c.new-troubles.result.items start start =
    rw c.new-troubles.ensures.items (drop_begins ws c.args.gone.now start
    (λ m going absent. ap is_some (c.requires.covers m going absent)) c.requires.known
    c.requires.once) in
    (c.in_ok-place.ensures.keys start (bring_begins ws _ start _
    (c.in_ok-clear.ensures.keys start began))).keys n
