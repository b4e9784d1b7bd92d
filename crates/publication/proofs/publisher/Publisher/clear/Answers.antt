use Rattle.std.proofs.Common.{◌≡◌, ◌∙◌, ◌+◌, ◌∷◌, ◌++◌, [], drop, take, arith, true, ◌&&◌}
use Rattle.std.specs.List.{list_all}
use Rattle.std.proofs.lemmas.Grind.{common_steps}
use Rattle.publication.specs.OwnNames.{is_own}
use Rattle.publication.specs.Wants.{wants_of, goes}
use Rattle.publication.proofs.Proper.{and_left, and_right}
use Rattle.publication.proofs.Clearing.{sweep_step, goes_own}
use Rattle.publication.proofs.Keys.{drop_step}
use Rattle.publication.proofs.Logging.{removes_both}
use Rattle.publication.proofs.Planning.{on_err}
use Rattle.publication.proofs.Ending.{clearing_ended}
use Rattle.publication.proofs.publisher.Publisher.clear.Goals as goal

pub sweep-requires-clause-own : goal.sweep-requires-clause-own
sweep-requires-clause-own g c =
    let e : drop c.loop-name.name-index c.args.names.now
    ≡ c.name-item.result ∷ drop (c.loop-name.name-index + 1) c.args.names.now =
    grind (arith, common_steps, c.name-item.is, c.loop-name-test.true) in
    let all : (goes (wants_of c.args.wants.now) c.name-item.result
    && list_all (goes (wants_of c.args.wants.now))
    (drop (c.loop-name.name-index + 1) c.args.names.now)) ≡ true =
    rw e at c.loop-name.invariant.going in
    goes_own (wants_of c.args.wants.now) c.name-item.result
    (and_left (goes (wants_of c.args.wants.now) c.name-item.result)
    (list_all (goes (wants_of c.args.wants.now)) (drop (c.loop-name.name-index + 1)
    c.args.names.now)) all)

pub returns-in_err-sweep-clause-err : goal.returns-in_err-sweep-clause-err
returns-in_err-sweep-clause-err g c =
    let e : drop c.loop-name.name-index c.args.names.now
    ≡ c.name-item.result ∷ drop (c.loop-name.name-index + 1) c.args.names.now =
    grind (arith, common_steps, c.name-item.is, c.loop-name-test.true) in
    let all : (goes (wants_of c.args.wants.now) c.name-item.result
    && list_all (goes (wants_of c.args.wants.now))
    (drop (c.loop-name.name-index + 1) c.args.names.now)) ≡ true =
    rw e at c.loop-name.invariant.going in
    let own : is_own c.name-item.result ≡ true =
    goes_own (wants_of c.args.wants.now) c.name-item.result
    (and_left (goes (wants_of c.args.wants.now) c.name-item.result)
    (list_all (goes (wants_of c.args.wants.now)) (drop (c.loop-name.name-index + 1)
    c.args.names.now)) all) in
    on_err c.from_residual.result (λ before start began. clearing_ended _ _ _ before _ _ start _ _ _
    own (c.loop-name.invariant.clearing before start began) c.in_err-sweep.ensures.unsettles
    c.sweep.ensures.later)

pub loop-name-preserved : goal.loop-name-preserved
loop-name-preserved g c =
    let so_far : take (c.loop-name.name-index + 1) c.args.names.now
    ≡ take c.loop-name.name-index c.args.names.now ++ (c.name-item.result ∷ []) =
    grind (arith, common_steps, c.name-item.is, c.loop-name-test.true) in
    let ws = wants_of c.args.wants.now in
    let rest = drop (c.loop-name.name-index + 1) c.args.names.now in
    let e : drop c.loop-name.name-index c.args.names.now
    ≡ c.name-item.result ∷ drop (c.loop-name.name-index + 1) c.args.names.now =
    grind (arith, common_steps, c.name-item.is, c.loop-name-test.true) in
    let all : (goes ws c.name-item.result && list_all (goes ws) rest) ≡ true =
    rw e at c.loop-name.invariant.going in
    record {
      later = omega (arith, c.loop-name.invariant.later, c.sweep.ensures.later);
      opened = c.sweep.ensures.opened ∙ c.loop-name.invariant.opened;
      knows = c.in_ok-sweep.ensures.knows;
      going = and_right (goes ws c.name-item.result) (list_all (goes ws) rest) all;
      log = rw so_far (removes_both _ _ _ _ _ _ _ _ c.loop-name.invariant.log
          c.in_ok-sweep.ensures.log);
      most = c.sweep.ensures.most ∙ c.loop-name.invariant.most;
      removals = omega (arith, c.loop-name.invariant.removals, c.sweep.ensures.removals);
      keys = λ start began. drop_step ws c.name-item.result rest _ _ start _ _
          (and_left (goes ws c.name-item.result) (list_all (goes ws) rest) all)
          (rw e at (c.loop-name.invariant.keys start began)) c.in_ok-sweep.ensures.keys;
      clearing = λ before start began. sweep_step ws c.name-item.result rest _ _ before _ _ start _
          _ (and_left (goes ws c.name-item.result) (list_all (goes ws) rest) all)
          (rw e at (c.loop-name.invariant.clearing before start began)) c.in_ok-sweep.ensures.ok;
    }

pub returns-clause-ok : goal.returns-clause-ok
returns-clause-ok g c =
    let done : drop c.loop-name.name-index c.args.names.now ≡ [] =
    grind (arith, common_steps, c.loop-name-test.false) in
    λ before start began. rw done at (c.loop-name.invariant.clearing before start began)

pub returns-clause-log : goal.returns-clause-log
returns-clause-log g c =
    let all : take c.loop-name.name-index c.args.names.now ≡ c.args.names.now =
    grind (arith, common_steps, c.loop-name-test.false) in
    rw all at c.loop-name.invariant.log

pub returns-clause-keys : goal.returns-clause-keys
returns-clause-keys g c =
    let done : drop c.loop-name.name-index c.args.names.now ≡ [] =
    grind (arith, common_steps, c.loop-name-test.false) in
    λ start began. rw done at (c.loop-name.invariant.keys start began)
