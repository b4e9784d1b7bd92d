use Rattle.std.proofs.Common.{◌≡◌, ◌+◌, ◌∷◌, ◌++◌, [], drop, take, sym, ap, ◌∙◌, arith, rules, IfErr, None}
use Rattle.std.specs.Prelude.{flat_map}
use Rattle.std.proofs.lemmas.List.{take-append-drop}
use Rattle.publication.specs.Changing.{putting}
use Rattle.publication.specs.Puts.{placed, IsPutAt}
use Rattle.publication.specs.Wants.{wanted}
use Rattle.publication.proofs.Planning.{place_on, pending_on, puts_next, begun_place, on_err}
use Rattle.publication.proofs.Putting.{apart_once, apart_rest, puts_early, put_among}
use Rattle.publication.proofs.Shelving.{place_step}
use Rattle.std.proofs.lemmas.Grind.{common_steps}
use Rattle.std.proofs.lemmas.Result.{IfErr-weaker}
use Rattle.publication.proofs.puts.put_until_failure.Goals as goal

pub returns-in_err-put_want-clause-err : goal.returns-in_err-put_want-clause-err
returns-in_err-put_want-clause-err g c =
    let at : IfErr c.from_residual.result (IsPutAt c.want-item.result.name) = search rules in
    IfErr-weaker _ _ _ (λ e here. puts_early e (placed
    (drop c.loop-want.want-index c.args.wants.now)) c.args.wants.now _ _ _
    c.want-item.result.name c.loop-want.invariant.cells c.in_err-put_want.ensures.err here) at

pub returns-in_err-put_want-clause-among : goal.returns-in_err-put_want-clause-among
returns-in_err-put_want-clause-among g c =
    let e : drop c.loop-want.want-index c.args.wants.now
    ≡ c.want-item.result ∷ drop (c.loop-want.want-index + 1) c.args.wants.now =
    grind (arith, common_steps, c.want-item.is, c.loop-want-test.true) in
    let at : IfErr c.from_residual.result (IsPutAt c.want-item.result.name) = search rules in
    IfErr-weaker _ _ _ (λ e' here. put_among e' c.args.wants.now
    (drop (c.loop-want.want-index + 1) c.args.wants.now) c.want-item.result
    (flat_map (putting (g.H.Shelf.cell c.args.shelf.now))
    (take c.loop-want.want-index c.args.wants.now)) (rw e at c.loop-want.invariant.pending)
    here) at

pub loop-want-preserved : goal.loop-want-preserved
loop-want-preserved g c =
    let so_far : take (c.loop-want.want-index + 1) c.args.wants.now
    ≡ take c.loop-want.want-index c.args.wants.now ++ (c.want-item.result ∷ []) =
    grind (arith, common_steps, c.want-item.is, c.loop-want-test.true) in
    let e : drop c.loop-want.want-index c.args.wants.now
    ≡ c.want-item.result ∷ drop (c.loop-want.want-index + 1) c.args.wants.now =
    grind (arith, common_steps, c.want-item.is, c.loop-want-test.true) in
    let once : wanted (drop (c.loop-want.want-index + 1) c.args.wants.now) c.want-item.result.name
    ≡ None = apart_once c.want-item.result (drop (c.loop-want.want-index + 1) c.args.wants.now)
    (rw e at c.loop-want.invariant.apart) in
    record {
      faults = c.in_ok-put_want.ensures.cause.done ∙ c.loop-want.invariant.faults;
      opened = c.put_want.ensures.opened ∙ c.loop-want.invariant.opened;
      pending = rw (
        so_far,
        puts_next (g.H.Shelf.cell c.args.shelf.now)
            (take c.loop-want.want-index c.args.wants.now) c.want-item.result,
      )
          (pending_on (g.H.Shelf.cell c.args.shelf.now) c.args.wants.now
          (drop (c.loop-want.want-index + 1) c.args.wants.now) c.want-item.result
          (flat_map (putting (g.H.Shelf.cell c.args.shelf.now))
          (take c.loop-want.want-index c.args.wants.now)) once
          (rw e at c.loop-want.invariant.pending));
      made = λ told. rw so_far (place_on c.args.wants.now
          (take c.loop-want.want-index c.args.wants.now)
          (drop (c.loop-want.want-index + 1) c.args.wants.now) c.want-item.result _ _ _ _ _ _ told
          once (rw e at c.loop-want.invariant.pending) (c.loop-want.invariant.made told)
          c.in_ok-put_want.ensures.ok c.in_ok-put_want.ensures.done);
      apart = apart_rest c.want-item.result (drop (c.loop-want.want-index + 1) c.args.wants.now)
          (rw e at c.loop-want.invariant.apart);
      cells = place_step c.want-item.result (drop (c.loop-want.want-index + 1) c.args.wants.now) _ _
          _ _ once (rw e at c.loop-want.invariant.cells) c.in_ok-put_want.ensures.ok;
    }

pub returns-in_err-put_want-clause-begun : goal.returns-in_err-put_want-clause-begun
returns-in_err-put_want-clause-begun g c =
    let e : drop c.loop-want.want-index c.args.wants.now
    ≡ c.want-item.result ∷ drop (c.loop-want.want-index + 1) c.args.wants.now =
    grind (arith, common_steps, c.want-item.is, c.loop-want-test.true) in
    let whole : c.args.wants.now ≡ take c.loop-want.want-index c.args.wants.now
    ++ (c.want-item.result ∷ drop (c.loop-want.want-index + 1) c.args.wants.now) =
    sym (take-append-drop c.loop-want.want-index c.args.wants.now)
    ∙ ap (λ l. take c.loop-want.want-index c.args.wants.now ++ l) e in
    on_err c.from_residual.result (λ told. begun_place c.args.wants.now c.args.wants.now
    (take c.loop-want.want-index c.args.wants.now)
    (drop (c.loop-want.want-index + 1) c.args.wants.now) c.want-item.result _ _ _ _ _ _ whole
    (rw e at c.loop-want.invariant.pending) (c.loop-want.invariant.made told)
    c.in_err-put_want.ensures.err c.in_err-put_want.ensures.untouched
    c.in_err-put_want.ensures.undone)

pub returns-clause-made : goal.returns-clause-made
returns-clause-made g c =
    let all : take c.loop-want.want-index c.args.wants.now ≡ c.args.wants.now =
    grind (arith, common_steps, c.loop-want-test.false) in
    λ told. rw all at (c.loop-want.invariant.made told)
