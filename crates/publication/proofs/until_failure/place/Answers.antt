use Rattle.std.proofs.Common.{◌≡◌, ◌+◌, ◌∷◌, ◌++◌, [], None, IfSome, is_some, true, drop, take, sym, ap, subst, ◌∙◌, arith, rules, IfErr}
use Rattle.std.specs.Prelude.{bytes_eq, flat_map}
use Rattle.std.specs.HashSet.{contains}
use Rattle.std.proofs.lemmas.List.{take-append-drop}
use Rattle.publication.specs.Changing.{putting}
use Rattle.publication.proofs.Planning.{place_on, did_as, pending_on, puts_next, begun_place, on_err, first_wanted, still_absent}
use Rattle.std.proofs.lemmas.Grind.{common_steps}
use Rattle.std.proofs.lemmas.Result.{IfErr-weaker}
use Rattle.publication.specs.Leavings.{IsEndAt}
use Rattle.publication.specs.Halves.{placed}
use Rattle.publication.specs.Wants.{wanted}
use Rattle.publication.specs.OwnNames.{is_own}
use Rattle.publication.proofs.Shelving.{left_early, placed_keeps, place_step}
use Rattle.publication.proofs.Proper.{proper_own, proper_rest, proper_once}
use Rattle.publication.proofs.until_failure.place.Goals as goal

pub bring-requires-clause-absent : goal.bring-requires-clause-absent
bring-requires-clause-absent g c =
    let e : drop c.loop-want.want-index c.args.wants.now
    ≡ c.want-item.result ∷ drop (c.loop-want.want-index + 1) c.args.wants.now =
    grind (arith, common_steps, c.want-item.is, c.loop-want-test.true) in
    let here : is_some (wanted (drop c.loop-want.want-index c.args.wants.now)
    c.want-item.result.name) ≡ true = rw e (ap is_some (first_wanted c.want-item.result
    (drop (c.loop-want.want-index + 1) c.args.wants.now))) in
    λ none. subst (λ n. IfSome (g.H.Shelf.cell c.loop-want.shelf n) (λ content. content ≡ None))
    (sym c.as_str.ensures.text) (c.loop-want.invariant.absent c.want-item.result.name here
    (sym c.contains-may_stand.ensures ∙ none))

pub returns-in_err-bring-clause-err : goal.returns-in_err-bring-clause-err
returns-in_err-bring-clause-err g c =
    let e : drop c.loop-want.want-index c.args.wants.now
    ≡ c.want-item.result ∷ drop (c.loop-want.want-index + 1) c.args.wants.now =
    grind (arith, common_steps, c.want-item.is, c.loop-want-test.true) in
    let at : IfErr c.from_residual.result (IsEndAt c.as_str.result.now) = search rules in
    IfErr-weaker _ _ _ (λ e' here. left_early e' _ (placed c.args.wants.now) _ _ _ _
    (placed_keeps c.args.wants.now c.requires.proper) (ap is_own c.as_str.ensures.text
    ∙ proper_own c.want-item.result (drop (c.loop-want.want-index + 1) c.args.wants.now)
    (rw e at c.loop-want.invariant.proper)) c.loop-want.invariant.cells
    c.in_err-bring.ensures.err here) at

pub loop-want-preserved : goal.loop-want-preserved
loop-want-preserved g c =
    let so_far : take (c.loop-want.want-index + 1) c.args.wants.now
    ≡ take c.loop-want.want-index c.args.wants.now ++ (c.want-item.result ∷ []) =
    grind (arith, common_steps, c.want-item.is, c.loop-want-test.true) in
    let e : drop c.loop-want.want-index c.args.wants.now
    ≡ c.want-item.result ∷ drop (c.loop-want.want-index + 1) c.args.wants.now =
    grind (arith, common_steps, c.want-item.is, c.loop-want-test.true) in
    let once : wanted (drop (c.loop-want.want-index + 1) c.args.wants.now) c.want-item.result.name
    ≡ None = proper_once c.want-item.result (drop (c.loop-want.want-index + 1) c.args.wants.now)
    (rw e at c.loop-want.invariant.proper) in
    record {
      faults = c.in_ok-bring.ensures.cause.done ∙ c.loop-want.invariant.faults;
      opened = c.bring.ensures.opened ∙ c.loop-want.invariant.opened;
      absent = still_absent (contains bytes_eq c.args.there.now) c.want-item.result
          (drop (c.loop-want.want-index + 1) c.args.wants.now) _ _ once
          (rw (c.as_str.ensures.text, c.as_slice.ensures) at c.in_ok-bring.ensures.ok)
          (rw e at c.loop-want.invariant.absent);
      pending = rw (
        so_far,
        puts_next (g.H.Shelf.cell c.args.shelf.now)
            (take c.loop-want.want-index c.args.wants.now) c.want-item.result,
      )
          (pending_on (g.H.Shelf.cell c.args.shelf.now) c.args.wants.now
          (drop (c.loop-want.want-index + 1) c.args.wants.now) c.want-item.result
          (flat_map (putting (g.H.Shelf.cell c.args.shelf.now))
          (take c.loop-want.want-index c.args.wants.now)) once
          (rw e at c.loop-want.invariant.pending));
      made = λ told. rw so_far (place_on c.args.wants.now
          (take c.loop-want.want-index c.args.wants.now)
          (drop (c.loop-want.want-index + 1) c.args.wants.now) c.want-item.result _ _ _ _ _ _ told
          once (rw e at c.loop-want.invariant.pending) (c.loop-want.invariant.made told)
          (rw (c.as_str.ensures.text, c.as_slice.ensures) at c.in_ok-bring.ensures.ok)
          (did_as (g.H.Shelf.cell c.loop-want.shelf) (g.H.Shelf.changes c.loop-want.shelf)
          (g.H.Shelf.changes c.bring.new.shelf) c.as_str.result.now c.want-item.result.name
          c.as_slice.result.now c.want-item.result.bytes c.as_str.ensures.text c.as_slice.ensures
          c.in_ok-bring.ensures.done));
      proper = proper_rest c.want-item.result (drop (c.loop-want.want-index + 1) c.args.wants.now)
          (rw e at c.loop-want.invariant.proper);
      cells = place_step c.want-item.result (drop (c.loop-want.want-index + 1) c.args.wants.now) _ _
          _ _ once (rw e at c.loop-want.invariant.cells)
          (rw (c.as_str.ensures.text, c.as_slice.ensures) at c.in_ok-bring.ensures.ok);
    }

pub returns-in_err-bring-clause-begun : goal.returns-in_err-bring-clause-begun
returns-in_err-bring-clause-begun g c =
    let e : drop c.loop-want.want-index c.args.wants.now
    ≡ c.want-item.result ∷ drop (c.loop-want.want-index + 1) c.args.wants.now =
    grind (arith, common_steps, c.want-item.is, c.loop-want-test.true) in
    let whole : c.args.wants.now ≡ take c.loop-want.want-index c.args.wants.now
    ++ (c.want-item.result ∷ drop (c.loop-want.want-index + 1) c.args.wants.now) =
    sym (take-append-drop c.loop-want.want-index c.args.wants.now)
    ∙ ap (λ l. take c.loop-want.want-index c.args.wants.now ++ l) e in
    on_err c.from_residual.result (λ told. begun_place c.args.wants.now c.args.wants.now
    (take c.loop-want.want-index c.args.wants.now)
    (drop (c.loop-want.want-index + 1) c.args.wants.now) c.want-item.result _ _ _ _ _ _ whole
    (rw e at c.loop-want.invariant.pending) (c.loop-want.invariant.made told)
    (rw c.as_str.ensures.text at c.in_err-bring.ensures.err)
    (rw (c.as_str.ensures.text, c.as_slice.ensures) at c.in_err-bring.ensures.untouched)
    c.in_err-bring.ensures.undone)

pub returns-clause-made : goal.returns-clause-made
returns-clause-made g c =
    let all : take c.loop-want.want-index c.args.wants.now ≡ c.args.wants.now =
    grind (arith, common_steps, c.loop-want-test.false) in
    λ told. rw all at (c.loop-want.invariant.made told)
