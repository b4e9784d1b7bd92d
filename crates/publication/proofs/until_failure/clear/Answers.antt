use Rattle.std.proofs.Common.{◌∙◌, ◌≡◌, ◌+◌, ◌∷◌, ◌++◌, [], drop, take, sym, ap, arith, rules, IfErr}
use Rattle.std.specs.Prelude.{flat_map}
use Rattle.std.proofs.lemmas.List.{take-append-drop}
use Rattle.publication.specs.Changing.{removal}
use Rattle.publication.proofs.Planning.{made_on, made_sweep, removals_next, begun_sweep, on_err}
use Rattle.std.proofs.lemmas.Grind.{common_steps}
use Rattle.std.proofs.lemmas.Result.{IfErr-weaker}
use Rattle.publication.specs.Leavings.{IsEndAt}
use Rattle.publication.specs.Halves.{cleared}
use Rattle.publication.proofs.Shelving.{left_early, cleared_keeps, clear_step}
use Rattle.publication.proofs.until_failure.clear.Goals as goal

pub returns-in_err-sweep-clause-err : goal.returns-in_err-sweep-clause-err
returns-in_err-sweep-clause-err g c =
    let at : IfErr c.from_residual.result (IsEndAt c.name-item.result) = search rules in
    IfErr-weaker _ _ _ (λ e here. left_early e _ (cleared c.args.listed.now c.args.wants.now) _ _ _
    _ (cleared_keeps c.args.listed.now c.args.wants.now) c.in_err-sweep.ensures.own
    c.loop-name.invariant.cells c.in_err-sweep.ensures.err here) at

pub loop-name-preserved : goal.loop-name-preserved
loop-name-preserved g c =
    let so_far : take (c.loop-name.name-index + 1) c.args.listed.now
    ≡ take c.loop-name.name-index c.args.listed.now ++ (c.name-item.result ∷ []) =
    grind (arith, common_steps, c.name-item.is, c.loop-name-test.true) in
    let e : drop c.loop-name.name-index c.args.listed.now
    ≡ c.name-item.result ∷ drop (c.loop-name.name-index + 1) c.args.listed.now =
    grind (arith, common_steps, c.name-item.is, c.loop-name-test.true) in
    record {
      faults = c.in_ok-sweep.ensures.cause.done ∙ c.loop-name.invariant.faults;
      opened = c.sweep.ensures.opened ∙ c.loop-name.invariant.opened;
      made = rw (
        so_far,
        removals_next c.args.wants.now
            (take c.loop-name.name-index c.args.listed.now) c.name-item.result,
      )
          (made_on c.args.wants.now (flat_map (removal c.args.wants.now)
          (take c.loop-name.name-index c.args.listed.now))
          (removal c.args.wants.now c.name-item.result) _ _ _ _ _ _ c.loop-name.invariant.made
          (made_sweep c.args.wants.now c.name-item.result _ _ _ _
          (c.in_ok-sweep.ensures.ok c.args.wants.now c.requires.names)
          (c.in_ok-sweep.ensures.done c.args.wants.now c.requires.names)));
      cells = clear_step c.name-item.result _ _ _ _ _ _ (rw e at c.loop-name.invariant.cells)
          (c.in_ok-sweep.ensures.ok c.args.wants.now c.requires.names);
    }

pub returns-in_err-sweep-clause-begun : goal.returns-in_err-sweep-clause-begun
returns-in_err-sweep-clause-begun g c =
    let e : drop c.loop-name.name-index c.args.listed.now
    ≡ c.name-item.result ∷ drop (c.loop-name.name-index + 1) c.args.listed.now =
    grind (arith, common_steps, c.name-item.is, c.loop-name-test.true) in
    let whole : c.args.listed.now ≡ take c.loop-name.name-index c.args.listed.now
    ++ (c.name-item.result ∷ drop (c.loop-name.name-index + 1) c.args.listed.now) =
    sym (take-append-drop c.loop-name.name-index c.args.listed.now)
    ∙ ap (λ l. take c.loop-name.name-index c.args.listed.now ++ l) e in
    on_err c.from_residual.result (begun_sweep c.args.wants.now c.args.listed.now
    (take c.loop-name.name-index c.args.listed.now)
    (drop (c.loop-name.name-index + 1) c.args.listed.now) c.name-item.result _ _ _ _ _ _ whole
    (c.in_err-sweep.ensures.going c.args.wants.now c.requires.names) c.loop-name.invariant.made
    c.in_err-sweep.ensures.err c.in_err-sweep.ensures.undone)

pub returns-clause-made : goal.returns-clause-made
returns-clause-made g c =
    let all : take c.loop-name.name-index c.args.listed.now ≡ c.args.listed.now =
    grind (arith, common_steps, c.loop-name-test.false) in
    rw all at c.loop-name.invariant.made
