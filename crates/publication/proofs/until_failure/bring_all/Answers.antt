use Rattle.std.proofs.Common.{IfErr, rules}
use Rattle.std.proofs.lemmas.Result.{on_err_weaker, on_ok_weaker}
use Rattle.publication.specs.Halves.{cleared, LeftAs}
use Rattle.publication.proofs.Planning.{begun_first, begun_second, made_both, on_err}
use Rattle.publication.proofs.Shelving.{published_ok, cleared_absent, cleared_left, placed_left}
use Rattle.publication.proofs.until_failure.bring_all.Goals as goal

pub returns-in_err-clear-clause-err : goal.returns-in_err-clear-clause-err
returns-in_err-clear-clause-err g c =
    let left : IfErr c.from_residual-in_err-clear.result (λ e. LeftAs e
    (cleared c.args.listed.now c.args.wants.now) (g.H.Shelf.cell c.args.shelf.now)
    (g.H.Shelf.cell c.clear.new.shelf)) = search rules in
    cleared_left c.from_residual-in_err-clear.result c.args.listed.now c.args.wants.now _ _ left

pub place-requires-clause-absent : goal.place-requires-clause-absent
place-requires-clause-absent g c =
    cleared_absent c.args.listed.now c.args.wants.now _ _ _ c.requires.listed
    c.in_ok-there.ensures c.in_ok-clear.ensures.ok

pub returns-clause-ok : goal.returns-clause-ok
returns-clause-ok g c = on_ok_weaker c.place.result
    (λ placed. published_ok c.args.listed.now _ _ _ _ c.requires.proper c.requires.listed
    c.in_ok-clear.ensures.ok placed) c.place.ensures.ok

pub returns-clause-err : goal.returns-clause-err
returns-clause-err g c =
    placed_left c.place.result c.args.listed.now c.args.wants.now _ _ _ c.requires.proper
    c.requires.listed c.in_ok-clear.ensures.ok c.place.ensures.err

pub returns-in_err-clear-clause-begun : goal.returns-in_err-clear-clause-begun
returns-in_err-clear-clause-begun g c =
    on_err c.from_residual-in_err-clear.result
    (λ told. begun_first _ _ _ _ _ _ _ c.in_err-clear.ensures.begun)

pub returns-clause-made : goal.returns-clause-made
returns-clause-made g c =
    on_ok_weaker c.place.result (λ placed told. made_both c.args.wants.now c.args.listed.now _ _ _ _
    _ _ c.in_ok-clear.ensures.made placed told) c.place.ensures.made

pub returns-clause-begun : goal.returns-clause-begun
returns-clause-begun g c =
    on_err_weaker c.place.result (λ placed told. begun_second c.args.wants.now c.args.listed.now _ _
    _ _ _ _ c.in_ok-clear.ensures.made placed told) c.place.ensures.begun
