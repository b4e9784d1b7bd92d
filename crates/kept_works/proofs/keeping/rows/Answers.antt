use Rattle.std.proofs.Common.{ap, ◌∙◌}
use Rattle.std.proofs.lemmas.Result.{IfOk-weaker}
use Rattle.record_rows.specs.Rows.{rows_of}
use Rattle.rebuild.specs.Engines.{value_of}
use Rattle.engine_rows.specs.Storing.{kept_of}
use Rattle.kept_works.proofs.Held.{kept_is}
use Rattle.kept_works.proofs.keeping.rows.Goals as goal

pub returns-clause-rows : goal.returns-clause-rows
returns-clause-rows g c = λ dirs limits e is.
    let engine = c.args.works.now.engine in
    let same = c.in_ok-kept.ensures ∙ ap (λ core. kept_of (value_of core)) c.core.ensures
    ∙ kept_is engine.core engine.ready dirs limits e is in
    IfOk-weaker c.encode.result _ _ (λ rows are. are ∙ ap rows_of same) c.encode.ensures.rows
