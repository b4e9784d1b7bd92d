use Rattle.questions.specs.Told.{only}
use Rattle.validate.specs.Checked.{bound_run}
use Rattle.validate.proofs.whole.check_there.Goals as goal

pub returns-clause-gives : goal.returns-clause-gives
unfolding bound_run
returns-clause-gives g c = λ keys.
    let gives = c.check_value.ensures.gives keys in (
      gives.0,
      λ told. c.placed.ensures _ (only keys g.E.Evaluator.answers) _
          (rw c.as_resolved-resolved.ensures.value at (gives.1 told)),
    )
