use Rattle.std.proofs.Common.{[], Some, ap, ◌∙◌}
use Rattle.read_sets.specs.Items.{pairs_of}
use Rattle.engine_turns.specs.Turning.{judged_run_turn, top_check_cause}
use Rattle.engine_turns.proofs.checking.judge_unfinished.Goals as goal

pub returns-clause-state : goal.returns-clause-state
returns-clause-state g c =
    let old = c.args.core.now in
    let why = top_check_cause c.args.differs old in
    c.judge_run_top.ensures.state
    ∙ ap (λ t. judged_run_turn old why (pairs_of t) (Some c.in_ok-cut_off.cut_off)) c.new.ensures
    ∙ ap (λ f. judged_run_turn old why [] (Some f)) c.in_ok-cut_off.ensures
