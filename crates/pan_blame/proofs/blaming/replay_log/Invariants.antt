use Rattle.std.proofs.Common.{drop}
use Rattle.pan_blame.specs.Marks.{all_marks}
use Rattle.pan_blame.specs.Underway.{IsUnderway}
use Rattle.pan_blame.specs.Tags.{Tag}
use Rattle.pan_blame.proofs.blaming.replay_log.Given as goal

abbrev pub invariant-loop-i : goal.invariant-loop-i
invariant-loop-i l = (header : Tag) → IsUnderway header l.log (drop l.i l.log) l.i l.replay.tree
    (all_marks l.replay.top l.object l.replay.layers.items)
