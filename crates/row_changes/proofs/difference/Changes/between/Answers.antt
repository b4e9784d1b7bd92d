use Rattle.row_changes.proofs.Walk.{rest_rises}
use Rattle.row_changes.proofs.difference.Changes.between.Goals as goal

pub note_first-requires-clause-last_rises : goal.note_first-requires-clause-last_rises
note_first-requires-clause-last_rises c =
    rest_rises c.loop-i.i c.args.last.now c.requires.last_rises

pub note_first-requires-clause-wanted_rises : goal.note_first-requires-clause-wanted_rises
note_first-requires-clause-wanted_rises c =
    rest_rises c.loop-i.j c.args.wanted.now c.requires.wanted_rises
