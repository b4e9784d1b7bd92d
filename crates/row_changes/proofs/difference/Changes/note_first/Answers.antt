use Rattle.std.proofs.Common.{◌≡◌, ◌∷◌, drop, arith}
use Rattle.std.proofs.lemmas.Grind.{common_steps}
use Rattle.row_changes.proofs.Walk.{lower_passes}
use Rattle.row_changes.proofs.difference.Changes.note_first.Goals as goal

pub returns-in-len1-up-wanted-2 : goal.returns-in-len1-up-wanted-2
returns-in-len1-up-wanted-2 c =
    let old : c.args.last.now ≡ c.old-item.result ∷ drop 1 c.args.last.now =
    grind (arith, common_steps, c.old-item.is, c.in-len1-up.len_at_least) in
    let new : c.args.wanted.now ≡ c.new-item-in-len1-up.result ∷ drop 1 c.args.wanted.now =
    grind (arith, common_steps, c.new-item-in-len1-up.is, c.in-len1-up-wanted-2.len_at_least) in
    lower_passes c.old-item.result c.new-item-in-len1-up.result c.args.last.now c.args.wanted.now
    c.args.self.now.gone.items c.note_lower.new.self.gone.items c.args.self.now.set.items
    c.note_lower.new.self.set.items c.note_lower.result old new c.requires.last_rises
    c.requires.wanted_rises c.note_lower.ensures.gone c.note_lower.ensures.set
    c.note_lower.ensures.passed c.note_lower.ensures.reached
