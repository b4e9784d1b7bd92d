use Rattle.std.proofs.Common.{Some, ap, sym, ◌∙◌, subst}
use Rattle.path_tree.specs.Plain.{list}
use Rattle.path_tree.specs.Kept.{FitsMade, IsLessened}
use Rattle.path_tree.specs.Remove.{remove_item}
use Rattle.path_tree.specs.View.{items_of}
use Rattle.path_tree.proofs.Entries.{item_at_in}
use Rattle.path_tree.proofs.Removals.{lessened, loses_item, loss_fits, lost_item_kept, remove_item_of}
use Rattle.path_tree.proofs.tree.removing.drop_item.Goals as goal

pub measure_loss-requires-clause-measured : goal.measure_loss-requires-clause-measured
measure_loss-requires-clause-measured c =
    let ts = c.args.list.now.items.items in
    let here = c.index.result.now in
    let found = item_at_in ts c.args.index here c.requires.index ∙ ap Some (sym c.index.ensures) in
    let is = ap items_of c.remove.ensures.items ∙ remove_item_of ts c.args.index c.requires.index in
    subst (λ us. IsLessened (list us) c.args.list.now.size c.args.list.now.height
    c.measure-gone.result) (sym is)
    (lessened here (list (items_of ts)) (list (remove_item c.args.index (items_of ts)))
    (loses_item c.args.index here (items_of ts) found)
    c.args.list.now.size c.args.list.now.height c.requires.kept.size c.requires.kept.height
    c.measure-gone.result c.measure-gone.ensures.size c.measure-gone.ensures.height)

pub measure_loss-requires-clause-fits : goal.measure_loss-requires-clause-fits
measure_loss-requires-clause-fits c =
    let ts = c.args.list.now.items.items in
    let here = c.index.result.now in
    let found = item_at_in ts c.args.index here c.requires.index ∙ ap Some (sym c.index.ensures) in
    let is = ap items_of c.remove.ensures.items ∙ remove_item_of ts c.args.index c.requires.index in
    subst (λ us. FitsMade (list us)) (sym is) (loss_fits here (list (items_of ts))
    (list (remove_item c.args.index (items_of ts)))
    (loses_item c.args.index here (items_of ts) found) c.requires.kept.tree)

pub returns-clause-removed : goal.returns-clause-removed
returns-clause-removed c =
    let ts = c.args.list.now.items.items in
    ap list (ap items_of c.measure_loss.ensures.items ∙ ap items_of c.remove.ensures.items
    ∙ remove_item_of ts c.args.index c.requires.index)

pub returns-clause-kept : goal.returns-clause-kept
returns-clause-kept c =
    let ts = c.args.list.now.items.items in
    let here = c.index.result.now in
    let found = item_at_in ts c.args.index here c.requires.index ∙ ap Some (sym c.index.ensures) in
    lost_item_kept c.args.list.now c.measure_loss.new.list c.args.index here c.requires.kept found
    (ap items_of c.measure_loss.ensures.items ∙ ap items_of c.remove.ensures.items
    ∙ remove_item_of ts c.args.index c.requires.index) c.measure_loss.ensures.size
    c.measure_loss.ensures.height
