use Rattle.std.proofs.Common.{ap, sym, ◌∙◌, subst}
use Rattle.path_tree.specs.Plain.{dict}
use Rattle.path_tree.specs.Kept.{FitsMade, IsLessened}
use Rattle.path_tree.specs.Remove.{remove_field}
use Rattle.path_tree.specs.View.{fields_of}
use Rattle.path_tree.proofs.Steps.{found_at}
use Rattle.path_tree.proofs.Removals.{lessened, loses_field, loss_fits, lost_kept}
use Rattle.path_tree.proofs.tree.removing.drop_field.Goals as goal

pub measure_loss-requires-clause-measured : goal.measure_loss-requires-clause-measured
measure_loss-requires-clause-measured c =
    let es = c.args.dict.now.entries.items in
    let here = c.index.result.now in
    let found = found_at c.args.key.now es c.args.at c.requires.stands here c.index.ensures in
    let is = ap fields_of c.remove.ensures.items ∙ c.requires.stands.removed in
    subst (λ fs. IsLessened (dict fs) c.args.dict.now.size c.args.dict.now.height
    c.measure-gone.result) (sym is)
    (lessened here.value (dict (fields_of es)) (dict (remove_field c.args.key.now (fields_of es)))
    (loses_field c.args.key.now here.value (fields_of es) found)
    c.args.dict.now.size c.args.dict.now.height c.requires.kept.size c.requires.kept.height
    c.measure-gone.result c.measure-gone.ensures.size c.measure-gone.ensures.height)

pub measure_loss-requires-clause-fits : goal.measure_loss-requires-clause-fits
measure_loss-requires-clause-fits c =
    let es = c.args.dict.now.entries.items in
    let here = c.index.result.now in
    let found = found_at c.args.key.now es c.args.at c.requires.stands here c.index.ensures in
    let is = ap fields_of c.remove.ensures.items ∙ c.requires.stands.removed in
    subst (λ fs. FitsMade (dict fs)) (sym is) (loss_fits here.value (dict (fields_of es))
    (dict (remove_field c.args.key.now (fields_of es)))
    (loses_field c.args.key.now here.value (fields_of es) found) c.requires.kept.tree)

pub returns-clause-kept : goal.returns-clause-kept
returns-clause-kept c =
    let es = c.args.dict.now.entries.items in
    let here = c.index.result.now in
    let found = found_at c.args.key.now es c.args.at c.requires.stands here c.index.ensures in
    lost_kept c.args.dict.now c.measure_loss.new.dict c.args.key.now here.value c.requires.kept
    found
    (ap fields_of c.measure_loss.ensures.entries ∙ ap fields_of c.remove.ensures.items
    ∙ c.requires.stands.removed) c.measure_loss.ensures.size c.measure_loss.ensures.height
