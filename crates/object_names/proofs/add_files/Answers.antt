use Rattle.std.proofs.Common.{◌≡◌, ◌<◌, length, ◌++◌, get_or, subst}
use Rattle.std.specs.Prelude.{codes}
use Rattle.object_names.specs.Finding.{Adds}
use Rattle.object_names.proofs.Adding.{added_next}
use Rattle.object_names.proofs.add_files.Goals as goal

pub loop-file-preserved : goal.loop-file-preserved
loop-file-preserved c =
    let i = c.loop-file.file-index in
    let file = c.file-item.result in
    let same = c.files-file-items.ensures.files in
    let within = subst (λ fs. i < length fs) same c.loop-file-test.true in
    let here = subst (λ fs. file ≡ get_or fs i file) same c.file-item.is in
    let added = subst (λ f. Adds c.args.picture.now c.args.dirs.now
    (λ name. c.args.front.now ++ (name ++ codes ".pan") ≡ f) c.loop-file.names.items
    c.add_file.new.names.items) c.as_str.ensures.text c.in_ok-add_file.ensures in
    added_next c.args.picture.now c.args.dirs.now i c.args.front.now c.args.names.now.items
    c.loop-file.names.items c.add_file.new.names.items file within here c.loop-file.invariant
    added
