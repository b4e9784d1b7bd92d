use Rattle.std.proofs.Common.{rules, arith, ◌≡◌, ◌<◌, ◌+◌, suc, take, length, get_or, ap, ◌∙◌}
use Rattle.load_path.specs.Pictures.{content_in, with_file}
use Rattle.engine_turns.specs.States.{pictured}
use Rattle.kept_works.proofs.Ordered.{new_name, one_more, short_at}
use Rattle.kept_works.proofs.pictures.picture_of.Goals as goal

pub add_file-requires-clause-new : goal.add_file-requires-clause-new
add_file-requires-clause-new c =
    let files = c.args.files.now in
    let at = c.loop-file.file-index in
    let file = c.file-item.result in
    let within : at < length files = search rules in
    let is : file ≡ get_or files at file = search rules in
    ap (λ picture. content_in picture file.name) c.loop-file.invariant
    ∙ new_name files at file c.requires.rising (within, is)

pub add_file-requires-clause-short : goal.add_file-requires-clause-short
add_file-requires-clause-short c =
    let files = c.args.files.now in
    let at = c.loop-file.file-index in
    let file = c.file-item.result in
    let within : at < length files = search rules in
    let is : file ≡ get_or files at file = search rules in
    short_at files at file c.requires.short (within, is)

pub loop-file-preserved : goal.loop-file-preserved
loop-file-preserved c =
    let files = c.args.files.now in
    let at = c.loop-file.file-index in
    let file = c.file-item.result in
    let within : at < length files = search rules in
    let is : file ≡ get_or files at file = search rules in
    let next : suc at ≡ at + 1 = omega arith in
    c.in_ok-add_file.ensures
    ∙ ap (λ picture. with_file file.name file.content picture) c.loop-file.invariant
    ∙ one_more files at file c.requires.rising (within, is)
    ∙ ap (λ n. pictured (take n files)) next
