use Rattle.std.proofs.Common.{◌≡◌, true, false, sym, rules}
use Rattle.std.specs.Prelude.{bytes_eq}
use Rattle.load_path.proofs.Positions.{found_none, found_other, found_there, short_at}
use Rattle.load_path.proofs.picture.content_of.Goals as goal

pub returns-in_err-file-clause-content : goal.returns-in_err-file-clause-content
returns-in_err-file-clause-content c =
    rw c.from_residual.ensures
    (sym (found_none c.args.name.now c.args.files.now c.position_of.result c.requires.rising
    c.position_of.ensures c.in_err-file.ensures.lookup.3))

pub returns-then-ne-clause-content : goal.returns-then-ne-clause-content
returns-then-ne-clause-content c =
    let other : bytes_eq c.in_ok-file.file.now.name c.args.name.now ≡ false = search rules in
    sym (found_other c.args.name.now c.args.files.now c.position_of.result c.in_ok-file.file.now
    c.requires.rising c.position_of.ensures c.in_ok-file.ensures.lookup.3.0
    c.in_ok-file.ensures.lookup.1 other)

pub returns-clause-content : goal.returns-clause-content
returns-clause-content c =
    let same : bytes_eq c.in_ok-file.file.now.name c.args.name.now ≡ true = search rules in
    sym (found_there c.args.name.now c.args.files.now c.position_of.result c.in_ok-file.file.now
    c.requires.rising c.position_of.ensures c.in_ok-file.ensures.lookup.3.0
    c.in_ok-file.ensures.lookup.1 same)

pub returns-clause-short : goal.returns-clause-short
returns-clause-short c =
    short_at c.args.files.now c.position_of.result c.in_ok-file.file.now c.requires.short
    c.in_ok-file.ensures.lookup.3.0 c.in_ok-file.ensures.lookup.1
