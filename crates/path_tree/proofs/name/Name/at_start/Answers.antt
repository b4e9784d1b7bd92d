use Rattle.std.proofs.Common.{◌≡◌, ◌+◌, length, arith}
use Rattle.path_tree.proofs.Ascii.{name_ascii}
use Rattle.path_tree.proofs.Standing.{stands_utf8}
use Rattle.path_tree.proofs.name.Name.at_start.Goals as goal

pub slice-requires-clause-text : goal.slice-requires-clause-text
slice-requires-clause-text c =
    let end : length c.args.bytes.now ≡ 0 + length c.args.bytes.now = omega arith in
    stands_utf8 0 _ c.args.bytes.now c.args.whole.now end c.requires.part
    (name_ascii c.args.bytes.now c.requires.name)
