use Rattle.std.proofs.Common.{refl}
use Rattle.path_tree.proofs.Ascii.{key_ascii}
use Rattle.path_tree.proofs.Standing.{stands_utf8}
use Rattle.path_tree.proofs.key.Key.in_text.Goals as goal

pub slice-requires-clause-text : goal.slice-requires-clause-text
slice-requires-clause-text c =
    stands_utf8 c.args.start _ c.args.bytes.now c.args.whole.now refl c.requires.part
    (key_ascii c.args.bytes.now c.requires.key)
