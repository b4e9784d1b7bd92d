use Rattle.std.proofs.Common.{rules}
use Rattle.std.specs.Ordering.{nat_cmp}
use Rattle.std.specs.Cmp.Lexicographic.{slice_cmp}
use Rattle.std.proofs.lemmas.Fn.{always_returns_same}
use Rattle.path_tree.proofs.Positions.{position_ok}
use Rattle.path_tree.proofs.tree.dicts.searched.Goals as goal

pub returns : goal.returns
returns c =
    let facts = c.binary_search_by.ensures in
    let by_key = facts.position (λ e. slice_cmp nat_cmp e.key c.args.key.now)
    (always_returns_same _ _ _ (λ a r g called. search rules)) in
    position_ok c.args.key.now c.args.entries.now c.requires _ facts.bound by_key
