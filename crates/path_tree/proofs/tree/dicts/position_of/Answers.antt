use Rattle.std.proofs.Common.{◌≡◌, suc, ◌-◌, length, arith, ap, sym, ◌∙◌}
use Rattle.std.specs.Ordering.{nat_cmp}
use Rattle.std.specs.Cmp.Lexicographic.{slice_cmp}
use Rattle.path_tree.proofs.Positions.{position_end, position_last}
use Rattle.path_tree.proofs.tree.dicts.position_of.Goals as goal

pub returns-in-Less : goal.returns-in-Less
returns-in-Less c =
    let es = c.args.entries.now in
    let last : suc (length es - 1) ≡ length es = omega (arith, c.if-count-eq0.false) in
    position_end c.args.key.now es (length es - 1) c.index-entries-count.result c.requires last
    (ap (λ k. slice_cmp nat_cmp k c.args.key.now) (sym c.as_str.ensures.text)
    ∙ sym c.cmp.ensures ∙ c.in-Less.is)

pub returns-in-Equal : goal.returns-in-Equal
returns-in-Equal c =
    let es = c.args.entries.now in
    let last : suc (length es - 1) ≡ length es = omega (arith, c.if-count-eq0.false) in
    position_last c.args.key.now es (length es - 1) c.index-entries-count.result c.requires last
    (ap (λ k. slice_cmp nat_cmp k c.args.key.now) (sym c.as_str.ensures.text)
    ∙ sym c.cmp.ensures ∙ c.in-Equal.is)
