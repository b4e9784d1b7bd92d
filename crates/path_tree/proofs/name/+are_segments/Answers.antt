use Rattle.std.proofs.Common.{true, false, ◌∙◌, refl}
use Rattle.path_tree.proofs.Splits.{segments_none, segments_some}
use Rattle.path_tree.proofs.name.+are_segments.Goals as goal

pub returns-in-None : goal.returns-in-None
returns-in-None t c = c.is_segment.ensures ∙ segments_none c.args.bytes.now c.in-None.ensures.value

pub returns-then-is_segment : goal.returns-then-is_segment
returns-then-is_segment t c =
    segments_some c.args.bytes.now c.in-Some.at c.in-Some.ensures.value true c.are_segments.result
    (c.if-is_segment.ensures) c.are_segments.ensures

pub returns-else-is_segment : goal.returns-else-is_segment
returns-else-is_segment t c =
    c.if-is_segment.false ∙ segments_some c.args.bytes.now c.in-Some.at c.in-Some.ensures.value
    false _ c.if-is_segment.ensures refl
