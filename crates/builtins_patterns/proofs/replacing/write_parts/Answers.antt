use Rattle.std.proofs.Common.{◌++◌, take, ap, ◌∙◌}
use Rattle.call_values.specs.Drafts.{drafted}
use Rattle.builtins_patterns.specs.Parts.{captured_text, written}
use Rattle.builtins_patterns.proofs.Rewriting.{part_more, parts_all}
use Rattle.builtins_patterns.proofs.replacing.write_parts.Goals as goal

pub loop-part-preserved : goal.loop-part-preserved
loop-part-preserved c = λ w h.
    let g = captured_text c.args.captures.now in
    let ps = c.args.parts.now in
    let i = c.loop-part.part-index in
    c.in_ok-write_part.ensures (w ++ written g (take i ps)) (c.loop-part.invariant w h)
    ∙ ap drafted (part_more g ps i w _ c.loop-part-test.true)

pub returns : goal.returns
returns c = λ w h. c.loop-part.invariant w h ∙ parts_all (captured_text c.args.captures.now)
    c.args.parts.now c.loop-part.part-index w c.loop-part-test.false
