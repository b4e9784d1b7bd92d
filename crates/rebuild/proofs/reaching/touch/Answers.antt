use Rattle.std.proofs.Common.{◌≡◌, ◌<◌, length, get_or, ap, ◌∙◌, rules}
use Rattle.object_names.specs.Objects.{are_rising}
use Rattle.rebuild.proofs.Touching.{touched_names, touched_next}
use Rattle.rebuild.proofs.reaching.touch.Goals as goal

pub loop-name-preserved : goal.loop-name-preserved
loop-name-preserved g c =
    let first = c.args.rows.now.items in
    let rows = c.loop-name.rows.items in
    let new = c.touch_one.new.rows.items in
    let objects = c.args.reached.now in
    let i = c.loop-name.name-index in
    let name = c.name-item.result in
    let lt : i < length objects = search rules in
    let is : name ≡ get_or objects i name = search rules in
    let inv = c.loop-name.invariant in
    record {
      rising = ap are_rising (touched_names rows new c.touch_one.ensures.same) ∙ inv.rising;
      same = c.touch_one.ensures.same ∙ inv.same;
      flags = touched_next first rows new objects i name lt is c.touch_one.ensures inv.flags;
    }
