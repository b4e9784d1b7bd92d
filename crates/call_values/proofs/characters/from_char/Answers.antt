use Rattle.call_values.proofs.Cuts.{char_step}
use Rattle.call_values.proofs.characters.from_char.Goals as goal

pub loop-preserved : goal.loop-preserved
loop-preserved c = char_step c.loop.rest c.next.result c.next.new.self c.loop.counter _
    c.next.ensures.steps c.loop.invariant.0 c.loop.invariant.1
