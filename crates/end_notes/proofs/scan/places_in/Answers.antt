use Rattle.end_notes.specs.Scan.{places_in}
use Rattle.end_notes.proofs.Steps.{value_on}
use Rattle.end_notes.proofs.scan.places_in.Goals as goal

pub loop-i-preserved-in-Value : goal.loop-i-preserved-in-Value
loop-i-preserved-in-Value c =
    value_on c.args.words.now c.loop-i.places.items (places_in c.args.words.now) c.loop-i.i
    c.loop-i.next c.loop-i-test.true c.in-Value.is c.loop-i.invariant
