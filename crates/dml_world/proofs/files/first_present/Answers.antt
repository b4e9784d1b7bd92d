use Rattle.std.proofs.Common.{arith}
use Rattle.questions.specs.Told.{only}
use Rattle.dml_world.specs.Seen.{meter}
use Rattle.dml_world.proofs.Looking.{first_stops}
use Rattle.dml_world.proofs.files.first_present.Goals as goal

pub returns-in_err-found-clause-gives : goal.returns-in_err-found-clause-gives
returns-in_err-found-clause-gives g c = λ keys.
    let stops = first_stops c.in_err-found.field-0.0 c.args.place.now c.args.files.now
    c.files.file-index c.file-item.result (only keys g.W.World.answers) tt
    (meter c.files.work (g.W.World.asked c.files.world))
    (meter c.try_file.new.work (g.W.World.asked c.try_file.new.world)) c.files-test.true
    c.file-item.is in
    grind (arith, stops)
