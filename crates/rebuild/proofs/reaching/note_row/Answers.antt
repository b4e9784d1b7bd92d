use Rattle.std.proofs.Common.{◌≡◌, true, Some, rules}
use Rattle.read_index.specs.Readers.{asks}
use Rattle.rebuild.proofs.Noting.{set_noted}
use Rattle.rebuild.proofs.reaching.note_row.Goals as goal

pub returns-in-Some-Some-clause-noted : goal.returns-in-Some-Some-clause-noted
returns-in-Some-Some-clause-noted g c =
    let row = c.args.row.now in
    let on : row.touched ≡ true = search rules in
    let build : row.build ≡ Some c.in-Some-Some.build = search rules in
    let check : row.check ≡ Some c.in-Some-Some.check = search rules in
    set_noted c.set.result row (asks c.args.index.now) (asks c.set.new.self) c.in-Some-Some.build
    c.in-Some-Some.check on build check c.set.ensures.reads
