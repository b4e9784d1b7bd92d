use Rattle.std.proofs.Common.{rules, ◌≡◌, Some}
use Rattle.engine_rows.proofs.Stored.{kept_row_is}
use Rattle.engine_rows.proofs.storing.kept_object.Goals as goal

pub returns-in_ok-object-in-Some-Some-Some : goal.returns-in_ok-object-in-Some-Some-Some
returns-in_ok-object-in-Some-Some-Some g c =
    let r = c.args.row.now in
    let parts = c.in-Some-Some-Some in
    let object = c.in_ok-object-in-Some-Some-Some in
    let is-0 : r.last ≡ Some parts.last = search rules in
    let is-1 : r.build ≡ Some parts.build = search rules in
    let is-2 : r.check ≡ Some parts.check = search rules in
    kept_row_is r parts.last parts.build parts.check object.object is-0 is-1 is-2 object.ensures
