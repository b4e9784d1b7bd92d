use Rattle.std.proofs.Common.{ap, sym, ◌∙◌, Some, map, arith}
use Rattle.engine_turns.specs.Entering.{entry_pair}
use Rattle.engine_turns.proofs.ByName.{placed, no_place}
use Rattle.rebuild.proofs.Kept.{none_kept, some_kept}
use Rattle.rebuild.proofs.keeping.add_object.Goals as goal

pub offset_bounds-rows-place : goal.offset_bounds-rows-place
offset_bounds-rows-place g c =
    let within = (placed c.args.object.now c.args.rows.now c.in-Some.place
    (sym c.row_near.ensures ∙ c.in-Some.is)).within in
    omega (arith, within)

pub bounds-rows-place : goal.bounds-rows-place
bounds-rows-place g c = (placed c.args.object.now c.args.rows.now c.in-Some.place
    (sym c.row_near.ensures ∙ c.in-Some.is)).within

pub returns-in-None : goal.returns-in-None
returns-in-None g c = none_kept c.args.rows.now c.args.object.now
    (map entry_pair c.args.made.now.items) (no_place c.args.object.now c.args.rows.now
    (sym c.row_near.ensures ∙ c.in-None.is))

pub returns-in-Some : goal.returns-in-Some
returns-in-Some g c =
    let rows = c.args.rows.now in
    let row = c.index-rows-place.result in
    let at = placed c.args.object.now rows c.in-Some.place (sym c.row_near.ensures ∙ c.in-Some.is)
    in
    some_kept c.add_row.result rows c.args.object.now row (map entry_pair c.args.made.now.items)
    (map entry_pair c.add_row.new.made.items) (at.here row
    ∙ ap Some (sym c.index-rows-place.is)) c.add_row.ensures
