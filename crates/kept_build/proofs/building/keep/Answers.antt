use Rattle.std.proofs.Common.{option_map, sym, subst}
use Rattle.record_rows.specs.Rows.{rows_of}
use Rattle.kept_build.specs.Kept.{kept_behind}
use Rattle.kept_build.specs.Stores.{Keeps}
use Rattle.kept_works.specs.Kept.{rows_by}
use Rattle.kept_build.proofs.Keeping.{got, saved}
use Rattle.kept_build.proofs.building.keep.Goals as goal

pub returns-in-Ok-clause-ok : goal.returns-in-Ok-clause-ok
returns-in-Ok-clause-ok g c = λ dirs limits e is.
    let old = g.K.Keeper.cell c.args.keeper.now in
    let new = g.K.Keeper.cell c.save-result.new.keeper in
    let r = c.save-result.result.result in
    let told = c.save-result.ensures in
    subst (λ p. Keeps c.args.last.items (option_map rows_of (kept_behind dirs limits p e)) old new)
    (sym c.in-Done.is)
    (saved c.args.last.items c.in_ok-wanted-in-Done.wanted.items (rows_by dirs limits e)
    c.save-result.result.rows.items old new
    (c.in_ok-wanted-in-Done.ensures.rows dirs limits e is)
    (got r c.in-Ok.field-0 c.in-Ok.is told.ok)
    (got r c.in-Ok.field-0 c.in-Ok.is told.told)
    told.kept)
