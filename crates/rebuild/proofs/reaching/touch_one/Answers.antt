use Rattle.std.proofs.Common.{rules, ◌≡◌, ◌<◌, length, subst, sym, ap, ◌∙◌}
use Rattle.std.specs.Vec.{vec_len}
use Rattle.engine_turns.specs.Places.{row_place}
use Rattle.engine_turns.proofs.ByName.{placed}
use Rattle.rebuild.proofs.Touching.{none_touched, one_touched}
use Rattle.rebuild.proofs.reaching.touch_one.Goals as goal

pub index_mut-requires : goal.index_mut-requires
index_mut-requires g c =
    let within = (placed c.args.name.now c.args.rows.now.items c.in-Some.place
    (ap (row_place c.args.name.now 0) (sym c.deref.ensures.value) ∙ sym c.row_place.ensures
    ∙ c.in-Some.is)).within in
    let same : length c.args.rows.now.items ≡ vec_len c.args.rows.now = search rules in
    subst (λ n. c.in-Some.place < n) same within

pub returns-in-Some : goal.returns-in-Some
returns-in-Some g c = one_touched c.args.name.now c.args.rows.now.items c.in-Some.place
    (ap (row_place c.args.name.now 0) (sym c.deref.ensures.value) ∙ sym c.row_place.ensures
    ∙ c.in-Some.is) c.index_mut.result.now c.index_mut.ensures.value

pub returns-in_default : goal.returns-in_default
returns-in_default g c =
    none_touched c.args.name.now c.args.rows.now.items
    (ap (row_place c.args.name.now 0) (sym c.deref.ensures.value) ∙ sym c.row_place.ensures
    ∙ c.in_default.is)
