use Rattle.std.proofs.Common.{rules, ◌≡◌, true, map, refl, ap, ◌∙◌, subst}
use Rattle.object_names.specs.Objects.{are_rising}
use Rattle.kept_state.specs.Stored.{stored}
use Rattle.engine_turns.specs.Entering.{entry_pair, IsEntered}
use Rattle.engine_turns.specs.Places.{names}
use Rattle.engine_rows.specs.Restoring.{restored_row, is_fit, all_items}
use Rattle.engine_rows.proofs.Restores.{rows_rise, restores}
use Rattle.engine_rows.proofs.restoring.restored.Goals as goal

pub record_entries-requires : goal.record_entries-requires
record_entries-requires g c =
    let fit : is_fit (stored c.args.kept) ≡ true = search rules in
    let made : c.in_ok-rows.rows.items ≡ map restored_row c.args.kept.objects.items =
    search rules in
    ap (λ rows. are_rising (names rows)) c.deref.ensures.value
    ∙ rows_rise (stored c.args.kept) c.in_ok-rows.rows.items fit made

pub enter_all-requires : goal.enter_all-requires
enter_all-requires g c =
    let fit : is_fit (stored c.args.kept) ≡ true = search rules in
    let made : c.in_ok-rows.rows.items ≡ map restored_row c.args.kept.objects.items =
    search rules in
    rows_rise (stored c.args.kept) c.in_ok-rows.rows.items fit made

pub returns-clause-restored : goal.returns-clause-restored
returns-clause-restored g c =
    let fit : is_fit (stored c.args.kept) ≡ true = search rules in
    let rows = c.in_ok-rows.rows.items in
    let new = c.enter_all.new.rows.items in
    let made : rows ≡ map restored_row c.args.kept.objects.items = search rules in
    let entries : map entry_pair c.in_ok-entries.entries.items
    ≡ all_items c.deref.result.now c.deref.result.now = search rules in
    let same = c.deref.ensures.value in
    let entered = subst (λ l. IsEntered l rows new) (entries ∙ (λ i. all_items (same i) (same i)))
    c.enter_all.ensures in
    restores (stored c.args.kept) _ rows refl c.from_vec.ensures refl c.in_ok-files.ensures
    c.new.ensures refl refl made entered fit
