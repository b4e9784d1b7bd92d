use Rattle.std.proofs.Common.{◌≡◌, ◌<◌, OnOk, Some, length, subst, sym, ◌∙◌, rules, arith}
use Rattle.path_tree.specs.Find.{child_count, key_at}
use Rattle.type_defs.specs.ResolvedSeen.{field_seen, resolved_seen}
use Rattle.type_defs.proofs.Shapes.{seen_field, seen_record}
use Rattle.defaults.specs.Bare.{visits_at}
use Rattle.defaults.specs.Fills.{meter, target_store}
use Rattle.defaults.specs.Steps.{IsKnown}
use Rattle.defaults.proofs.BareTypes.{entry_visited, items_visited, key_visited}
use Rattle.defaults.proofs.Loops.{fields_stop, values_on}
use Rattle.defaults.proofs.Replays.{fill_unlogged}
use Rattle.defaults.proofs.filling.+filling.Goals as goal

pub fill_shape-returns-in-Record-clause-fills : goal.fill_shape-returns-in-Record-clause-fills
fill_shape-returns-in-Record-clause-fills g t c answers asked =
    rw (
      seen_record c.args.shape.now c.in-Record.extensible c.in-Record.fields c.in-Record.is,
      ←
          c.deref-in-Record.ensures.value,
    ) (c.fill_record.ensures.fills answers asked)

pub fill_values-loop-i-preserved : goal.fill_values-loop-i-preserved
fill_values-loop-i-preserved g t c =
    let within : c.loop-i.i < child_count c.args.value.now =
    omega (arith, c.loop-i-test.true, c.len-i-end.ensures) in
    record {
      path = search rules;
      known = search rules;
      fills = λ answers asked. sym (values_on _ _ answers _ _ c.loop-i.i c.args.value.now _ _
          c.loop-i.target.path.items c.requires.dict within c.loop-i.invariant.path
          (c.in_ok-fill_entry.ensures.fills answers asked))
          ∙ c.loop-i.invariant.fills answers asked;
      counted = search rules;
      lent = search rules;
    }

pub fill_fields-returns-in_err-fill_field-clause-fills : goal.fill_fields-returns-in_err-fill_field-clause-fills
fill_fields-returns-in_err-fill_field-clause-fills g t c answers asked =
    let at = c.loop-field.target in
    let after = c.fill_field.new.target in
    let stops = fields_stop c.in_err-fill_field.field-0.0 c.args.place.now c.args.fields.now
    c.loop-field.field-index c.field-item.result at.path.items answers (target_store at)
    (target_store after) (meter at.work asked) (meter after.work asked) c.loop-field-test.true
    c.field-item.is in
    let here = c.fill_field.ensures.fills answers asked in
    let all = c.loop-field.invariant.fills answers asked in
    grind (arith, stops, here, all)

-- where the log has not grown, the tree is as before
pub fill_below-forget-requires : goal.fill_below-forget-requires
fill_below-forget-requires g t c logged =
    let path : c.fill_term.new.target.path.items ≡ c.args.target.now.path.items = search rules in
    let grown = fill_unlogged c.fill_term.result _ _ _ (target_store c.args.target.now)
    (target_store c.fill_term.new.target) _ _ c.fill_term.ensures.fills in
    let same : length c.fill_term.new.target.log.items ≡ length c.args.target.now.log.items =
    search rules in
    let tree : c.fill_term.new.target.tree ≡ c.args.target.now.tree =
    subst (λ r. OnOk r (length c.fill_term.new.target.log.items
    ≡ length c.args.target.now.log.items → c.fill_term.new.target.tree
    ≡ c.args.target.now.tree)) c.in_ok-fill_term.was grown same in
    subst (λ ps. IsKnown c.args.whole.now ps c.fill_term.new.target.tree) (sym path)
    (subst (IsKnown c.args.whole.now c.args.target.now.path.items) (sym tree) c.requires.known)

-- where a type has no default and no parts, a value is visited alone

pub fill_items-returns-in-Some-clause-fills : goal.fill_items-returns-in-Some-clause-fills
fill_items-returns-in-Some-clause-fills g t c answers asked =
    rw (items_visited c.args.place.now (resolved_seen c.args.inner.now)
    c.args.target.now.path.items c.in-Some.visits c.item_total-count.result c.args.value.now
    answers (target_store c.args.target.now) (meter c.args.target.now.work asked)
    c.item_total-count.ensures c.in-Some.ensures c.requires.standing)
    (c.visit_each.ensures.fills answers asked)

pub fill_entry-returns-in-Some-visits_of-clause-fills :
    goal.fill_entry-returns-in-Some-visits_of-clause-fills
fill_entry-returns-in-Some-visits_of-clause-fills g t c answers asked =
    let at : key_at c.args.i c.args.value.now ≡ Some c.as_str.result.now = search rules in
    rw (entry_visited c.args.place.now c.as_str.result.now (resolved_seen c.args.inner.now)
    c.args.whole.now c.in-Some-visits_of.visits c.args.target.now.path.items
    (key_at c.args.i c.args.value.now) answers (target_store c.args.target.now)
    (meter c.args.target.now.work asked) at c.in-Some-visits_of.ensures c.requires.known)
    (c.visit_bare.ensures.fills answers asked)

pub fill_field-returns-in-Some-clause-fills : goal.fill_field-returns-in-Some-clause-fills
fill_field-returns-in-Some-clause-fills g t c answers asked =
    let field = field_seen c.args.field.now in
    let bare : visits_at field.key field.resolved c.args.whole.now ≡ Some c.in-Some.visits =
    search (rules, seen_field) in
    rw (key_visited c.args.place.now field.key field.resolved c.args.whole.now c.in-Some.visits
    c.args.target.now.path.items answers (target_store c.args.target.now)
    (meter c.args.target.now.work asked) bare c.requires.known)
    (c.visit_bare.ensures.fills answers asked)
