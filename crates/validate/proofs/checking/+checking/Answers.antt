use Rattle.std.proofs.Common.{arith, rules}
use Rattle.questions.specs.Told.{only}
use Rattle.type_defs.specs.ResolvedSeen.{field_seen, resolved_seen}
use Rattle.type_defs.proofs.Shapes.{seen_field}
use Rattle.validate.specs.Validations.{meter_of}
use Rattle.validate.proofs.Leaving.{leaving}
use Rattle.validate.proofs.Stopping.{fields_stop, target_stops, visit_stops}
use Rattle.validate.proofs.Walking.{items_more, values_more}
use Rattle.validate.proofs.checking.+checking.Goals as goal

pub check_value-returns-in_err-take_step-clause-gives : goal.check_value-returns-in_err-take_step-clause-gives
check_value-returns-in_err-take_step-clause-gives g t c = λ keys.
    let stops = visit_stops g.E.Evaluator.means g.E.Evaluator.leaves c.in_err-take_step.field-0.0
    c.args.place.now (resolved_seen c.args.resolved.now) c.args.value.now
    (only keys g.E.Evaluator.answers) (meter_of g.E.Evaluator c.args.validation.now)
    (meter_of g.E.Evaluator c.take_step.new.validation) in
    grind (arith, stops)

pub check_link-returns-in_err-target-clause-gives : goal.check_link-returns-in_err-target-clause-gives
check_link-returns-in_err-target-clause-gives g t c = λ keys.
    let stops = target_stops g.E.Evaluator.means g.E.Evaluator.leaves (λ v. v)
    c.in_err-target.field-0.0 c.args.place.now (resolved_seen c.args.inner.now) c.args.value.now
    (only keys g.E.Evaluator.answers) (meter_of g.E.Evaluator c.args.validation.now)
    (meter_of g.E.Evaluator c.link_target.new.validation) in
    grind (arith, stops)

pub check_fields-returns-in_err-check_field-clause-gives : goal.check_fields-returns-in_err-check_field-clause-gives
check_fields-returns-in_err-check_field-clause-gives g t c = λ keys.
    let stops = fields_stop g.E.Evaluator.means g.E.Evaluator.leaves c.in_err-check_field.field-0.0
    c.args.place.now c.args.fields.now c.loop-field.field-index c.field-item.result
    c.args.value.now (only keys g.E.Evaluator.answers)
    (meter_of g.E.Evaluator c.loop-field.validation)
    (meter_of g.E.Evaluator c.check_field.new.validation) c.requires c.loop-field-test.true
    c.field-item.is in
    grind (arith, stops)

pub check_items-returns-in_err-check_item-clause-gives : goal.check_items-returns-in_err-check_item-clause-gives
check_items-returns-in_err-check_item-clause-gives g t c = λ keys.
    let here = c.check_item.ensures.gives keys in
    let before = c.loop-i.invariant.gives keys in
    grind (arith, items_more, leaving, here, before)

pub check_items-loop-i-preserved : goal.check_items-loop-i-preserved
check_items-loop-i-preserved g t c = record {
  gives = λ keys.
      let here = c.check_item.ensures.gives keys in
      let before = c.loop-i.invariant.gives keys in
      grind (arith, items_more, here, before);
  counted = search rules;
  lent = search rules;
}

pub check_entries-returns-in_err-check_entry-clause-gives : goal.check_entries-returns-in_err-check_entry-clause-gives
check_entries-returns-in_err-check_entry-clause-gives g t c = λ keys.
    let here = c.check_entry.ensures.gives keys in
    let before = c.loop-i.invariant.gives keys in
    grind (arith, values_more, leaving, here, before)

pub check_entries-loop-i-preserved : goal.check_entries-loop-i-preserved
check_entries-loop-i-preserved g t c = record {
  gives = λ keys.
      let here = c.check_entry.ensures.gives keys in
      let before = c.loop-i.invariant.gives keys in
      grind (arith, values_more, here, before);
  counted = search rules;
  lent = search rules;
}

pub check_field-returns-in-Some-clause-gives : goal.check_field-returns-in-Some-clause-gives
check_field-returns-in-Some-clause-gives g t c = λ keys.
    let present = c.check_present.ensures.gives (field_seen c.args.field.now).required keys in
    grind (arith, seen_field, present)
