use Rattle.std.proofs.Common.{◌≡◌, drop}
use Rattle.path_tree.specs.Children.{child_fields, child_items, fields_from, items_from}
use Rattle.questions.specs.Told.{ToldEnough}
use Rattle.type_defs.specs.Resolved.{fields_of}
use Rattle.type_defs.specs.ResolvedSeen.{resolved_seen}
use Rattle.type_defs.specs.Tables.{all_seen}
use Rattle.validate.specs.Check.{check, fields_run, items_run, values_run}
use Rattle.validate.specs.Validations.{KeepsLoans, meter_of, total}
use Rattle.validate.proofs.checking.+checking.Given as goal

-- what is done and what is left gives the whole
abbrev pub invariant-check_items-loop-i : goal.invariant-check_items-loop-i
invariant-check_items-loop-i g l =
    let M = g.E.Evaluator in
    let now = l.validation in
    let before = l.fn.validation in
    let f = check M.means l.place (resolved_seen l.inner) in
    record {
      gives : ToldEnough M.answers (M.asked before.evaluator.now) (M.asked now.evaluator.now)
          (λ told. items_run f l.i (items_from l.i l.value) told tt (meter_of M now)
          ≡ items_run f 0 (child_items l.value) told tt (meter_of M before));
      counted : total now ≡ total before;
      lent : KeepsLoans before now;
    }

abbrev pub invariant-check_entries-loop-i : goal.invariant-check_entries-loop-i
invariant-check_entries-loop-i g l =
    let M = g.E.Evaluator in
    let now = l.validation in
    let before = l.fn.validation in
    let f = check M.means l.place (resolved_seen l.inner) in
    record {
      gives : ToldEnough M.answers (M.asked before.evaluator.now) (M.asked now.evaluator.now)
          (λ told. values_run f (fields_from l.i l.value) told tt (meter_of M now)
          ≡ values_run f (child_fields l.value) told tt (meter_of M before));
      counted : total now ≡ total before;
      lent : KeepsLoans before now;
    }

abbrev pub invariant-check_fields-loop-field : goal.invariant-check_fields-loop-field
invariant-check_fields-loop-field g l =
    let M = g.E.Evaluator in
    let now = l.validation in
    let before = l.fn.validation in
    let run = fields_run M.means l.place in
    record {
      gives : ToldEnough M.answers (M.asked before.evaluator.now) (M.asked now.evaluator.now)
          (λ told. run (fields_of (all_seen (drop l.field-index l.fields))) (child_fields l.value)
          told tt (meter_of M now) ≡ run (fields_of (all_seen l.fields)) (child_fields l.value)
          told tt (meter_of M before));
      counted : total now ≡ total before;
      lent : KeepsLoans before now;
    }
