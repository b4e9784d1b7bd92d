use Rattle.std.proofs.Common.{sym, subst, arith}
use Rattle.std.proofs.lemmas.Result.{err_from_is_err_and}
use Rattle.path_tree.specs.Children.{child_fields}
use Rattle.path_tree.specs.Plain.{no_fields}
use Rattle.record_rows.specs.Forms.{some_at}
use Rattle.record_rows.specs.Trees.{tree_at}
use Rattle.record_rows.specs.Results.{Reads}
use Rattle.record_rows.specs.Reading.{dicts_at}
use Rattle.record_rows.proofs.Loop.{goes_on, ends, is_done}
use Rattle.record_rows.proofs.TreeReading.{tree_none, tree_goes, tree_fails, key_fails, value_fails, field_fails, field_goes, fields_done}
use Rattle.record_rows.proofs.trees.+read.Goals as goal

pub read_within-returns-then-height-eq0 : goal.read_within-returns-then-height-eq0
read_within-returns-then-height-eq0 t c =
    tree_none c.args.height c.args.bytes.now c.if-height-eq0.true

pub read_within-returns-in_err-kind : goal.read_within-returns-in_err-kind
read_within-returns-in_err-kind t c =
    let p = err_from_is_err_and c.from_residual.result c.from_residual.ensures.1 in
    rw (p.1, p.2) (tree_fails c.in_err-kind.field-0.0 c.args.height c.args.bytes.now (omega arith)
    c.in_err-kind.ensures)

pub read_within-returns : goal.read_within-returns
read_within-returns t c =
    subst (Reads (λ x. (x.0, x.1.now)) c.read_kind.result)
    (sym (tree_goes c.args.height c.in_ok-kind.kind c.args.bytes.now c.in_ok-kind.rest.now
    (omega arith) c.in_ok-kind.ensures)) c.read_kind.ensures

pub some_trees-returns-in_err-tree : goal.some_trees-returns-in_err-tree
some_trees-returns-in_err-tree t c =
    let p = err_from_is_err_and c.from_residual.result c.from_residual.ensures.1 in
    rw (p.1, p.2) (ends (tree_at c.args.below) c.in_err-tree.field-0.0 c.loop.trees.items
    c.args.count c.loop.counter c.loop.rest.now (some_at (tree_at c.args.below) c.args.count
    c.args.bytes.now) c.loop-test.true c.in_err-tree.ensures c.loop.invariant)

pub some_trees-loop-preserved : goal.some_trees-loop-preserved
some_trees-loop-preserved t c =
    rw c.in_ok-push.ensures.items (goes_on (tree_at c.args.below) c.loop.trees.items c.args.count
    c.loop.counter c.loop.rest.now c.in_ok-tree.tree c.in_ok-tree.after.now
    (some_at (tree_at c.args.below) c.args.count c.args.bytes.now) c.loop-test.true
    c.in_ok-tree.ensures c.loop.invariant)

pub some_trees-returns : goal.some_trees-returns
some_trees-returns t c =
    is_done (tree_at c.args.below) c.loop.trees.items c.args.count c.loop.counter c.loop.rest.now
    (some_at (tree_at c.args.below) c.args.count c.args.bytes.now) c.loop-test.false
    c.loop.invariant

pub some_fields-returns-in_err-key : goal.some_fields-returns-in_err-key
some_fields-returns-in_err-key t c =
    let p = err_from_is_err_and c.from_residual-in_err-key.result
    c.from_residual-in_err-key.ensures.1 in
    rw (p.1, p.2) (key_fails (tree_at c.args.below) c.in_err-key.field-0.0 c.args.count
    c.loop.counter (child_fields c.loop.dict) c.loop.rest.now
    (dicts_at (tree_at c.args.below) c.args.count no_fields c.args.bytes.now) c.loop-test.true
    c.in_err-key.ensures c.loop.invariant.so_far)

pub some_fields-returns-in_err-value : goal.some_fields-returns-in_err-value
some_fields-returns-in_err-value t c =
    let p = err_from_is_err_and c.from_residual-in_err-value.result
    c.from_residual-in_err-value.ensures.1 in
    rw (p.1, p.2) (value_fails (tree_at c.args.below) c.in_err-value.field-0.0 c.args.count
    c.loop.counter (child_fields c.loop.dict) c.loop.rest.now c.in_ok-key.key
    c.in_ok-key.after.now (dicts_at (tree_at c.args.below) c.args.count no_fields
    c.args.bytes.now) c.loop-test.true c.in_ok-key.ensures c.in_err-value.ensures
    c.loop.invariant.so_far)

pub some_fields-returns-in_err-add_field : goal.some_fields-returns-in_err-add_field
some_fields-returns-in_err-add_field t c =
    let p = err_from_is_err_and c.from_residual-in_err-add_field.result
    c.from_residual-in_err-add_field.ensures.1 in
    rw (p.1, p.2) (field_fails (tree_at c.args.below) c.in_err-add_field.field-0.0 c.args.count
    c.loop.counter (child_fields c.loop.dict) c.in_ok-value.value c.loop.rest.now
    c.in_ok-key.key c.in_ok-key.after.now c.in_ok-value.after.now
    (dicts_at (tree_at c.args.below) c.args.count no_fields c.args.bytes.now) c.loop-test.true
    c.in_ok-key.ensures c.in_ok-value.ensures c.in_err-add_field.ensures
    c.loop.invariant.so_far)

pub some_fields-loop-preserved : goal.some_fields-loop-preserved
some_fields-loop-preserved t c =
    let g = field_goes (tree_at c.args.below) c.args.count c.loop.counter (child_fields c.loop.dict)
    c.in_ok-value.value c.add_field.new.dict c.loop.rest.now c.in_ok-key.key
    c.in_ok-key.after.now c.in_ok-value.after.now
    (dicts_at (tree_at c.args.below) c.args.count no_fields c.args.bytes.now) c.loop-test.true
    c.in_ok-key.ensures c.in_ok-value.ensures c.in_ok-add_field.ensures c.loop.invariant.so_far
    in
    record { is_dict = g.is_dict; so_far = g.so_far }

pub some_fields-returns : goal.some_fields-returns
some_fields-returns t c =
    fields_done (tree_at c.args.below) c.args.count c.loop.counter c.loop.dict c.loop.rest.now
    (dicts_at (tree_at c.args.below) c.args.count no_fields c.args.bytes.now) c.loop-test.false
    c.loop.invariant.is_dict c.loop.invariant.so_far
