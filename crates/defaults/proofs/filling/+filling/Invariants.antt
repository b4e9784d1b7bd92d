use Rattle.std.proofs.Common.{◌≡◌, ◌-◌, List, drop}
use Rattle.path_tree.specs.Children.{child_fields, child_items, fields_from}
use Rattle.path_tree.specs.Find.{item_count}
use Rattle.questions.specs.Contents.{Answers}
use Rattle.questions.specs.declared.key.Key.{Key}
use Rattle.type_defs.specs.Resolved.{fields_of}
use Rattle.type_defs.specs.ResolvedSeen.{resolved_seen}
use Rattle.type_defs.specs.Tables.{all_seen}
use Rattle.defaults.specs.Filled.{fields_filled, filled, items_filled, values_filled}
use Rattle.defaults.specs.Fills.{KeepsLoan, meter, target_store, total}
use Rattle.defaults.specs.Steps.{IsKnown}
use Rattle.defaults.proofs.filling.+filling.Given as goal

-- what is done and what is left gives the whole
abbrev pub invariant-fill_items-loop-i : goal.invariant-fill_items-loop-i
invariant-fill_items-loop-i g l =
    let f = filled l.place (resolved_seen l.inner) in
    record {
      path : l.target.path.items ≡ l.fn.target.path.items;
      known : IsKnown l.whole l.target.path.items l.target.tree;
      fills : (answers : Answers) (asked : List Key)
          → items_filled f l.fn.target.path.items l.i (l.count - l.i) answers
          (target_store l.target) (meter l.target.work asked)
          ≡ items_filled f l.fn.target.path.items 0 (item_count (child_items l.value)) answers
          (target_store l.fn.target) (meter l.fn.target.work asked);
      counted : total l.target ≡ total l.fn.target;
      lent : KeepsLoan l.fn.target l.target;
    }

abbrev pub invariant-fill_values-loop-i : goal.invariant-fill_values-loop-i
invariant-fill_values-loop-i g l =
    let f = filled l.place (resolved_seen l.inner) in
    record {
      path : l.target.path.items ≡ l.fn.target.path.items;
      known : IsKnown l.whole l.target.path.items l.target.tree;
      fills : (answers : Answers) (asked : List Key)
          → values_filled f l.fn.target.path.items (fields_from l.i l.value) answers
          (target_store l.target) (meter l.target.work asked)
          ≡ values_filled f l.fn.target.path.items (child_fields l.value) answers
          (target_store l.fn.target) (meter l.fn.target.work asked);
      counted : total l.target ≡ total l.fn.target;
      lent : KeepsLoan l.fn.target l.target;
    }

abbrev pub invariant-fill_fields-loop-field : goal.invariant-fill_fields-loop-field
invariant-fill_fields-loop-field g l =
    let run = fields_filled l.place in
    record {
      path : l.target.path.items ≡ l.fn.target.path.items;
      known : IsKnown l.whole l.target.path.items l.target.tree;
      fills : (answers : Answers) (asked : List Key)
          → run (fields_of (all_seen (drop l.field-index l.fields))) l.fn.target.path.items answers
          (target_store l.target) (meter l.target.work asked)
          ≡ run (fields_of (all_seen l.fields)) l.fn.target.path.items answers
          (target_store l.fn.target) (meter l.fn.target.work asked);
      counted : total l.target ≡ total l.fn.target;
      lent : KeepsLoan l.fn.target l.target;
    }
