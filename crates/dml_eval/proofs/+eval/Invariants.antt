use Rattle.std.proofs.Common.{◌≡◌, ℕ, ◌+◌, ◌-◌, ◌*◌, ◌^◌, ◌≤◌, [], drop, length, map}
use Rattle.pan_ast.specs.Seen.{item_seen, items_seen}
use Rattle.pan_ast.specs.Syntax.{none}
use Rattle.pan_ast.specs.TemplatesSeen.{statement_seen}
use Rattle.dml_leaves.specs.References.{indexes_back}
use Rattle.path_tree.specs.Find.{child_count}
use Rattle.path_tree.specs.Plain.{undef}
use Rattle.questions.specs.Told.{ToldEnough}
use Rattle.dml_meaning.specs.References.{block_from, values_from, reach_from}
use Rattle.dml_meaning.specs.Loops.{while_turns, for_turns, pair_turns, pairs_of}
use Rattle.dml_meaning.specs.Structures.{included, statements_from}
use Rattle.dml_meaning.specs.Meaning.{eval}
use Rattle.dml_eval.specs.Waits.{chain_run, resumed, turn_run, turn_weight, waits_weight}
use Rattle.dml_world.specs.Evaluations.{KeepsLoans, env_of, meter_of, total}
use Rattle.dml_eval.specs.Heres.{around_in}
use Rattle.dml_eval.proofs.+eval.Given as goal

-- an item that is opened inside leaves less room; inside one item the rank gets lower

abbrev pub decreases-items::open_item : goal.decreases-items::open_item
decreases-items::open_item g l = l.here.room * 2 ^ 70

abbrev pub decreases-items::run_item : goal.decreases-items::run_item
decreases-items::run_item g l = l.here.room * 2 ^ 70 + 2 ^ 69 + 2008

abbrev pub decreases-items::run_block : goal.decreases-items::run_block
decreases-items::run_block g l = l.here.room * 2 ^ 70 + 1

abbrev pub decreases-items::open_values : goal.decreases-items::open_values
decreases-items::open_values g l = l.here.room * 2 ^ 70 + 1

abbrev pub decreases-items::holds : goal.decreases-items::holds
decreases-items::holds g l = l.here.room * 2 ^ 70 + 1

abbrev pub decreases-items::run_if : goal.decreases-items::run_if
decreases-items::run_if g l = l.here.room * 2 ^ 70 + 2

abbrev pub decreases-items::run_if_else : goal.decreases-items::run_if_else
decreases-items::run_if_else g l = l.here.room * 2 ^ 70 + 2

abbrev pub decreases-items::run_assign : goal.decreases-items::run_assign
decreases-items::run_assign g l = l.here.room * 2 ^ 70 + 3

abbrev pub decreases-items::run_set : goal.decreases-items::run_set
decreases-items::run_set g l = l.here.room * 2 ^ 70 + 2

abbrev pub decreases-items::run_whole : goal.decreases-items::run_whole
decreases-items::run_whole g l = l.here.room * 2 ^ 70 + 1

abbrev pub decreases-items::run_at : goal.decreases-items::run_at
decreases-items::run_at g l = l.here.room * 2 ^ 70 + 1

abbrev pub decreases-loops::turn_while : goal.decreases-loops::turn_while
decreases-loops::turn_while g l = l.here.room * 2 ^ 70 + 2

abbrev pub decreases-loops::run_while : goal.decreases-loops::run_while
decreases-loops::run_while g l = l.here.room * 2 ^ 70 + 4

abbrev pub decreases-loops::turn_for : goal.decreases-loops::turn_for
decreases-loops::turn_for g l = l.here.room * 2 ^ 70 + 3

abbrev pub decreases-loops::turns_for : goal.decreases-loops::turns_for
decreases-loops::turns_for g l = l.here.room * 2 ^ 70 + 5

abbrev pub decreases-loops::run_for : goal.decreases-loops::run_for
decreases-loops::run_for g l = l.here.room * 2 ^ 70 + 6

abbrev pub decreases-loops::turn_pair : goal.decreases-loops::turn_pair
decreases-loops::turn_pair g l = l.here.room * 2 ^ 70 + 1

abbrev pub decreases-loops::walk : goal.decreases-loops::walk
decreases-loops::walk g l = l.here.room * 2 ^ 70 + 2

abbrev pub decreases-loops::run_foreach : goal.decreases-loops::run_foreach
decreases-loops::run_foreach g l = l.here.room * 2 ^ 70 + 3

abbrev pub decreases-nodes::run_node : goal.decreases-nodes::run_node
decreases-nodes::run_node g l = l.here.room * 2 ^ 70 + 2 ^ 69 + 2007

abbrev pub decreases-nodes::run_spine : goal.decreases-nodes::run_spine
decreases-nodes::run_spine g l = l.here.room * 2 ^ 70 + 2 ^ 69 + 2006

abbrev pub decreases-pairs::run_pair : goal.decreases-pairs::run_pair
decreases-pairs::run_pair g l = l.here.room * 2 ^ 70 + 2 ^ 69 + 2001

abbrev pub decreases-pairs::run_element : goal.decreases-pairs::run_element
decreases-pairs::run_element g l = l.here.room * 2 ^ 70 + 2 ^ 69 + 2001

abbrev pub decreases-nodes::run_operand : goal.decreases-nodes::run_operand
decreases-nodes::run_operand g l = l.here.room * 2 ^ 70 + 2 ^ 69 + 2000

abbrev pub decreases-nodes::open_sign : goal.decreases-nodes::open_sign
decreases-nodes::open_sign g l = l.here.room * 2 ^ 70

abbrev pub decreases-chains::run_chain : goal.decreases-chains::run_chain
decreases-chains::run_chain g l = l.here.room * 2 ^ 70 + 2 ^ 69 + 2005

abbrev pub decreases-chains::start : goal.decreases-chains::start
decreases-chains::start g l = l.here.room * 2 ^ 70 + 2 ^ 69 + 2004

abbrev pub decreases-chains::take_up : goal.decreases-chains::take_up
decreases-chains::take_up g l = l.here.room * 2 ^ 70 + 2 ^ 69 + 2004

abbrev pub decreases-chains::run_step : goal.decreases-chains::run_step
decreases-chains::run_step g l = l.here.room * 2 ^ 70 + 2 ^ 69 + 2003

abbrev pub decreases-chains::run_index : goal.decreases-chains::run_index
decreases-chains::run_index g l = l.here.room * 2 ^ 70 + 1

abbrev pub decreases-chains::run_binary : goal.decreases-chains::run_binary
decreases-chains::run_binary g l = l.here.room * 2 ^ 70 + 2 ^ 69 + 2001

abbrev pub decreases-chains::run_both : goal.decreases-chains::run_both
decreases-chains::run_both g l = l.here.room * 2 ^ 70 + 2 ^ 69 + 2002

abbrev pub decreases-chains::run_either : goal.decreases-chains::run_either
decreases-chains::run_either g l = l.here.room * 2 ^ 70 + 2 ^ 69 + 2002

abbrev pub decreases-chains::run_second : goal.decreases-chains::run_second
decreases-chains::run_second g l = l.here.room * 2 ^ 70 + 2 ^ 69 + 2001

abbrev pub decreases-calls::run_call : goal.decreases-calls::run_call
decreases-calls::run_call g l = l.here.room * 2 ^ 70 + 2 ^ 69 + 1000

abbrev pub decreases-calls::run_values : goal.decreases-calls::run_values
decreases-calls::run_values g l = l.here.room * 2 ^ 70 + 2

abbrev pub decreases-calls::run_function : goal.decreases-calls::run_function
decreases-calls::run_function g l = l.here.room * 2 ^ 70 + 3

abbrev pub decreases-calls::run_called : goal.decreases-calls::run_called
decreases-calls::run_called g l = l.here.room * 2 ^ 70 + 2

abbrev pub decreases-calls::run_body : goal.decreases-calls::run_body
decreases-calls::run_body g l = l.here.room * 2 ^ 70 + 1

abbrev pub decreases-references::open_reference : goal.decreases-references::open_reference
decreases-references::open_reference g l = l.here.room * 2 ^ 70

abbrev pub decreases-references::reach_from : goal.decreases-references::reach_from
decreases-references::reach_from g l = l.here.room * 2 ^ 70 + 1

abbrev pub decreases-references::value_or_nothing : goal.decreases-references::value_or_nothing
decreases-references::value_or_nothing g l = l.here.room * 2 ^ 70 + 1

abbrev pub decreases-built_in::run_own : goal.decreases-built_in::run_own
decreases-built_in::run_own g l = l.here.room * 2 ^ 70 + 2 ^ 69 + 900

abbrev pub decreases-built_in::run_evaluated : goal.decreases-built_in::run_evaluated
decreases-built_in::run_evaluated g l = l.here.room * 2 ^ 70 + 2

abbrev pub decreases-built_in::run_test : goal.decreases-built_in::run_test
decreases-built_in::run_test g l = l.here.room * 2 ^ 70 + 4

abbrev pub decreases-built_in::run_exists : goal.decreases-built_in::run_exists
decreases-built_in::run_exists g l = l.here.room * 2 ^ 70 + 4

abbrev pub decreases-built_in::run_delete : goal.decreases-built_in::run_delete
decreases-built_in::run_delete g l = l.here.room * 2 ^ 70 + 4

abbrev pub decreases-built_in::run_extend : goal.decreases-built_in::run_extend
decreases-built_in::run_extend g l = l.here.room * 2 ^ 70 + 4

abbrev pub decreases-built_in::test_item : goal.decreases-built_in::test_item
decreases-built_in::test_item g l = l.here.room * 2 ^ 70 + 3

abbrev pub decreases-built_in::exists_item : goal.decreases-built_in::exists_item
decreases-built_in::exists_item g l = l.here.room * 2 ^ 70 + 3

abbrev pub decreases-built_in::delete_item : goal.decreases-built_in::delete_item
decreases-built_in::delete_item g l = l.here.room * 2 ^ 70 + 3

abbrev pub decreases-built_in::run_copy : goal.decreases-built_in::run_copy
decreases-built_in::run_copy g l = l.here.room * 2 ^ 70 + 1

abbrev pub decreases-built_in::run_change : goal.decreases-built_in::run_change
decreases-built_in::run_change g l = l.here.room * 2 ^ 70 + 1

-- a structure template that is included leaves fewer to include

abbrev pub decreases-creating::run_create : goal.decreases-creating::run_create
decreases-creating::run_create g l = l.here.room * 2 ^ 70 + 2 ^ 69 + 3

abbrev pub decreases-creating::create_named : goal.decreases-creating::create_named
decreases-creating::create_named g l = l.here.room * 2 ^ 70 + 2 ^ 69 + 2

abbrev pub decreases-creating::run_created : goal.decreases-creating::run_created
decreases-creating::run_created g l = l.here.room * 2 ^ 70 + 2 ^ 69 + 1

abbrev pub decreases-creating::run_statements : goal.decreases-creating::run_statements
decreases-creating::run_statements g l =
    l.here.room * 2 ^ 70 + 8 * l.here.around.now.includes_left + 7

abbrev pub decreases-creating::run_statement : goal.decreases-creating::run_statement
decreases-creating::run_statement g l =
    l.here.room * 2 ^ 70 + 8 * l.here.around.now.includes_left + 6

abbrev pub decreases-creating::run_assignment : goal.decreases-creating::run_assignment
decreases-creating::run_assignment g l =
    l.here.room * 2 ^ 70 + 8 * l.here.around.now.includes_left + 5

abbrev pub decreases-creating::run_assigned : goal.decreases-creating::run_assigned
decreases-creating::run_assigned g l =
    l.here.room * 2 ^ 70 + 8 * l.here.around.now.includes_left + 4

abbrev pub decreases-creating::run_include : goal.decreases-creating::run_include
decreases-creating::run_include g l = l.here.room * 2 ^ 70 + 8 * l.here.around.now.includes_left + 5

abbrev pub decreases-creating::run_included : goal.decreases-creating::run_included
decreases-creating::run_included g l =
    l.here.room * 2 ^ 70 + 8 * l.here.around.now.includes_left + 4

abbrev pub decreases-creating::run_inside : goal.decreases-creating::run_inside
decreases-creating::run_inside g l = l.here.room * 2 ^ 70 + 8 * l.here.around.now.includes_left + 3

abbrev pub decreases-creating::run_inner : goal.decreases-creating::run_inner
decreases-creating::run_inner g l = l.here.room * 2 ^ 70 + 1

-- what is left means, from what stands there, what all means from the beginning; no step is lost

abbrev pub invariant-items::run_block-items : goal.invariant-items::run_block-items
invariant-items::run_block-items g l =
    let M = g.W.World in
    let now = l.evaluation in
    let before = l.fn.evaluation in
    let from = block_from (eval l.here.room) (around_in M l.here) in
    record {
      gives : ToldEnough M.answers (M.asked before.world.now) (M.asked now.world.now)
          (λ told. from (items_seen (drop l.item-index l.items)) l.last told (env_of now)
          (meter_of M now) ≡ from (items_seen l.items) undef told (env_of before)
          (meter_of M before));
      counted : total now ≡ total before;
      lent : KeepsLoans before now;
    }

abbrev pub invariant-items::open_values-items : goal.invariant-items::open_values-items
invariant-items::open_values-items g l =
    let M = g.W.World in
    let now = l.evaluation in
    let before = l.fn.evaluation in
    let from = values_from (eval l.here.room) (around_in M l.here) in
    record {
      gives : ToldEnough M.answers (M.asked before.world.now) (M.asked now.world.now)
          (λ told. from (items_seen (drop l.item-index l.items)) l.values.items told (env_of now)
          (meter_of M now) ≡ from (items_seen l.items) [] told (env_of before)
          (meter_of M before));
      counted : total now ≡ total before;
      lent : KeepsLoans before now;
    }

abbrev pub invariant-chains::run_chain-turns : goal.invariant-chains::run_chain-turns
invariant-chains::run_chain-turns g l =
    let M = g.W.World in
    let now = l.evaluation in
    let before = l.fn.evaluation in
    let go = eval l.here.room in
    let a = around_in M l.here in
    record {
      gives : ToldEnough M.answers (M.asked before.world.now) (M.asked now.world.now)
          (λ told. resumed go a told l.waiting.items (turn_run go a l.turn told (env_of now)
          (meter_of M now)) ≡ chain_run go a l.fn.chain told (env_of before)
          (meter_of M before));
      counted : total now ≡ total before;
      lent : KeepsLoans before now;
    }

abbrev pub decreases-chains::run_chain-turns : goal.decreases-chains::run_chain-turns
decreases-chains::run_chain-turns g l = turn_weight l.turn + waits_weight l.waiting.items

abbrev pub invariant-loops::run_while-turns : goal.invariant-loops::run_while-turns
invariant-loops::run_while-turns g l =
    let M = g.W.World in
    let now = l.evaluation in
    let before = l.fn.evaluation in
    let from = λ (n : ℕ). while_turns n (eval l.here.room)
    (around_in M l.here) l.looped.place.now (item_seen l.looped.condition.now)
    (item_seen l.looped.body.now) in
    record {
      gives : ToldEnough M.answers (M.asked before.world.now) (M.asked now.world.now)
          (λ told. from l.left l.last told (env_of now) (meter_of M now)
          ≡ from l.here.around.now.frame.now.max_iteration undef told (env_of before)
          (meter_of M before));
      counted : total now ≡ total before;
      lent : KeepsLoans before now;
    }

abbrev pub decreases-loops::run_while-turns : goal.decreases-loops::run_while-turns
decreases-loops::run_while-turns g l = l.left

abbrev pub invariant-loops::turns_for-turns : goal.invariant-loops::turns_for-turns
invariant-loops::turns_for-turns g l =
    let M = g.W.World in
    let now = l.evaluation in
    let before = l.fn.evaluation in
    let from = λ (n : ℕ). for_turns n (eval l.here.room)
    (around_in M l.here) l.looped.place.now (item_seen l.looped.condition.now)
    (item_seen l.step) (item_seen l.looped.body.now) in
    record {
      gives : ToldEnough M.answers (M.asked before.world.now) (M.asked now.world.now)
          (λ told. from l.left l.last told (env_of now) (meter_of M now)
          ≡ from l.here.around.now.frame.now.max_iteration undef told (env_of before)
          (meter_of M before));
      counted : total now ≡ total before;
      lent : KeepsLoans before now;
    }

abbrev pub decreases-loops::turns_for-turns : goal.decreases-loops::turns_for-turns
decreases-loops::turns_for-turns g l = l.left

abbrev pub invariant-loops::walk-pairs : goal.invariant-loops::walk-pairs
invariant-loops::walk-pairs g l =
    let M = g.W.World in
    let now = l.evaluation in
    let before = l.fn.evaluation in
    let from = λ (n : ℕ). pair_turns n (eval l.here.room)
    (around_in M l.here) l.looped.place.now l.looped.key.now l.looped.value.now
    (item_seen l.looped.body.now) in
    record {
      gives : ToldEnough M.answers (M.asked before.world.now) (M.asked now.world.now)
          (λ told. from (l.here.around.now.frame.now.max_iteration - l.i)
          (drop l.i (pairs_of l.walked))
          l.last told (env_of now) (meter_of M now)
          ≡ from l.here.around.now.frame.now.max_iteration (pairs_of l.walked) undef told
          (env_of before) (meter_of M before));
      counted : total now ≡ total before;
      lent : KeepsLoans before now;
      within : l.i ≤ child_count l.walked;
    }

abbrev pub decreases-loops::walk-pairs : goal.decreases-loops::walk-pairs
decreases-loops::walk-pairs g l = child_count l.walked - l.i

abbrev pub invariant-references::reach_from-indexes : goal.invariant-references::reach_from-indexes
invariant-references::reach_from-indexes g l =
    let M = g.W.World in
    let now = l.evaluation in
    let before = l.fn.evaluation in
    let from = reach_from l.all (eval l.here.room) (around_in M l.here)
    l.place in
    record {
      gives : ToldEnough M.answers (M.asked before.world.now) (M.asked now.world.now)
          (λ told. from (indexes_back l.indexes.items none) l.keys.items l.value told (env_of now)
          (meter_of M now) ≡ from (indexes_back l.fn.indexes.items none) []
          l.fn.value told (env_of before) (meter_of M before));
      counted : total now ≡ total before;
      lent : KeepsLoans before now;
    }

abbrev pub decreases-references::reach_from-indexes : goal.decreases-references::reach_from-indexes
decreases-references::reach_from-indexes g l = length l.indexes.items

abbrev pub invariant-creating::run_statements-statements :
    goal.invariant-creating::run_statements-statements
invariant-creating::run_statements-statements g l =
    let M = g.W.World in
    let now = l.evaluation in
    let before = l.fn.evaluation in
    let from = statements_from (included l.here.around.now.includes_left (eval l.here.room))
    (eval l.here.room)
    (around_in M l.here) in
    record {
      gives : ToldEnough M.answers (M.asked before.world.now) (M.asked now.world.now)
          (λ told. from (map statement_seen (drop l.statement-index l.statements)) l.made told
          (env_of now) (meter_of M now)
          ≡ from (map statement_seen l.statements) l.fn.made told (env_of before)
          (meter_of M before));
      counted : total now ≡ total before;
      lent : KeepsLoans before now;
    }
