use Rattle.std.proofs.Common.{◌≡◌, ◌∙◌, ◌<◌, ◌-◌, true, [], ◌∷◌, ◌++◌, ap, subst, sym, length, map, rules, arith}
use Rattle.pan_ast.specs.Seen.{item_seen, items_seen, node_seen, step_seen}
use Rattle.pan_ast.specs.Syntax.{AtBinary, AtAnd, AtOr, none}
use Rattle.pan_ast.specs.TemplatesSeen.{template_seen}
use Rattle.pan_ast.proofs.Places.{item_place_seen}
use Rattle.questions.proofs.Parts.{none_beyond}
use Rattle.dml_meaning.proofs.Leaving.{leaving}
use Rattle.dml_world.specs.Evaluations.{Evaluates, env_of, meter_of}
use Rattle.dml_eval.specs.Heres.{around_in}
use Rattle.dml_world.proofs.Booleans.{others_both, others_either}
use Rattle.dml_leaves.specs.References.{argument_of, indexes_back, purpose_of, reached_of}
use Rattle.questions.specs.Run.{then}
use Rattle.questions.specs.Told.{only}
use Rattle.dml_eval.specs.Waits.{chain_run, in_role, resume, turn_run}
use Rattle.dml_eval.proofs.Lists.{for_over, while_over}
use Rattle.dml_eval.proofs.Owns.{extends, includes_on, statements, tests}
use Rattle.dml_eval.proofs.Reaching.{reaches}
use Rattle.dml_eval.proofs.Stopping.{applied_stops, assigned_leaves, block_stops, both_stop, chain_stops, condition_stops, copy_stops, delete_leaves, either_stops, exists_leaves, exists_stops, extended_stops, for_stops, include_stops, included_stops, index_stops, keys_stop, made_leaves, operand_stops, pair_stops, reached_stops, reference_goes, reference_stops, right_stops, second_stops, sign_stops, container_stops, element_stops, pair_stops_left, pair_stops_right, place_stops, set_stops, spine_stops, start_stops, statements_stop, terms_stop, turn_stops, value_leaves, values_left, values_stop, while_stops, whole_stops}
use Rattle.dml_eval.proofs.Waits.{no_operand, resumed_ends, resumed_more, resumed_none, steps_end, steps_more, turns_leave}
use Rattle.dml_meaning.specs.References.{reference_in}
use Rattle.dml_meaning.specs.Loops.{pair_at}
use Rattle.dml_meaning.specs.Meaning.{eval, node_run, second_run, step_run, steps_run}
use Rattle.dml_eval.proofs.+eval.Goals as goal

pub chains::run_chain-turns-init : goal.chains::run_chain-turns-init
chains::run_chain-turns-init g t c =
    let empty : length c.new-waiting.result.items ≡ 0 = ap length c.new-waiting.ensures.items in
    record {
      gives = λ keys.
          let begun = c.start.ensures.gives keys in (
            begun.0,
            λ told. resumed_none _ _ _ c.new-waiting.result.items _ _ empty
                (let here = begun.1 told in grind (arith, here)),
          );
      counted = c.start.ensures.counted;
      lent = c.start.ensures.lent;
    }

pub chains::run_chain-returns-in-None-pop-clause-gives :
    goal.chains::run_chain-returns-in-None-pop-clause-gives
unfolding steps_run
chains::run_chain-returns-in-None-pop-clause-gives g t c =
    let empty : length c.turns.waiting.items ≡ 0 =
    omega (arith, c.turns.waiting.ok.0, c.in-None-pop.ensures.cases.0) in
    λ keys.
    let done = c.turns.invariant.gives keys in (
      done.0,
      λ told. sym (done.1 told) ∙ resumed_none _ _ _ c.turns.waiting.items _ _ empty
          (search rules),
    )

pub creating::run_included-returns-clause-gives : goal.creating::run_included-returns-clause-gives
creating::run_included-returns-clause-gives g t c =
    let some : 0 < c.args.here.around.now.includes_left = omega (arith, c.if-here-eq0.false) in
    λ keys.
    let found = c.structure_named.ensures.gives keys in
    let inside = c.run_inside.ensures.gives keys in (
      omega (arith, found.0, inside.0),
      λ told.
          let template = found.1 (omega (arith, told, inside.0)) in
          includes_on _ _ _ _ _ _ _ _ _ _ _ _ _ _ _ _ some c.deref.ensures
          (search (rules, template)) (inside.1 told),
    )

pub built_in::exists_item-returns-in_err-argument-clause-gives :
    goal.built_in::exists_item-returns-in_err-argument-clause-gives
built_in::exists_item-returns-in_err-argument-clause-gives g t c = λ keys.
    let leaves = exists_leaves (around_in g.W.World c.args.here)
    g.W.World.plain c.args.here.room c.args.place.now (item_seen c.args.item.now)
    (reference_in (item_seen c.args.item.now)) (only keys g.W.World.answers)
    (env_of c.args.evaluation.now) (meter_of g.W.World c.args.evaluation.now) in
    grind (arith, leaves)

pub built_in::exists_item-returns-in_err-value-clause-gives :
    goal.built_in::exists_item-returns-in_err-value-clause-gives
built_in::exists_item-returns-in_err-value-clause-gives g t c = λ keys.
    let stops = exists_stops (around_in g.W.World c.args.here)
    g.W.World.plain c.args.here.room c.in_err-value.field-0.0 c.args.place.now
    (item_seen c.args.item.now) (only keys g.W.World.answers) (env_of c.args.evaluation.now)
    (env_of c.open_item.new.evaluation) (meter_of g.W.World c.args.evaluation.now)
    (meter_of g.W.World c.open_item.new.evaluation) in
    grind (arith, stops)

pub built_in::delete_item-returns-in_err-argument-clause-gives :
    goal.built_in::delete_item-returns-in_err-argument-clause-gives
built_in::delete_item-returns-in_err-argument-clause-gives g t c = λ keys.
    let leaves = delete_leaves (around_in g.W.World c.args.here)
    g.W.World.plain c.args.here.room c.args.place.now (item_seen c.args.item.now)
    (reference_in (item_seen c.args.item.now)) (only keys g.W.World.answers)
    (env_of c.args.evaluation.now) (meter_of g.W.World c.args.evaluation.now) in
    grind (arith, leaves)

pub built_in::run_copy-returns-in_err-list-clause-gives :
    goal.built_in::run_copy-returns-in_err-list-clause-gives
built_in::run_copy-returns-in_err-list-clause-gives g t c = λ keys.
    let stops = copy_stops (around_in g.W.World c.args.here)
    g.W.World.plain c.args.here.room c.in_err-list.field-0.0 c.args.place.now c.args.side
    (item_seen c.args.list.now) (item_seen c.args.value.now) (only keys g.W.World.answers)
    (env_of c.args.evaluation.now) (env_of c.open_item.new.evaluation)
    (meter_of g.W.World c.args.evaluation.now)
    (meter_of g.W.World c.open_item.new.evaluation) in
    grind (arith, stops)

pub built_in::run_change-returns-in_err-reached-clause-gives :
    goal.built_in::run_change-returns-in_err-reached-clause-gives
built_in::run_change-returns-in_err-reached-clause-gives g t c = λ keys.
    let stops = reached_stops (around_in g.W.World c.args.here)
    g.W.World.plain c.args.here.room c.in_err-reached.field-0.0 c.args.place.now c.args.side
    c.args.at.now c.args.argument.place.now c.args.argument.name.now
    (indexes_back c.args.argument.indexes.items none) (item_seen c.args.value.now)
    (only keys g.W.World.answers) (env_of c.args.evaluation.now)
    (env_of c.open_reference.new.evaluation)
    (meter_of g.W.World c.args.evaluation.now)
    (meter_of g.W.World c.open_reference.new.evaluation) in
    grind (arith, stops)

pub built_in::run_change-returns-in_err-value-clause-gives :
    goal.built_in::run_change-returns-in_err-value-clause-gives
built_in::run_change-returns-in_err-value-clause-gives g t c = λ keys.
    let stops = extended_stops (around_in g.W.World c.args.here)
    g.W.World.plain c.args.here.room c.in_err-value.field-0.0 c.args.place.now c.args.side
    c.args.at.now c.args.argument.place.now c.args.argument.name.now
    (indexes_back c.args.argument.indexes.items none) (item_seen c.args.value.now)
    (reached_of c.in_ok-reached.reached) (only keys g.W.World.answers)
    (env_of c.args.evaluation.now)
    (env_of c.open_reference.new.evaluation) (env_of c.open_item.new.evaluation)
    (meter_of g.W.World c.args.evaluation.now)
    (meter_of g.W.World c.open_item.new.evaluation)
    (meter_of g.W.World c.open_reference.new.evaluation) in
    grind (arith, stops)

pub chains::start-returns-in_err-value-in-None-clause-gives :
    goal.chains::start-returns-in_err-value-in-None-clause-gives
chains::start-returns-in_err-value-in-None-clause-gives g t c = λ keys.
    let stops = spine_stops (around_in g.W.World c.args.here)
    g.W.World.plain c.args.here.room c.in_err-value-in-None.field-0.0 c.args.chain.place.now
    (node_seen c.args.chain.first.now) (step_seen c.args.chain.step.now ∷ map step_seen
    c.args.chain.rest.now) (only keys g.W.World.answers) (env_of c.args.evaluation.now)
    (env_of c.run_operand.new.evaluation) (meter_of g.W.World c.args.evaluation.now)
    (meter_of g.W.World c.run_operand.new.evaluation) in
    grind (arith, stops)

pub chains::take_up-returns-in_err-value-in-Right-clause-gives :
    goal.chains::take_up-returns-in_err-value-in-Right-clause-gives
chains::take_up-returns-in_err-value-in-Right-clause-gives g t c = λ keys.
    let stops = chain_stops (around_in g.W.World c.args.here)
    g.W.World.plain c.args.here.room c.in_err-value-in-Right.field-0.0 c.args.waiting.place.now
    (map step_seen c.args.waiting.rest.now) (in_role (eval c.args.here.room)
    (around_in g.W.World c.args.here) c.args.waiting.place.now
    c.args.waiting.role c.args.value) (only keys g.W.World.answers) (env_of c.args.evaluation.now)
    (env_of c.apply_binary.new.evaluation) (meter_of g.W.World c.args.evaluation.now)
    (meter_of g.W.World c.apply_binary.new.evaluation) in
    grind (arith, stops)

pub chains::take_up-returns-in_err-value-in-Deciding-clause-gives :
    goal.chains::take_up-returns-in_err-value-in-Deciding-clause-gives
chains::take_up-returns-in_err-value-in-Deciding-clause-gives g t c = λ keys.
    let stops = chain_stops (around_in g.W.World c.args.here)
    g.W.World.plain c.args.here.room c.in_err-value-in-Deciding.field-0.0 c.args.waiting.place.now
    (map step_seen c.args.waiting.rest.now) (in_role (eval c.args.here.room)
    (around_in g.W.World c.args.here) c.args.waiting.place.now
    c.args.waiting.role c.args.value) (only keys g.W.World.answers) (env_of c.args.evaluation.now)
    (env_of c.apply_boolean.new.evaluation) (meter_of g.W.World c.args.evaluation.now)
    (meter_of g.W.World c.apply_boolean.new.evaluation) in
    grind (arith, stops)

pub chains::run_binary-returns-in_err-value-in-None-clause-gives :
    goal.chains::run_binary-returns-in_err-value-in-None-clause-gives
chains::run_binary-returns-in_err-value-in-None-clause-gives g t c = λ keys.
    let inner = operand_stops (around_in g.W.World c.args.here)
    g.W.World.plain c.args.here.room c.in_err-value-in-None.field-0.0 c.args.place.now
    c.args.left c.args.op (node_seen c.args.right.now) (only keys g.W.World.answers)
    (env_of c.args.evaluation.now)
    (env_of c.run_operand.new.evaluation) (meter_of g.W.World c.args.evaluation.now)
    (meter_of g.W.World c.run_operand.new.evaluation) in
    let stops = chain_stops (around_in g.W.World c.args.here)
    g.W.World.plain c.args.here.room c.in_err-value-in-None.field-0.0 c.args.place.now
    (map step_seen c.args.rest.now) (step_run (eval c.args.here.room)
    (around_in g.W.World c.args.here) c.args.place.now c.args.left
    (AtBinary c.args.op (node_seen c.args.right.now))) (only keys g.W.World.answers)
    (env_of c.args.evaluation.now) (env_of c.run_operand.new.evaluation)
    (meter_of g.W.World c.args.evaluation.now)
    (meter_of g.W.World c.run_operand.new.evaluation) in
    grind (arith, inner, stops)

pub chains::run_binary-returns-in_err-joined-in-None-clause-gives :
    goal.chains::run_binary-returns-in_err-joined-in-None-clause-gives
chains::run_binary-returns-in_err-joined-in-None-clause-gives g t c = λ keys.
    let inner = applied_stops (around_in g.W.World c.args.here)
    g.W.World.plain c.args.here.room c.in_err-joined-in-None.field-0.0 c.args.place.now c.args.left
    c.in_ok-value-in-None.value c.args.op (node_seen c.args.right.now) (only keys g.W.World.answers)
    (env_of c.args.evaluation.now) (env_of c.run_operand.new.evaluation)
    (env_of c.apply_binary.new.evaluation)
    (meter_of g.W.World c.args.evaluation.now)
    (meter_of g.W.World c.apply_binary.new.evaluation)
    (meter_of g.W.World c.run_operand.new.evaluation) in
    let stops = chain_stops (around_in g.W.World c.args.here)
    g.W.World.plain c.args.here.room c.in_err-joined-in-None.field-0.0 c.args.place.now
    (map step_seen c.args.rest.now) (step_run (eval c.args.here.room)
    (around_in g.W.World c.args.here) c.args.place.now c.args.left
    (AtBinary c.args.op (node_seen c.args.right.now))) (only keys g.W.World.answers)
    (env_of c.args.evaluation.now) (env_of c.apply_binary.new.evaluation)
    (meter_of g.W.World c.args.evaluation.now)
    (meter_of g.W.World c.apply_binary.new.evaluation) in
    grind (arith, inner, stops)

pub chains::run_both-returns-in_err-value-in-Some-false-clause-gives :
    goal.chains::run_both-returns-in_err-value-in-Some-false-clause-gives
chains::run_both-returns-in_err-value-in-Some-false-clause-gives g t c = λ keys.
    let same = others_both c.args.place.now (node_run (eval c.args.here.room)
    (around_in g.W.World c.args.here)
    (node_seen c.args.right.now)) c.args.left (only keys g.W.World.answers)
    (env_of c.args.evaluation.now) (meter_of g.W.World c.args.evaluation.now) in
    let inner = both_stop (around_in g.W.World c.args.here)
    g.W.World.plain c.args.here.room c.in_err-value-in-Some-false.field-0.0 c.args.place.now
    c.args.left (node_seen c.args.right.now) (only keys g.W.World.answers)
    (env_of c.args.evaluation.now)
    (env_of c.apply_boolean.new.evaluation) (meter_of g.W.World c.args.evaluation.now)
    (meter_of g.W.World c.apply_boolean.new.evaluation) in
    let stops = chain_stops (around_in g.W.World c.args.here)
    g.W.World.plain c.args.here.room c.in_err-value-in-Some-false.field-0.0 c.args.place.now
    (map step_seen c.args.rest.now) (step_run (eval c.args.here.room)
    (around_in g.W.World c.args.here) c.args.place.now c.args.left
    (AtAnd (node_seen c.args.right.now))) (only keys g.W.World.answers)
    (env_of c.args.evaluation.now)
    (env_of c.apply_boolean.new.evaluation) (meter_of g.W.World c.args.evaluation.now)
    (meter_of g.W.World c.apply_boolean.new.evaluation) in
    grind (arith, same, inner, stops)

pub chains::run_either-returns-in_err-value-in-Some-true-clause-gives :
    goal.chains::run_either-returns-in_err-value-in-Some-true-clause-gives
chains::run_either-returns-in_err-value-in-Some-true-clause-gives g t c = λ keys.
    let same = others_either c.args.place.now (node_run (eval c.args.here.room)
    (around_in g.W.World c.args.here)
    (node_seen c.args.right.now)) c.args.left (only keys g.W.World.answers)
    (env_of c.args.evaluation.now) (meter_of g.W.World c.args.evaluation.now) in
    let inner = either_stops (around_in g.W.World c.args.here)
    g.W.World.plain c.args.here.room c.in_err-value-in-Some-true.field-0.0 c.args.place.now
    c.args.left (node_seen c.args.right.now) (only keys g.W.World.answers)
    (env_of c.args.evaluation.now)
    (env_of c.apply_boolean.new.evaluation) (meter_of g.W.World c.args.evaluation.now)
    (meter_of g.W.World c.apply_boolean.new.evaluation) in
    let stops = chain_stops (around_in g.W.World c.args.here)
    g.W.World.plain c.args.here.room c.in_err-value-in-Some-true.field-0.0 c.args.place.now
    (map step_seen c.args.rest.now) (step_run (eval c.args.here.room)
    (around_in g.W.World c.args.here) c.args.place.now c.args.left
    (AtOr (node_seen c.args.right.now))) (only keys g.W.World.answers)
    (env_of c.args.evaluation.now)
    (env_of c.apply_boolean.new.evaluation) (meter_of g.W.World c.args.evaluation.now)
    (meter_of g.W.World c.apply_boolean.new.evaluation) in
    grind (arith, same, inner, stops)

pub chains::run_second-returns-in_err-decided-in-None-clause-gives :
    goal.chains::run_second-returns-in_err-decided-in-None-clause-gives
chains::run_second-returns-in_err-decided-in-None-clause-gives g t c = λ keys.
    let inner = second_stops (around_in g.W.World c.args.here)
    g.W.World.plain c.args.here.room c.in_err-decided-in-None.field-0.0 c.args.place.now
    c.in_ok-value-in-None.value (node_seen c.args.right.now) (only keys g.W.World.answers)
    (env_of c.args.evaluation.now) (env_of c.run_operand.new.evaluation)
    (env_of c.apply_boolean.new.evaluation)
    (meter_of g.W.World c.args.evaluation.now)
    (meter_of g.W.World c.apply_boolean.new.evaluation)
    (meter_of g.W.World c.run_operand.new.evaluation) in
    let stops = chain_stops (around_in g.W.World c.args.here)
    g.W.World.plain c.args.here.room c.in_err-decided-in-None.field-0.0 c.args.place.now
    (map step_seen c.args.rest.now) (second_run (eval c.args.here.room)
    (around_in g.W.World c.args.here) c.args.place.now
    (node_seen c.args.right.now)) (only keys g.W.World.answers) (env_of c.args.evaluation.now)
    (env_of c.apply_boolean.new.evaluation) (meter_of g.W.World c.args.evaluation.now)
    (meter_of g.W.World c.apply_boolean.new.evaluation) in
    grind (arith, inner, stops)

pub chains::run_chain-returns-in_err-push-in-Inner-clause-gives :
    goal.chains::run_chain-returns-in_err-push-in-Inner-clause-gives
chains::run_chain-returns-in_err-push-in-Inner-clause-gives g t c = λ keys.
    let done = c.turns.invariant.gives keys in (
      done.0,
      λ told.
          let leaves = turns_leave (around_in g.W.World c.args.here)
          g.W.World.plain c.args.here.room (only keys g.W.World.answers) c.turns.waiting.items
          c.turns.turn (env_of c.turns.evaluation) (meter_of g.W.World c.turns.evaluation)
          (chain_run (eval c.args.here.room)
          (around_in g.W.World c.args.here) c.args.chain
          (only keys g.W.World.answers) (env_of c.args.evaluation.now)
          (meter_of g.W.World c.args.evaluation.now)) (done.1 told) in
          grind (arith, leaves),
    )

pub chains::run_chain-returns-in_err-turn-in-Inner-clause-gives :
    goal.chains::run_chain-returns-in_err-turn-in-Inner-clause-gives
chains::run_chain-returns-in_err-turn-in-Inner-clause-gives g t c = λ keys.
    let more = resumed_more (eval c.args.here.room) (around_in g.W.World c.args.here)
    (only keys g.W.World.answers) c.turns.waiting.items c.in-Inner.outer
    (chain_run (eval c.args.here.room) (around_in g.W.World c.args.here) c.in-Inner.inner
    (only keys g.W.World.answers) (env_of c.turns.evaluation)
    (meter_of g.W.World c.turns.evaluation)) in
    let ends = resumed_ends (around_in g.W.World c.args.here)
    g.W.World.plain c.args.here.room (only keys g.W.World.answers)
    (c.turns.waiting.items ++ c.in-Inner.outer ∷ []) c.in_err-turn-in-Inner.field-0.0
    (env_of c.start-in-Inner.new.evaluation) (meter_of g.W.World c.start-in-Inner.new.evaluation)
    (chain_run (eval c.args.here.room) (around_in g.W.World c.args.here) c.in-Inner.inner
    (only keys g.W.World.answers) (env_of c.turns.evaluation)
    (meter_of g.W.World c.turns.evaluation))
    (chain_run (eval c.args.here.room) (around_in g.W.World c.args.here) c.args.chain
    (only keys g.W.World.answers) (env_of c.args.evaluation.now)
    (meter_of g.W.World c.args.evaluation.now)) in
    let done = c.turns.invariant.gives keys in
    let here = c.start-in-Inner.ensures.gives keys in
    grind (arith, more, ends, done, here)

pub chains::run_chain-returns-in_err-turn-in-Some-clause-gives :
    goal.chains::run_chain-returns-in_err-turn-in-Some-clause-gives
chains::run_chain-returns-in_err-turn-in-Some-clause-gives g t c = λ keys.
    let first = steps_more (eval c.args.here.room) (around_in g.W.World c.args.here)
    c.in-Steps.place.now (map step_seen c.in-Steps.rest.now)
    (map step_seen c.in-Some.rest.now) (step_seen c.in-Some.step.now) c.in-Steps.value
    (only keys g.W.World.answers) (env_of c.turns.evaluation)
    (meter_of g.W.World c.turns.evaluation) in
    let ends = resumed_ends (around_in g.W.World c.args.here)
    g.W.World.plain c.args.here.room (only keys g.W.World.answers) c.turns.waiting.items
    c.in_err-turn-in-Some.field-0.0 (env_of c.run_step.new.evaluation)
    (meter_of g.W.World c.run_step.new.evaluation)
    (turn_run (eval c.args.here.room) (around_in g.W.World c.args.here)
    c.turns.turn (only keys g.W.World.answers) (env_of c.turns.evaluation)
    (meter_of g.W.World c.turns.evaluation))
    (chain_run (eval c.args.here.room) (around_in g.W.World c.args.here) c.args.chain
    (only keys g.W.World.answers) (env_of c.args.evaluation.now)
    (meter_of g.W.World c.args.evaluation.now)) in
    let done = c.turns.invariant.gives keys in
    let here = c.run_step.ensures.gives keys in
    grind (arith, first, ends, done, here)

pub chains::run_chain-returns-in_err-turn-in-Some-pop-clause-gives :
    goal.chains::run_chain-returns-in_err-turn-in-Some-pop-clause-gives
chains::run_chain-returns-in_err-turn-in-Some-pop-clause-gives g t c = λ keys.
    let end = steps_end (eval c.args.here.room) (around_in g.W.World c.args.here)
    c.in-Steps.place.now (map step_seen c.in-Steps.rest.now) c.in-Steps.value
    (only keys g.W.World.answers) (env_of c.turns.evaluation)
    (meter_of g.W.World c.turns.evaluation) in
    let more = resumed_more (eval c.args.here.room) (around_in g.W.World c.args.here)
    (only keys g.W.World.answers) c.pop.new.self.items c.in-Some-pop.outer
    (turn_run (eval c.args.here.room) (around_in g.W.World c.args.here)
    c.turns.turn (only keys g.W.World.answers) (env_of c.turns.evaluation)
    (meter_of g.W.World c.turns.evaluation)) in
    let ends = resumed_ends (around_in g.W.World c.args.here)
    g.W.World.plain c.args.here.room (only keys g.W.World.answers) c.pop.new.self.items
    c.in_err-turn-in-Some-pop.field-0.0 (env_of c.take_up.new.evaluation)
    (meter_of g.W.World c.take_up.new.evaluation)
    (then (turn_run (eval c.args.here.room) (around_in g.W.World c.args.here) c.turns.turn
    (only keys g.W.World.answers) (env_of c.turns.evaluation)
    (meter_of g.W.World c.turns.evaluation))
    (λ u. resume (eval c.args.here.room) (around_in g.W.World c.args.here) c.in-Some-pop.outer u
    (only keys g.W.World.answers)))
    (chain_run (eval c.args.here.room) (around_in g.W.World c.args.here) c.args.chain
    (only keys g.W.World.answers) (env_of c.args.evaluation.now)
    (meter_of g.W.World c.args.evaluation.now)) in
    let done = c.turns.invariant.gives keys in
    let here = c.take_up.ensures.gives keys in
    grind (arith, end, more, ends, done, here)

pub creating::run_created-returns-in_err-share-clause-gives :
    goal.creating::run_created-returns-in_err-share-clause-gives
creating::run_created-returns-in_err-share-clause-gives g t c = λ keys.
    let leaves = made_leaves (around_in g.W.World c.args.here)
    g.W.World.plain c.args.here.room c.args.place.now c.args.name.now
    (template_seen c.in_ok-template.template.value) (only keys g.W.World.answers)
    (env_of c.args.evaluation.now) (env_of c.structure_named.new.evaluation)
    (meter_of g.W.World c.args.evaluation.now)
    (meter_of g.W.World c.structure_named.new.evaluation) in
    grind (arith, leaves)

pub creating::run_statements-returns-in_err-made-clause-gives :
    goal.creating::run_statements-returns-in_err-made-clause-gives
creating::run_statements-returns-in_err-made-clause-gives g t c = λ keys.
    let stops = statements_stop (around_in g.W.World c.args.here)
    g.W.World.plain c.args.here.room c.in_err-made.field-0.0 c.args.here.around.now.includes_left
    c.args.statements.now c.statements.statement-index c.statement-item.result c.statements.made
    (only keys g.W.World.answers) (env_of c.statements.evaluation)
    (env_of c.run_statement.new.evaluation)
    (meter_of g.W.World c.statements.evaluation)
    (meter_of g.W.World c.run_statement.new.evaluation)
    c.statements-test.true c.statement-item.is in
    grind (arith, stops)

pub creating::run_assignment-returns-in_err-terms-clause-gives :
    goal.creating::run_assignment-returns-in_err-terms-clause-gives
creating::run_assignment-returns-in_err-terms-clause-gives g t c = λ keys.
    let stops = terms_stop (around_in g.W.World c.args.here)
    g.W.World.plain c.args.here.room c.in_err-terms.field-0.0 c.args.assignment.place.now
    c.args.assignment.path.now
    c.args.conditional (item_seen c.args.assignment.item.now) c.args.made
    (only keys g.W.World.answers)
    (env_of c.args.evaluation.now) (env_of c.args.evaluation.now)
    (meter_of g.W.World c.args.evaluation.now) (meter_of g.W.World c.args.evaluation.now) in
    grind (arith, stops)

pub creating::run_assigned-returns-in_err-present-clause-gives :
    goal.creating::run_assigned-returns-in_err-present-clause-gives
creating::run_assigned-returns-in_err-present-clause-gives g t c = λ keys.
    let leaves = assigned_leaves (around_in g.W.World c.args.here)
    g.W.World.plain c.args.here.room c.args.assignment.place.now c.args.assignment.path.now
    c.args.terms.now
    (item_seen c.args.assignment.item.now) c.args.made (only keys g.W.World.answers)
    (env_of c.args.evaluation.now)
    (meter_of g.W.World c.args.evaluation.now) in
    grind (arith, leaves)

pub creating::run_include-returns-in_err-value-clause-gives :
    goal.creating::run_include-returns-in_err-value-clause-gives
creating::run_include-returns-in_err-value-clause-gives g t c = λ keys.
    let stops = include_stops (around_in g.W.World c.args.here)
    g.W.World.plain c.args.here.room c.in_err-value.field-0.0 c.args.here.around.now.includes_left
    c.args.place.now (item_seen c.args.item.now) c.args.made (only keys g.W.World.answers)
    (env_of c.args.evaluation.now) (env_of c.run_inner.new.evaluation)
    (meter_of g.W.World c.args.evaluation.now)
    (meter_of g.W.World c.run_inner.new.evaluation) in
    grind (arith, stops)

pub creating::run_included-returns-in_err-template-clause-gives :
    goal.creating::run_included-returns-in_err-template-clause-gives
creating::run_included-returns-in_err-template-clause-gives g t c = λ keys.
    let stops = included_stops (around_in g.W.World c.args.here)
    g.W.World.plain c.args.here.room c.args.here.around.now.includes_left
    c.in_err-template.field-0.0
    c.args.place.now c.args.name.now c.args.made (only keys g.W.World.answers)
    (env_of c.args.evaluation.now) (env_of c.structure_named.new.evaluation)
    (meter_of g.W.World c.args.evaluation.now)
    (meter_of g.W.World c.structure_named.new.evaluation) in
    grind (arith, stops)

pub items::run_block-returns-in_err-last-clause-gives :
    goal.items::run_block-returns-in_err-last-clause-gives
items::run_block-returns-in_err-last-clause-gives g t c = λ keys.
    let stops = block_stops (around_in g.W.World c.args.here)
    g.W.World.plain c.args.here.room c.in_err-last.field-0.0 c.args.items.now c.items.item-index
    c.item-item.result c.items.last (only keys g.W.World.answers) (env_of c.items.evaluation)
    (env_of c.open_item.new.evaluation) (meter_of g.W.World c.items.evaluation)
    (meter_of g.W.World c.open_item.new.evaluation) c.items-test.true
    c.item-item.is in
    grind (arith, stops)

pub items::open_values-returns-in_err-value-clause-gives :
    goal.items::open_values-returns-in_err-value-clause-gives
items::open_values-returns-in_err-value-clause-gives g t c = λ keys.
    let stops = values_stop (around_in g.W.World c.args.here)
    g.W.World.plain c.args.here.room c.in_err-value.field-0.0 c.args.items.now c.items.item-index
    c.item-item.result c.items.values.items (only keys g.W.World.answers)
    (env_of c.items.evaluation)
    (env_of c.open_item.new.evaluation) (meter_of g.W.World c.items.evaluation)
    (meter_of g.W.World c.open_item.new.evaluation) c.items-test.true
    c.item-item.is in
    grind (arith, stops)

pub items::open_values-returns-in_err-push-clause-gives :
    goal.items::open_values-returns-in_err-push-clause-gives
items::open_values-returns-in_err-push-clause-gives g t c = λ keys.
    let leaves = values_left (around_in g.W.World c.args.here)
    g.W.World.plain c.args.here.room c.args.items.now c.items.item-index c.item-item.result
    c.items.values.items c.in_ok-value.value (only keys g.W.World.answers)
    (env_of c.items.evaluation)
    (env_of c.open_item.new.evaluation) (meter_of g.W.World c.items.evaluation)
    (meter_of g.W.World c.open_item.new.evaluation) c.items-test.true
    c.item-item.is in
    grind (arith, leaves)

pub items::run_set-returns-in_err-keys-clause-gives :
    goal.items::run_set-returns-in_err-keys-clause-gives
items::run_set-returns-in_err-keys-clause-gives g t c = λ keys.
    let stops = keys_stop (around_in g.W.World c.args.here)
    g.W.World.plain c.args.here.room c.in_err-keys.field-0.0 c.args.place.now c.args.name.now
    (items_seen c.args.indexes.now) (item_seen c.args.right.now) (only keys g.W.World.answers)
    (env_of c.args.evaluation.now) (env_of c.open_values.new.evaluation)
    (meter_of g.W.World c.args.evaluation.now)
    (meter_of g.W.World c.open_values.new.evaluation) in
    grind (arith, stops)

pub items::run_set-returns-in_err-value-clause-gives :
    goal.items::run_set-returns-in_err-value-clause-gives
items::run_set-returns-in_err-value-clause-gives g t c = λ keys.
    let stops = right_stops (around_in g.W.World c.args.here)
    g.W.World.plain c.args.here.room c.in_err-value.field-0.0 c.args.place.now c.args.name.now
    (items_seen c.args.indexes.now) (item_seen c.args.right.now) c.in_ok-keys.keys.items
    (only keys g.W.World.answers) (env_of c.args.evaluation.now)
    (env_of c.open_values.new.evaluation)
    (env_of c.open_item.new.evaluation) (meter_of g.W.World c.args.evaluation.now)
    (meter_of g.W.World c.open_item.new.evaluation)
    (meter_of g.W.World c.open_values.new.evaluation) in
    grind (arith, stops)

pub items::run_whole-returns-in_err-value-clause-gives :
    goal.items::run_whole-returns-in_err-value-clause-gives
items::run_whole-returns-in_err-value-clause-gives g t c = λ keys.
    let stops = whole_stops (around_in g.W.World c.args.here)
    g.W.World.plain c.args.here.room c.in_err-value.field-0.0 c.args.place.now c.args.name.now
    (item_seen c.args.right.now) (only keys g.W.World.answers) (env_of c.args.evaluation.now)
    (env_of c.open_item.new.evaluation) (meter_of g.W.World c.args.evaluation.now)
    (meter_of g.W.World c.open_item.new.evaluation) in
    grind (arith, stops)

pub pairs::run_pair-returns-in_err-left-clause-gives : goal.pairs::run_pair-returns-in_err-left-clause-gives
pairs::run_pair-returns-in_err-left-clause-gives g t c = λ keys.
    let stops = pair_stops_left (around_in g.W.World c.args.here)
    g.W.World.plain c.args.here.room c.in_err-left.field-0.0 c.args.pair.place.now c.args.pair.op
    (node_seen c.args.pair.left.now) (node_seen c.args.pair.right.now)
    (only keys g.W.World.answers)
    (env_of c.args.evaluation.now) (env_of c.run_operand.new.evaluation)
    (meter_of g.W.World c.args.evaluation.now)
    (meter_of g.W.World c.run_operand.new.evaluation) in
    grind (arith, stops)

pub pairs::run_pair-returns-in_err-right-clause-gives : goal.pairs::run_pair-returns-in_err-right-clause-gives
pairs::run_pair-returns-in_err-right-clause-gives g t c = λ keys.
    let stops = pair_stops_right (around_in g.W.World c.args.here)
    g.W.World.plain c.args.here.room c.in_err-right.field-0.0 c.args.pair.place.now c.args.pair.op
    (node_seen c.args.pair.left.now) (node_seen c.args.pair.right.now) c.in_ok-left.left
    (only keys g.W.World.answers)
    (env_of c.args.evaluation.now) (env_of c.run_operand.new.evaluation)
    (env_of c.run_operand-2.new.evaluation)
    (meter_of g.W.World c.args.evaluation.now)
    (meter_of g.W.World c.run_operand-2.new.evaluation)
    (meter_of g.W.World c.run_operand.new.evaluation) in
    grind (arith, stops)

pub pairs::run_element-returns-in_err-container-clause-gives : goal.pairs::run_element-returns-in_err-container-clause-gives
pairs::run_element-returns-in_err-container-clause-gives g t c = λ keys.
    let stops = container_stops (around_in g.W.World c.args.here)
    g.W.World.plain c.args.here.room c.in_err-container.field-0.0 c.args.element.place.now
    (node_seen c.args.element.container.now) (item_seen c.args.element.index.now)
    (only keys g.W.World.answers)
    (env_of c.args.evaluation.now) (env_of c.run_operand.new.evaluation)
    (meter_of g.W.World c.args.evaluation.now)
    (meter_of g.W.World c.run_operand.new.evaluation) in
    grind (arith, stops)

pub pairs::run_element-returns-in_err-index-clause-gives : goal.pairs::run_element-returns-in_err-index-clause-gives
pairs::run_element-returns-in_err-index-clause-gives g t c = λ keys.
    let stops = element_stops (around_in g.W.World c.args.here)
    g.W.World.plain c.args.here.room c.in_err-index.field-0.0 c.args.element.place.now
    (node_seen c.args.element.container.now) (item_seen c.args.element.index.now)
    c.in_ok-container.container (only keys g.W.World.answers)
    (env_of c.args.evaluation.now) (env_of c.run_operand.new.evaluation)
    (env_of c.open_item.new.evaluation)
    (meter_of g.W.World c.args.evaluation.now)
    (meter_of g.W.World c.open_item.new.evaluation)
    (meter_of g.W.World c.run_operand.new.evaluation) in
    grind (arith, stops)

pub items::run_at-returns-in_err-key-clause-gives : goal.items::run_at-returns-in_err-key-clause-gives
items::run_at-returns-in_err-key-clause-gives g t c = λ keys.
    let stops = place_stops (around_in g.W.World c.args.here)
    g.W.World.plain c.args.here.room c.in_err-key.field-0.0 c.args.place.now c.args.name.now
    (item_seen c.args.index.now) (item_seen c.args.right.now) (only keys g.W.World.answers)
    (env_of c.args.evaluation.now) (env_of c.open_item.new.evaluation)
    (meter_of g.W.World c.args.evaluation.now)
    (meter_of g.W.World c.open_item.new.evaluation) in
    grind (arith, stops)

pub items::run_at-returns-in_err-value-clause-gives :
    goal.items::run_at-returns-in_err-value-clause-gives
items::run_at-returns-in_err-value-clause-gives g t c = λ keys.
    let stops = set_stops (around_in g.W.World c.args.here)
    g.W.World.plain c.args.here.room c.in_err-value.field-0.0 c.args.place.now c.args.name.now
    (item_seen c.args.index.now) (item_seen c.args.right.now) c.in_ok-key.key
    (only keys g.W.World.answers) (env_of c.args.evaluation.now)
    (env_of c.open_item.new.evaluation)
    (env_of c.open_item-2.new.evaluation) (meter_of g.W.World c.args.evaluation.now)
    (meter_of g.W.World c.open_item-2.new.evaluation)
    (meter_of g.W.World c.open_item.new.evaluation) in
    grind (arith, stops)

pub loops::turn_for-returns-in_err-turned-clause-gives :
    goal.loops::turn_for-returns-in_err-turned-clause-gives
loops::turn_for-returns-in_err-turned-clause-gives g t c = λ keys.
    let stops = turn_stops (around_in g.W.World c.args.here)
    g.W.World.plain c.args.here.room c.in_err-turned.field-0.0 c.args.left c.args.looped.place.now
    (item_seen c.args.looped.condition.now) (item_seen c.args.step.now)
    (item_seen c.args.looped.body.now)
    (only keys g.W.World.answers) (env_of c.args.evaluation.now)
    (env_of c.turn_while.new.evaluation)
    (meter_of g.W.World c.args.evaluation.now)
    (meter_of g.W.World c.turn_while.new.evaluation) in
    grind (arith, stops)

pub loops::turns_for-returns-in_err-value-clause-gives :
    goal.loops::turns_for-returns-in_err-value-clause-gives
loops::turns_for-returns-in_err-value-clause-gives g t c = λ keys.
    let stops = for_stops (around_in g.W.World c.args.here)
    g.W.World.plain c.args.here.room c.turns.left c.in_err-value.field-0.0 c.args.looped.place.now
    (item_seen c.args.looped.condition.now) (item_seen c.args.step.now)
    (item_seen c.args.looped.body.now)
    c.turns.last (only keys g.W.World.answers) (env_of c.turns.evaluation)
    (env_of c.turn_for.new.evaluation)
    (meter_of g.W.World c.turns.evaluation)
    (meter_of g.W.World c.turn_for.new.evaluation) in
    grind (arith, stops)

pub loops::turn_pair-returns-in_err-set_pair-clause-gives :
    goal.loops::turn_pair-returns-in_err-set_pair-clause-gives
loops::turn_pair-returns-in_err-set_pair-clause-gives g t c = λ keys.
    let stops = pair_stops (around_in g.W.World c.args.here)
    g.W.World.plain c.args.here.room (c.args.here.around.now.frame.now.max_iteration - c.args.i)
    c.in_err-set_pair.field-0.0 c.args.looped.place.now c.args.looped.key.now
    c.args.looped.value.now
    (item_seen c.args.looped.body.now) (pair_at c.args.i c.args.walked.now)
    (only keys g.W.World.answers) (env_of c.args.evaluation.now) (env_of c.set_pair.new.evaluation)
    (meter_of g.W.World c.args.evaluation.now)
    (meter_of g.W.World c.set_pair.new.evaluation) in
    grind (arith, stops)

pub loops::turn_while-returns-in_err-holds-clause-gives :
    goal.loops::turn_while-returns-in_err-holds-clause-gives
loops::turn_while-returns-in_err-holds-clause-gives g t c = λ keys.
    let stops = condition_stops (around_in g.W.World c.args.here)
    g.W.World.plain c.args.here.room c.in_err-holds.field-0.0 c.args.left c.args.looped.place.now
    (item_seen c.args.looped.condition.now) (item_seen c.args.looped.body.now)
    (only keys g.W.World.answers)
    (env_of c.args.evaluation.now) (env_of c.holds.new.evaluation)
    (meter_of g.W.World c.args.evaluation.now) (meter_of g.W.World c.holds.new.evaluation) in
    grind (arith, stops)

pub loops::run_while-returns-in_err-value-clause-gives :
    goal.loops::run_while-returns-in_err-value-clause-gives
loops::run_while-returns-in_err-value-clause-gives g t c = λ keys.
    let stops = while_stops (around_in g.W.World c.args.here)
    g.W.World.plain c.args.here.room c.turns.left c.in_err-value.field-0.0 c.args.looped.place.now
    (item_seen c.args.looped.condition.now) (item_seen c.args.looped.body.now) c.turns.last
    (only keys g.W.World.answers) (env_of c.turns.evaluation) (env_of c.turn_while.new.evaluation)
    (meter_of g.W.World c.turns.evaluation)
    (meter_of g.W.World c.turn_while.new.evaluation) in
    grind (arith, stops)

pub nodes::open_sign-returns-in_err-value-clause-gives :
    goal.nodes::open_sign-returns-in_err-value-clause-gives
nodes::open_sign-returns-in_err-value-clause-gives g t c = λ keys.
    let stops = sign_stops (around_in g.W.World c.args.here)
    g.W.World.plain c.args.here.room c.in_err-value.field-0.0 c.args.place.now c.args.op
    (node_seen c.args.operand.now) (only keys g.W.World.answers) (env_of c.args.evaluation.now)
    (env_of c.run_node.new.evaluation) (meter_of g.W.World c.args.evaluation.now)
    (meter_of g.W.World c.run_node.new.evaluation) in
    grind (arith, stops)

pub references::value_or_nothing-returns-in_err-argument-clause-gives :
    goal.references::value_or_nothing-returns-in_err-argument-clause-gives
references::value_or_nothing-returns-in_err-argument-clause-gives g t c = λ keys.
    let leaves = value_leaves (around_in g.W.World c.args.here)
    g.W.World.plain c.args.here.room (item_seen c.args.item.now)
    (reference_in (item_seen c.args.item.now)) (only keys g.W.World.answers)
    (env_of c.args.evaluation.now) (meter_of g.W.World c.args.evaluation.now) in
    grind (arith, leaves)

pub references::open_reference-returns-in_err-take_step-clause-gives :
    goal.references::open_reference-returns-in_err-take_step-clause-gives
references::open_reference-returns-in_err-take_step-clause-gives g t c = λ keys.
    let stops = reference_stops (around_in g.W.World c.args.here)
    g.W.World.plain c.args.here.room c.in_err-take_step.field-0.0 (purpose_of c.args.purpose.now)
    c.args.place.now (argument_of c.args.argument) (only keys g.W.World.answers)
    (env_of c.args.evaluation.now) (env_of c.take_step.new.evaluation)
    (meter_of g.W.World c.args.evaluation.now)
    (meter_of g.W.World c.take_step.new.evaluation) in
    grind (arith, stops)

pub references::open_reference-returns-in_err-value-clause-gives :
    goal.references::open_reference-returns-in_err-value-clause-gives
references::open_reference-returns-in_err-value-clause-gives g t c = λ keys.
    let stops = start_stops (around_in g.W.World c.args.here)
    g.W.World.plain c.args.here.room c.in_err-value.field-0.0 (purpose_of c.args.purpose.now)
    c.args.place.now c.args.argument.place.now c.args.argument.name.now
    (indexes_back c.args.argument.indexes.items none) (only keys g.W.World.answers)
    (env_of c.args.evaluation.now) (env_of c.take_step.new.evaluation)
    (env_of c.start_reference.new.evaluation)
    (meter_of g.W.World c.args.evaluation.now)
    (meter_of g.W.World c.start_reference.new.evaluation)
    (meter_of g.W.World c.take_step.new.evaluation) in
    grind (arith, stops)

pub references::open_reference-returns-clause-gives :
    goal.references::open_reference-returns-clause-gives
references::open_reference-returns-clause-gives g t c = λ keys.
    let goes = reference_goes (around_in g.W.World c.args.here)
    g.W.World.plain c.args.here.room (purpose_of c.args.purpose.now) c.args.place.now
    c.args.argument.place.now c.args.argument.name.now
    (indexes_back c.args.argument.indexes.items none) c.in_ok-value.value
    (only keys g.W.World.answers) (env_of c.args.evaluation.now) (env_of c.take_step.new.evaluation)
    (env_of c.start_reference.new.evaluation) (meter_of g.W.World c.args.evaluation.now)
    (meter_of g.W.World c.start_reference.new.evaluation)
    (meter_of g.W.World c.take_step.new.evaluation) in
    grind (arith, goes)

pub references::reach_from-returns-in_err-key-clause-gives :
    goal.references::reach_from-returns-in_err-key-clause-gives
references::reach_from-returns-in_err-key-clause-gives g t c = λ keys.
    let stops = index_stops (around_in g.W.World c.args.here)
    g.W.World.plain c.args.here.room c.in_err-key.field-0.0 c.args.all c.args.place.now
    c.indexes.indexes.items c.pop.new.self.items c.in-Some.index c.indexes.keys.items
    c.indexes.value (only keys g.W.World.answers) (env_of c.indexes.evaluation)
    (env_of c.open_item.new.evaluation) (meter_of g.W.World c.indexes.evaluation)
    (meter_of g.W.World c.open_item.new.evaluation) in
    grind (arith, stops)

pub built_in::run_test-returns-clause-gives : goal.built_in::run_test-returns-clause-gives
built_in::run_test-returns-clause-gives g t c = λ keys. let here = c.test_item.ensures.gives keys in
    grind (arith, tests, here)

pub built_in::run_extend-returns-clause-gives : goal.built_in::run_extend-returns-clause-gives
built_in::run_extend-returns-clause-gives g t c = λ keys. let here =
    c.run_change.ensures.gives keys in grind (arith, extends, item_place_seen, here)

pub built_in::run_extend-returns-in_default-2-clause-gives :
    goal.built_in::run_extend-returns-in_default-2-clause-gives
built_in::run_extend-returns-in_default-2-clause-gives g t c = λ keys. let here =
    c.run_copy.ensures.gives keys in grind (arith, extends, item_place_seen, here)

pub built_in::run_extend-returns-then-not-is_changed-clause-gives :
    goal.built_in::run_extend-returns-then-not-is_changed-clause-gives
built_in::run_extend-returns-then-not-is_changed-clause-gives g t c = λ keys. let here =
    c.run_copy-then-not-is_changed.ensures.gives keys in
    grind (arith, extends, item_place_seen, here)

pub calls::run_function-run_called-end-requires : goal.calls::run_function-run_called-end-requires
calls::run_function-run_called-end-requires g t c =
    let opened = (c.open_call.ensures (λ k. true)).1 (none_beyond _) in
    let some : 0 < c.args.here.around.now.calls_left = grind (arith, opened) in
    search (rules, some)

pub creating::run_statement-returns-in-Assign-clause-gives :
    goal.creating::run_statement-returns-in-Assign-clause-gives
creating::run_statement-returns-in-Assign-clause-gives g t c = λ keys.
    let step = c.take_step.ensures.gives keys in
    let here = c.run_assignment.ensures.gives keys in
    grind (arith, statements, step, here)

pub references::reach_from-returns-in_err-value-clause-gives :
    goal.references::reach_from-returns-in_err-value-clause-gives
references::reach_from-returns-in_err-value-clause-gives g t c = λ keys.
    let done = c.indexes.invariant.gives keys in
    let key = c.open_item.ensures.gives keys in
    let here = c.reach_index.ensures.gives keys in
    grind (arith, reaches, leaving, done, key, here)

pub chains::take_up-returns-clause-gives : goal.chains::take_up-returns-clause-gives
chains::take_up-returns-clause-gives g t c = λ keys. let here =
    c.apply_boolean.ensures.gives keys in grind (arith, here)

pub loops::run_while-returns-clause-gives : goal.loops::run_while-returns-clause-gives
loops::run_while-returns-clause-gives g t c = λ keys.
    let done = c.turns.invariant.gives keys in
    let turned = c.turn_while.ensures.gives keys in
    let over = while_over c.turns.left (eval c.args.here.room) (around_in g.W.World c.args.here)
    c.args.looped.place.now (item_seen c.args.looped.condition.now)
    (item_seen c.args.looped.body.now) c.turns.last (only keys g.W.World.answers)
    (env_of c.turns.evaluation) (env_of c.turn_while.new.evaluation)
    (meter_of g.W.World c.turns.evaluation) (meter_of g.W.World c.turn_while.new.evaluation) in
    grind (arith, done, turned, over)

pub loops::turns_for-returns-clause-gives : goal.loops::turns_for-returns-clause-gives
loops::turns_for-returns-clause-gives g t c = λ keys.
    let done = c.turns.invariant.gives keys in
    let turned = c.turn_for.ensures.gives keys in
    let over = for_over c.turns.left (eval c.args.here.room) (around_in g.W.World c.args.here)
    c.args.looped.place.now (item_seen c.args.looped.condition.now) (item_seen c.args.step.now)
    (item_seen c.args.looped.body.now) c.turns.last (only keys g.W.World.answers)
    (env_of c.turns.evaluation) (env_of c.turn_for.new.evaluation)
    (meter_of g.W.World c.turns.evaluation) (meter_of g.W.World c.turn_for.new.evaluation) in
    grind (arith, done, turned, over)

pub references::reach_from-returns-in_err-push-clause-gives :
    goal.references::reach_from-returns-in_err-push-clause-gives
references::reach_from-returns-in_err-push-clause-gives g t c = λ keys.
    let done = c.indexes.invariant.gives keys in
    let key = c.open_item.ensures.gives keys in
    let here = c.reach_index.ensures.gives keys in
    grind (arith, reaches, leaving, done, key, here)

pub nodes::run_operand-unreachable-requires : goal.nodes::run_operand-unreachable-requires
nodes::run_operand-unreachable-requires g t c = no_operand c.args.node.now c.in-Spine.field-0
    c.in-Spine.field-1 c.in-Spine.field-2 c.in-Spine.is c.requires.operand

pub nodes::run_spine-returns-in-Some-clause-gives : goal.nodes::run_spine-returns-in-Some-clause-gives
nodes::run_spine-returns-in-Some-clause-gives g t c =
    let same = c.in-Some.ensures.0 (eval c.args.here.room) (around_in g.W.World c.args.here) in
    subst (λ run. Evaluates (λ t. t) c.run_pair.result g.W.World c.args.evaluation.now
    c.run_pair.new.evaluation run) (sym same) c.run_pair.ensures.gives

pub nodes::run_spine-returns-in-Some-element_of-clause-gives :
    goal.nodes::run_spine-returns-in-Some-element_of-clause-gives
nodes::run_spine-returns-in-Some-element_of-clause-gives g t c =
    let same = c.in-Some-element_of.ensures.0 (eval c.args.here.room)
    (around_in g.W.World c.args.here) in
    subst (λ run. Evaluates (λ t. t) c.run_element.result g.W.World c.args.evaluation.now
    c.run_element.new.evaluation run) (sym same) c.run_element.ensures.gives
