use Rattle.std.proofs.Common.{◌≡◌, ◌+◌, ◌∷◌, [], sym, ◌∙◌, arith}
use Rattle.json.specs.Token.{Token}
use Rattle.json.specs.Tree.{json_tokens}
use Rattle.path_tree.specs.Find.{child_count}
use Rattle.json_profile.specs.Json.{json}
use Rattle.json_profile.specs.Children.{fields_tokens, children_tokens}
use Rattle.path_tree.proofs.Children.{dict_key, dict_child, list_child}
use Rattle.json_profile.proofs.Written.{dict_tokens, list_tokens, part_written, field_written, field_tokens, item_tokens, dict_closed, list_closed}
use Rattle.json_profile.proofs.writing.+writing.Goals as goal

pub write_field-unreachable-requires : goal.write_field-unreachable-requires
write_field-unreachable-requires t c =
    dict_key c.args.tree.now c.args.i c.requires.dict c.requires.within
    (sym c.in_default.ensures.value)

pub write_field-unreachable-requires-in_default-child_at : goal.write_field-unreachable-requires-in_default-child_at
write_field-unreachable-requires-in_default-child_at t c =
    dict_child c.args.tree.now c.args.i c.requires.dict c.requires.within
    (sym c.in_default-child_at.ensures.value)

pub write_item-unreachable-requires : goal.write_item-unreachable-requires
write_item-unreachable-requires t c =
    list_child c.args.tree.now c.args.i c.requires.list c.requires.within
    (sym c.in_default.ensures.value)

pub write_dict-loop-i-init : goal.write_dict-loop-i-init
write_dict-loop-i-init t c = (
  part_written c.args.out.now.tokens c.begin_object.new.self.tokens (Token.begin_object ∷ [])
      (fields_tokens 0 c.args.tree.now) (json_tokens (json c.args.tree.now))
      c.in_ok-begin_object.ensures.ok (dict_tokens c.args.tree.now c.requires),
  c.begin_object.ensures.room.0,
)

pub write_list-loop-i-init : goal.write_list-loop-i-init
write_list-loop-i-init t c = (
  part_written c.args.out.now.tokens c.begin_array.new.self.tokens (Token.begin_array ∷ [])
      (children_tokens 0 c.args.tree.now) (json_tokens (json c.args.tree.now))
      c.in_ok-begin_array.ensures.ok (list_tokens c.args.tree.now c.requires),
  c.begin_array.ensures.room.0,
)

pub write_dict-returns-clause-ok : goal.write_dict-returns-clause-ok
write_dict-returns-clause-ok t c =
    let n : c.loop-i.i ≡ child_count c.args.tree.now =
    omega (arith, c.loop-i-test.false, c.loop-i.auto.i-end, c.len-i-end.ensures) in
    dict_closed c.args.tree.now c.loop-i.i c.loop-i.out.tokens c.end_object.new.self.tokens
    c.requires n c.in_ok-end_object.ensures.ok ∙ c.loop-i.invariant.0

pub write_list-returns-clause-ok : goal.write_list-returns-clause-ok
write_list-returns-clause-ok t c =
    let n : c.loop-i.i ≡ child_count c.args.tree.now =
    omega (arith, c.loop-i-test.false, c.loop-i.auto.i-end, c.len-i-end.ensures) in
    list_closed c.args.tree.now c.loop-i.i c.loop-i.out.tokens c.end_array.new.self.tokens
    c.requires n c.in_ok-end_array.ensures.ok ∙ c.loop-i.invariant.0

pub write_field-returns-clause-ok : goal.write_field-returns-clause-ok
write_field-returns-clause-ok t c =
    field_written c.args.out.now.tokens c.key.new.self.tokens c.write.new.out.tokens
    (json_tokens (json c.in-Some-child_at.child.now))
    (fields_tokens (c.args.i + 1) c.args.tree.now) (fields_tokens c.args.i c.args.tree.now)
    (Token.key c.in-Some.key.now)
    c.in_ok-key.ensures.ok c.in_ok-write.ensures.ok
    (field_tokens c.args.tree.now c.in-Some-child_at.child.now c.args.i c.in-Some.key.now
    c.requires.dict (sym c.in-Some.ensures.value) (sym c.in-Some-child_at.ensures.value))

pub write_item-returns-clause-ok : goal.write_item-returns-clause-ok
write_item-returns-clause-ok t c =
    part_written c.args.out.now.tokens c.write.new.out.tokens
    (json_tokens (json c.in-Some.child.now)) (children_tokens (c.args.i + 1) c.args.tree.now)
    (children_tokens c.args.i c.args.tree.now)
    c.in_ok-write.ensures.ok (item_tokens c.args.tree.now c.in-Some.child.now c.args.i
    c.requires.list (sym c.in-Some.ensures.value))
