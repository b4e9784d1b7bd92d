use Rattle.std.proofs.Common.{◌≡◌, ◌||◌, ◌∙◌, ◌+◌, ◌<◌, bytes_eq, cond, drop, length, sym, ap, true, arith, rules}
use Rattle.std.specs.HashSet.{contains}
use Rattle.type_defs.specs.Resolved.{fields_of}
use Rattle.type_defs.specs.ResolvedSeen.{field_seen}
use Rattle.type_defs.specs.Tables.{all_seen}
use Rattle.type_defs.proofs.Shapes.{seen_field}
use Rattle.validate.specs.Check.{has_key}
use Rattle.validate.proofs.Walking.{has_more, keys_step}
use Rattle.validate.proofs.extra.set_of.Goals as goal

pub loop-field-preserved : goal.loop-field-preserved
loop-field-preserved c k =
    let key = (field_seen c.field-item.result).key in
    let held = contains bytes_eq c.loop-field.keys k in
    let rest = has_key k (fields_of
    (all_seen (drop (c.loop-field.field-index + 1) c.args.fields.now))) in
    let same : c.in_ok-share.field-0 ≡ key = search (rules, seen_field) in
    let within : c.loop-field.field-index < length c.args.fields.now =
    omega (arith, c.loop-field-test.true) in
    let grown : contains bytes_eq c.insert.new.self k ≡ cond (bytes_eq key k) true held =
    c.in_ok-insert.ensures.updates.0 k ∙ ap (λ b. cond (bytes_eq b k) true held) same in
    ap (λ b. b || rest) grown ∙ keys_step (bytes_eq key k) held rest
    ∙ ap (λ b. held || b) (sym (has_more k c.args.fields.now c.loop-field.field-index
    c.field-item.result within c.field-item.is)) ∙ c.loop-field.invariant k
