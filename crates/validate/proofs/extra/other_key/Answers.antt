use Rattle.std.proofs.Common.{◌≡◌, ◌<◌, ◌∙◌, sym, option_copied, arith}
use Rattle.path_tree.specs.Find.{child_count, key_at}
use Rattle.type_defs.specs.Resolved.{fields_of}
use Rattle.type_defs.specs.Tables.{all_seen}
use Rattle.validate.specs.Walks.{extra_key}
use Rattle.validate.proofs.Walking.{copied_some, other_found, other_on}
use Rattle.validate.proofs.extra.other_key.Goals as goal

pub returns-then-is_some : goal.returns-then-is_some
returns-then-is_some c =
    let fs = fields_of (all_seen c.args.fields.now) in
    let within : c.loop-i.i < child_count c.args.value.now =
    omega (arith, c.loop-i-test.true, c.len-i-end.ensures) in
    let here : option_copied c.extra_key-extra.result ≡ extra_key fs
    (key_at c.loop-i.i c.args.value.now) = c.extra_key-extra.ensures fs c.loop-i.invariant.keys in
    other_found fs c.loop-i.i c.args.value.now (option_copied c.extra_key-extra.result) c.requires within
    here (copied_some c.extra_key-extra.result ∙ sym c.is_some.ensures ∙ c.if-is_some.true)
    ∙ c.loop-i.invariant.other

pub loop-i-preserved : goal.loop-i-preserved
loop-i-preserved c =
    let fs = fields_of (all_seen c.args.fields.now) in
    let within : c.loop-i.i < child_count c.args.value.now =
    omega (arith, c.loop-i-test.true, c.len-i-end.ensures) in
    let here : option_copied c.extra_key-extra.result ≡ extra_key fs
    (key_at c.loop-i.i c.args.value.now) = c.extra_key-extra.ensures fs c.loop-i.invariant.keys in
    record {
      keys = c.loop-i.invariant.keys;
      other = other_on fs c.loop-i.i c.args.value.now (option_copied c.extra_key-extra.result) c.requires
          within here (copied_some c.extra_key-extra.result ∙ sym c.is_some.ensures ∙ c.if-is_some.false)
          ∙ c.loop-i.invariant.other;
    }
