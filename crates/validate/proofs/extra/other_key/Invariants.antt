use Rattle.std.proofs.Common.{◌≡◌}
use Rattle.type_defs.specs.Tables.{all_seen}
use Rattle.type_defs.specs.Resolved.{fields_of}
use Rattle.validate.specs.Check.{other_key}
use Rattle.validate.specs.Keys.{HasKeys}
use Rattle.path_tree.specs.Children.{child_fields, fields_from}
use Rattle.validate.proofs.extra.other_key.Given as goal

abbrev pub invariant-loop-i : goal.invariant-loop-i
invariant-loop-i l = record {
  keys : HasKeys l.keys (fields_of (all_seen l.fields));
  other : other_key (fields_of (all_seen l.fields)) (fields_from l.i l.value)
      ≡ other_key (fields_of (all_seen l.fields)) (child_fields l.value);
}
