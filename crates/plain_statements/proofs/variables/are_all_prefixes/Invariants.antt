use Rattle.std.proofs.Common.{◌≡◌, ◌-◌, ◌≤◌, drop}
use Rattle.std.specs.List.{list_all}
use Rattle.path_tree.specs.Find.{child_count}
use Rattle.template_meaning.specs.Statements.{is_prefix, list_items}
use Rattle.plain_statements.proofs.variables.are_all_prefixes.Given as goal

abbrev pub invariant-items : goal.invariant-items
invariant-items l = record {
  all : list_all is_prefix (drop l.i (list_items l.list)) ≡ list_all is_prefix (list_items l.list);
  within : l.i ≤ child_count l.list;
}

abbrev pub decreases-items : goal.decreases-items
decreases-items l = child_count l.list - l.i
