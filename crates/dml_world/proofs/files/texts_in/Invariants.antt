use Rattle.std.proofs.Common.{◌≡◌, ◌-◌, ◌++◌, true, Some}
use Rattle.path_tree.specs.Find.{child_count}
use Rattle.dml_meaning.specs.Lookups.{load_path}
use Rattle.dml_meaning.specs.Values.{is_list}
use Rattle.dml_world.proofs.Looking.{texts_from}
use Rattle.dml_world.proofs.files.texts_in.Given as goal

abbrev pub invariant-items : goal.invariant-items
invariant-items l = record {
  made : l.texts.items ++ texts_from l.i l.list ≡ load_path (Some l.list);
  listed : is_list l.list ≡ true;
}

abbrev pub decreases-items : goal.decreases-items
decreases-items l = child_count l.list - l.i
