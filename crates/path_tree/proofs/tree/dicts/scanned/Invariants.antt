use Rattle.std.proofs.Common.{◌≡◌, drop}
use Rattle.path_tree.specs.Find.{find_field}
use Rattle.path_tree.specs.View.{fields_of}
use Rattle.path_tree.proofs.tree.dicts.scanned.Given as goal

abbrev pub invariant-entries : goal.invariant-entries
invariant-entries l = find_field l.key (fields_of (drop l.entry-index l.entries))
    ≡ find_field l.key (fields_of l.entries)
