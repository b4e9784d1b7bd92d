use Rattle.std.proofs.Common.{◌≡◌, drop}
use Rattle.std.specs.Prelude.{fold, map}
use Rattle.load_path.specs.Candidates.{candidate, with_name}
use Rattle.load_path.proofs.lookup.add_below.Given as goal

abbrev pub invariant-loop-dir : goal.invariant-loop-dir
invariant-loop-dir l = fold with_name l.names.items
    (map (candidate l.name l.suffix l.prefix) (drop l.dir-index l.dirs))
    ≡ fold with_name l.fn.names.items (map (candidate l.name l.suffix l.prefix) l.dirs)
