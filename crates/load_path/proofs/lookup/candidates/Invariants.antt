use Rattle.std.proofs.Common.{◌≡◌, drop}
use Rattle.std.specs.Prelude.{fold, map, flat_map}
use Rattle.load_path.specs.Candidates.{candidate, with_name, candidates}
use Rattle.load_path.proofs.lookup.candidates.Given as goal

abbrev pub invariant-loop-prefix : goal.invariant-loop-prefix
invariant-loop-prefix l =
    fold with_name l.names.items (flat_map (λ p. map (candidate l.name l.suffix p) l.dirs)
    (drop l.prefix-index l.load)) ≡ candidates l.name l.suffix l.load l.dirs
