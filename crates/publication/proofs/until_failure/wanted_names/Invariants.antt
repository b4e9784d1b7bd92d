use Rattle.std.proofs.Common.{◌≡◌, ℕ, List, drop, is_some, ◌||◌}
use Rattle.std.specs.Prelude.{bytes_eq}
use Rattle.std.specs.HashSet.{contains}
use Rattle.publication.specs.Wants.{wanted}
use Rattle.publication.proofs.until_failure.wanted_names.Given as goal

abbrev pub invariant-loop-want : goal.invariant-loop-want
invariant-loop-want l = (n : List ℕ) → (contains bytes_eq l.names n
    || is_some (wanted (drop l.want-index l.wants) n)) ≡ is_some (wanted l.wants n)
