use Rattle.std.proofs.Common.{◌≡◌, ◌||◌, true, map, drop}
use Rattle.std.specs.Prelude.{bytes_eq}
use Rattle.std.specs.List.{list_any}
use Rattle.object_names.specs.Objects.{are_rising}
use Rattle.engine_laws.specs.Names.{Name}
use Rattle.engine_turns.specs.Places.{column, names}
use Rattle.rebuild.specs.Reaching.{calmless}
use Rattle.rebuild.proofs.reaching.touch.Given as goal

-- with those to come all are touched
abbrev pub invariant-loop-name : goal.invariant-loop-name
invariant-loop-name g l = record {
  rising : are_rising (names l.rows.items) ≡ true;
  same : map calmless l.rows.items ≡ map calmless l.fn.rows.items;
  flags : (q : Name) → column (λ r. r.touched) true l.rows.items q
      || list_any (bytes_eq q) (drop l.name-index l.reached)
      ≡ column (λ r. r.touched) true l.fn.rows.items q || list_any (bytes_eq q) l.reached;
}
