-- Types without defaults and without parts, of which a value is visited and nothing else.
use Rattle.std.specs.Prelude.{ℕ, zero, suc, List, Option, Some, None, option_map}
use Rattle.path_tree.specs.Plain.{Plain}
use Rattle.path_tree.specs.Find.{child}
use Rattle.path_tree.specs.declared.path.Term.TheVariants as term
use Rattle.pan_ast.specs.declared.place.Place.{Place}
use Rattle.questions.specs.Run.{◌>>=◌}
use Rattle.type_defs.specs.Resolved.{Resolved, Known, Shape, OfBase, Named, Ranged, ListOf, DictOf, Link, Record, Choice}
use Rattle.defaults.specs.Filled.{Fill, leave, visit}

abbrev mutual
  -- how many visits a value takes whose type has no default and no type of parts in it
  pub bare_visits : Resolved → Option ℕ
  bare_visits (Known s c template None) = option_map suc (bare_inside s)
  bare_visits (Known s c template (Some d)) = None

  pub bare_inside : Shape → Option ℕ
  bare_inside (OfBase b) = Some 0
  bare_inside (Named t) = bare_visits t
  bare_inside (Ranged t r) = bare_visits t
  bare_inside (ListOf t r) = None
  bare_inside (DictOf t r) = None
  bare_inside (Link t) = Some 0
  bare_inside (Record x fs) = None
  bare_inside (Choice texts) = Some 0

-- so many visits
unfoldable pub visited_times : Place → ℕ → Fill
visited_times p zero = leave
visited_times p (suc n) = visit p >>= (λ _. visited_times p n)

-- so many for each of so many values
unfoldable pub each_visited : Place → ℕ → ℕ → Fill
each_visited p n zero = leave
each_visited p n (suc count) = visited_times p n >>= (λ _. each_visited p n count)

-- those of a value that may be there
abbrev pub visits_for : Option ℕ → Option Plain → Option ℕ
visits_for None c = None
visits_for (Some n) None = Some 0
visits_for (Some n) (Some v) = Some n

-- those of the value of a key, in a value that may be known
abbrev pub visits_at : List ℕ → Resolved → Option Plain → Option ℕ
visits_at k t None = None
visits_at k t (Some v) = visits_for (bare_visits t) (child (term.Key k) v)
