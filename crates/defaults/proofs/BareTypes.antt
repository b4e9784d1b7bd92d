-- What a type without defaults and without parts asks of a value: so many visits.
use Rattle.std.proofs.Common.{◌≡◌, ◌∙◌, ap, sym, refl, ℕ, zero, suc, ◌+◌, ◌-◌, ◌<◌, ◌≤◌, nat_eq, Bool, true, false, List, [], ◌∷◌, ◌++◌, Option, Some, None, option_and_then, arith}
use Rattle.std.specs.Prelude.{option_map}
use Rattle.path_tree.specs.Plain.{Plain, dict, list, text, long, boolean, undef, null, Items, no_items, item}
use Rattle.path_tree.specs.Children.{child_items}
use Rattle.path_tree.specs.Find.{child, get, item_at, item_count}
use Rattle.path_tree.specs.declared.path.Term.{Term}
use Rattle.path_tree.specs.declared.path.Term.TheVariants as term
use Rattle.path_tree.proofs.Growing.{get_push}
use Rattle.pan_ast.specs.declared.place.Place.{Place}
use Rattle.questions.specs.Contents.{Answers}
use Rattle.questions.specs.Run.{Meter, Outcome, Done, then, stepped}
use Rattle.questions.proofs.Runs.{Leaves}
use Rattle.dml_meaning.proofs.Leaving.{then_leaves}
use Rattle.type_defs.specs.Resolved.{Resolved, Known, Shape, OfBase, Named, Ranged, ListOf, DictOf, Link, Record, Choice}
use Rattle.defaults.specs.Filled.{Store, defaulted, filled, filled_inside, items_filled, visit, visited}
use Rattle.defaults.specs.Steps.{IsKnown, entry_filled}
use Rattle.defaults.specs.Bare.{bare_inside, bare_visits, each_visited, visited_times, visits_at, visits_for}
use Rattle.defaults.proofs.Lawful.{visit_leaves}

-- a visit more, and no more of them
pub visits_more : (p : Place) (i n : ℕ) (o : Answers) (s : Store) (m : Meter) → i < n
    → visited_times p (n - i) o s m ≡ then (visit p o s m) (λ _. visited_times p (n - (i + 1)) o)
unfolding visited_times
visits_more p i n o s m h = let next : n - i ≡ suc (n - (i + 1)) = omega arith in rw next refl

pub visits_end : (p : Place) (i n : ℕ) (o : Answers) (s : Store) (m : Meter) → n ≤ i
    → visited_times p (n - i) o s m ≡ Done tt s m
unfolding visited_times
visits_end p i n o s m h = let done : n - i ≡ 0 = omega arith in rw done refl

pub visits_leave : (p : Place) (n : ℕ) → Leaves (visited_times p n)
unfolding visited_times
visits_leave p zero o s m = omega arith
visits_leave p (suc n) o s m =
    then_leaves m.left (visit p o s m) (λ _. visited_times p n o) (λ _. visits_leave p n o)
    (visit_leaves p o s m)

-- a value more, and no more of them
pub each_more : (p : Place) (k i n : ℕ) (o : Answers) (s : Store) (m : Meter) → i < n
    → each_visited p k (n - i) o s m
    ≡ then (visited_times p k o s m) (λ _. each_visited p k (n - (i + 1)) o)
unfolding each_visited
each_more p k i n o s m h = let next : n - i ≡ suc (n - (i + 1)) = omega arith in rw next refl

pub each_end : (p : Place) (k i n : ℕ) (o : Answers) (s : Store) (m : Meter) → n ≤ i
    → each_visited p k (n - i) o s m ≡ Done tt s m
unfolding each_visited
each_end p k i n o s m h = let done : n - i ≡ 0 = omega arith in rw done refl

pub each_leaves : (p : Place) (k n : ℕ) → Leaves (each_visited p k n)
unfolding each_visited
each_leaves p k zero o s m = omega arith
each_leaves p k (suc n) o s m =
    then_leaves m.left (visited_times p k o s m) (λ _. each_visited p k n o)
    (λ _. each_leaves p k n o) (visits_leave p k o s m)

abbrev Next : Type 0
Next = Unit {0} → Store → Meter → Outcome Store (Unit {0})

-- what goes on alike from the store before goes on alike behind visits
on_step : (b : Bool) (p : Place) (s : Store) (m : Meter) (f g : Next)
    → ((l : Meter) → f tt s l ≡ g tt s l) → then (stepped b p s m) f ≡ then (stepped b p s m) g
on_step true p s m f g h = refl
on_step false p s m f g h = h _

on_first : (b : Bool) (p : Place) (n : ℕ) (o : Answers) (s : Store) (m : Meter) (f g : Next)
    → ((l : Meter) → then (visited_times p n o s l) f ≡ then (visited_times p n o s l) g)
    → then (then (stepped b p s m) (λ _. visited_times p n o)) f
    ≡ then (then (stepped b p s m) (λ _. visited_times p n o)) g
on_first true p n o s m f g h = refl
on_first false p n o s m f g h = h _

on_visits : (p : Place) (n : ℕ) (o : Answers) (s : Store) (m : Meter) (f g : Next)
    → ((l : Meter) → f tt s l ≡ g tt s l)
    → then (visited_times p n o s m) f ≡ then (visited_times p n o s m) g
unfolding visited_times visit
on_visits p zero o s m f g h = h m
on_visits p (suc n) o s m f g h =
    on_first (nat_eq m.left 0) p n o s m f g (λ l. on_visits p n o s l f g h)

known_filled : (p : Place) (sh : Shape) (ms : List Term) (n : ℕ) (v : Plain) (o : Answers)
    (s : Store) (m : Meter) (k : Option ℕ)
    → ((j : ℕ) (l : Meter) → k ≡ Some j → filled_inside p sh ms v o s l ≡ visited_times p j o s l)
    → option_map suc k ≡ Some n → get ms s.tree ≡ Some v
    → visited p (filled_inside p sh ms) (get ms s.tree) o s m ≡ visited_times p n o s m
unfolding visited_times visit
known_filled p sh ms n v o s m None inside is at = absurd cc
known_filled p sh ms n v o s m (Some j) inside is at =
    let same : suc j ≡ n = cc in
    ap (λ x. visited p (filled_inside p sh ms) x o s m) at
    ∙ on_step (nat_eq m.left 0) p s m (λ _. filled_inside p sh ms v o) (λ _. visited_times p j o)
    (λ l. inside j l refl)
    ∙ ap (λ i. visited_times p i o s m) same

no_visit : (p : Place) (n : ℕ) (o : Answers) (s : Store) (m : Meter) → 0 ≡ n
    → Done tt s m ≡ visited_times p n o s m
unfolding visited_times
no_visit p n o s m is = ap (λ i. visited_times p i o s m) is

mutual
  unfolding defaulted

  -- a value that is there
  bare_filled : (p : Place) (t : Resolved) (ms : List Term) (n : ℕ) (v : Plain) (o : Answers)
      (s : Store) (m : Meter) → bare_visits t ≡ Some n → get ms s.tree ≡ Some v
      → filled p t ms o s m ≡ visited_times p n o s m
  bare_filled p (Known sh c template None) ms n v o s m is at =
      known_filled p sh ms n v o s m (bare_inside sh)
      (λ j l inside. bare_within p sh ms j v o s l inside at) is at
  bare_filled p (Known sh c template (Some d)) ms n v o s m is at = absurd cc

  bare_within : (p : Place) (sh : Shape) (ms : List Term) (n : ℕ) (v : Plain) (o : Answers)
      (s : Store) (m : Meter) → bare_inside sh ≡ Some n → get ms s.tree ≡ Some v
      → filled_inside p sh ms v o s m ≡ visited_times p n o s m
  bare_within p (OfBase b) ms n v o s m is at = no_visit p n o s m cc
  bare_within p (Named t) ms n v o s m is at = bare_filled p t ms n v o s m is at
  bare_within p (Ranged t r) ms n v o s m is at = bare_filled p t ms n v o s m is at
  bare_within p (ListOf t r) ms n v o s m is at = absurd cc
  bare_within p (DictOf t r) ms n v o s m is at = absurd cc
  bare_within p (Link t) ms n v o s m is at = no_visit p n o s m cc
  bare_within p (Record x fs) ms n v o s m is at = absurd cc
  bare_within p (Choice texts) ms n v o s m is at = no_visit p n o s m cc

-- and one that is not
bare_absent : (p : Place) (t : Resolved) (ms : List Term) (n : ℕ) (o : Answers) (s : Store)
    (m : Meter) → bare_visits t ≡ Some n → get ms s.tree ≡ None → filled p t ms o s m ≡ Done tt s m
unfolding defaulted
bare_absent p (Known sh c template None) ms n o s m is at =
    ap (λ x. visited p (filled_inside p sh ms) x o s m) at
bare_absent p (Known sh c template (Some d)) ms n o s m is at = absurd cc

by_key : (p : Place) (t : Resolved) (ms : List Term) (n : ℕ) (o : Answers) (s : Store) (m : Meter)
    (b : Option ℕ) (c : Option Plain) → bare_visits t ≡ b → get ms s.tree ≡ c → visits_for b c
    ≡ Some n → filled p t ms o s m ≡ visited_times p n o s m
by_key p t ms n o s m None c bare at is = absurd cc
by_key p t ms n o s m (Some j) None bare at is =
    bare_absent p t ms j o s m bare at ∙ no_visit p n o s m cc
by_key p t ms n o s m (Some j) (Some v) bare at is =
    let same : j ≡ n = cc in
    bare_filled p t ms j v o s m bare at ∙ ap (λ i. visited_times p i o s m) same

-- the value of a key
pub key_visited : (p : Place) (k : List ℕ) (t : Resolved) (w : Option Plain) (n : ℕ)
    (ms : List Term) (o : Answers) (s : Store) (m : Meter) → visits_at k t w ≡ Some n
    → IsKnown w ms s.tree → filled p t (ms ++ term.Key k ∷ []) o s m ≡ visited_times p n o s m
key_visited p k t None n ms o s m is known = absurd cc
key_visited p k t (Some v) n ms o s m is known =
    by_key p t (ms ++ term.Key k ∷ []) n o s m (bare_visits t) (child (term.Key k) v) refl
    (get_push ms (term.Key k) s.tree ∙ ap (option_and_then (child (term.Key k))) (sym known)) is

-- and of the key at a place
pub entry_visited : (p : Place) (k : List ℕ) (t : Resolved) (w : Option Plain) (n : ℕ)
    (ms : List Term) (x : Option (List ℕ)) (o : Answers) (s : Store) (m : Meter) → x ≡ Some k
    → visits_at k t w ≡ Some n → IsKnown w ms s.tree
    → entry_filled (filled p t) ms x o s m ≡ visited_times p n o s m
unfolding entry_filled
entry_visited p k t w n ms x o s m at is known = rw at (key_visited p k t w n ms o s m is known)

child_item : (i : ℕ) (v : Plain) → child (term.Index i) v ≡ item_at i (child_items v)
child_item i (dict fs) = refl
child_item i (list ts) = refl
child_item i (text bs) = refl
child_item i (long z) = refl
child_item i (boolean b) = refl
child_item i undef = refl
child_item i null = refl

no_item : (ts : Items) (i : ℕ) → i < item_count ts → item_at i ts ≡ None → ⊥
no_item no_items i within none = omega (arith, within)
no_item (item t ts) zero within none = cc
no_item (item t ts) (suc i) within none = no_item ts i (omega (arith, within)) none

one_item : (p : Place) (t : Resolved) (ms : List Term) (n i : ℕ) (v : Plain) (o : Answers)
    (s : Store) (m : Meter) (c : Option Plain) → bare_visits t ≡ Some n → Some v ≡ get ms s.tree
    → i < item_count (child_items v) → item_at i (child_items v) ≡ c
    → filled p t (ms ++ term.Index i ∷ []) o s m ≡ visited_times p n o s m
one_item p t ms n i v o s m None bare known within is = absurd (no_item (child_items v) i within is)
one_item p t ms n i v o s m (Some u) bare known within is =
    bare_filled p t (ms ++ term.Index i ∷ []) n u o s m bare
    (get_push ms (term.Index i) s.tree ∙ ap (option_and_then (child (term.Index i))) (sym known)
    ∙ child_item i v ∙ is)

each_item : (p : Place) (t : Resolved) (ms : List Term) (n i count : ℕ) (v : Plain) (o : Answers)
    (s : Store) (m : Meter) → bare_visits t ≡ Some n → Some v ≡ get ms s.tree
    → i + count ≤ item_count (child_items v)
    → items_filled (filled p t) ms i count o s m ≡ each_visited p n count o s m
unfolding items_filled each_visited
each_item p t ms n i zero v o s m bare known within = refl
each_item p t ms n i (suc count) v o s m bare known within =
    ap (λ z. then z (λ _. items_filled (filled p t) ms (i + 1) count o))
    (one_item p t ms n i v o s m (item_at i (child_items v)) bare known
    (omega (arith, within)) refl)
    ∙ on_visits p n o s m (λ _. items_filled (filled p t) ms (i + 1) count o)
    (λ _. each_visited p n count o)
    (λ l. each_item p t ms n (i + 1) count v o s l bare known (omega (arith, within)))

-- the items of a value
pub items_visited : (p : Place) (t : Resolved) (ms : List Term) (n count : ℕ) (v : Plain)
    (o : Answers) (s : Store) (m : Meter) → count ≡ item_count (child_items v)
    → bare_visits t ≡ Some n → Some v ≡ get ms s.tree
    → items_filled (filled p t) ms 0 (item_count (child_items v)) o s m
    ≡ each_visited p n count o s m
items_visited p t ms n count v o s m all bare known =
    each_item p t ms n 0 (item_count (child_items v)) v o s m bare known (omega arith)
    ∙ ap (λ i. each_visited p n i o s m) (sym all)
