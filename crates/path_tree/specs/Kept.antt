-- What the functions behind a put keep.
use Rattle.std.specs.Prelude.{◌≡◌, ◌≢◌, ℕ, ◌+◌, ◌<◌, ◌≤◌, max, List, Result, Ok, Err, MatchResult}
use Rattle.base.specs.declared.limits.TheConstants.{MAX_TREE_HEIGHT, MAX_TREE_SIZE}
use Rattle.path_tree.specs.Plain.{Plain, null, tree_size, tree_height, IsWhole}
use Rattle.path_tree.specs.Put.{walk, within_size, chain}
use Rattle.path_tree.specs.declared.path.Term.{Term}
use Rattle.path_tree.specs.declared.path.Term.TheVariants as term
use Rattle.path_tree.specs.declared.path.PutError.{PutError}
use Rattle.path_tree.specs.declared.path.PutError.TheVariants.{TooLarge}
use Rattle.path_tree.specs.declared.tree.Measure.{Measure}
use Rattle.path_tree.specs.declared.tree.Items.{Items as Itemed}
use Rattle.path_tree.specs.View.{list_seen}

-- what may stand inside a container
pub record IsInside (t : Plain) : Type 0 where
  pub some : t ≢ null
  pub whole : IsWhole t

-- the walk goes through, and leaves a tree of this size, whose height is h where the old tree was
-- lower
pub record HasPlan (n : ℕ) (ms : List Term) (v t : Plain) (m : Measure) : Type 0 where
  pub after : Plain
  pub is : walk n ms v t ≡ Ok after
  pub size : tree_size after ≡ m.size
  pub low : m.height ≤ tree_height after
  pub high : tree_height after ≤ max (tree_height t) m.height
  pub small : m.size ≤ MAX_TREE_SIZE
  pub flat : m.height ≤ MAX_TREE_SIZE

abbrev pub IsPlan : ℕ → List Term → Plain → Plain → Result Measure PutError → Type 0
IsPlan n ms v t r = MatchResult r (HasPlan n ms v t) (λ e. within_size (walk n ms v t) ≡ Err e)

-- the size of what a term makes around a tree of size n
abbrev pub wrapped_size : Term → ℕ → ℕ
wrapped_size (term.Key k) n = n + 1
wrapped_size (term.Index i) n = n + i + 1

-- the measure of what is made where nothing was
pub record HasMeasure (t : Plain) (m : Measure) : Type 0 where
  pub size : tree_size t ≡ m.size
  pub height : tree_height t ≡ m.height
  pub small : m.size ≤ MAX_TREE_SIZE
  pub flat : m.height ≤ MAX_TREE_SIZE

-- it is too large
pub record IsTooLarge (e : PutError) (size : ℕ) : Type 0 where
  pub is : e ≡ TooLarge
  pub large : MAX_TREE_SIZE < size

abbrev pub IsMade : List Term → Plain → Result Measure PutError → Type 0
IsMade ms v r = MatchResult r (HasMeasure (chain ms v)) (λ e. IsTooLarge e (tree_size (chain ms v)))

-- the measure of a tree of this size in which a tree of the size before is replaced by one below it
pub record HasGrown (whole old : ℕ) (below m : Measure) : Type 0 where
  pub size : m.size + old ≡ whole + below.size
  pub height : m.height ≡ below.height + 1
  pub small : m.size ≤ MAX_TREE_SIZE

-- it would be too large
pub record IsPast (e : PutError) (size before : ℕ) (below : Measure) : Type 0 where
  pub is : e ≡ TooLarge
  pub large : MAX_TREE_SIZE + before < size + below.size

abbrev pub IsGrown : ℕ → ℕ → Result Measure PutError → Result Measure PutError → Type 0
IsGrown size before (Ok below) r =
    MatchResult r (HasGrown size before below) (λ e. IsPast e size before below)
IsGrown size before (Err e) r = r ≡ Err e

-- such a measure can be grown
pub record Fits (m : Measure) : Type 0 where
  pub size : m.size ≤ MAX_TREE_SIZE
  pub height : m.height ≤ MAX_TREE_SIZE

-- what is made keeps the limits
pub record FitsMade (t : Plain) : Type 0 where
  pub size : tree_size t ≤ MAX_TREE_SIZE
  pub height : tree_height t ≤ MAX_TREE_HEIGHT

-- u is a tree of this size and height once a child of one measure has become one of another
pub record IsRemeasured (u : Plain) (was high : ℕ) (before after : Measure) : Type 0 where
  pub size : was + after.size ≡ tree_size u + before.size
  pub height : max (tree_height u) (before.height + 1) ≡ max high (after.height + 1)
  pub reaches : after.height + 1 ≤ tree_height u
  pub smaller : before.size ≤ was

-- u is a tree of this size and height once a child of this measure is gone
pub record IsLessened (u : Plain) (was high : ℕ) (gone : Measure) : Type 0 where
  pub size : was ≡ tree_size u + gone.size
  pub height : max (tree_height u) (gone.height + 1) ≡ high

-- the walk goes through, and gives a tree within the limits
pub record CanWalk (ms : List Term) (v t : Plain) : Type 0 where
  pub passed : ℕ
  pub after : Plain
  pub is : walk passed ms v t ≡ Ok after
  pub size : tree_size after ≤ MAX_TREE_SIZE
  pub height : tree_height after ≤ MAX_TREE_HEIGHT

-- new is what the walk gives
abbrev pub Walks : List Term → Plain → Plain → Plain → Type 0
Walks ms v old new = (n : ℕ) → walk n ms v old ≡ Ok new

-- what may be added to a list, and the measure of the list with it
pub record IsAdmitted (l : Itemed) (v : Plain) (m : Measure) : Type 0 where
  pub inside : IsInside v
  pub size : m.size ≡ tree_size (list_seen l) + tree_size v
  pub height : m.height ≡ max (tree_height (list_seen l)) (tree_height v + 1)
  pub small : m.size ≤ MAX_TREE_SIZE
  pub low : m.height ≤ MAX_TREE_HEIGHT
