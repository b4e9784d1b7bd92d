-- What is asked of the meaning of items and paths: more work changes no answer, but that the work
-- is spent; and a value that is seen is seen from any place.
use Rattle.std.specs.Prelude.{◌≡◌, ℕ, ◌≤◌, List}
use Rattle.path_tree.specs.Plain.{Plain}
use Rattle.path_tree.specs.declared.path.Path.{Path}
use Rattle.pan_ast.specs.declared.fault.Code.TheVariants.{WorkSpent}
use Rattle.pan_ast.specs.declared.place.Place.{Place}
use Rattle.pan_ast.specs.Syntax.{Item}
use Rattle.questions.specs.Run.{Meter, Outcome, Done, Returned, Failed, Asks}
use Rattle.dml_meaning.specs.Lookups.{Looked}
use Rattle.validate.specs.Conforms.{EndsWith, Whole, alone}
use Rattle.validate.specs.Means.{Means}

-- A run that begins with this much left ends as the whole run where both are done, and is done
-- where the whole run is, unless its work is spent. What it leaves is no more.
abbrev pub Agrees : {X : Type 0} → ℕ → Outcome (Unit {0}) X → Outcome (Unit {0}) X → Type 0
Agrees left (Done x s m) w = EndsWith x w × (m.left ≤ left)
Agrees {X} left (Returned t s m) w = (x : X) → EndsWith x w → ⊥
Agrees {X} left (Failed f m) w = (x : X) → EndsWith x w → f.code ≡ WorkSpent
Agrees {X} left (Asks k m) w = (x : X) → EndsWith x w → ⊥

pub record IsSteady (e : Means) (w : Whole) : Type 0 where
  pub values : (template : List ℕ) (i : Item) (v : Plain) (m : Meter) → m.left ≤ w.work
      → Agrees m.left (e.dml template i v w.answers tt m) (alone w (e.dml template i v))
  pub looks : (p : Place) (path : Path) (m : Meter) → m.left ≤ w.work
      → Agrees m.left (e.look p path w.answers tt m) (alone w (e.look p path))
  pub anywhere : (p q : Place) (path : Path) (x : Looked)
      → EndsWith x (alone w (e.look p path)) → EndsWith x (alone w (e.look q path))
