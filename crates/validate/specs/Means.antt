-- What a check takes of the language: what items give, and what stands at paths.
use Rattle.std.specs.Prelude.{ℕ, List, Option, Some, None}
use Rattle.path_tree.specs.Plain.{Plain}
use Rattle.path_tree.specs.declared.path.Path.{Path}
use Rattle.pan_ast.specs.declared.place.Place.{Place}
use Rattle.pan_ast.specs.Syntax.{Item}
use Rattle.questions.specs.Contents.{Answers}
use Rattle.questions.specs.Run.{Meter, ◌>>=◌, give}
use Rattle.questions.specs.Told.{LeavesAtMost}
use Rattle.dml_meaning.specs.Run.{Look}
use Rattle.dml_meaning.specs.Lookups.{Looked, There}

pub record Means : Type 0 where
  -- what an item of this template gives, where SELF is the value and fixed
  pub dml : List ℕ → Item → Plain → Look Plain
  -- what stands at an absolute or external path; its faults are told at the place
  pub look : Place → Path → Look Looked

-- neither leaves more work than it began with
pub record LeaveNoMore (e : Means) : Type 0 where
  pub dml : (template : List ℕ) (i : Item) (v : Plain) (o : Answers) (s : Unit {0}) (m : Meter)
      → LeavesAtMost m.left (e.dml template i v o s m)
  pub look : (p : Place) (path : Path) (o : Answers) (s : Unit {0}) (m : Meter)
      → LeavesAtMost m.left (e.look p path o s m)

-- the value that was seen, where there is one
abbrev pub value_there : Looked → Option Plain
value_there (There v) = Some v
value_there l = None

unfoldable pub found_run : Means → Place → Path → Look (Option Plain)
found_run e p path = do
  l ← e.look p path
  give (value_there l)
