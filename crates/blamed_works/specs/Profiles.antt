-- Without the places the leaves that are told of an object are those of its profile's tree.
use Rattle.std.specs.Prelude.{◌≡◌, List, Ok, IfSome}
use Rattle.load_path.specs.declared.picture.PictureFile.{PictureFile}
use Rattle.path_tree.specs.Plain.{Plain}
use Rattle.path_tree.specs.Find.{get}
use Rattle.path_tree.specs.declared.path.Term.{Term}
use Rattle.pan_blame.specs.Blamed.{blamed, leaves_of, paths_in}
use Rattle.runner.specs.Meaning.{Logged, Meaning}
use Rattle.runner.specs.declared.ends.Built.{Built}
use Rattle.engine_laws.specs.Names.{Name}
use Rattle.engine_machine.specs.Compiled.{built_end, compiled}

-- nothing is told at a path exactly where nothing is there, and else a leaf for each one of the
-- tree
abbrev pub TellsTree : Plain → Logged → Type 0
TellsTree tree l = (terms : List Term)
    → paths_in (blamed l.header l.changes terms) ≡ leaves_of terms (get terms tree)

-- an object with this tree has a build that gives it, and tells its leaves if it tells any
pub record TellsProfile {T : Type 0} (m : Meaning T) (files : List PictureFile)
    (objects : List Name) (o : Name) (tree : Plain) : Type 0 where
  pub built : Built T
  pub ends : built_end m files objects o ≡ Ok built
  pub same : built.tree ≡ tree
  pub leaves : IfSome (m.log built.rest) (TellsTree tree)

-- whatever is compiled
abbrev pub TellsProfiles : {T : Type 0} → Meaning T → Type 0
TellsProfiles m = (files : List PictureFile) (objects : List Name) (o : Name) (tree : Plain)
    → compiled m files objects o ≡ Ok tree → TellsProfile m files objects o tree
