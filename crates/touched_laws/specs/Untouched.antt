-- What an edit leaves as it was.
use Rattle.std.specs.Prelude.{◌≡◌, ◌≤◌, ℕ, List, true, false, bytes_eq, length, Ok}
use Rattle.std.specs.List.{list_any}
use Rattle.load_path.specs.declared.picture.PictureFile.{PictureFile}
use Rattle.object_names.specs.Objects.{AreObjects}
use Rattle.asking.specs.Asked.{Tells}
use Rattle.asking.specs.declared.limits.TheConstants.{MAX_WORK}
use Rattle.questions.specs.Contents.{Content}
use Rattle.runner.specs.declared.ends.Built.{Built}
use Rattle.runner.specs.Looking.{LooksForTemplates}
use Rattle.runner.specs.Meaning.{Meaning, IsLawful, build_run, check_run}
use Rattle.engine_laws.specs.Names.{Name}
use Rattle.engine_laws.specs.Engine.{is_among}
use Rattle.engine_machine.specs.Compiled.{built_end, compiled}
use Rattle.pan_impact.specs.declared.register.Entry.{Entry}
use Rattle.pan_impact.specs.Touched.{stands_in, templates_of, AreTouched}
use Rattle.touched_laws.specs.Edits.{IsEdit, IsRegister, contents}

module _ {T : Type 0} (m : Meaning T) (old new : List PictureFile) (objects others : List Name)
    (o : Name) where
  -- an object is there in both pictures, built alike and with the same answer, and its runs ask the
  -- same
  pub record IsAsBefore : Type 0 where
    pub there : is_among o others ≡ true
    pub built : built_end m old objects o ≡ built_end m new others o
    pub answer : compiled m old objects o ≡ compiled m new others o
    pub build : (number : Content → ℕ)
        → build_run m o (λ k. Tells (number (contents m old objects k)) (contents m old objects k))
        ≡ build_run m o (λ k. Tells (number (contents m new others k)) (contents m new others k))
    pub check : (b : Built T) → built_end m old objects o ≡ Ok b → (number : Content → ℕ)
        → check_run m b (λ k. Tells (number (contents m old objects k)) (contents m old objects k))
        ≡ check_run m b (λ k. Tells (number (contents m new others k)) (contents m new others k))

-- an edit of a file changes no object that is not touched by it
abbrev pub LeavesUntouched : {T : Type 0} → Meaning T → Type 0
LeavesUntouched m = (dirs : List (List ℕ)) (old new : List PictureFile) (objects others : List Name)
    (file : List ℕ) (entries : List Entry) (touched : List (List ℕ)) → IsLawful m
    → LooksForTemplates m dirs → length dirs ≤ MAX_WORK → AreObjects old dirs objects
    → AreObjects new dirs others
    → IsEdit file old new → IsRegister m old objects entries
    → AreTouched entries file dirs touched → (o : Name) → is_among o objects ≡ true
    → stands_in o touched ≡ false → IsAsBefore m old new objects others o

-- a name that is an object after the edit alone may have the file as its template
abbrev pub NewObjects : Type 0
NewObjects = (dirs : List (List ℕ)) (old new : List PictureFile) (objects others : List Name)
    (file : List ℕ) → AreObjects old dirs objects → AreObjects new dirs others
    → IsEdit file old new → (o : Name) → is_among o objects ≡ false → is_among o others ≡ true
    → list_any (bytes_eq file) (templates_of dirs o) ≡ true
