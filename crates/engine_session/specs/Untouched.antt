-- What an edit of one file leaves as it was, by the machine of a session.
use Rattle.std.specs.Prelude.{◌≡◌, ℕ, List, true, false, Some, None}
use Rattle.load_path.specs.declared.picture.PictureFile.{PictureFile}
use Rattle.pan_impact.specs.Touched.{stands_in, templates_of}
use Rattle.runner.specs.Meaning.{Meaning}
use Rattle.session.specs.Machines.{Machine}
use Rattle.session.specs.Texts.{answer_in}
use Rattle.session.specs.declared.Answer.{Answer}
use Rattle.touched_laws.specs.Edits.{IsEdit}
use Rattle.engine_session.specs.Compiler.{compiler}

module _ {E : Type 0} (machine : Machine E) (dirs : List (List ℕ)) (file : List ℕ)
    (old new : List PictureFile) where
  -- an object that is not named as touched by the file is one of both pictures, with the same
  -- answer
  abbrev pub KeepsAnswers : Type 0
  KeepsAnswers = (name : List ℕ) (answer : Answer)
      → answer_in (machine.answers old) name ≡ Some answer
      → stands_in name (machine.touched old file) ≡ false
      → answer_in (machine.answers new) name ≡ Some answer

  -- a name that is an object of the second picture alone may have the file as its template
  abbrev pub ComesByFile : Type 0
  ComesByFile = (name : List ℕ) (answer : Answer)
      → answer_in (machine.answers old) name ≡ None
      → answer_in (machine.answers new) name ≡ Some answer
      → stands_in file (templates_of dirs name) ≡ true

-- of two pictures that differ in one file alone both hold
pub record LeavesRest {T : Type 0} (m : Meaning T) (dirs : List (List ℕ)) : Type 0 where
  pub kept : (file : List ℕ) (old new : List PictureFile) → IsEdit file old new
      → KeepsAnswers (compiler m dirs) dirs file old new
  pub come : (file : List ℕ) (old new : List PictureFile) → IsEdit file old new
      → ComesByFile (compiler m dirs) dirs file old new
