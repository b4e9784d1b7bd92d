-- What each profile keeps.
use Rattle.std.specs.Prelude.{◌≡◌, ℕ, List, Some, option_map}
use Rattle.json_profile.specs.Json.{profile_of}
use Rattle.load_path.specs.declared.picture.PictureFile.{PictureFile}
use Rattle.pan_ast.specs.declared.work.Limits.{Limits}
use Rattle.path_tree.specs.Plain.{Plain}
use Rattle.questions.specs.declared.key.Key.{Key}
use Rattle.questions.specs.Contents.{Content}
use Rattle.runner.specs.declared.ends.Built.{Built}
use Rattle.rebuild.specs.Engines.{Meanings}
use Rattle.session.specs.Sessions.{outcome_of}
use Rattle.session.specs.Texts.{answer_in}
use Rattle.session.specs.declared.Outcome.TheVariants.{Profile}
use Rattle.promised_profiles.specs.Promised.{KeepsPromise}
use Rattle.engine_session.specs.Compiler.{compiler}
use Rattle.engine_session.specs.Names.{objects_in}

module _ {T : Type 0} (means : Meanings T)
    (promises : List (List ℕ) → Limits → Built T → List (Key × Content) → Type 0) where
  -- It is the text of a tree that the object's build makes of the picture, in which its check finds
  -- no
  -- fault: so the tree keeps what a check promises, over the true contents of files and objects.
  pub record IsKept (dirs : List (List ℕ)) (limits : Limits) (files : List PictureFile)
      (name json : List ℕ) : Type 0 where
    pub tree : Plain
    pub text : json ≡ profile_of tree
    pub keeps : KeepsPromise (means dirs limits) files (objects_in files dirs)
        (promises dirs limits)
        name tree

  -- that holds of each profile among the answers of a picture
  abbrev pub AreKept : Type 0
  AreKept = (dirs : List (List ℕ)) (limits : Limits) (files : List PictureFile)
      (name json dep : List ℕ)
      → option_map outcome_of (answer_in ((compiler (means dirs limits) dirs).answers files) name)
      ≡ Some (Profile json dep) → IsKept dirs limits files name json
