-- When a tree that compiling from scratch gives keeps a promise.
use Rattle.std.specs.Prelude.{◌≡◌, List, None, Ok}
use Rattle.load_path.specs.declared.picture.PictureFile.{PictureFile}
use Rattle.path_tree.specs.Plain.{Plain}
use Rattle.asking.specs.Asked.{Answer, Ends}
use Rattle.questions.specs.declared.key.Key.{Key}
use Rattle.questions.specs.Contents.{Content}
use Rattle.runner.specs.declared.ends.Built.{Built}
use Rattle.runner.specs.Meaning.{Meaning}
use Rattle.engine_laws.specs.Names.{Name}
use Rattle.engine_laws.specs.Runner.{IsTrail}
use Rattle.engine_laws.specs.Bounded.{content}
use Rattle.engine_machine.specs.Machine.{runner_of}
use Rattle.engine_machine.specs.Pictures.{picture_in}

-- A run asks these keys, the newest first, is told of each what stands there, and then ends so.
abbrev pub EndsTold : {K C X : Type 0} → (List (K × C) → Answer K X) → (K → C) → List (K × C) → X
    → Type 0
EndsTold ask tell told end = IsTrail ask tell told × (ask told ≡ Ends end)

module _ {T : Type 0} (m : Meaning T) (files : List PictureFile) (objects : List Name) where
  -- What stands under each key: a file of the picture, or what an object is built to from scratch.
  abbrev pub true_content : Key → Content
  true_content = content (runner_of m.build) (picture_in files objects)

  -- The tree is that of something that the build of this object made. Its build and its check were
  -- told the true contents alone, the check found no fault, and so the promise holds of it.
  pub record KeepsPromise (promise : Built T → List (Key × Content) → Type 0) (o : Name)
      (t : Plain) : Type 0 where
    pub built : Built T
    pub build_told : List (Key × Content)
    pub check_told : List (Key × Content)
    pub object : built.object ≡ o
    pub tree : built.tree ≡ t
    pub builds : EndsTold (m.build o) true_content build_told (Ok built)
    pub checks : EndsTold (m.check built) true_content check_told None
    pub promised : promise built check_told
