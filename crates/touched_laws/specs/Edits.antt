-- An edit of one file, and a register of what the objects of a picture read.
use Rattle.std.specs.Prelude.{◌≡◌, ◌⊎◌, ℕ, List, [], ◌∷◌, true, false, bytes_eq, Ok}
use Rattle.load_path.specs.Pictures.{content_in}
use Rattle.load_path.specs.declared.picture.PictureFile.{PictureFile}
use Rattle.questions.specs.declared.key.Key.{Key}
use Rattle.questions.specs.Contents.{Content, Absent}
use Rattle.read_sets.specs.declared.trace.Item.{Item}
use Rattle.runner.specs.declared.ends.Built.{Built}
use Rattle.runner.specs.Meaning.{Meaning}
use Rattle.engine_laws.specs.Names.{Name}
use Rattle.engine_laws.specs.Bounded.{content}
use Rattle.engine_laws.specs.Engine.{is_among}
use Rattle.engine_machine.specs.Machine.{runner_of}
use Rattle.engine_machine.specs.Pictures.{picture_in}
use Rattle.engine_machine.specs.Compiled.{built_end}
use Rattle.impact_laws.specs.Alike.{IsAsked}
use Rattle.pan_impact.specs.declared.register.Entry.{Entry}

-- two pictures that differ in the content of this file alone
abbrev pub IsEdit : List ℕ → List PictureFile → List PictureFile → Type 0
IsEdit file old new = (n : List ℕ) → bytes_eq n file ≡ false → content_in old n ≡ content_in new n

-- x stands among them
abbrev pub Has : {X : Type 0} → X → List X → Type 0
Has x [] = ⊥
Has x (y ∷ ys) = (y ≡ x) ⊎ Has x ys

-- under this name stands an item with this key, whose number is 0 where the key has the content of
-- an
-- object that is not there
pub record HasItem (entries : List Entry) (name : List ℕ) (key : Key) (told : Content)
    : Type 0 where
  pub entry : Entry
  pub item : Item
  pub among : Has entry entries
  pub named : entry.name ≡ name
  pub within : Has item entry.items
  pub keyed : item.key ≡ key
  pub absent : told ≡ Absent → item.number ≡ 0

module _ {T : Type 0} (m : Meaning T) (files : List PictureFile) (objects : List Name) where
  -- what stands under each key
  abbrev pub contents : Key → Content
  contents = content (runner_of m.build) (picture_in files objects)

  -- each object's items have all keys that its build and its check ask
  pub record IsRegister (entries : List Entry) : Type 0 where
    pub builds : (o : Name) → is_among o objects ≡ true → (k : Key)
        → IsAsked (m.build o) contents k → HasItem entries o k (contents k)
    pub checks : (o : Name) → is_among o objects ≡ true → (b : Built T)
        → built_end m files objects o ≡ Ok b → (k : Key) → IsAsked (m.check b) contents k
        → HasItem entries o k (contents k)
