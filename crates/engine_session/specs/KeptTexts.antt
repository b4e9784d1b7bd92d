-- Of which tree each text of a profile is that is kept. Inner contracts use it.
use Rattle.std.specs.Prelude.{◌≡◌, ◌<◌, ◌≤◌, ◌++◌, ◌∷◌, ℕ, List, [], Some, Ok}
use Rattle.json_profile.specs.Json.{profile_of}
use Rattle.path_tree.specs.Plain.{Plain}
use Rattle.engine_laws.specs.Names.{Name}
use Rattle.rebuild.specs.Engines.{Meanings, EngineSituation, situation_of}
use Rattle.runner.specs.declared.runner.Runner as runner
use Rattle.engine_session.specs.Standing.{IsFaithful}
use Rattle.engine_session.specs.declared.works.Works.{Works}
use Rattle.engine_session.specs.declared.kept_texts.Entry.{Entry}
use Rattle.engine_session.specs.declared.kept_texts.KeptTexts.{KeptTexts}

-- since x: a tree that an object has under a number of then is the tree that it had
pub record KeepsTrees {T : Type 0} (x y : EngineSituation T) : Type 0 where
  pub later : x.state.counter ≤ y.state.counter
  pub same : (o : Name) (n : ℕ) (t : Plain) → n < x.state.counter → y.state.last o ≡ Some (n, Ok t)
      → x.state.last o ≡ Some (n, Ok t)

-- a text is the profile of the tree that its object has under this number, if it has one
pub record IsTextIn {T : Type 0} (x : EngineSituation T) (e : Entry) : Type 0 where
  pub drawn : e.number < x.state.counter
  pub text : (t : Plain) → x.state.last e.name ≡ Some (e.number, Ok t) → e.json ≡ profile_of t

abbrev pub AreTextsIn : {T : Type 0} → EngineSituation T → List Entry → Type 0
AreTextsIn x [] = Unit {0}
AreTextsIn x (e ∷ es) = IsTextIn x e × AreTextsIn x es

-- .. each that is kept
pub record AreTexts {T : Type 0} (x : EngineSituation T) (texts : KeptTexts) : Type 0 where
  pub entries : AreTextsIn x texts.entries.items
  pub before : AreTextsIn x texts.before.items

-- works that are faithful, and texts of their trees
pub record AreFaithful {R T : Type 0} {M : runner.Ghosts R T} (means : Meanings T)
    (works : Works R T M) (kept : KeptTexts) : Type 0 where
  pub faithful : IsFaithful means works
  pub texts : AreTexts (situation_of works.engine.core) kept

-- each text that is kept under this name and number is that of the tree
abbrev pub Serve : List ℕ → ℕ → Plain → List Entry → Type 0
Serve name number tree [] = Unit {0}
Serve name number tree (e ∷ es) =
    (e.name ≡ name → e.number ≡ number → e.json ≡ profile_of tree) × Serve name number tree es

-- a text is kept under this name and number, and is that of the tree
pub record IsAdded (name : List ℕ) (number : ℕ) (tree : Plain) (old new : List Entry) : Type 0 where
  pub entry : Entry
  pub is : new ≡ old ++ entry ∷ []
  pub name_is : entry.name ≡ name
  pub number_is : entry.number ≡ number
  pub text_is : entry.json ≡ profile_of tree
