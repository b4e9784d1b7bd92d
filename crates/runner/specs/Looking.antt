-- Where a build looks for the template of its object.
use Rattle.std.specs.Prelude.{◌≡◌, ◌≤◌, ℕ, List, [], ◌∷◌, codes, length, true}
use Rattle.load_path.specs.Candidates.{candidates}
use Rattle.path_tree.specs.Grammar.{is_name}
use Rattle.asking.specs.Asked.{Answer, Asks}
use Rattle.asking.specs.declared.limits.TheConstants.{MAX_WORK}
use Rattle.questions.specs.declared.key.Key.{Key}
use Rattle.questions.specs.declared.key.Key.TheVariants.{File}
use Rattle.questions.specs.Contents.{Content, Missing}
use Rattle.runner.specs.Meaning.{Meaning}

-- A run asks for these files in order, as long as each is missing.
abbrev pub Looks : {X : Type 0} → (List (Key × Content) → Answer Key X) → List (List ℕ)
    → List (Key × Content) → Type 0
Looks ask [] asked = Unit {0}
Looks ask (n ∷ names) asked =
    (ask asked ≡ Asks (File n)) × Looks ask names ((File n, Missing) ∷ asked)

-- The build of an object looks for its own template, in no more directories than a run has work.
abbrev pub LooksForTemplates : {T : Type 0} → Meaning T → List (List ℕ) → Type 0
LooksForTemplates m dirs = (o : List ℕ) → is_name o ≡ true → length dirs ≤ MAX_WORK
    → Looks (m.build o) (candidates o (codes ".pan") [] dirs) []
