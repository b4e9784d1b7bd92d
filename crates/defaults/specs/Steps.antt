-- The steps of a filling that the code makes one at a time.
use Rattle.std.specs.Prelude.{◌≡◌, ℕ, List, [], ◌∷◌, ◌++◌, Option, Some, None}
use Rattle.path_tree.specs.Find.{get}
use Rattle.path_tree.specs.Plain.{Plain}
use Rattle.path_tree.specs.declared.path.Term.{Term}
use Rattle.path_tree.specs.declared.path.Term.TheVariants as term
use Rattle.defaults.specs.Filled.{Fill, leave}

-- the value of a key, where there is one
unfoldable pub entry_filled : (List Term → Fill) → List Term → Option (List ℕ) → Fill
entry_filled f ms None = leave
entry_filled f ms (Some k) = f (ms ++ term.Key k ∷ [])

-- what is known to stand at the terms in a tree, if anything is
abbrev pub IsKnown : Option Plain → List Term → Plain → Type 0
IsKnown None ms t = Unit {0}
IsKnown (Some v) ms t = Some v ≡ get ms t
