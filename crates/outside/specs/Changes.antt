-- What was done to a shelf, in order, where it tells that.
use Rattle.std.specs.Prelude.{◌≡◌, List, [], ◌∷◌, ◌++◌, Option, option_map}
use Rattle.outside.specs.declared.shelf.Change.{Change}

-- this was done last
abbrev pub Does : Option (List Change) → Change → Option (List Change) → Type 0
Does old change new = new ≡ option_map (λ changes. changes ++ (change ∷ [])) old
