-- The arguments of a call by their count.
use Rattle.std.specs.Prelude.{◌≡◌, List, [], ◌∷◌}
use Rattle.path_tree.specs.Plain.{Plain}
use Rattle.call_values.specs.declared.arguments.Arguments.{Arguments}
use Rattle.call_values.specs.declared.arguments.Arguments.TheVariants.{Zero, One, Two, Three, Four, More}

abbrev pub IsCounted : List Plain → Arguments → Type 0
IsCounted args Zero = args ≡ []
IsCounted args (One a) = args ≡ a.now ∷ []
IsCounted args (Two a b) = args ≡ a.now ∷ b.now ∷ []
IsCounted args (Three a b c) = args ≡ a.now ∷ b.now ∷ c.now ∷ []
IsCounted args (Four a b c d) = args ≡ a.now ∷ b.now ∷ c.now ∷ d.now ∷ []
IsCounted args More =
    (a b c d e : Plain) × (rest : List Plain) × (args ≡ a ∷ b ∷ c ∷ d ∷ e ∷ rest)
