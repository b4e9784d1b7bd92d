-- What a runner tells of how a tree was made, as the leaves that it tells.
use Rattle.std.proofs.Common.{◌≡◌, List, [], map, Option, Some, None, option_map, Ok, ap, ◌∙◌}
use Rattle.path_tree.specs.declared.path.Term.{Term}
use Rattle.pan_blame.specs.Blamed.{Blame, blamed}
use Rattle.runner.specs.Meaning.{Logged, Meaning}
use Rattle.runner.specs.declared.ends.Built.{Built}
use Rattle.session.specs.Texts.{blame_text}
use Rattle.engine_session.specs.Blaming.{leaf_text, leaves_by, leaves_of}

-- what is told of it, by what was found
pub told_by : {T : Type 0} (m : Meaning T) (b : Built T) (terms : List Term) (log : Logged)
    (found : Option (List Blame)) → Some log ≡ m.log b.rest
    → found ≡ blamed log.header log.changes terms
    → blame_text (option_map (map leaf_text) found) ≡ blame_text (leaves_of m (Ok b) terms)
told_by m b terms log found is blames = ap (λ f. blame_text (option_map (map leaf_text) f)) blames
    ∙ ap (λ l. blame_text (leaves_by l terms)) is

pub told_none : {T : Type 0} (m : Meaning T) (b : Built T) (terms : List Term) → None ≡ m.log b.rest
    → blame_text (Some []) ≡ blame_text (leaves_of m (Ok b) terms)
told_none m b terms is = ap (λ l. blame_text (leaves_by l terms)) is
