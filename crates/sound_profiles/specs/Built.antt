-- When what was built is sound.
use Rattle.std.specs.Prelude.{ℕ, List}
use Rattle.asking.specs.declared.limits.TheConstants.{MAX_WORK}
use Rattle.pan_ast.specs.declared.work.Limits.{Limits}
use Rattle.questions.specs.declared.key.Key.{Key}
use Rattle.questions.specs.Contents.{Content, answer_in}
use Rattle.validate.specs.Conforms.{Whole}
use Rattle.validate.specs.Sound.{IsSound}
use Rattle.runner.specs.declared.ends.Built.{Built}
use Rattle.template_meaning.specs.Program.{Site}
use Rattle.object_meaning.specs.Rest.{Rest}
use Rattle.object_meaning.specs.Builds.{site_at}
use Rattle.object_meaning.specs.Checks.{means_of}

-- each test is a run of its own, with a whole work, that is told these contents
abbrev pub told_whole : List (Key × Content) → Whole
told_whole pairs = record { answers = answer_in pairs; work = MAX_WORK }

-- Where files and other objects hold these contents: no undef is left in the tree, each path that a
-- type is bound to has a value that conforms to it, and each valid statement gives true.
abbrev pub IsSoundBuilt : Site → Built Rest → List (Key × Content) → Type 0
IsSoundBuilt site b pairs =
    IsSound (means_of site b) (told_whole pairs) b.tree b.rest.bindings b.rest.valids

-- What a check that gives no fault promises: what was built is sound, over these directories and
-- limits.
abbrev pub PromisesSound : List (List ℕ) → Limits → Built Rest → List (Key × Content) → Type 0
PromisesSound dirs limits b pairs = IsSoundBuilt (site_at dirs limits b.object) b pairs
