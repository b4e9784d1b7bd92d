-- A run of a build, with no numbers, records or turns.
use Rattle.std.specs.Prelude.{◌≡◌, ℕ, List}
use Rattle.asking.specs.Asked.{Ends, Tells}
use Rattle.load_path.specs.declared.picture.PictureFile.{PictureFile}
use Rattle.questions.specs.declared.key.Key.{Key}
use Rattle.questions.specs.Contents.{Content}
use Rattle.runner.specs.Ends.{End}
use Rattle.runner.specs.Meaning.{Meaning, build_steps}
use Rattle.engine_laws.specs.Names.{Name}
use Rattle.engine_laws.specs.Bounded.{content}
use Rattle.engine_machine.specs.Machine.{runner_of}
use Rattle.engine_machine.specs.Pictures.{picture_in}

-- the work of a build that is told what stands under each key: a file's bytes, or what another
-- object's build gives
abbrev pub scratch_steps : {T : Type 0} → Meaning T → List PictureFile → List Name → Name → ℕ
scratch_steps m files objects o =
    build_steps m o (λ k. Tells 0 (content (runner_of m.build) (picture_in files objects) k))

-- told some answers, the build of an object ends so
abbrev pub IsEndOf : {T : Type 0} → Meaning T → Name → End T → Type 0
IsEndOf m o end = (asked : List (Key × Content)) × (m.build o asked ≡ Ends end)
