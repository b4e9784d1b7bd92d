-- Why a take is refused.
use Rattle.std.specs.Prelude.{ℕ, ◌<◌, ◌≤◌, List, length}
use Rattle.asking.specs.declared.limits.TheConstants.{END_OF_NUMBERS}
use Rattle.base.specs.declared.limits.TheConstants.{MAX_OBJECTS}
use Rattle.load_path.specs.declared.picture.PictureFile.{PictureFile}
use Rattle.object_names.specs.Objects.{AreObjects}
use Rattle.engine_turns.specs.declared.rows.FileRow.{FileRow}
use Rattle.rebuild.specs.declared.taking.TakeError.{TakeError}
use Rattle.rebuild.specs.declared.taking.TakeError.TheVariants.{TooManyObjects, NumbersSpent, Memory}
use Rattle.rebuild.specs.Taking.{counter_after}

-- the numbers would pass the end
abbrev pub IsSpent : TakeError → ℕ → Type 0
IsSpent TooManyObjects n = ⊥
IsSpent NumbersSpent n = END_OF_NUMBERS < n
IsSpent Memory n = Unit {0}

-- The picture has more objects than an engine takes; it has no more, and the counter and the new
-- numbers that it needs pass the end of numbers; or memory was wanting.
abbrev pub IsRefused : List FileRow → ℕ → List PictureFile → List (List ℕ) → TakeError → Type 0
IsRefused old counter files dirs TooManyObjects =
    (names : List (List ℕ)) × AreObjects files dirs names × (MAX_OBJECTS < length names)
IsRefused old counter files dirs NumbersSpent =
    (names : List (List ℕ)) × AreObjects files dirs names × (length names ≤ MAX_OBJECTS)
    × (END_OF_NUMBERS < counter_after old counter files)
IsRefused old counter files dirs Memory = Unit {0}
