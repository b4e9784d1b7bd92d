-- The objects that a take finds.
use Rattle.std.proofs.Common.{◌≤◌, ℕ, List, length, Result, Ok, Err, OnOk, IfErr, sym, ap, ◌∙◌, subst}
use Rattle.base.specs.declared.limits.TheConstants.{MAX_OBJECTS}
use Rattle.load_path.specs.declared.picture.PictureFile.{PictureFile}
use Rattle.object_names.specs.Objects.{AreObjects}
use Rattle.engine_laws.specs.Names.{Name}
use Rattle.engine_turns.specs.declared.core_data.Core.{Core}
use Rattle.rebuild.specs.declared.taking.TakeError.{TakeError}
use Rattle.rebuild.specs.declared.taking.TakeError.TheVariants.{TooManyObjects, NumbersSpent, Memory}
use Rattle.rebuild.specs.Refused.{IsSpent, IsRefused}
use Rattle.rebuild.specs.Reaching.{Asking}
use Rattle.rebuild.specs.Renewing.{IsTaken, IsPictureTaken}
use Rattle.rebuild.specs.Taking.{counter_after}
use Rattle.engine_turns.specs.declared.rows.FileRow.{FileRow}
use Rattle.engine_turns.proofs.ByName.{names_length}

-- the objects of the data after a take are those that were found
pub picture_taken : {T A : Type 0} → (asks : Asking) (files : List PictureFile) (found : List Name)
    (c n : Core T) (r : Result A TakeError) → AreObjects files c.dirs found
    → length found ≤ MAX_OBJECTS → OnOk r (IsTaken asks files found c n)
    → OnOk r (IsPictureTaken asks files c n)
picture_taken asks files found c n (Ok a) are few t = record {
  taken = subst (λ ns. IsTaken asks files ns c n) (sym t.objects_are) t;
  objects = subst (AreObjects files c.dirs) (sym t.objects_are) are;
  few = subst (λ k. k ≤ MAX_OBJECTS) (sym (ap length t.objects_are) ∙ names_length n.rows.items)
      few;
}
picture_taken asks files found c n (Err e) are few t = tt

-- a refusal behind the objects that were found
pub refused_by : {A : Type 0} (old : List FileRow) (counter : ℕ) (files : List PictureFile)
    (dirs found : List Name) (r : Result A TakeError) → AreObjects files dirs found
    → length found ≤ MAX_OBJECTS → IfErr r (λ e. IsSpent e (counter_after old counter files))
    → IfErr r (λ e. IsRefused old counter files dirs e)
refused_by old counter files dirs found (Ok a) are few h = tt
refused_by old counter files dirs found (Err TooManyObjects) are few h = absurd h
refused_by old counter files dirs found (Err NumbersSpent) are few h = (found, are, few, h)
refused_by old counter files dirs found (Err Memory) are few h = tt
