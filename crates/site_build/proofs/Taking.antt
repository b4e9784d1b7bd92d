-- The pictures that are still to come, by the end of a run.
use Rattle.std.proofs.Common.{◌≡◌, List, Option, IfErr, ◌⊎◌, inl, inr, subst}
use Rattle.std.specs.Prelude.{Result, Ok, Err}
use Rattle.outside.specs.declared.source.MemFile.{MemFile}
use Rattle.site_build.specs.declared.ends.End.{End}
use Rattle.site_build.specs.declared.ends.End.TheVariants as E
use Rattle.site_build.specs.Ends.{IsEndOf, IsRoundEnd, OfSource, OfShelf, OfSink}
use Rattle.site_build.specs.Session.{TakesEarly, IsPassed}

abbrev Coming : Type 0
Coming = Option (List (List MemFile))

pub by_source : (e : End) (old new : Coming) → IsEndOf OfSource e → (new ≡ old) ⊎ IsPassed old new
    → TakesEarly e old new
by_source E.Source old new kind either = either
by_source E.Shelf old new kind either = cc
by_source (E.Publishing m) old new kind either = cc
by_source E.Out old new kind either = cc
by_source E.Memory old new kind either = either

pub by_shelf : (e : End) (old new : Coming) → IsEndOf OfShelf e → new ≡ old → TakesEarly e old new
by_shelf E.Source old new kind same = cc
by_shelf E.Shelf old new kind same = same
by_shelf (E.Publishing m) old new kind same = cc
by_shelf E.Out old new kind same = cc
by_shelf E.Memory old new kind same = inl same

by_sink : (e : End) (old new : Coming) → IsEndOf OfSink e → (new ≡ old) ⊎ IsPassed old new
    → TakesEarly e old new
by_sink E.Source old new kind either = cc
by_sink E.Shelf old new kind either = cc
by_sink (E.Publishing m) old new kind either = cc
by_sink E.Out old new kind either = either
by_sink E.Memory old new kind either = either

by_round : (e : End) (old new : Coming) → IsRoundEnd e → IsPassed old new → TakesEarly e old new
by_round E.Source old new (inl kind) passed = cc
by_round E.Source old new (inr kind) passed = cc
by_round E.Shelf old new (inl kind) passed = cc
by_round E.Shelf old new (inr kind) passed = cc
by_round (E.Publishing m) old new kind passed = passed
by_round E.Out old new kind passed = inr passed
by_round E.Memory old new kind passed = inr passed

pub source_takes : {T : Type 0} (r : Result T End) (old new : Coming) → IfErr r (IsEndOf OfSource)
    → (new ≡ old) ⊎ IsPassed old new → IfErr r (λ e. TakesEarly e old new)
source_takes (Ok x) old new kind either = tt
source_takes (Err e) old new kind either = by_source e old new kind either

pub shelf_takes : {T : Type 0} (r : Result T End) (old new : Coming) → IfErr r (IsEndOf OfShelf)
    → new ≡ old → IfErr r (λ e. TakesEarly e old new)
shelf_takes (Ok x) old new kind same = tt
shelf_takes (Err e) old new kind same = by_shelf e old new kind same

pub sink_takes : {T : Type 0} (r : Result T End) (old new : Coming) → IfErr r (IsEndOf OfSink)
    → (new ≡ old) ⊎ IsPassed old new → IfErr r (λ e. TakesEarly e old new)
sink_takes (Ok x) old new kind either = tt
sink_takes (Err e) old new kind either = by_sink e old new kind either

pub round_takes : {T : Type 0} (r : Result T End) (old new : Coming) → IfErr r IsRoundEnd
    → IsPassed old new → IfErr r (λ e. TakesEarly e old new)
round_takes (Ok x) old new kind passed = tt
round_takes (Err e) old new kind passed = by_round e old new kind passed

memory_by : (e : End) (old new : Coming) → e ≡ E.Memory → new ≡ old → TakesEarly e old new
memory_by E.Source old new is same = cc
memory_by E.Shelf old new is same = cc
memory_by (E.Publishing m) old new is same = cc
memory_by E.Out old new is same = cc
memory_by E.Memory old new is same = inl same

pub memory_takes : {T : Type 0} (r : Result T End) (old new : Coming) → IfErr r (λ e. e ≡ E.Memory)
    → new ≡ old → IfErr r (λ e. TakesEarly e old new)
memory_takes (Ok x) old new is same = tt
memory_takes (Err e) old new is same = memory_by e old new is same

pub later_takes : {T : Type 0} (r : Result T End) (old mid new : Coming) → mid ≡ old
    → IfErr r (λ e. TakesEarly e mid new) → IfErr r (λ e. TakesEarly e old new)
later_takes r old mid new same takes = subst (λ c. IfErr r (λ e. TakesEarly e c new)) same takes
