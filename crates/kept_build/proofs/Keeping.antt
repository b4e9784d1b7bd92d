-- What becomes of the rows of a keeper.
use Rattle.std.proofs.Common.{◌≡◌, ◌⊎◌, ℕ, List, Some, None, option_map, inl, inr, refl, subst}
use Rattle.std.specs.Prelude.{Result, Ok, OnOk}
use Rattle.engine_session.specs.Standing.{IsIn, compiled_in}
use Rattle.engine_turns.specs.declared.core_data.Core.{Core}
use Rattle.keepers.specs.Keeping.{Follows, Lists, replaced, unchanged}
use Rattle.outside.specs.Cells.{Cell}
use Rattle.row_changes.specs.Differing.{gone_from, set_from}
use Rattle.stored_rows.specs.declared.row.StoredRow.{StoredRow}
use Rattle.kept_build.specs.Stores.{Saves}

still_at : (n : List ℕ) (c : Cell) → (c ≡ None) ⊎ (c ≡ option_map (unchanged n) c)
still_at n None = inl refl
still_at n (Some content) = inr refl

-- a keeper that was not called
pub still : (cell : List ℕ → Cell) → Follows unchanged cell cell
still cell n = still_at n (cell n)

-- what holds of a call that did what it was to do
pub got : {T E P : Type 0} (r : Result T E) (x : T) → r ≡ Ok x → OnOk r P → P
got {P} r x is p = subst (λ s. OnOk s P) is p

-- the rows that a call kept are these
pub saved : (last items wanted rows : List StoredRow) (old new : List ℕ → Cell) → items ≡ wanted
    → rows ≡ items → Follows (replaced (gone_from last items) (set_from last items)) old new
    → (Lists old last → Lists new rows) → Saves last wanted old new
saved last items wanted rows old new same is told kept =
    subst (λ w. Saves last w old new) same (record {
      changed = told;
      holds = λ lists. subst (Lists new) is (kept lists);
    })

-- an engine has come to what it has come to
pub here : {T : Type 0} (core : Core T) → IsIn core.dirs core.limits core (compiled_in core)
here core = record { dirs_are = refl; limits_are = refl; is = refl }
