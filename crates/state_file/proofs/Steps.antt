-- A keeper that changes no row twice, and rows that were refused.
use Rattle.std.proofs.Common.{◌≡◌, ◌⊎◌, ℕ, List, Option, Some, None, Result, Ok, Err, IfErr, refl, ap, ◌∙◌, inl, inr}
use Rattle.std.specs.Prelude.{option_map}
use Rattle.outside.specs.Cells.{Cell}
use Rattle.kept_state.specs.Stored.{Stored}
use Rattle.stored_rows.specs.declared.row.StoredRow.{StoredRow}
use Rattle.record_rows.specs.declared.error.RowsError.{RowsError}
use Rattle.record_rows.specs.declared.error.RowsError.TheVariants as errors
use Rattle.record_rows.specs.Results.{Fails}
use Rattle.record_rows.specs.Rows.{Give}
use Rattle.keepers.specs.Keeping.{Follows, Lists, unchanged}
use Rattle.state_file.specs.declared.loading.LoadError.{LoadError}
use Rattle.state_file.specs.declared.loading.LoadError.TheVariants as load
use Rattle.state_file.specs.declared.loading.Loaded.{Loaded}
use Rattle.state_file.specs.Refused.{GiveNothing, IsBad}

same_cell : (n : List ℕ) (cell : Cell) → option_map (unchanged n) cell ≡ cell
same_cell n (Some content) = refl
same_cell n None = refl

told_on : (n : List ℕ) (old mid now : Cell)
    → (mid ≡ None) ⊎ (mid ≡ option_map (unchanged n) old)
    → (now ≡ None) ⊎ (now ≡ option_map (unchanged n) mid)
    → (now ≡ None) ⊎ (now ≡ option_map (unchanged n) old)
told_on n old mid now first (inl none) = inl none
told_on n old mid now (inl none) (inr is) = inl (is ∙ ap (option_map (unchanged n)) none)
told_on n old mid now (inr was) (inr is) = inr (is ∙ same_cell n mid ∙ was)

-- a keeper that changed no row, and then no row
pub follows_on : (old mid now : List ℕ → Cell) → Follows unchanged old mid
    → Follows unchanged mid now → Follows unchanged old now
follows_on old mid now first second n = told_on n (old n) (mid n) (now n) (first n) (second n)

-- rows of which whatever had them would have been read
pub refused : (rows : List StoredRow) (e : RowsError) → e ≡ errors.BadRows
    → ((s : Stored) → Give rows s → Fails e (Some s)) → GiveNothing rows
refused rows errors.BadRows is only s g =
    let clash : ◌≡◌ {A = Option Stored} (Some s) None = only s g in cc
refused rows errors.Memory is only s g = absurd (cc is)

-- what is bad of the rows that a keeper lists
pub bad_read : (rows : List StoredRow) (cell : List ℕ → Cell) (r : Result Loaded LoadError)
    → Lists cell rows → IfErr r (λ e. e ≡ load.BadRows → GiveNothing rows)
    → IfErr r (λ e. IsBad e cell)
bad_read rows cell (Ok l) lists bad = tt
bad_read rows cell (Err load.BadRows) lists bad = (rows, lists, bad refl)
bad_read rows cell (Err load.Failed) lists bad = tt
bad_read rows cell (Err load.Memory) lists bad = tt
