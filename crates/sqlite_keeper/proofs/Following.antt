-- What is told of the rows of a connection, from call to call.
use Rattle.std.proofs.Common.{◌≡◌, ◌⊎◌, inl, inr, ℕ, ◌≤◌, List, Bool, true, false, ◌&&◌, if◌then◌else◌, Some, None, option_map, Ok, Err, Result, IfOk, OnOk, OnErr, refl, sym, ap, subst, ◌∙◌, arith}
use Rattle.std.proofs.lemmas.Bool.{and_parts}
use Rattle.sqlite_trees.specs.View.{doubt}
use Rattle.sqlite_trees.proofs.Doubt.{no_doubt}
use Rattle.sqlite.specs.declared.error.Error.{Error}
use Rattle.sqlite.specs.State.{State, HasCleanDisk}
use Rattle.outside.specs.Cells.{Cell}
use Rattle.keepers.specs.Keeping.{Change, Follows, unchanged}
use Rattle.row_table.specs.Rows.{held, rows_in}
use Rattle.row_table.specs.Cells.{cells, Turns, TurnsIf}
use Rattle.sqlite_keeper.specs.Refusals.{IsRefusal}

true_or : (b : Bool) → (b ≡ true) ⊎ (b ≡ false)
true_or true = inl refl
true_or false = inr refl

clean_is : (b : Bool) → doubt b ≡ 0 → b ≡ true
unfolding doubt
clean_is true h = refl
clean_is false h = cc

pub follows : (f : Change) (old new : State) → doubt old.is_clean ≤ doubt new.is_clean
    → Turns f old new → Follows f (cells old) (cells new)
follows f old new less turns n = elim (true_or (new.is_open && new.is_clean)) [
  | inr shut ↦ inl (ap (λ b. if b then Some (held (rows_in new.now) n) else None) shut)
  | inl told ↦ inr (
      let both = and_parts _ _ told in
      let clean : HasCleanDisk new = no_doubt _ both.1 in
      let it = turns clean both.0 in
      let before : doubt old.is_clean ≡ 0 = omega (arith, clean, less) in
      let was : (old.is_open && old.is_clean) ≡ true =
      ap (λ b. b && old.is_clean) it.0 ∙ clean_is old.is_clean before in
      ap (λ b. if b then Some (held (rows_in new.now) n) else None) told ∙ ap (λ o. Some o) (it.1 n)
      ∙ sym (ap (λ b. option_map (f n) (if b then Some (held (rows_in old.now) n) else None)) was))
]

pub follows_done : (f : Change) (old new : State) (r : Result Bool Error)
    → doubt old.is_clean ≤ doubt new.is_clean → IfOk r (λ yes. TurnsIf yes f old new) → r ≡ Ok true
    → Follows f (cells old) (cells new)
follows_done f old new r less turned done =
    follows f old new less (subst (λ x. IfOk x (λ yes. TurnsIf yes f old new)) done turned)

pub follows_refused : (f : Change) (old new : State) (r : Result Bool Error)
    → doubt old.is_clean ≤ doubt new.is_clean → IfOk r (λ yes. TurnsIf yes f old new)
    → OnErr r (Turns unchanged old new) → IsRefusal r → Follows unchanged (cells old) (cells new)
follows_refused f old new (Ok true) less turned kept refused = absurd refused
follows_refused f old new (Ok false) less turned kept refused =
    follows unchanged old new less turned
follows_refused f old new (Err e) less turned kept refused = follows unchanged old new less kept

same_told : (o : Cell) (n : List ℕ) → o ≡ option_map (unchanged n) o
same_told None n = refl
same_told (Some x) n = refl

pub follows_itself : (s : State) → Follows unchanged (cells s) (cells s)
follows_itself s n = inr (same_told (cells s n) n)

pub on_ok : {T E P Q : Type 0} (r : Result T E) → (P → Q) → OnOk r P → OnOk r Q
on_ok (Ok x) f p = f p
on_ok (Err e) f p = tt

pub on_err : {T E P Q : Type 0} (r : Result T E) → (P → Q) → OnErr r P → OnErr r Q
on_err (Ok x) f p = tt
on_err (Err e) f p = f p
