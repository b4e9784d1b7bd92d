-- What the queries of the keeper show, and what they leave.
use Rattle.std.proofs.Common.{◌≡◌, ◌⊎◌, inl, inr, ℕ, List, [], ◌∷◌, codes, true, None, Ok, Err, Result, IfOk, IfErr, refl, sym, subst, ◌∙◌}
use Rattle.sqlite_value.specs.declared.value.Value.TheVariants.{Null}
use Rattle.sqlite_value.specs.declared.keys.Collation.TheVariants.{Binary}
use Rattle.sqlite_value.specs.Keys.{ascending}
use Rattle.sqlite_value.specs.Order.{Row}
use Rattle.sqlite_sql.specs.Term.{col}
use Rattle.sqlite.specs.Command.TheVariants.{Select}
use Rattle.sqlite_schema.specs.declared.schema.Schema.{Schema}
use Rattle.sqlite_tied.specs.Compute.{everything}
use Rattle.sqlite.specs.Clock.{timed}
use Rattle.sqlite.specs.declared.error.Error.{Error}
use Rattle.sqlite.specs.Listing.{understood}
use Rattle.sqlite.specs.State.{State, Survives, Shown, ShowsRows, FailsToQuery, FailsToShow, IsNotRun, IsUnchanged, IsRolledBack, CommitsShowing}
use Rattle.sqlite.proofs.StateLemmas.{survives_weaker}
use Rattle.sqlite.proofs.Callers.{IsPlain, reads_as, never_commits}
use Rattle.stored_rows.proofs.Above.{above_none}
use Rattle.row_table.specs.Table.{row_schema}
use Rattle.row_table.specs.Rows.{AreNumbered, ids_rise}
use Rattle.row_table.specs.Steps.{IsReading, Spells}
use Rattle.row_table.proofs.Texts.{query_over, ids_text, all_text, ids_is, all_is}
use Rattle.row_table.proofs.Answers.{shows}
use Rattle.row_table.proofs.Rising.{numbered_by}
use Rattle.row_table.proofs.Listing.{read_is}

ids_plain : IsPlain (understood row_schema ids_text)
unfolding understood everything
ids_plain = (refl, refl)

all_plain : IsPlain (understood row_schema all_text)
unfolding understood everything
all_plain = (refl, refl)

plain_in : (s : State) (sql : List ℕ) → s.now.schema ≡ row_schema
    → IsPlain (understood row_schema sql) → IsPlain (understood s.now.schema sql)
plain_in s sql has plain = subst (λ (k : Schema). IsPlain (understood k sql)) (sym has) plain

ids_shown : (old new : State) (rows : List Row) → old.now.schema ≡ row_schema
    → Shown ids_text [] old new rows → ids_rise None rows ≡ true → AreNumbered (old.now.trees 0)
ids_shown old new rows has h rise =
    let order = (col 1 0, ascending Binary) ∷ [] in
    let q = record (query_over [] (col 1 0 ∷ [])) { order = order } in
    let read = reads_as ids_text [] old new row_schema has
    (Select (record { lets = []; body = q }) (codes "rowid" ∷ [])) ids_is.0 ids_plain ids_is.1
    rows h in
    numbered_by order old.now.trees rows (shows [] (col 1 0 ∷ []) order old.now.trees [] rows
    (read.answer Null)) rise

all_shown : (old new : State) (rows : List Row) → old.now.schema ≡ row_schema
    → Shown all_text [] old new rows → Spells old rows
all_shown old new rows has h into is rise n =
    let order = (col 1 1, ascending Binary) ∷ [] in
    let q = record (query_over [] (col 1 1 ∷ col 1 2 ∷ [])) { order = order } in
    let read = reads_as all_text [] old new row_schema has
    (Select (record { lets = []; body = q }) (codes "name" ∷ codes "bytes" ∷ [])) all_is.0
    all_plain all_is.1 rows h in
    read_is order old.now.trees rows (shows [] (col 1 1 ∷ col 1 2 ∷ []) order old.now.trees [] rows
    (read.answer Null)) into is (above_none into ∙ rise) n

shown_leaves : (sql : List ℕ) (old new : State) (rows : List Row)
    → IsPlain (understood old.now.schema sql) → Shown sql [] old new rows → IsUnchanged old new
unfolding Shown
shown_leaves sql old new rows plain h =
    let none = (subst IsPlain h.1.is plain).0 in
    (subst (ShowsRows old new sql h.0 (timed [] h.0.formats h.1.now) rows) none h.2).3

failed_leaves : (sql : List ℕ) (old new : State) (e : Error)
    → IsPlain (understood old.now.schema sql) → FailsToQuery sql [] old new e → IsUnchanged old new
    ⊎ IsRolledBack old new
unfolding FailsToQuery IsNotRun
failed_leaves sql old new e plain (inl (inl refused)) = inl refused.1
failed_leaves sql old new e plain (inl (inr failed)) = inr failed.3
failed_leaves sql old new e plain (inr h) =
    let none = (subst IsPlain h.1.is plain).0 in
    inl (subst (FailsToShow old new sql h.0 (timed [] h.0.formats h.1.now) e) none h.2).3

module _ {X : Type 0} (items : X → List Row) (sql : List ℕ) (old new : State)
    (has : old.now.schema ≡ row_schema) (bare : IsPlain (understood row_schema sql)) where
  reading_is : (r : Result X Error) → IfOk r (λ x. Shown sql [] old new (items x))
      → IfErr r (FailsToQuery sql [] old new) → IsReading old new r
  reading_is (Ok x) shown failed =
      shown_leaves sql old new (items x) (plain_in old sql has bare) shown
  reading_is (Err e) shown failed = failed_leaves sql old new e (plain_in old sql has bare) failed

  query_survives : Survives old new (CommitsShowing sql [] old) → Survives old new (λ _. ⊥)
  query_survives = survives_weaker old new _ _ (λ _ db. never_commits sql [] old db
      (plain_in old sql has bare))

ok_weaker : {X : Type 0} (P Q : X → Type 0) (r : Result X Error) → ((x : X) → P x → Q x) → IfOk r P
    → IfOk r Q
ok_weaker P Q (Ok x) f p = f x p
ok_weaker P Q (Err e) f p = tt

module _ {X : Type 0} (items : X → List Row) (old new : State) (has : old.now.schema ≡ row_schema)
    (r : Result X Error) where
  pub ids_told : IfOk r (λ x. Shown ids_text [] old new (items x))
      → IfOk r (λ x. ids_rise None (items x) ≡ true → AreNumbered (old.now.trees 0))
  ids_told = ok_weaker _ _ r (λ x. ids_shown old new (items x) has)

  pub ids_reading : IfOk r (λ x. Shown ids_text [] old new (items x))
      → IfErr r (FailsToQuery ids_text [] old new) → IsReading old new r
  ids_reading = reading_is items ids_text old new has ids_plain r

  pub ids_survives : Survives old new (CommitsShowing ids_text [] old) → Survives old new (λ _. ⊥)
  ids_survives = query_survives items ids_text old new has ids_plain

  pub all_told : IfOk r (λ x. Shown all_text [] old new (items x))
      → IfOk r (λ x. Spells old (items x))
  all_told = ok_weaker _ _ r (λ x. all_shown old new (items x) has)

  pub all_reading : IfOk r (λ x. Shown all_text [] old new (items x))
      → IfErr r (FailsToQuery all_text [] old new) → IsReading old new r
  all_reading = reading_is items all_text old new has all_plain r

  pub all_survives : Survives old new (CommitsShowing all_text [] old) → Survives old new (λ _. ⊥)
  all_survives = query_survives items all_text old new has all_plain
