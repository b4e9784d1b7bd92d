use Rattle.std.proofs.Common.{◌≡◌, Some, ap, rules, subst}
use Rattle.std.specs.Prelude.{Result, Ok, Err, IfErr, OnErr, OnOk}
use Rattle.outside.specs.declared.error.StoreError.TheVariants.{Failed}
use Rattle.kept_works.specs.Kept.{rows_by}
use Rattle.row_changes.specs.Stores.{store_of}
use Rattle.watch.proofs.Rows.{failed_at, saved_at}
use Rattle.watch.specs.Shelves.{HasFailed, HasSaved}
use Rattle.watch.proofs.keeping.save_rows.Goals as goal

-- what holds of a call that did what it was to do, and of one that did not
got : {T E P : Type 0} (r : Result T E) (x : T) → r ≡ Ok x → OnOk r P → P
got {P} r x is p = subst (λ s. OnOk s P) is p

refused : {T E P : Type 0} (r : Result T E) (e : E) → r ≡ Err e → OnErr r P → P
refused {P} r e is p = subst (λ s. OnErr s P) is p

why : {T E : Type 0} (P : E → Type 0) (r : Result T E) (e : E) → r ≡ Err e → IfErr r P → P e
why P r e is p = subst (λ s. IfErr s P) is p

pub returns-in-Ok-clause-saved : goal.returns-in-Ok-clause-saved
returns-in-Ok-clause-saved g c = λ dirs limits e is.
    let s = c.save-saved.ensures in
    let r = c.save-saved.result.result in
    let K = g.K.Keeper in
    let before = store_of K c.args.keeper.now in
    let after = store_of K c.save-saved.new.keeper in
    let last = c.replace-kept_last.result.items in
    let rows = c.save-saved.result.rows.items in
    let wanted = c.in_ok-wanted.ensures.rows dirs limits e is in
    let was = ap (λ v. v.items) c.replace-kept_last.ensures.value in
    subst (λ l. HasSaved l (rows_by dirs limits e) (record { store = before; rows = Some l })
    (record { store = after; rows = Some rows })) was
    (saved_at last c.in_ok-wanted.wanted.items (rows_by dirs limits e) rows before after wanted
    s.opened (got r _ c.in-Ok.is s.ok) (got r _ c.in-Ok.is s.told) s.kept (got r _ c.in-Ok.is
    s.cause.done) (λ same. ap (store_of K) (s.same same)))

pub returns-in-Err-Failed-clause-saved : goal.returns-in-Err-Failed-clause-saved
returns-in-Err-Failed-clause-saved g c = λ dirs limits e is.
    let s = c.save-saved.ensures in
    let r = c.save-saved.result.result in
    let K = g.K.Keeper in
    let before = store_of K c.args.keeper.now in
    let after = store_of K c.save-saved.new.keeper in
    let last = c.replace-kept_last.result.items in
    let rows = c.save-saved.result.rows.items in
    let wanted = c.in_ok-wanted.ensures.rows dirs limits e is in
    let was = ap (λ v. v.items) c.replace-kept_last.ensures.value in
    let x = c.in-Err-Failed.field-0 in
    let err = c.in-Err-Failed.is in
    let failed : x ≡ Failed = search rules in
    subst (λ l. HasFailed l (rows_by dirs limits e) (record { store = before; rows = Some l })
    (record { store = after; rows = Some rows })) was
    (failed_at last c.in_ok-wanted.wanted.items (rows_by dirs limits e) rows before after wanted
    s.opened (refused r x err s.refused) (refused r x err s.untouched) (why _ r x err s.differ
    failed) s.cause.later (why _ r x err s.cause.rose failed) s.cause.once)
