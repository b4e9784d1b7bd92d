-- What becomes of the rows that are kept.
use Rattle.std.proofs.Common.{◌≡◌, ◌≤◌, ◌+◌, ◌⊎◌, ℕ, List, [], ◌∷◌, Option, Some, None, option_map, inl, inr, refl, sym, ap, ◌∙◌, subst, arith}
use Rattle.std.specs.Prelude.{IfSome, IsSome, vec_items}
use Rattle.engine_session.specs.Compiler.{Compiled, forgotten}
use Rattle.engine_laws.specs.Names.{Name}
use Rattle.engine_rows.specs.Restoring.{IsSoundKept}
use Rattle.engine_rows.specs.Storing.{kept_object, kept_objects, with_some}
use Rattle.engine_turns.specs.States.{EngineState}
use Rattle.keepers.specs.Keeping.{Follows, Lists, replaced, unchanged}
use Rattle.keepers.specs.declared.keeper.Keeper as keeper
use Rattle.kept_works.specs.Kept.{kept_by, rows_by}
use Rattle.outside.specs.Causes.{Rose}
use Rattle.outside.specs.Cells.{Cell}
use Rattle.pan_ast.specs.declared.work.Limits.{Limits}
use Rattle.publication.specs.Published.{AtMost}
use Rattle.rebuild.specs.Engines.{Meanings}
use Rattle.record_rows.specs.Rows.{rows_of}
use Rattle.row_changes.specs.Differing.{gone_from, set_from}
use Rattle.row_changes.specs.Stores.{Store}
use Rattle.runner.specs.Meaning.{Meaning}
use Rattle.session.specs.Sessions.{Saved, NotSaved, IsSaved, SaveFailed, kept_after}
use Rattle.stored_rows.specs.Rows.{bytes_under}
use Rattle.stored_rows.specs.declared.row.StoredRow.{StoredRow}
use Rattle.watch.specs.Shelves.{Stock, HasFailed, HasSaved, IsUncalled, KeepsOver, SavesAs}
use Rattle.watch.specs.Sites.{LeavesUnkept, MayKeep}
use Rattle.watch.specs.Steps.{IsListed, IsUnsaved, KeptSoundly, rows_behind, save_failures}
use Rattle.watch.specs.declared.site.Carried.{Carried}

-- what is kept of an engine does not hang on the runs that it has still to tell
same_objects : {T : Type 0} (s t : EngineState T) → t.last ≡ s.last → t.reads ≡ s.reads
    → t.checked ≡ s.checked → (os : List Name) → kept_objects t os ≡ kept_objects s os
same_objects s t last reads checked [] = refl
same_objects s t last reads checked (o ∷ os) = let rest = same_objects s t last reads checked os in
    λ i. with_some (kept_object o (last i o) (reads i o) (checked i o)) (rest i)

pub same_rows : {T : Type 0} (m : Meaning T) (dirs : List (List ℕ)) (limits : Limits) (e : Compiled
    T) → rows_by dirs limits (forgotten m dirs e) ≡ rows_by dirs limits e
same_rows m dirs limits e = ap (λ objects. rows_of (record (kept_by dirs limits e) {
  objects =
      objects;
})) (same_objects e.situation.state (forgotten m dirs e).situation.state refl refl refl
    e.situation.picture.objects)

told_by : (n : List ℕ) (rows : List StoredRow) (old new : Cell)
    → (new ≡ None) ⊎ (new ≡ option_map (unchanged n) old)
    → IfSome old (λ content. content ≡ bytes_under rows n)
    → IfSome new (λ content. content ≡ bytes_under rows n)
told_by n rows old new (inl none) is = subst (λ c. IfSome c (λ content. content ≡ bytes_under rows
    n)) (sym none) tt
told_by n rows None new (inr same) is = subst (λ c. IfSome c (λ content. content ≡ bytes_under rows
    n)) (sym same) tt
told_by n rows (Some x) new (inr same) is = subst (λ c. IfSome c (λ content. content ≡ bytes_under
    rows n)) (sym same) is

-- a keeper that changed no row holds what it held
pub lists_still : (rows : List StoredRow) (old new : List ℕ → Cell) → Follows unchanged old new
    → Lists old rows → Lists new rows
lists_still rows old new same lists = record {
  rise = lists.rise;
  each = λ n. told_by n rows (old n)
      (new n) (same n) (lists.each n);
}

-- a keeper that was not called changed none
still_at : (n : List ℕ) (c : Cell) → (c ≡ None) ⊎ (c ≡ option_map (unchanged n) c)
still_at n None = inl refl
still_at n (Some content) = inr refl

pub still : (cell : List ℕ → Cell) → Follows unchanged cell cell
still cell n = still_at n (cell n)

module _ (last items wanted rows : List StoredRow) (before after : Store) (is : items ≡ wanted)
    (opened : after.opened ≡ before.opened) where
  abbrev Was : Stock
  Was = record { store = before; rows = Some last }

  abbrev Now : Stock
  Now = record { store = after; rows = Some rows }

  pub saved_at : rows ≡ items → Follows (replaced (gone_from last items) (set_from last items))
      before.cell after.cell → (Lists before.cell last → Lists after.cell rows)
      → after.count ≡ before.count → (last ≡ items → after ≡ before) → HasSaved last wanted Was Now
  saved_at got told kept count same = record {
    rows = ap Some (got ∙ is);
    saves = record {
      changed = subst (λ w. Follows (replaced (gone_from last w) (set_from last w))
          before.cell after.cell) is told;
      holds = λ lists. subst (Lists after.cell) (got ∙ is) (kept
          lists);
    };
    opened = opened;
    count = count;
    same = λ e. same (e ∙ sym is);
  }

  pub failed_at : rows ≡ last → Follows unchanged before.cell after.cell → (last ≡ items → ⊥)
      → before.count ≤ after.count → Rose before.count after.count
      → after.count ≤ before.count + 1 → HasFailed last wanted Was Now
  failed_at got told differ later rose once = record {
    differ = λ e. differ (e ∙ sym is);
    rows = ap Some got;
    told = told;
    opened = opened;
    later = later;
    rose = rose;
    once = once;
  }

pub unsaved_at : (last rows : List StoredRow) (before after : Store) → rows ≡ last
    → Follows unchanged before.cell after.cell → after.opened ≡ before.opened
    → after.count ≡ before.count → IsUnsaved NotSaved (record { store = before; rows = Some last })
    (record { store = after; rows = Some rows })
unsaved_at last rows before after got told opened count = record {
  none = refl;
  rows = ap Some got;
  told = told;
  opened = opened;
  count = count;
}

-- the rows of a build were kept, or the keeper was not called
pub keeps_as : {X : Type 0} (last : Option (List StoredRow)) (wanted : List StoredRow) (k : Saved)
    (before after : Stock) → KeepsOver last wanted k before after → (IsUncalled k before after → X)
    → ((rows : List StoredRow) → last ≡ Some rows → SavesAs k rows wanted before after → X) → X
keeps_as None wanted k before after keeps uncalled saved = uncalled keeps
keeps_as (Some rows) wanted k before after keeps uncalled saved = saved rows refl keeps

-- what the keeper holds then
listed_by : (k : Saved) (rows wanted : List StoredRow) (before after : Stock)
    → before.rows ≡ Some rows → Lists before.store.cell rows → SavesAs k rows wanted before after
    → IsListed after
listed_by NotSaved rows wanted before after is lists s = absurd s
listed_by IsSaved rows wanted before after is lists s = subst (λ r. IfSome r (Lists
    after.store.cell)) (sym s.rows) (s.saves.holds lists)
listed_by SaveFailed rows wanted before after is lists s = subst (λ r. IfSome r (Lists
    after.store.cell)) (sym (s.rows ∙ is)) (lists_still rows before.store.cell after.store.cell
    s.told lists)

pub listed_on : (wanted : List StoredRow) (k : Saved) (before after : Stock)
    → IsListed before → KeepsOver before.rows wanted k before after → IsListed after
listed_on wanted k before after listed keeps = keeps_as before.rows wanted k before after keeps
    (λ u. subst IsListed (sym u.1) listed) (λ rows is s. listed_by k rows wanted before after is
    (subst (λ r. IfSome r (Lists before.store.cell)) is listed) s)

-- the rows kept last then
module _ {T : Type 0} (dirs : List (List ℕ)) (limits : Limits) (e : Compiled T) (kept : Option
    (Compiled T)) (first : Option (List StoredRow)) (before after : Stock) (was : before.rows ≡
    rows_behind dirs limits kept first) where
  rows_by_case : (k : Saved) (rows : List StoredRow) → SavesAs k rows (rows_by dirs limits e) before
      after → after.rows ≡ rows_behind dirs limits (kept_after k e kept) first
  rows_by_case NotSaved rows s = absurd s
  rows_by_case IsSaved rows s = s.rows
  rows_by_case SaveFailed rows s = s.rows ∙ was

  pub rows_on : (k : Saved) → KeepsOver before.rows (rows_by dirs limits e) k
      before after → after.rows ≡ rows_behind dirs limits (kept_after k e kept) first
  rows_on k keeps = keeps_as before.rows (rows_by dirs limits e) k before after keeps (λ u. ap
      (λ (s : Stock). s.rows) u.1 ∙ was ∙ ap (λ x. rows_behind dirs limits (kept_after x e kept)
      first) (sym u.0)) (λ rows is s. rows_by_case k rows s)

-- how often the keeper failed then
later_by : (k : Saved) (rows wanted : List StoredRow) (before after : Stock)
    → SavesAs k rows wanted before after → before.store.count ≤ after.store.count
later_by NotSaved rows wanted before after s = absurd s
later_by IsSaved rows wanted before after s = let same = s.count in omega (arith, same)
later_by SaveFailed rows wanted before after s = s.later

rose_by : (k : Saved) (rows wanted : List StoredRow) (before after : Stock)
    → SavesAs k rows wanted before after → AtMost (save_failures k) before.store.count
    after.store.count
rose_by NotSaved rows wanted before after s = absurd s
rose_by IsSaved rows wanted before after s = let same = s.count in omega (arith, same)
rose_by SaveFailed rows wanted before after s = s.rose

most_by : (k : Saved) (rows wanted : List StoredRow) (before after : Stock)
    → SavesAs k rows wanted before after → after.store.count ≤ before.store.count + save_failures k
most_by NotSaved rows wanted before after s = absurd s
most_by IsSaved rows wanted before after s = let same = s.count in omega (arith, same)
most_by SaveFailed rows wanted before after s = s.once

opened_by : (k : Saved) (rows wanted : List StoredRow) (before after : Stock)
    → SavesAs k rows wanted before after → after.store.opened ≡ before.store.opened
opened_by NotSaved rows wanted before after s = absurd s
opened_by IsSaved rows wanted before after s = s.opened
opened_by SaveFailed rows wanted before after s = s.opened

module _ (wanted : List StoredRow) (k : Saved) (before after : Stock) (keeps :
    KeepsOver before.rows wanted k before after) where
  same_count : IsUncalled k before after → after.store.count ≡ before.store.count
  same_count u = ap (λ (s : Stock). s.store.count) u.1

  pub later_on : before.store.count ≤ after.store.count
  later_on = keeps_as before.rows wanted k before after keeps (λ u. let same = same_count u in
      omega (arith, same)) (λ rows is s. later_by k rows wanted before after s)

  pub rose_on : AtMost (save_failures k) before.store.count after.store.count
  rose_on = keeps_as before.rows wanted k before after keeps (λ u. let same = same_count u in
      subst (λ x. AtMost (save_failures x) before.store.count after.store.count) (sym u.0) (omega
      (arith, same))) (λ rows is s. rose_by k rows wanted before after s)

  pub most_on : after.store.count ≤ before.store.count + save_failures k
  most_on = keeps_as before.rows wanted k before after keeps (λ u. let same = same_count u in
      omega (arith, same)) (λ rows is s. most_by k rows wanted before after s)

  pub opened_on : after.store.opened ≡ before.store.opened
  opened_on = keeps_as before.rows wanted k before after keeps (λ u. ap (λ (s : Stock).
      s.store.opened) u.1) (λ rows is s. opened_by k rows wanted before after s)

-- what was kept last is sound then
pub sound_on : {T : Type 0} (means : Meanings T) (dirs : List (List ℕ)) (limits : Limits) (k :
    Saved) (e : Compiled T) (kept : Option (Compiled T))
    → ∥ IsSoundKept means (kept_by dirs limits e) ∥₁ → KeptSoundly means dirs limits kept
    → KeptSoundly means dirs limits (kept_after k e kept)
sound_on means dirs limits NotSaved e kept sound was = was
sound_on means dirs limits IsSaved e kept sound was = sound
sound_on means dirs limits SaveFailed e kept sound was = was

-- where rows are kept behind a line they were kept before it, and the keeper is as open as it was
pub may_keep_on : {K : Type 0} (Q : keeper.Ghosts K) (before after : Carried K) → MayKeep Q before
    → LeavesUnkept before after → Q.opened after.keeper ≡ Q.opened before.keeper → MayKeep Q after
may_keep_on {K} Q before after may_keep unkept same =
    by (option_map vec_items before.rows) (option_map vec_items after.rows) refl refl may_keep
  where
    by : (was now : Option (List StoredRow)) → option_map vec_items before.rows ≡ was
        → option_map vec_items after.rows ≡ now → IfSome was (λ rows. IsSome (Q.opened
        before.keeper)) → IfSome now (λ rows. IsSome (Q.opened after.keeper))
    by was None is is_now may = tt
    by (Some rows) (Some later) is is_now may = subst IsSome (sym same) may
    by None (Some later) is is_now may = let none = (unkept is).1 in cc
