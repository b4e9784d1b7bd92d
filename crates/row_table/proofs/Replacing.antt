-- The changes as one transaction.
use Rattle.std.proofs.Common.{◌≡◌, true, false, IsTrue, refl, sym, ap, subst, ◌∙◌, arith}
use Rattle.sqlite_trees.specs.declared.store.Store.{Ghosts}
use Rattle.sqlite_trees.specs.Tree.{Trees}
use Rattle.sqlite.specs.Effect.{Database, IsDatabase}
use Rattle.sqlite.specs.State.{State, HasCleanDisk, Survives, Shows, IsLive, IsUnchanged}
use Rattle.sqlite.specs.Held.{Held, state}
use Rattle.sqlite.proofs.StateLemmas.{survives_then}
use Rattle.sqlite.proofs.Callers.{survives_begin}
use Rattle.keepers.specs.Keeping.{Change}
use Rattle.row_table.specs.Table.{row_schema}
use Rattle.row_table.specs.Rows.{held, rows_in, AreNumbered}
use Rattle.row_table.specs.Cells.{Turns}
use Rattle.row_table.proofs.Turning.{rows_is}
use Rattle.row_table.specs.Steps.{IsReady, Makes, IsStep, IsOurs, Holds}

module _ {S : Type 0} (g : Ghosts S) (f : Change) (h : Held S) (mid end : State)
    (ours : IsOurs (state g h)) (step : IsStep (state g (record h { in_transaction = true })) mid)
  where
    early : HasCleanDisk mid → HasCleanDisk (state g h)
    early clean = let less = step.survives.clean in omega (arith, clean, less)

    ready : HasCleanDisk mid → IsReady (state g (record h { in_transaction = true }))
    ready clean = let whole = ours (early clean) in
        record {
          schema = whole.schema;
          sound = whole.sound;
          inside = refl;
          numbered =
              whole.numbered;
        }

    made_holds : Makes f (state g (record h { in_transaction = true })) mid → HasCleanDisk mid
        → (trees : Trees) → trees ≡ mid.now.trees → Holds f (state g h) trees
    made_holds made clean trees is =
        let whole = ours (early clean) in
        let edit = made clean (ready clean) in
        record {
          db = mid.now;
          is = is;
          sound = edit.ready.sound;
          schema = edit.ready.schema;
          rows = λ n. ap (λ l. held l n) (rows_is mid.now edit.ready.schema) ∙ edit.rows n
              ∙ ap (λ l. f n (held l n)) (sym (rows_is (state g h).now whole.schema));
        }

    pub committed_holds : Makes f (state g (record h { in_transaction = true })) mid
        → Survives mid end (λ db. db ≡ mid.now.trees)
        → (HasCleanDisk end → Shows mid end mid.now mid.now false) → HasCleanDisk end
        → Holds f (state g h) end.now.trees
    committed_holds made last shown clean =
        let before : HasCleanDisk mid = let less = last.clean in omega (arith, clean, less) in
        made_holds made before end.now.trees (ap (λ (d : Database). d.trees) (shown clean).now_is)

    pub committed_survives : Makes f (state g (record h { in_transaction = true })) mid
        → Survives mid end (λ db. db ≡ mid.now.trees)
        → Survives (state g h) end (Holds f (state g h))
    committed_survives made last =
        survives_then (state g h) mid end (λ _. ⊥) (λ db. db ≡ mid.now.trees) (Holds f (state g h))
        (λ _ db none. absurd none)
        (λ clean db is. made_holds made (let less = last.clean in omega (arith, clean, less)) db is)
        (survives_begin g h mid (λ _. ⊥) step.survives) last

    pub committed_turns : Makes f (state g (record h { in_transaction = true })) mid
        → Survives mid end (λ db. db ≡ mid.now.trees)
        → (HasCleanDisk end → Shows mid end mid.now mid.now false) → Turns f (state g h) end
    committed_turns made last shown clean is =
        let before : HasCleanDisk mid = let less = last.clean in omega (arith, clean, less) in
        let whole = ours (early before) in
        let edit = made before (ready before) in
        let now = (shown clean).now_is in (
          whole.is_open,
          λ n.
              ap (λ l. held l n) (rows_is end.now (ap (λ (d : Database). d.schema) now
              ∙ edit.ready.schema)) ∙ ap (λ (d : Database). held (d.trees 0) n) now ∙ edit.rows n
              ∙ ap (λ l. f n (held l n)) (sym (rows_is (state g h).now whole.schema)),
        )

-- a whole connection is whole after a query
pub ours_after : (old mid : State) → old.now.schema ≡ row_schema → IsLive old
    → (IsTrue old.is_open → old.now ≡ old.committed) → (HasCleanDisk mid → IsUnchanged old mid)
    → (HasCleanDisk mid → AreNumbered (old.now.trees 0)) → IsOurs mid
ours_after old mid has live settled same numbered clean =
    let shown = (same clean).0 in
    record {
      is_open = shown.is_open;
      schema = ap (λ (d : Database). d.schema) shown.now_is ∙ has;
      sound = subst IsDatabase (sym shown.now_is) (live shown.was_open).0;
      numbered = subst (λ (d : Database). AreNumbered (d.trees 0)) (sym shown.now_is)
          (numbered clean);
      settled = shown.now_is ∙ settled shown.was_open ∙ sym shown.committed_is;
    }

-- what holds of the rows of a connection after a query holds of them before
holds_before : (f : Change) (old mid : State) (trees : Trees) → mid.now ≡ old.now
    → Holds f mid trees → Holds f old trees
holds_before f old mid trees same h =
    record {
      db = h.db;
      is = h.is;
      sound = h.sound;
      schema = h.schema;
      rows =
          λ n. h.rows n ∙ ap (λ (d : Database). f n (held (rows_in d) n)) same;
    }

pub replaced_after : (f : Change) (old mid new : State) → (HasCleanDisk mid → IsUnchanged old mid)
    → Survives mid new (Holds f mid) → (HasCleanDisk new → Holds f mid new.now.trees)
    → HasCleanDisk new → Holds f old new.now.trees
replaced_after f old mid new same last holds clean =
    let before : HasCleanDisk mid = let less = last.clean in omega (arith, clean, less) in
    holds_before f old mid new.now.trees (same before).0.now_is (holds clean)

pub survives_after : (f : Change) (old mid new : State) → (HasCleanDisk mid → IsUnchanged old mid)
    → Survives old mid (λ _. ⊥) → Survives mid new (Holds f mid) → Survives old new (Holds f old)
survives_after f old mid new same one two =
    survives_then old mid new (λ _. ⊥) (Holds f mid) (Holds f old) (λ _ db none. absurd none)
    (λ clean db h. holds_before f old mid db (same
    (let less = two.clean in omega (arith, clean, less))).0.now_is h) one two
