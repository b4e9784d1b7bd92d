-- The table as it is made.
use Rattle.std.proofs.Common.{◌≡◌, ℕ, [], false, true, None, Ok, Err, Result, OnOk, IsTrue, refl, sym, ap, subst, ◌∙◌, arith}
use Rattle.sqlite_trees.specs.declared.store.Store.{Ghosts}
use Rattle.sqlite.specs.Command.TheVariants.{CreateTable}
use Rattle.sqlite.specs.Change.{created, next_tree}
use Rattle.sqlite.specs.Does.{Tally, lacks_sequence}
use Rattle.sqlite_tied.specs.Compute.{everything}
use Rattle.sqlite.specs.declared.error.Error.{Error}
use Rattle.sqlite.specs.Listing.{understood}
use Rattle.sqlite.specs.Effect.{Database, IsDatabase}
use Rattle.sqlite.specs.State.{State, HasCleanDisk, Survives, Shows, Writes, Executes, ExecutesInside}
use Rattle.sqlite.specs.Held.{Held, state}
use Rattle.sqlite.proofs.StateLemmas.{survives_then}
use Rattle.sqlite.proofs.Callers.{IsPlain, runs_as, survives_begin}
use Rattle.row_table.specs.Table.{row_table, row_schema, no_schema}
use Rattle.row_table.specs.Rows.{AreNumbered, held}
use Rattle.row_table.specs.Cells.{Turns}
use Rattle.row_table.proofs.Turning.{rows_is, none_in}
use Rattle.keepers.specs.Keeping.{unchanged}
use Rattle.row_table.specs.Steps.{IsStep, IsBare, IsNew, IsMade, Holds}
use Rattle.row_table.proofs.Texts.{make_text, make_is, made_is}
use Rattle.row_table.proofs.Writings.{went, same_value}

make_plain : IsPlain (understood no_schema make_text)
unfolding understood everything
make_plain = (refl, refl)

pub makes : (old new : State) (count : ℕ) → old.now.schema ≡ no_schema
    → Executes make_text [] old new (Ok count) → IsMade new.now × IsDatabase new.now
makes old new count has h =
    let w = subst (λ t. Writes old new None CreateTable t [] count) make_is.1
    (runs_as make_text [] old new no_schema has CreateTable make_is.0 make_plain count h) in
    let all = went w.changed in
    let first = went all.1 in
    let made = first.1 in
    let both : Ok made.table ≡ Ok row_table = sym made.defined ∙ make_is.2 in
    let same : made.table ≡ row_table = cc in
    let schema : first.0.schema ≡ row_schema =
    made.is ∙ ap (λ s. created s made.table) has ∙ ap (created no_schema) same ∙ made_is in
    let plain : lacks_sequence first.0.schema ≡ false = ap lacks_sequence schema in
    let now : new.now ≡ first.0 =
    ap (λ (p : Tally × Database). p.1) (same_value all.2) ∙ same_value (rw plain at first.2) in (
      record {
        schema = ap (λ (d : Database). d.schema) now ∙ schema;
        none = ap (λ (d : Database). d.trees 0) now ∙ subst (λ s. first.0.trees (next_tree s) ≡ [])
            has made.empty;
      },
      w.sound,
    )

pub none_numbered : AreNumbered []
none_numbered = record { ints = tt; once = λ id. omega arith }

pub makes_if : (old new : State) (r : Result ℕ Error)
    → (HasCleanDisk new → IsTrue old.in_transaction → ExecutesInside 0 make_text [] old new r)
    → OnOk r (HasCleanDisk new → IsBare old → IsNew new)
makes_if old new (Err e) runs = tt
makes_if old new (Ok count) runs = λ clean bare.
    let h = runs clean bare.inside in
    let made = makes old new count bare.schema h.0 in
    record {
      ready = record {
        schema = made.0.schema;
        sound = made.1;
        inside = h.1.mode;
        numbered =
            subst AreNumbered (sym made.0.none) none_numbered;
      };
      none = made.0.none;
    }

module _ {S : Type 0} (g : Ghosts S) (h : Held S) (mid end : State)
    (bare : (state g h).now.schema ≡ no_schema) (step : IsStep
    (state g (record h { in_transaction = true })) mid)
    (made : HasCleanDisk mid → IsBare (state g (record h { in_transaction = true })) → IsNew mid)
  where
    new_is : HasCleanDisk mid → IsNew mid
    new_is clean = made clean (record { schema = bare; inside = refl })

    pub table_made : Survives mid end (λ db. db ≡ mid.now.trees)
        → (HasCleanDisk end → Shows mid end mid.now mid.now false) → HasCleanDisk end
        → IsMade end.now
    table_made last shown clean =
        let before : HasCleanDisk mid = let less = last.clean in omega (arith, clean, less) in
        let new = new_is before in
        subst IsMade (sym (shown clean).now_is) (record
        { schema = new.ready.schema; none = new.none })

    pub table_survives : Survives mid end (λ db. db ≡ mid.now.trees)
        → Survives (state g h) end (Holds unchanged (state g h))
    table_survives last =
        survives_then (state g h) mid end (λ _. ⊥) (λ db. db ≡ mid.now.trees)
        (Holds unchanged (state g h)) (λ _ db none. absurd none)
        (λ clean db is. let new = new_is (let less = last.clean in omega (arith, clean, less)) in
        record {
          db = mid.now;
          is = is;
          sound = new.ready.sound;
          schema = new.ready.schema;
          rows = λ n. ap (λ l. held l n) (rows_is mid.now new.ready.schema ∙ new.none
              ∙ sym (none_in (state g h).now bare));
        })
        (survives_begin g h mid (λ _. ⊥) step.survives) last

    pub table_turns : Survives mid end (λ db. db ≡ mid.now.trees)
        → (HasCleanDisk end → Shows mid end mid.now mid.now false) → Turns unchanged (state g h) end
    table_turns last shown clean is =
        let before : HasCleanDisk mid = let less = last.clean in omega (arith, clean, less) in
        let made = table_made last shown clean in (
          (step.kept before).was_open (shown clean).was_open,
          λ n. ap (λ l. held l n)
              (rows_is end.now made.schema ∙ made.none ∙ sym (none_in (state g h).now bare)),
        )
