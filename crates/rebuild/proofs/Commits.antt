-- The data and the index after a Take.
use Rattle.std.proofs.Common.{◌≡◌, ◌++◌, ℕ, List, [], ◌∷◌, Bool, true, cond, nat_eq, length, map, take, Result, Ok, Err, OnErr, refl, ap, ◌∙◌, subst}
use Rattle.std.proofs.Math.Seq.{take-append_seam}
use Rattle.load_path.specs.declared.picture.PictureFile.{PictureFile}
use Rattle.load_path.specs.Pictures.{is_rising}
use Rattle.object_names.specs.Objects.{are_rising}
use Rattle.questions.specs.declared.key.Key.{Key}
use Rattle.read_index.specs.Reached.{AreReaching}
use Rattle.engine_laws.specs.Names.{Name}
use Rattle.engine_laws.specs.Engine.{touched_by}
use Rattle.engine_turns.specs.declared.core_data.Core.{Core}
use Rattle.engine_turns.specs.declared.rows.FileRow.{FileRow}
use Rattle.engine_turns.specs.declared.rows.Row.{Row}
use Rattle.engine_turns.specs.Entering.{IsEntered}
use Rattle.engine_turns.specs.Places.{column, names, file_names}
use Rattle.engine_turns.specs.Ready.{IsReady}
use Rattle.engine_turns.specs.States.{picture_of, file_number}
use Rattle.rebuild.specs.Engines.{situation_of, turns_left_of}
use Rattle.rebuild.specs.Keeping.{kept_entries}
use Rattle.rebuild.specs.Reaching.{Asking, AreIndexed, noted_rows, cleared, missing, moved_keys, IsTouched}
use Rattle.rebuild.specs.Renewing.{taken_rows, IsTaken}
use Rattle.rebuild.specs.Taking.{new_row, numbered}
use Rattle.rebuild.proofs.Indexing.{all_moved, flags_made, index_made}
use Rattle.rebuild.proofs.Taken.{IsMade, IsCommitted, core_taken, rising_numbered}

names_fresh : (T : Type 0) (objects : List Name) → names {T = T} (map new_row objects) ≡ objects
names_fresh T [] = refl
names_fresh T (o ∷ objects) = ap (λ l. o ∷ l) (names_fresh T objects)

-- the names of fresh rows
pub fresh_names : {T : Type 0} (rows fresh : List (Row T)) (objects : List Name) → rows ≡ fresh
    → fresh ≡ map new_row objects → names rows ≡ objects
fresh_names {T} rows fresh objects same is = ap names (same ∙ is) ∙ names_fresh T objects

-- of a refusal, whatever it is
pub on_err : {A E P : Type 0} (r : Result A E) → P → OnErr r P
on_err (Ok a) p = tt
on_err (Err e) p = p

-- what the code makes of the rows
pub made_of : {T : Type 0} (settled : Bool) (objects reached : List Name)
    (rows fresh touched new : List (Row T)) (entries : List (Key × ℕ)) → fresh
    ≡ taken_rows settled rows objects → IsTouched reached fresh touched → entries
    ≡ kept_entries rows objects → IsEntered entries touched new
    → IsMade settled objects reached rows new
made_of settled objects reached rows fresh touched new entries is touches are enters = record {
  touched = touched;
  touches = subst (λ l. IsTouched reached l touched) is touches;
  enters = subst (λ l. IsEntered l touched new) are enters;
}

-- the steps of a Take that changed the data and the index
pub record IsDone {T : Type 0} (files : List PictureFile) (objects : List Name) (c new : Core T)
    (old asks' : Asking) : Type 0 where
  pub settled : Bool
  pub is_settled : settled ≡ nat_eq (turns_left_of c) 0
  pub asks : Asking
  pub brought : (r k : Key) → asks r k ≡ cond settled (noted_rows c.rows.items old r k) (old r k)
  pub moved : List Key
  pub moved_are : moved ≡ missing (names c.rows.items) objects
      ++ moved_keys settled c objects (numbered c.files.items c.counter files)
  pub reached : List Name
  pub reaches : AreReaching asks moved reached
  pub clears : (r k : Key) → asks' r k ≡ cleared
      (take (length (missing (names c.rows.items) objects)) moved) asks r k
  pub made : IsMade settled objects reached c.rows.items new.rows.items
  pub committed : IsCommitted files c new

module _ {T : Type 0} (files : List PictureFile) (objects : List Name) (c new : Core T)
    (old asks' : Asking) (ready : IsReady c) (in_order : is_rising files ≡ true)
    (once : are_rising objects ≡ true) (d : IsDone files objects c new old asks') where
  abbrev fs : List FileRow
  fs = numbered c.files.items c.counter files

  rise : are_rising (file_names fs) ≡ true
  rise = rising_numbered c.files.items c.counter files in_order

  reaching : AreReaching d.asks (all_moved c ready fs rise objects d.settled d.is_settled) d.reached
  reaching = subst (λ l. AreReaching d.asks l d.reached) d.moved_are d.reaches

  flags : AreIndexed old (situation_of c) → (p : Name)
      → column (λ r. r.touched) true new.rows.items p
      ≡ touched_by (situation_of c) (picture_of fs objects) (file_number fs) p
  flags indexed = flags_made c ready fs rise objects d.settled d.is_settled old d.asks indexed
      d.brought d.reached reaching new d.made

  pub done_taken : IsTaken old files objects c new
  done_taken = core_taken c new files d.settled objects d.reached d.made d.committed old ready
      in_order once flags

  gone : take (length (missing (names c.rows.items) objects)) d.moved
      ≡ missing (names c.rows.items) objects
  gone = ap (take (length (missing (names c.rows.items) objects))) d.moved_are
      ∙ take-append_seam (missing (names c.rows.items) objects) _

  pub done_indexed : AreIndexed old (situation_of c) → AreIndexed asks' (situation_of new)
  done_indexed indexed = index_made c ready fs rise objects d.settled d.is_settled old d.asks
      indexed d.brought d.reached reaching new d.made files done_taken refl asks'
      (λ r k. d.clears r k ∙ ap (λ l. cleared l d.asks r k) gone)
