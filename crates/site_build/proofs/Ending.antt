-- Ends of a build.
use Rattle.std.proofs.Common.{◌≡◌, ℕ, List, [], Option, Some, None, false, refl, sym, ap, subst, ◌∙◌, ◌⊎◌, inl, inr, Bool, append-nil, IfErr, OnErr, IfSome, arith}
use Rattle.std.specs.Prelude.{Result, Ok, Err, IfOk, OnOk, bytes_eq}
use Rattle.std.proofs.lemmas.Result.{IfErr-weaker}
use Rattle.outside.specs.Cells.{Cell, AreSame}
use Rattle.outside.specs.Causes.{Caused}
use Rattle.outside.specs.Contents.{Appends, AppendsPart}
use Rattle.outside.specs.declared.source.MemFile.{MemFile}
use Rattle.publication.specs.Leavings.{Leaves}
use Rattle.publication.specs.OwnNames.{is_file_of, is_own}
use Rattle.publication.specs.Bounds.{answer_over, granted, shelf_of}
use Rattle.publication.specs.Stands.{Stand, Stands, Meets}
use Rattle.publication.specs.declared.answer.Publication.{Publication}
use Rattle.publication.specs.declared.want.Want.{Want}
use Rattle.session.specs.Sessions.{end_line}
use Rattle.session.specs.declared.Ended.{Ended}
use Rattle.site_build.specs.declared.ends.Device.{Device}
use Rattle.site_build.specs.declared.ends.Device.TheVariants as D
use Rattle.site_build.specs.declared.ends.End.{End}
use Rattle.site_build.specs.declared.ends.End.TheVariants as E
use Rattle.site_build.specs.Ends.{IsEndOf, IsFailureOf, IsRoundEnd, OfName, OfSink, OfSource, Stopped}
use Rattle.site_build.specs.Session.{Session, Finished, WritesEarly, ended_behind, line_alone, session_over, text_behind}
use Rattle.site_build.specs.Rounds.{given_by, session_at}
use Rattle.site_build.specs.declared.building.Reached.{Reached}
use Rattle.site_build.specs.declared.building.Reached.TheVariants as reached
use Rattle.engine_session.specs.Compiler.{compiler}
use Rattle.engine_session.specs.Standing.{Gives, compiled_in}
use Rattle.engine_session.specs.declared.building.Built.{Built}
use Rattle.engine_turns.specs.declared.core_data.Core.{Core}
use Rattle.rebuild.specs.Engines.{Meanings}
use Rattle.publication.specs.Wants.{wants_of}
use Rattle.session.specs.Sessions.{answers_in, ended_by, profiles_of}
use Rattle.session.specs.Texts.{report}

-- nothing is a first part of every text
pub none_of : (text : List ℕ) (held : Option (List ℕ)) → AppendsPart held text held
none_of text None = (0, refl)
none_of text (Some bytes) = (0, ap (λ b. Some b) (sym (append-nil bytes)))

-- a publication that ended early wrote nothing
pub quiet : (text : List ℕ) (held : Option (List ℕ)) (e : End) → IsEndOf OfName e
    → WritesEarly text e held held
quiet text held E.Source kind = cc
quiet text held E.Shelf kind = cc
quiet text held (E.Publishing m) kind = refl
quiet text held E.Out kind = cc
quiet text held E.Memory kind = none_of text held

-- nothing was written
pub early_none : (text : List ℕ) (held : Option (List ℕ)) (e : End) → WritesEarly text e held held
early_none text held E.Source = refl
early_none text held E.Shelf = refl
early_none text held (E.Publishing m) = refl
early_none text held E.Out = none_of text held
early_none text held E.Memory = none_of text held

early_none_at : (told : Option (List (List MemFile))) (F : List (List MemFile) → Session)
    (held : Option (List ℕ)) (e : End) → IfSome told (λ ps. WritesEarly (F ps).text e held held)
early_none_at None F held e = tt
early_none_at (Some ps) F held e = early_none (F ps).text held e

pub unwritten : {T : Type 0} (r : Result T End) (text : List ℕ) (held : Option (List ℕ))
    → IfErr r (λ e. WritesEarly text e held held)
unwritten (Ok x) text held = tt
unwritten (Err e) text held = early_none text held e

pub unwritten_at : {T : Type 0} (r : Result T End) (told : Option (List (List MemFile)))
    (F : List (List MemFile) → Session) (held : Option (List ℕ))
    → IfErr r (λ e. IfSome told (λ ps. WritesEarly (F ps).text e held held))
unwritten_at (Ok x) told F held = tt
unwritten_at (Err e) told F held = early_none_at told F held e

-- a text that could not be written whole
early_part : (text : List ℕ) (old new : Option (List ℕ)) (e : End) → IsEndOf OfSink e
    → AppendsPart old text new → WritesEarly text e old new
early_part text old new E.Source kind part = cc
early_part text old new E.Shelf kind part = cc
early_part text old new (E.Publishing m) kind part = cc
early_part text old new E.Out kind part = part
early_part text old new E.Memory kind part = part

-- where only the text could not be written, the publication was done
pub done_stopped : (e : End) (o : Option (List Want)) (old new : List ℕ → Cell) → IsEndOf OfSink e
    → Stands (shelf_of o) old new → Stopped e (shelf_of o) old new
done_stopped E.Source o old new kind done = cc
done_stopped E.Shelf o old new kind done = cc
done_stopped (E.Publishing m) o old new kind done = cc
done_stopped E.Out o old new kind done = done
done_stopped E.Memory o old new kind done =
    ([], record { others = λ n other. others o n other (done n); own = λ n closed. inr (done n) })
  where
    others : (o : Option (List Want)) (n : List ℕ) → is_own n ≡ false
        → Meets (shelf_of o n) (old n) (new n) → new n ≡ old n
    others None n other meets = meets
    others (Some ws) n other meets = rw other at meets

-- what an end left behind of a shelf that had not changed before
meets_from : (s : Stand) (old mid new : Cell) → mid ≡ old → Meets s mid new → Meets s old new
meets_from s old mid new same m = subst (λ c. Meets s c new) same m

leaves_from : (is_open : List ℕ → Bool) (shelf : List ℕ → Stand) (old mid new : List ℕ → Cell)
    → AreSame old mid → Leaves is_open shelf mid new → Leaves is_open shelf old new
leaves_from is_open shelf old mid new same l = record {
  others = λ n other. l.others n other ∙ same n;
  own = λ n closed. elim (l.own n closed) as (λ _. (new n ≡ old n)
      ⊎ Meets (shelf n) (old n) (new n)) [
        | inl s ↦ inl (s ∙ same n)
        | inr m ↦ inr
            (meets_from (shelf n) (old n) (mid n) (new n) (same n) m)
      ];
}

pub stopped_from : (e : End) (shelf : List ℕ → Stand) (old mid new : List ℕ → Cell)
    → AreSame old mid → Stopped e shelf mid new → Stopped e shelf old new
stopped_from E.Source shelf old mid new same stopped = λ n. stopped n ∙ same n
stopped_from E.Shelf shelf old mid new same stopped = λ n. stopped n ∙ same n
stopped_from (E.Publishing m) shelf old mid new same stopped =
    leaves_from (is_file_of m) shelf old mid new same stopped
stopped_from E.Out shelf old mid new same stopped =
    λ n. meets_from (shelf n) (old n) (mid n) (new n) (same n) (stopped n)
stopped_from E.Memory shelf old mid new same stopped =
    (stopped.0, leaves_from (bytes_eq stopped.0) shelf old mid new same stopped.1)

pub finished_from : (s : Session) (how : Ended) (text_old text_new : Option (List ℕ))
    (old mid new : List ℕ → Cell) → AreSame old mid → Finished s how text_old text_new mid new
    → Finished s how text_old text_new old new
finished_from s how text_old text_new old mid new same f =
    record {
      ended = f.ended;
      text = f.text;
      shelf =
          λ n. meets_from (s.shelf n) (old n) (mid n) (new n) (same n) (f.shelf n);
    }

-- a scan or a start that failed touched no name
pub stopped_none : (e : End) (shelf : List ℕ → Stand) (old : List ℕ → Cell) → IsEndOf OfSource e
    → Stopped e shelf old old
stopped_none E.Source shelf old kind = λ n. refl
stopped_none E.Shelf shelf old kind = cc
stopped_none (E.Publishing m) shelf old kind = cc
stopped_none E.Out shelf old kind = cc
stopped_none E.Memory shelf old kind =
    ([], record { others = λ n other. refl; own = λ n closed. inl refl })

stopped_none_at : (told : Option (List (List MemFile))) (F : List (List MemFile) → Session)
    (e : End) (old : List ℕ → Cell) → IsEndOf OfSource e
    → IfSome told (λ ps. Stopped e (F ps).shelf old old)
stopped_none_at None F e old kind = tt
stopped_none_at (Some ps) F e old kind = stopped_none e (F ps).shelf old kind

pub source_stopped : {T : Type 0} (r : Result T End) (told : Option (List (List MemFile)))
    (F : List (List MemFile) → Session) (old : List ℕ → Cell) → IfErr r (IsEndOf OfSource)
    → IfErr r (λ e. IfSome told (λ ps. Stopped e (F ps).shelf old old))
source_stopped (Ok x) told F old kind = tt
source_stopped (Err e) told F old kind = stopped_none_at told F e old kind

-- no call of a device failed, and its count stood still
uncaused : {T : Type 0} (device : Device) (r : Result T End) (before now : ℕ) → now ≡ before
    → IfErr r (λ e. IsFailureOf device e → ⊥) → Caused (IsFailureOf device) before now r
uncaused device (Ok x) before now same never =
    record {
      later = omega (arith, same);
      rose = tt;
      once = omega (arith, same);
      kept = tt;
      done =
          same;
    }
uncaused device (Err e) before now same never =
    record {
      later = omega (arith, same);
      rose = λ is. absurd (never is);
      once =
          omega (arith, same);
      kept = λ other. same;
      done = tt;
    }

not_shelf : (e : End) → IsEndOf OfSource e → IsFailureOf D.Shelf e → ⊥
not_shelf E.Source kind is = cc
not_shelf E.Shelf kind is = cc
not_shelf (E.Publishing m) kind is = cc
not_shelf E.Out kind is = cc
not_shelf E.Memory kind is = cc

pub uncaused_shelf : {T : Type 0} (r : Result T End) (n : ℕ) → IfErr r (IsEndOf OfSource)
    → Caused (IsFailureOf D.Shelf) n n r
uncaused_shelf r n kind =
    uncaused D.Shelf r n n refl (IfErr-weaker r (IsEndOf OfSource) (λ e. IsFailureOf D.Shelf e → ⊥)
    not_shelf kind)

pub not_out : (e : End) → IsEndOf OfSource e → IsFailureOf D.Out e → ⊥
not_out E.Source kind is = cc
not_out E.Shelf kind is = cc
not_out (E.Publishing m) kind is = cc
not_out E.Out kind is = cc
not_out E.Memory kind is = cc

pub uncaused_out : {T : Type 0} (r : Result T End) (n : ℕ) → IfErr r (IsEndOf OfSource)
    → Caused (IsFailureOf D.Out) n n r
uncaused_out r n kind = uncaused D.Out r n n refl
    (IfErr-weaker r (IsEndOf OfSource) (λ e. IsFailureOf D.Out e → ⊥) not_out kind)

not_source : (e : End) → IsRoundEnd e → IsFailureOf D.Source e → ⊥
not_source E.Source (inl kind) is = cc
not_source E.Source (inr kind) is = cc
not_source E.Shelf kind is = cc
not_source (E.Publishing m) kind is = cc
not_source E.Out kind is = cc
not_source E.Memory kind is = cc

pub uncaused_source : {T : Type 0} (r : Result T End) (before now : ℕ) → now ≡ before
    → IfErr r IsRoundEnd → Caused (IsFailureOf D.Source) before now r
uncaused_source r before now same kind =
    uncaused D.Source r before now same (IfErr-weaker r IsRoundEnd (λ e. IsFailureOf D.Source e → ⊥)
    not_source kind)

-- only a line was to be written
pub line_unwritten : {T : Type 0} (text : List ℕ) (old new : Option (List ℕ)) (r : Result T End)
    → IfErr r (IsEndOf OfSink) → OnErr r (AppendsPart old text new)
    → IfErr r (λ e. WritesEarly text e old new)
line_unwritten text old new (Ok x) kind part = tt
line_unwritten text old new (Err e) kind part = early_part text old new e kind part

pub line_written : {T : Type 0} (how : Ended) (old new : Option (List ℕ)) (shelf : List ℕ → Cell)
    (r : Result Ended T) → IfOk r (λ reached. reached ≡ how)
    → OnOk r (Appends old (end_line how) new) → IfOk r
    (λ reached. Finished (line_alone how) reached old new shelf shelf)
line_written how old new shelf (Ok reached) is text =
    record { ended = sym is; text = text; shelf = λ n. refl }
line_written how old new shelf (Err e) is text = tt

-- a report, or a line in its place
pub told_ok : (most : Option ℕ) (names : List (List ℕ)) (ws : List Want) (report : List ℕ)
    (how : Ended) (p : Publication) (r : Result Ended End) (held held' : Option (List ℕ))
    (old new : List ℕ → Cell) → p ≡ answer_over most names ws
    → Stands (shelf_of (granted most names ws)) old new
    → IfOk r (λ reached. reached ≡ ended_behind p how)
    → OnOk r (Appends held (text_behind p report) held')
    → IfOk r (λ reached. Finished (session_over most names ws report how) reached held held' old
    new)
told_ok most names ws report how p (Ok reached) held held' old new is shelf ended text = record {
  ended = sym (ended ∙ ap (λ q. ended_behind q how) is);
  text = subst (λ q. Appends held (text_behind q report) held') is text;
  shelf = shelf;
}
told_ok most names ws report how p (Err e) held held' old new is shelf ended text = tt

pub told_text : (most : Option ℕ) (names : List (List ℕ)) (ws : List Want) (report : List ℕ)
    (how : Ended) (p : Publication) (r : Result Ended End) (held held' : Option (List ℕ)) → p
    ≡ answer_over most names ws → IfErr r (IsEndOf OfSink)
    → OnErr r (AppendsPart held (text_behind p report) held')
    → IfErr r (λ e. WritesEarly (session_over most names ws report how).text e held held')
told_text most names ws report how p r held held' is kind part =
    subst (λ q. IfErr r (λ e. WritesEarly (text_behind q report) e held held')) is
    (line_unwritten (text_behind p report) held held' r kind part)

-- a fact behind a result that is Ok
pub on_ok : {T E P : Type 0} (r : Result T E) → P → OnOk r P
on_ok (Ok x) p = p
on_ok (Err e) p = tt

-- what a settled engine gives is the session of the engine
pub given_is : {T : Type 0} (M : Meanings T) (most : Option ℕ) (names : List (List ℕ)) (b : Built)
    (core : Core T) (how : Reached) → how ≡ reached.All
    → Gives (compiler (M core.dirs core.limits) core.dirs) (compiled_in core) b
    → given_by most names b ≡ session_at most names M how core
given_is M most names b core how all gives =
    subst (λ h. given_by most names b ≡ session_at most names M h core) (sym all)
    (ap (λ ps. session_over most names (wants_of ps) b.report.items (ended_by b.has_faults))
    gives.profiles
    ∙ ap (λ text. session_over most names (wants_of
    (profiles_of (answers_in (compiler (M core.dirs core.limits) core.dirs)
    (compiled_in core)))) text (ended_by b.has_faults)) gives.report
    ∙ ap (λ f. session_over most names
    (wants_of (profiles_of (answers_in (compiler (M core.dirs core.limits) core.dirs)
    (compiled_in core)))) (report (answers_in (compiler (M core.dirs core.limits) core.dirs)
    (compiled_in core)) ((compiler (M core.dirs core.limits) core.dirs).runs
    (compiled_in core))) (ended_by f)) gives.has_faults)

-- what this end leaves, an end that is this one leaves
pub stopped_at : {T : Type 0} (r : Result T End) (e : End) (shelf : List ℕ → Stand)
    (old new : List ℕ → Cell) → IfErr r (λ x. x ≡ e) → Stopped e shelf old new
    → IfErr r (λ x. Stopped x shelf old new)
stopped_at (Ok x) e shelf old new is stopped = tt
stopped_at (Err x) e shelf old new is stopped =
    subst (λ y. Stopped y shelf old new) (sym is) stopped
