-- A round that follows its session.
use Rattle.std.proofs.Common.{◌≡◌, ℕ, List, Option, None, Some, IfErr, OnErr, IfSome, refl, sym, subst}
use Rattle.std.specs.Prelude.{Result, Err, IfOk, OnOk}
use Rattle.std.proofs.lemmas.Result.{IfErr-weaker}
use Rattle.engine_session.specs.Standing.{Counts, counts, HasSpentAtMost}
use Rattle.outside.specs.Contents.{Appends, AppendsPart}
use Rattle.outside.specs.declared.source.MemFile.{MemFile}
use Rattle.publication.specs.Changing.{BegunOver, Tells}
use Rattle.publication.specs.Stands.{untouched}
use Rattle.publication.proofs.Planning.{on_err}
use Rattle.session.specs.Sessions.{State, end_line}
use Rattle.session.specs.declared.Ended.{Ended}
use Rattle.site_build.specs.Ends.{IsEndOf, OfSink, OfSource, Stopped}
use Rattle.site_build.specs.Rounds.{Follows, Spends}
use Rattle.site_build.specs.Scenes.{Outs}
use Rattle.site_build.specs.Session.{Session, WritesEarly, line_alone}
use Rattle.site_build.specs.declared.ends.End.{End}
use Rattle.site_build.proofs.Ending.{done_stopped, early_none, line_unwritten, line_written, on_ok, stopped_none}
use Rattle.site_build.proofs.Publishing.{over_none}
use Rattle.site_build.proofs.Settling.{spent_nothing}

pub all_told : {A : Type 0} (o : Option A) (P : A → Type 0) → ((x : A) → P x) → IfSome o P
all_told None P f = tt
all_told (Some x) P f = f x

never_ok : {T E : Type 0} (r : Result T E) (e : E) (P : T → Type 0) → r ≡ Err e → IfOk r P
never_ok r e P is = subst (λ x. IfOk x P) (sym is) tt

-- it was broken off
pub broken_follows : (s : Session) (names : List (List ℕ)) (r : Result Ended End)
    (before after : Outs) (e : End) → r ≡ Err e → IfErr r
    (λ e. WritesEarly s.text e before.held after.held)
    → IfErr r (λ e. Stopped e s.shelf before.cell after.cell)
    → OnErr r (Tells before.cell → BegunOver s.wants names before.cell after.cell before.changes
    after.changes) → Follows s names r before after
broken_follows s names r before after e is text shelf begun = record {
  ok = never_ok r e _ is;
  text = text;
  shelf = shelf;
  made = never_ok r e _ is;
  begun = begun;
}

-- .. before anything was done
pub untouched_follows : (s : Session) (names : List (List ℕ)) (r : Result Ended End) (o : Outs)
    (e : End) → r ≡ Err e → IsEndOf OfSource e → Follows s names r o o
untouched_follows s names r o e is kind = subst (λ x. Follows s names x o o) (sym is) (record {
  ok = tt;
  text = early_none s.text o.held e;
  shelf = stopped_none e s.shelf o.cell kind;
  made = tt;
  begun = λ tells. over_none s.wants names o.cell o.cell o.changes o.changes (λ n. refl) refl;
})

pub untouched_at : (told : Option (List (List MemFile))) (F : List (List MemFile) → Session)
    (names : List (List ℕ)) (r : Result Ended End) (o : Outs) (e : End) → r ≡ Err e
    → IsEndOf OfSource e → IfSome told (λ ps. Follows (F ps) names r o o)
untouched_at told F names r o e is kind =
    all_told told (λ ps. Follows (F ps) names r o o)
    (λ ps. untouched_follows (F ps) names r o e is kind)

-- a line was written, and the shelf stands as it was
pub line_follows : (how : Ended) (names : List (List ℕ)) (r : Result Ended End) (o : Outs)
    (held : Option (List ℕ)) → IfOk r (λ reached. reached ≡ how)
    → OnOk r (Appends o.held (end_line how) held) → OnErr r (AppendsPart o.held (end_line how) held)
    → IfErr r (IsEndOf OfSink) → Follows (line_alone how) names r o (record o { held = held })
line_follows how names r o held ended ok err kind = record {
  ok = line_written how o.held held o.cell r ended ok;
  text = line_unwritten (end_line how) o.held held r kind err;
  shelf = IfErr-weaker r (IsEndOf OfSink) (λ e. Stopped e untouched o.cell o.cell)
      (λ e is. done_stopped e None o.cell o.cell is (λ n. refl)) kind;
  made = on_ok r (λ tells. (refl, λ n. refl));
  begun = on_err r (λ tells. (refl, λ n. refl));
}

-- runs and steps where it was broken off
pub spends_err : {E : Type 0} (S : List (List MemFile) → State E)
    (told : Option (List (List MemFile))) (r : Result Ended End) (e : End) (before now : Counts) → r
    ≡ Err e → IfSome told (λ ps. HasSpentAtMost (S ps) before now)
    → IfSome told (λ ps. Spends r (S ps) before now)
spends_err S told r e before now is most =
    subst (λ x. IfSome told (λ ps. Spends x (S ps) before now)) (sym is) most

-- .. before anything was run
pub spends_none : {E : Type 0} (S : List (List MemFile) → State E)
    (told : Option (List (List MemFile))) (r : Result Ended End) (e : End) (runs runs' steps : ℕ)
    → r ≡ Err e → runs' ≡ runs
    → IfSome told (λ ps. Spends r (S ps) (counts runs steps) (counts runs' steps))
spends_none S told r e runs runs' steps is same =
    spends_err S told r e (counts runs steps) (counts runs' steps) is
    (all_told told (λ ps. HasSpentAtMost (S ps) (counts runs steps) (counts runs' steps))
    (λ ps. subst (λ n. HasSpentAtMost (S ps) (counts runs steps) (counts n steps)) (sym same)
    (spent_nothing (S ps) (counts runs steps))))
