-- What a build publishes, writes and spends, by how far it came.
use Rattle.std.proofs.Common.{◌≡◌, ℕ, Bool, true, false, List, Option, Some, None, IfSome, Result, Ok, Err, IfOk, sym, subst}
use Rattle.command_words.specs.declared.commands.Work.{Work}
use Rattle.engine_session.specs.Compiler.{Compiled}
use Rattle.engine_session.specs.Standing.{Counts, Gives, HasSpentAtMost, SpendsAs}
use Rattle.engine_session.specs.declared.building.Built.{Built}
use Rattle.engine_session.proofs.Counting.{at_most}
use Rattle.engine_turns.specs.declared.core_data.Core.{Core}
use Rattle.outside.specs.declared.source.MemFile.{MemFile}
use Rattle.publication.specs.Wants.{wants_of}
use Rattle.publication.specs.declared.answer.Publication.{Publication}
use Rattle.publication.specs.declared.answer.Publication.TheVariants.{Done, TooManyRemovals}
use Rattle.rebuild.specs.Engines.{Meanings}
use Rattle.session.specs.Machines.{Machine}
use Rattle.session.specs.Sessions.{State, ended_by}
use Rattle.session.specs.declared.Ended.{Ended}
use Rattle.site_build.specs.Rounds.{Reaches, Spends, SpendsBy, build_of, given_by, session_at}
use Rattle.site_build.specs.declared.ends.End.{End}
use Rattle.site_build.specs.Session.{Session, ended_behind, session_from, session_over, state_from}
use Rattle.site_build.specs.declared.building.Reached.{Reached}
use Rattle.site_build.specs.declared.building.Reached.TheVariants as reached

pub some_map : {A : Type 0} (o : Option A) (P Q : A → Type 0) → ((x : A) → P x → Q x) → IfSome o P
    → IfSome o Q
some_map None P Q f p = tt
some_map (Some x) P Q f p = f x p

pub given_is : {E : Type 0} (most : Option ℕ) (names : List (List ℕ)) (machine : Machine E) (e : E)
    (b : Built) → Gives machine e b → given_by most names b ≡ build_of most names machine e
given_is most names machine e b gives =
    λ i. session_over most names (wants_of (gives.profiles i)) (gives.report i)
    (ended_by (gives.has_faults i))

module _ {T : Type 0} (M : Meanings T) (e : Compiled T) (w : Work) (names : List (List ℕ))
    (how : Reached) (core : Core T) (before mid : Counts) where
  -- what holds of a build that came so far holds of the command's session
  pub comes_to : (Q : Session → Type 0) (coming : Option (List (List MemFile)))
      → IfSome coming (λ ps. Reaches M e w how ps core before mid)
      → Q (session_at w.most_removed names M how core)
      → IfSome coming (λ ps. Q (session_from M e w names ps))
  comes_to Q coming reaches q =
      some_map coming (λ ps. Reaches M e w how ps core before mid)
      (λ ps. Q (session_from M e w names ps)) (λ ps r. subst Q (sym (r.session names)) q) reaches

spends_most : {E : Type 0} (how : Reached) (s : State E) (before mid : Counts)
    → SpendsBy how s before mid → HasSpentAtMost s before mid
spends_most reached.All s before mid spent = at_most s before mid spent
spends_most reached.NumbersSpent s before mid spent = spent
spends_most reached.TooMuch s before mid spent = spent

spends_by : {T : Type 0} (most : Option ℕ) (names : List (List ℕ)) (M : Meanings T) {E : Type 0}
    (how : Reached) (core : Core T) (how' : Ended) (s : State E) (before mid : Counts)
    → (session_at most names M how core).ended ≡ how' → SpendsBy how s before mid
    → SpendsAs how' s before mid
spends_by most names M reached.All core how' s before mid is spent = at _ _ is
  where
    at : (p : Publication) (b : Bool) → ended_behind p (ended_by b) ≡ how'
        → SpendsAs how' s before mid
    at (Done troubles) true same = subst (λ x. SpendsAs x s before mid) same spent
    at (Done troubles) false same = subst (λ x. SpendsAs x s before mid) same spent
    at (TooManyRemovals removals) b same = subst (λ x. SpendsAs x s before mid) same spent
spends_by most names M reached.NumbersSpent core how' s before mid is spent =
    subst (λ x. SpendsAs x s before mid) is spent
spends_by most names M reached.TooMuch core how' s before mid is spent =
    subst (λ x. SpendsAs x s before mid) is spent

module _ {T : Type 0} (M : Meanings T) (e : Compiled T) (w : Work) (names : List (List ℕ))
    (how : Reached) (core : Core T) (before mid : Counts) (coming : Option (List (List MemFile)))
    (reaches : IfSome coming (λ ps. Reaches M e w how ps core before mid)) where
  pub spends_on : (r : Result Ended End) → IfOk r
      (λ how'. (session_at w.most_removed names M how core).ended ≡ how')
      → IfSome coming (λ ps. Spends r (state_from M e w ps) before mid)
  spends_on (Ok how') is =
      some_map coming (λ ps. Reaches M e w how ps core before mid)
      (λ ps. SpendsAs how' (state_from M e w ps) before mid)
      (λ ps r. spends_by w.most_removed names M how core how' (state_from M e w ps) before mid is
      r.spent) reaches
  spends_on (Err end) is =
      some_map coming (λ ps. Reaches M e w how ps core before mid)
      (λ ps. HasSpentAtMost (state_from M e w ps) before mid)
      (λ ps r. spends_most how (state_from M e w ps) before mid r.spent) reaches
