-- What a build publishes and keeps, by how far it came.
use Rattle.std.proofs.Common.{◌≡◌, ◌⊎◌, inl, inr, ◌∙◌, ℕ, Bool, true, false, List, [], Option, None, IfSome, option_map, refl, sym, ap, subst}
use Rattle.std.specs.Prelude.{Result}
use Rattle.std.proofs.Math.Path.{subst₂}
use Rattle.command_words.specs.declared.commands.Work.{Work}
use Rattle.engine_session.specs.Compiler.{Compiled, compiler}
use Rattle.engine_session.specs.Standing.{Counts, Gives, compiled_in, machine_in}
use Rattle.engine_session.specs.declared.building.Built.{Built}
use Rattle.engine_session.proofs.Moves.{along}
use Rattle.engine_rows.specs.Restoring.{IsSoundKept}
use Rattle.engine_turns.specs.declared.core_data.Core.{Core}
use Rattle.kept_state.specs.Stored.{Stored}
use Rattle.kept_works.specs.Kept.{kept_by}
use Rattle.outside.specs.Cells.{Cell}
use Rattle.outside.specs.declared.source.MemFile.{MemFile}
use Rattle.publication.specs.Bounds.{answer_over}
use Rattle.publication.specs.Wants.{wants_of}
use Rattle.publication.specs.declared.answer.Publication.{Publication}
use Rattle.publication.specs.declared.answer.Publication.TheVariants.{Done, TooManyRemovals}
use Rattle.rebuild.specs.Engines.{Meanings}
use Rattle.record_rows.specs.Rows.{rows_of}
use Rattle.session.specs.Sessions.{NotSaved, State, Next, GoesOn, Quits, SpendsNumbers, IsTooMuch, answers_in, ended_by, profiles_of, reported}
use Rattle.session.specs.declared.Ended.{Ended}
use Rattle.session.specs.declared.Ended.TheVariants as ended
use Rattle.site_build.specs.Rounds.{Reaches, given_by, session_at}
use Rattle.site_build.specs.Scenes.{Outs}
use Rattle.site_build.specs.Session.{ended_behind, engine_for, limits_of, round_from, session_after, session_from}
use Rattle.site_build.specs.declared.building.Reached.{Reached}
use Rattle.site_build.specs.declared.building.Reached.TheVariants as reached
use Rattle.site_build.proofs.Finishing.{given_is}
use Rattle.stored_rows.specs.declared.row.StoredRow.{StoredRow}
use Rattle.kept_build.specs.Kept.{kept_after, kept_behind, kept_from, rows_from}
use Rattle.kept_build.specs.Rounds.{Follows, kept_at, kept_in, rows_at, rows_in, wants_at}
use Rattle.kept_build.specs.declared.ends.End.{End}

-- what a settled engine gives is the session of the engine, and its rows are those that are kept
pub follows_all : {T : Type 0} (M : Meanings T) (most : Option ℕ) (names : List (List ℕ))
    (b : Built) (core : Core T) (how : Reached) → how ≡ reached.All → Gives (machine_in M core)
    (compiled_in core) b → (last : List StoredRow) (r : Result Ended End) (before after : Outs)
    (old new : List ℕ → Cell)
    → Follows (given_by most names b) names last
    (rows_in (answer_over most names (wants_of b.profiles.items)) core) r before after old new
    → Follows (session_at most names M how core) names last (rows_at most names M how core) r before
    after old new
follows_all M most names b core how all gives last r before after old new follows =
    let machine = machine_in M core in
    let e = compiled_in core in
    subst (λ h. Follows (session_at most names M h core) names last (rows_at most names M h core) r
    before after old new) (sym all)
    (subst₂ (λ s wanted. Follows s names last wanted r before after old new)
    (given_is most names machine e b gives)
    (ap (λ ps. rows_in (answer_over most names (wants_of ps)) core) gives.profiles) follows)

-- only a session that came to its publication ends as one does: where it did not, nothing is kept
none_of : {T : Type 0} (M : Meanings T) (w : Work) (names : List (List ℕ)) (x : Next (Compiled T))
    (how : Ended) → how ≡ ended.NumbersSpent ⊎ how ≡ ended.TooMuch
    → (session_after (engine_for M w) w.most_removed names x).ended ≡ how → kept_after M w names x
    ≡ None
none_of M w names (GoesOn t) how either is = at _ _ is
  where
    at : (p : Publication) (b : Bool) → ended_behind p (ended_by b) ≡ how
        → kept_behind w.directories (limits_of w) p t.engine ≡ None
    at (Done troubles) true same = absurd (never either)
      where
        never : how ≡ ended.NumbersSpent ⊎ how ≡ ended.TooMuch → ⊥
        never (inl a) = cc
        never (inr a) = cc
    at (Done troubles) false same = absurd (never either)
      where
        never : how ≡ ended.NumbersSpent ⊎ how ≡ ended.TooMuch → ⊥
        never (inl a) = cc
        never (inr a) = cc
    at (TooManyRemovals removals) b same = refl
none_of M w names (Quits t) how either is = refl
none_of M w names (SpendsNumbers t) how either is = refl
none_of M w names (IsTooMuch t) how either is = refl

module _ {T : Type 0} (M : Meanings T) (e : Compiled T) (w : Work) (ps : List (List MemFile))
    (names : List (List ℕ)) where
  -- what is kept behind a report is what is kept before it: the report forgets only what was run
  before_report : (t : State (Compiled T))
      → kept_after M w names (GoesOn (reported (engine_for M w) (Done []) NotSaved t)) ≡ kept_behind
      w.directories (limits_of w)
      (answer_over w.most_removed names
      (wants_of (profiles_of (answers_in (engine_for M w) t.engine)))) t.engine
  before_report t =
      at
      (answer_over w.most_removed names
      (wants_of (profiles_of (answers_in (engine_for M w) t.engine))))
    where
      at : (p : Publication) → kept_behind w.directories (limits_of w) p
          (reported (engine_for M w) (Done []) NotSaved t).engine
          ≡ kept_behind w.directories (limits_of w) p
          t.engine
      at (Done troubles) = refl
      at (TooManyRemovals removals) = refl

  -- what is kept of a build that came so far is what is kept of the command's session
  pub kept_is : (how : Reached) (core : Core T) (before mid : Counts) → Reaches M e w how ps core
      before mid → kept_from M w names e ps ≡ kept_at w.most_removed names M how core
  kept_is reached.All core before mid r =
      ap (kept_after M w names) r.ends.1 ∙ before_report r.ends.0
      ∙ along core
      (λ d l x. kept_behind d l
      (answer_over w.most_removed names
      (wants_of (profiles_of (answers_in (compiler (M d l) d) x)))) x ≡ kept_at w.most_removed
      names M reached.All core) w.directories (limits_of w) r.ends.0.engine r.ends.2 refl
  kept_is reached.NumbersSpent core before mid r =
      none_of M w names (round_from M e w ps) ended.NumbersSpent (inl refl)
      (ap (λ s. s.ended) (r.session names))
  kept_is reached.TooMuch core before mid r =
      none_of M w names (round_from M e w ps) ended.TooMuch (inr refl)
      (ap (λ s. s.ended) (r.session names))

  -- what holds of what is kept at the end holds of the command's
  pub kept_so : (Q : Option Stored → Type 0) (how : Reached) (core : Core T) (before mid : Counts)
      → Reaches M e w how ps core before mid → Q (kept_at w.most_removed names M how core)
      → Q (kept_from M w names e ps)
  kept_so Q how core before mid r q = subst Q (sym (kept_is how core before mid r)) q

  -- a build that came so far follows the command's session, and keeps its rows
  pub follows_so : (how : Reached) (core : Core T) (before mid : Counts) → Reaches M e w how ps core
      before mid → (last : List StoredRow) (r : Result Ended End) (outs after : Outs)
      (old new : List ℕ → Cell) → Follows (session_at w.most_removed names M how core) names last
      (rows_at w.most_removed names M how core) r outs after old new
      → Follows (session_from M e w names ps) names last (rows_from M w names e ps) r outs after old
      new
  follows_so how core before mid reaches last r outs after old new follows =
      subst₂ (λ s wanted. Follows s names last wanted r outs after old new)
      (sym (reaches.session names))
      (ap (option_map rows_of) (sym (kept_is how core before mid reaches))) follows

-- what is kept of a build in which all is settled is sound
pub kept_sound : {T : Type 0} (M : Meanings T) (most : Option ℕ) (names : List (List ℕ))
    (how : Reached) (core : Core T)
    → (how ≡ reached.All → ∥ IsSoundKept M (kept_by core.dirs core.limits (compiled_in core)) ∥₁)
    → IfSome (kept_at most names M how core) (λ s. ∥ IsSoundKept M s ∥₁)
kept_sound M most names reached.All core sound = at (answer_over most names (wants_at M core))
  where
    at : (p : Publication) → IfSome (kept_in p core) (λ s. ∥ IsSoundKept M s ∥₁)
    at (Done troubles) = sound refl
    at (TooManyRemovals removals) = tt
kept_sound M most names reached.NumbersSpent core sound = tt
kept_sound M most names reached.TooMuch core sound = tt
