-- A build, and builds one after the other.
use Rattle.std.proofs.Common.{◌≡◌, ℕ, suc, Bool, true, false, List, [], ◌++◌, take, drop, Option, Some, Result, Ok, Err, IfOk, OnErr, arith, refl, sym, ap, ◌∙◌, subst}
use Rattle.std.specs.Prelude.{option_map}
use Rattle.outside.specs.Contents.{Appends, AppendsPart}
use Rattle.outside.specs.declared.source.MemFile.{MemFile}
use Rattle.pan_ast.specs.declared.work.Limits.{Limits}
use Rattle.engine_turns.specs.declared.core_data.Core.{Core}
use Rattle.rebuild.specs.Engines.{Meanings, turns_left_of}
use Rattle.session.specs.Machines.{Machine}
use Rattle.publication.specs.declared.answer.Publication.TheVariants as publication
use Rattle.session.specs.Sessions.{NotSaved, Next, GoesOn, SpendsNumbers, IsTooMuch, next, state_in, with_turns, built, reported, started, scanned, answers_in, build_round, ended_by}
use Rattle.session.specs.Texts.{report}
use Rattle.engine_session.specs.Compiler.{Compiled, compiler, forgotten, nothing}
use Rattle.engine_session.specs.Standing.{Here, Counts, HasSpentAtMost, IsAt, IsIn, MakesTurns, TakesNext, compiled_in}
use Rattle.engine_session.specs.declared.taking.Took.TheVariants as took
use Rattle.engine_session.proofs.Counting.{at_most, at_most_on, no_fewer, spent_none}
use Rattle.engine_session.proofs.Moves.{along}
use Rattle.demo.specs.Demo.{shortened, builds, demo_dirs, demo_session, Ends, Breaks}
use Rattle.demo.specs.Pictures.{demo_pictures}
use Rattle.demo.specs.declared.ends.End.{End}
use Rattle.session.specs.declared.Ended.{Ended}
use Rattle.demo.specs.Played.{Says, Goes, Playing}
use Rattle.demo.specs.Reports.{last_line}
use Rattle.demo.specs.declared.builds.Step.TheVariants as step
use Rattle.session.specs.declared.Ended.TheVariants as ended
use Rattle.demo.proofs.Turning.{at_end, shortened_below, builds_rise, grows, part_by, text_by, part_on, nothing_written}

some_same : (a b : List (List MemFile)) → ◌≡◌ {A = Option (List (List MemFile))} (Some a) (Some b)
    → a ≡ b
some_same a b e = cc

module _ {T : Type 0} (M : Meanings T) (dirs : List (List ℕ)) (limits : Limits) (s : Here T)
    (mid settled new : Core T) (coming : List (List MemFile)) (start spent later : Counts)
    (faults faults' left : ℕ) where
  abbrev pub m : Machine (Compiled T)
  m = compiler (M dirs limits) dirs

  abbrev Took : took.the_data → Type 0
  Took how = TakesNext m dirs limits s how mid start spent (Some coming) faults faults'

  pub take_spends : (line : List ℕ) (has_faults : Bool) → Took took.SpendsNumbers
      → Goes m dirs limits s step.SpendsNumbers line has_faults mid coming start spent
  take_spends line has_faults t =
      record {
        state = t.state;
        leads =
            subst (λ scan. scanned m scan s (built m (publication.Done []) NotSaved)
            ≡ SpendsNumbers t.state) t.failed (t.leads (built m (publication.Done []) NotSaved));
        on =
            t.stands;
      }

  pub take_exceeds : (line : List ℕ) (has_faults : Bool) → Took took.IsTooMuch
      → Goes m dirs limits s step.IsTooMuch line has_faults mid coming start spent
  take_exceeds line has_faults t =
      record {
        state = t.state;
        leads =
            subst (λ scan. scanned m scan s (built m (publication.Done []) NotSaved)
            ≡ IsTooMuch t.state)
            t.failed (t.leads (built m (publication.Done []) NotSaved));
        on = t.stands;
      }

  module _ (t : Took took.Taken) (is_left : left ≡ turns_left_of mid) where
    turns_are : next m build_round s ≡ with_turns m left t.state (at_end m)
    turns_are = subst (λ scan. scanned m scan s (built m (publication.Done []) NotSaved)
        ≡ built m (publication.Done []) NotSaved t.state) t.failed
        (t.leads (built m (publication.Done []) NotSaved))
        ∙ ap (λ k. with_turns m k t.state (at_end m))
        (ap m.turns_left (sym t.stands.engine.is) ∙ sym is_left)

    pub cut_turning : HasSpentAtMost (state_in (with_turns m left t.state (at_end m))) start later
        → HasSpentAtMost (state_in (next m build_round s)) start later
    cut_turning most = subst (λ n. HasSpentAtMost (state_in n) start later) (sym turns_are) most

    abbrev pub Made : Bool → Type 0
    Made all = MakesTurns m dirs limits left t.state all settled start later

    pub turns_spend : (line : List ℕ) (has_faults : Bool) → Made false
        → Goes m dirs limits s step.SpendsNumbers line has_faults settled coming start later
    turns_spend line has_faults made =
        record { state = made.state; leads = turns_are ∙ made.leads (at_end m); on = made.stands }

    pub cut_made : Made true → HasSpentAtMost (state_in (next m build_round s)) start later
    cut_made made = subst (λ n. HasSpentAtMost (state_in n) start later)
        (sym (turns_are ∙ made.leads (at_end m))) (at_most
        (reported m (publication.Done []) NotSaved made.state) start later
        (record { in_runs = made.stands.spent.in_runs; in_steps = made.stands.spent.in_steps }))

    pub reports : (line : List ℕ) (has_faults : Bool) → s.text ≡ [] → (made : Made true)
        → Says (compiler (M settled.dirs settled.limits) settled.dirs) (compiled_in settled)
        has_faults line → IsIn dirs limits new (forgotten (M dirs limits) dirs made.state.engine)
        → Goes m dirs limits s step.Reports line has_faults new coming start later
    reports line has_faults empty made says forgot =
        let g = along settled (λ d l e. Says (compiler (M d l) d) e has_faults line) dirs limits
        made.state.engine made.stands.engine says in
        record {
          state = reported m (publication.Done []) NotSaved made.state;
          leads = turns_are ∙ made.leads (at_end m);
          on = record {
            at = record {
              engine = forgot;
              spent =
                  record {
                    in_runs = made.stands.spent.in_runs;
                    in_steps =
                        made.stands.spent.in_steps;
                  };
            };
            pictures = some_same coming t.state.coming t.pictures ∙ sym made.moved.coming;
            faults = sym g.faults;
            written = g.written ∙ ap (λ before. last_line
                (before ++ report (answers_in m made.state.engine) (m.runs made.state.engine)))
                (sym (made.moved.text ∙ t.text ∙ empty));
          };
        }

module _ {T : Type 0} (machine : Machine (Compiled T)) (dirs : List (List ℕ))
    (limits : Limits) where
  -- no build was made yet
  pub none_yet : (e : Compiled T) (ps coming : List (List MemFile)) (core : Core T) (start : Counts)
      (held : Option (List ℕ)) → IsIn dirs limits core e → coming ≡ ps
      → Playing machine dirs limits (started e ps []) 4 false core coming start start held held
  none_yet e ps coming core start held is told = record {
    state = started e ps [];
    leads = refl;
    at = record { engine = is; spent = spent_none (started e ps []) start refl refl };
    pictures = told;
    faults = refl;
    text = nothing_written held;
  }

  module _ (s : Here T) (left rest : ℕ) (faults faults' : Bool) (core core' : Core T)
      (coming coming' : List (List MemFile)) (start now later : Counts)
      (held_old held held' : Option (List ℕ)) (line : List ℕ) (more : left ≡ suc rest)
      (p : Playing machine dirs limits s left faults core coming start now held_old held) where
    -- the session that the next build begins with
    abbrev pub next_state : Here T
    next_state = record p.state { text = [] }

    pub next_at : IsAt dirs limits next_state core start now
    next_at = record {
      engine = p.at.engine;
      spent =
          record { in_runs = p.at.spent.in_runs; in_steps = p.at.spent.in_steps };
    }

    leads_on : builds machine 4 s ≡ shortened p.state.text (builds machine rest)
        (next machine build_round next_state)
    leads_on = p.leads ∙ ap (λ k. builds machine k p.state) more

    abbrev pub Goes_on : step.the_data → Type 0
    Goes_on how = Goes machine dirs limits next_state how line faults' core' coming' start later

    pub one_more : Goes_on step.Reports → Appends held line held'
        → Playing machine dirs limits s rest faults' core' coming' start later held_old held'
    one_more g appends = record {
      state = record g.state { text = p.state.text ++ last_line g.state.text };
      leads = leads_on ∙ ap (shortened p.state.text (builds machine rest)) g.leads;
      at = record {
        engine = g.on.at.engine;
        spent =
            record { in_runs = g.on.at.spent.in_runs; in_steps = g.on.at.spent.in_steps };
      };
      pictures = g.on.pictures;
      faults = g.on.faults;
      text = text_by held_old held held' p.state.text (last_line g.state.text) p.text
          (appends ∙ ap (λ l. option_map (λ h. h ++ l) held) g.on.written);
    }

    ends_as : (how : ended.the_data) (y : Next (Compiled T)) → builds machine 4 s ≡ y
        → Ends y how start later held_old held → Ends (builds machine 4 s) how start later held_old
        held
    ends_as how y is ends = subst (λ x. Ends x how start later held_old held) (sym is) ends

    pub spends : Goes_on step.SpendsNumbers → Ends (builds machine 4 s) ended.NumbersSpent start
        later held_old held
    spends g = ends_as ended.NumbersSpent (SpendsNumbers (record g.state { text = p.state.text }))
        (leads_on ∙ ap (shortened p.state.text (builds machine rest)) g.leads)
        (record {
          ended = refl;
          text = p.text;
          spent =
              record { no_fewer = g.on.no_fewer; in_runs = g.on.in_runs; in_steps = g.on.in_steps };
        })

    pub exceeds : Goes_on step.IsTooMuch → Ends (builds machine 4 s) ended.TooMuch start later
        held_old held
    exceeds g = ends_as ended.TooMuch (IsTooMuch (record g.state { text = p.state.text }))
        (leads_on ∙ ap (shortened p.state.text (builds machine rest)) g.leads)
        (record {
          ended = refl;
          text = p.text;
          spent =
              record { no_fewer = g.on.no_fewer; in_runs = g.on.in_runs; in_steps = g.on.in_steps };
        })

    -- a build was broken off
    pub cut_off : HasSpentAtMost (state_in (next machine build_round next_state)) start later
        → Breaks (builds machine 4 s) start later held_old held
    cut_off most =
        let x = next machine build_round next_state in
        let g = grows machine left p.state in
        record {
          text = part_by held_old held (state_in (builds machine 4 s)).text p.state.text g.0 p.text
              (ap (λ (n : Next (Compiled T)). (state_in n).text) p.leads ∙ g.1);
          spent = subst (λ n. HasSpentAtMost (state_in n) start later) (sym leads_on)
              (at_most_on (state_in x) (state_in (shortened p.state.text (builds machine rest) x))
              start later (shortened_below p.state.text (builds machine rest)
              (builds_rise machine rest) x) most);
        }

    -- the line of a build could not be written
    pub unwritten : Goes_on step.Reports → AppendsPart held line held'
        → Breaks (builds machine 4 s) start later held_old held'
    unwritten g part =
        let t : Here T = record g.state { text = p.state.text ++ last_line g.state.text } in
        let leads : builds machine 4 s ≡ builds machine rest t =
        leads_on ∙ ap (shortened p.state.text (builds machine rest)) g.leads in
        let more = grows machine rest t in
        record {
          text = part_by held_old held' (state_in (builds machine 4 s)).text
              (p.state.text ++ take part.0 line) (drop part.0 line ++ more.0)
              (text_by held_old held held' p.state.text (take part.0 line) p.text part.1)
              (ap (λ (n : Next (Compiled T)). (state_in n).text) leads ∙ more.1
              ∙ ap (λ l. (p.state.text ++ l) ++ more.0) (sym g.on.written)
              ∙ part_on p.state.text line more.0 part.0);
          spent = subst (λ n. HasSpentAtMost (state_in n) start later) (sym leads)
              (at_most_on t (state_in (builds machine rest t)) start later
              (builds_rise machine rest t) (at_most t start later
              (record { in_runs = g.on.at.spent.in_runs; in_steps = g.on.at.spent.in_steps })));
        }

  -- all builds were made
  pub all_made : (s : Here T) (left : ℕ) (faults : Bool) (core : Core T)
      (coming : List (List MemFile)) (start now : Counts) (held_old held : Option (List ℕ)) → left
      ≡ 0 → Playing machine dirs limits s left faults core coming start now held_old held
      → Ends (builds machine 4 s) (ended_by faults) start now held_old held
  all_made s left faults core coming start now held_old held none p =
      let leads : builds machine 4 s ≡ GoesOn p.state =
      p.leads ∙ ap (λ k. builds machine k p.state) none in
      subst (λ x. Ends x (ended_by faults) start now held_old held) (sym leads) (by faults p.faults)
    where
      by : (b : Bool) → p.state.has_faults ≡ b → Ends (GoesOn p.state) (ended_by b) start now
          held_old held
      by true is = record { ended = sym (ap ended_by is); text = p.text; spent = p.at.spent }
      by false is = record { ended = sym (ap ended_by is); text = p.text; spent = p.at.spent }

-- nothing was done
pub not_begun : {E : Type 0} (x : Next E) (start : Counts) (held : Option (List ℕ))
    → Breaks x start start held held
not_begun x start held = record {
  text = part_by held held (state_in x).text [] (state_in x).text (nothing_written held) refl;
  spent = record {
    no_fewer = omega arith;
    in_runs =
        no_fewer (state_in x).runs start.runs;
    in_steps = omega arith;
  };
}

module _ {T : Type 0} (M : Meanings T) (limits : Limits) (count begin : ℕ) (core : Core T)
    (coming : List (List MemFile)) (start start' now : Counts) (held held' : Option (List ℕ))
    (is : IsIn demo_dirs limits core nothing) (told : coming ≡ demo_pictures count begin)
    (same : start' ≡ start) where
  pub ended_ok : (r : Result Ended End) → IfOk r
      (λ how. (dirs : List (List ℕ)) (limits : Limits) (e : Compiled T) (ps : List (List MemFile))
      → IsIn dirs limits core e → coming ≡ ps → Ends
      (builds (compiler (M dirs limits) dirs) 4 (started e ps [])) how start' now held held') → IfOk
      r (λ how. Ends (demo_session M limits count begin) how start now held held')
  ended_ok (Ok how) f = subst (λ c. Ends (demo_session M limits count begin) how c now held held')
      same (f demo_dirs limits nothing (demo_pictures count begin) is told)
  ended_ok (Err e) f = tt

  pub broken_err : (r : Result Ended End) → OnErr r
      ((dirs : List (List ℕ)) (limits : Limits) (e : Compiled T) (ps : List (List MemFile)) → IsIn
      dirs limits core e → coming ≡ ps
      → Breaks (builds (compiler (M dirs limits) dirs) 4 (started e ps [])) start' now held held')
      → OnErr r (Breaks (demo_session M limits count begin) start now held held')
  broken_err (Ok how) f = tt
  broken_err (Err e) f = subst (λ c. Breaks (demo_session M limits count begin) c now held held')
      same (f demo_dirs limits nothing (demo_pictures count begin) is told)
