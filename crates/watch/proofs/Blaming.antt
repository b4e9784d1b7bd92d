-- A line that asks who set the leaves of an object.
use Rattle.std.proofs.Common.{◌≡◌, ℕ, List, [], Some, not, false, nat_eq, if◌then◌else◌, refl, sym, ap, ◌∙◌, subst, arith, codes}
use Rattle.blamed_works.specs.Lines.{Blames}
use Rattle.engine_session.specs.Compiler.{Compiled, compiler}
use Rattle.engine_session.specs.Standing.{Here, Counts, HasSpentAtMost}
use Rattle.engine_turns.specs.declared.core_data.Core.{Core}
use Rattle.pan_ast.specs.declared.work.Limits.{Limits}
use Rattle.path_tree.specs.declared.path.Term.{Term}
use Rattle.publication.specs.Stands.{Stands}
use Rattle.publication.specs.declared.answer.Publication.TheVariants as publication
use Rattle.rebuild.specs.Engines.{Meanings}
use Rattle.session.specs.Machines.{Machine}
use Rattle.session.specs.Orders.{Blame}
use Rattle.session.specs.Sessions.{Done, NotSaved, blamed_at, blamed_in, answers, state_in, writes}
use Rattle.session.specs.Texts.{answer_in}
use Rattle.watch.specs.Steps.{Spot, Start, At, Cut, Went, KeptSoundly, rows_behind}
use Rattle.watch.specs.declared.step.Step.TheVariants as step
use Rattle.watch.proofs.Going.{tells_of}
use Rattle.watch.proofs.Working.{cut_unasked, none_most, none_rose}

module _ {T : Type 0} (M : Meanings T) (dirs : List (List ℕ)) (limits : Limits) (s : Here T)
    (before : Spot T) (start : Start) (name : List ℕ) (terms : List Term) where
  abbrev m : Machine (Compiled T)
  m = compiler (M dirs limits) dirs

  -- before the first picture there is no object
  pub blame_none : (text : List ℕ) → before.has_taken ≡ false → text ≡ codes "no object\n"
      → At M dirs limits s before start
      → Went m M dirs limits (Blame name terms) s step.GoesOn text before before start
  blame_none text untaken is at =
      tells_of m M dirs limits s before start (Blame name terms) (Blame name terms) text refl
      (λ P Q q. q)
      (λ line. first (at.taken ∙ untaken) ∙ ap (writes s) (sym is))
      at
    where
      first : s.has_taken ≡ false → blamed_in m name terms s ≡ writes s (codes "no object\n")
      first never = ap (λ b. if not b then writes s (codes "no object\n")
          else if nat_eq (m.turns_left s.engine) 0
          then blamed_at m (answer_in (answers m s) name) terms s
          else writes s (codes "pending\n")) never

  module _ (new : Core T) (spent : Counts) where
    abbrev Then : Spot T
    Then = record before { core = new; spent = spent }

    pub blame_told : (text : List ℕ) → At M dirs limits s before start
        → Blames m dirs limits name terms s text new start.spent spent
        → Went m M dirs limits (Blame name terms) s step.GoesOn text before Then start
    blame_told text at b = record {
      scan = Done;
      publication = publication.Done [];
      saved = NotSaved;
      state = b.state;
      leads = λ line. b.leads;
      does = (refl, refl);
      bound = refl;
      on = record {
        at = record {
          engine = b.stands;
          taken = ap (λ (t : Here T). t.has_taken) b.only ∙ at.taken;
          coming = at.coming ∙ ap Some (sym (ap (λ (t : Here T). t.coming) b.only));
          has_faults = ap (λ (t : Here T). t.has_faults) b.only ∙ at.has_faults;
          shelf = subst (λ stand. Stands stand start.cell before.shelf.cell)
              (sym (ap (λ (t : Here T). t.shelf) b.only)) at.shelf;
          names = ap (λ (t : Here T). t.may_stand) b.only ∙ at.names;
          rows = at.rows ∙ ap (λ k. rows_behind dirs limits k start.rows)
              (sym (ap (λ (t : Here T). t.kept) b.only));
          listed = at.listed;
          sound = subst (KeptSoundly M dirs limits) (sym (ap (λ (t : Here T). t.kept) b.only))
              at.sound;
        };
        written = b.written;
      };
      source_later = omega arith;
      source_rose = none_rose (Blame name terms) before.source_count before.source_count refl;
      source_most = none_most (Blame name terms) before.source_count before.source_count refl;
      store_later = omega arith;
      store_rose = omega arith;
      store_most = omega arith;
      store_opened = refl;
    }

    -- memory was wanting for the run, or for its leaves
    pub blame_cut : HasSpentAtMost (state_in (blamed_in m name terms s)) start.spent spent
        → Cut m M dirs limits (Blame name terms) s before Then start.spent
    blame_cut most = cut_unasked m M dirs limits (Blame name terms) s before Then start.spent
        (blamed_in m name terms s) (λ line. refl) most refl refl refl
