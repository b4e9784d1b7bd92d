use Rattle.std.proofs.Common.{◌≡◌, [], codes, refl, rules, subst, true}
use Rattle.engine_session.specs.Compiler.{compiler}
use Rattle.engine_session.specs.Standing.{counts, MakesTurns, TakesNext}
use Rattle.engine_session.proofs.KeptTrees.{texts_still, trees_forgotten, trees_then}
use Rattle.engine_session.proofs.Moves.{forgotten_in, forgotten_kept}
use Rattle.rebuild.specs.Engines.{turns_left_of}
use Rattle.publication.proofs.Planning.{on_err}
use Rattle.publication.specs.declared.answer.Publication.TheVariants as publication
use Rattle.session.specs.Orders.{Build}
use Rattle.session.specs.Sessions.{NotSaved, built}
use Rattle.watch.proofs.Going.{scan_failed, scan_spends, scan_exceeds, built_whole, build_spends, cut_off}
use Rattle.watch.proofs.Ready.{failed_ready, faithful_ready, sound_kept}
use Rattle.watch.proofs.Working.{build_cut, build_untold, builds_rise, scan_cut, scan_untold}
use Rattle.watch.specs.Sites.{held_of, spot_of}
use Rattle.watch.proofs.building.build_line.Goals as goal

pub returns-in-Failed-clause-went : goal.returns-in-Failed-clause-went
returns-in-Failed-clause-went g c =
    let text : c.extend_from_slice.new.self.items ≡ codes "source fault\n" = search rules in
    λ ready dirs limits s start at.
    scan_failed (compiler (g.R.Runner.meaning dirs limits) dirs) g.R.Runner.meaning dirs limits s
    (spot_of g.R.Runner g.S.Source g.H.Shelf g.K.Keeper c.args.site.now c.args.steps.now) _ _ _
    _ start Build _ _ refl (λ line scan. refl) at (subst (λ how. TakesNext (compiler
    (g.R.Runner.meaning dirs limits) dirs) dirs limits s how c.take_next.new.works.engine.core
    start.spent (counts (g.R.Runner.runs_of c.take_next.new.works.runner) c.take_next.new.steps)
    (g.S.Source.coming c.take_next.new.source) (g.S.Source.fault_count c.args.site.now.source)
    (g.S.Source.fault_count c.take_next.new.source)) c.in-Failed.is
    (c.in_ok-take_next.ensures.took ready.begun dirs limits s start.spent at.engine at.coming))
    c.take_next.ensures.count.later text

pub returns-in-SpendsNumbers-clause-went : goal.returns-in-SpendsNumbers-clause-went
returns-in-SpendsNumbers-clause-went g c = λ ready dirs limits s start at.
    scan_spends (compiler (g.R.Runner.meaning dirs limits) dirs) g.R.Runner.meaning dirs limits s
    (spot_of g.R.Runner g.S.Source g.H.Shelf g.K.Keeper c.args.site.now c.args.steps.now) _ _ _
    _ start Build _ _ refl (λ line scan. refl) (subst (λ how. TakesNext (compiler
    (g.R.Runner.meaning dirs limits) dirs) dirs limits s how c.take_next.new.works.engine.core
    start.spent (counts (g.R.Runner.runs_of c.take_next.new.works.runner) c.take_next.new.steps)
    (g.S.Source.coming c.take_next.new.source) (g.S.Source.fault_count c.args.site.now.source)
    (g.S.Source.fault_count c.take_next.new.source)) c.in-SpendsNumbers.is
    (c.in_ok-take_next.ensures.took ready.begun dirs limits s start.spent at.engine at.coming))
    c.take_next.ensures.count.later _

pub returns-in-IsTooMuch-clause-went : goal.returns-in-IsTooMuch-clause-went
returns-in-IsTooMuch-clause-went g c = λ ready dirs limits s start at.
    scan_exceeds (compiler (g.R.Runner.meaning dirs limits) dirs) g.R.Runner.meaning dirs limits s
    (spot_of g.R.Runner g.S.Source g.H.Shelf g.K.Keeper c.args.site.now c.args.steps.now) _ _ _
    _ start Build _ _ refl (λ line scan. refl) (subst (λ how. TakesNext (compiler
    (g.R.Runner.meaning dirs limits) dirs) dirs limits s how c.take_next.new.works.engine.core
    start.spent (counts (g.R.Runner.runs_of c.take_next.new.works.runner) c.take_next.new.steps)
    (g.S.Source.coming c.take_next.new.source) (g.S.Source.fault_count c.args.site.now.source)
    (g.S.Source.fault_count c.take_next.new.source)) c.in-IsTooMuch.is
    (c.in_ok-take_next.ensures.took ready.begun dirs limits s start.spent at.engine at.coming))
    c.take_next.ensures.count.later _

pub returns-then-not-branch-clause-went : goal.returns-then-not-branch-clause-went
returns-then-not-branch-clause-went g c = λ ready dirs limits s start at.
    let t = (subst (λ how. TakesNext (compiler (g.R.Runner.meaning dirs limits) dirs) dirs limits s
    how c.take_next.new.works.engine.core start.spent (counts (g.R.Runner.runs_of
    c.take_next.new.works.runner) c.take_next.new.steps) (g.S.Source.coming
    c.take_next.new.source) (g.S.Source.fault_count c.args.site.now.source)
    (g.S.Source.fault_count c.take_next.new.source)) c.in-Taken.is
    (c.in_ok-take_next.ensures.took ready.begun dirs limits s start.spent at.engine at.coming))
    in
    build_spends g.R.Runner.meaning dirs limits s (spot_of g.R.Runner g.S.Source g.H.Shelf
    g.K.Keeper c.args.site.now c.args.steps.now) c.take_next.new.works.engine.core
    c.make_all_turns.new.works.engine.core _ _ _ _ (turns_left_of
    c.take_next.new.works.engine.core) start _ true t c.take_next.ensures.count.later refl
    (subst (λ all. MakesTurns (compiler (g.R.Runner.meaning dirs limits) dirs) dirs limits
    (turns_left_of c.take_next.new.works.engine.core) t.state all
    c.make_all_turns.new.works.engine.core start.spent (counts (g.R.Runner.runs_of
    c.make_all_turns.new.works.runner) c.make_all_turns.new.steps)) c.if-not-branch.true
    (c.in_ok-make_all_turns.ensures.made (c.in_ok-take_next.ensures.begun ready.begun
    c.in-Taken.is) dirs limits t.state start.spent t.stands))

pub returns-clause-went : goal.returns-clause-went
returns-clause-went g c = λ ready dirs limits s start at.
    let t = (subst (λ how. TakesNext (compiler (g.R.Runner.meaning dirs limits) dirs) dirs limits s
    how c.take_next.new.works.engine.core start.spent (counts (g.R.Runner.runs_of
    c.take_next.new.works.runner) c.take_next.new.steps) (g.S.Source.coming
    c.take_next.new.source) (g.S.Source.fault_count c.args.site.now.source)
    (g.S.Source.fault_count c.take_next.new.source)) c.in-Taken.is
    (c.in_ok-take_next.ensures.took ready.begun dirs limits s start.spent at.engine at.coming))
    in
    let made = (subst (λ all. MakesTurns (compiler (g.R.Runner.meaning dirs limits) dirs) dirs
    limits (turns_left_of c.take_next.new.works.engine.core) t.state all
    c.make_all_turns.new.works.engine.core start.spent (counts (g.R.Runner.runs_of
    c.make_all_turns.new.works.runner) c.make_all_turns.new.steps)) c.if-not-branch.false
    (c.in_ok-make_all_turns.ensures.made (c.in_ok-take_next.ensures.begun ready.begun
    c.in-Taken.is) dirs limits t.state start.spent t.stands)) in
    let settled = c.make_all_turns.new.works.engine.core in
    let forgot = forgotten_in g.R.Runner.meaning settled c.forget_runs.new.self.core
    c.forget_runs.ensures.files c.forget_runs.ensures.dirs c.forget_runs.ensures.limits
    c.forget_runs.ensures.state dirs limits made.state.engine made.stands.engine in
    let sound = sound_kept g.R.Runner.meaning g.met.R.Runner.laws c.make_all_turns.new.works
    (c.in_ok-make_all_turns.ensures.settled c.if-not-branch.false)
    (c.make_all_turns.ensures.faithful (c.in_ok-take_next.ensures.begun ready.begun
    c.in-Taken.is)) dirs limits made.state.engine made.stands.engine in
    built_whole g.R.Runner.meaning dirs limits s (spot_of g.R.Runner g.S.Source g.H.Shelf g.K.Keeper
    c.args.site.now c.args.steps.now) c.take_next.new.works.engine.core settled _ _ _ _
    (turns_left_of c.take_next.new.works.engine.core) start _ _ (held_of g.H.Shelf g.K.Keeper
    c.publish_built.new.shelf c.publish_built.new.carried.keeper c.publish_built.new.carried.rows) _
    c.publish_built.new.text.items at t c.take_next.ensures.count.later refl made
    (c.in_ok-has_faults.ensures.done (record {
      faithful = c.make_all_turns.ensures.faithful
          (c.in_ok-take_next.ensures.begun ready.begun c.in-Taken.is);
      texts = texts_still _ _ (trees_then _ _ _ (c.in_ok-take_next.ensures.trees ready.begun)
          (c.in_ok-make_all_turns.ensures.trees
          (c.in_ok-take_next.ensures.begun ready.begun c.in-Taken.is))) _ ready.texts;
    })) sound forgot

pub returns-in_err-take_next-clause-cut : goal.returns-in_err-take_next-clause-cut
returns-in_err-take_next-clause-cut g c =
    let same : g.S.Source.fault_count c.take_next.new.source ≡ g.S.Source.fault_count
    c.args.site.now.source = search rules in
    λ ready. on_err c.from_residual.result (λ dirs limits s start at.
    let machine = (compiler (g.R.Runner.meaning dirs limits) dirs) in
    scan_cut g.R.Runner.meaning dirs limits s (spot_of g.R.Runner g.S.Source g.H.Shelf g.K.Keeper
    c.args.site.now c.args.steps.now) _ start.spent c.take_next.new.works.engine.core Build refl
    (built machine (publication.Done []) NotSaved) (λ line scan. refl) (builds_rise machine)
    c.take_next.ensures.perhaps c.take_next.ensures.count.later refl same
    (c.in_err-take_next.ensures.cut dirs limits s start.spent at.engine at.coming (built machine
    (publication.Done []) NotSaved) (builds_rise machine)))

pub returns-in_err-extend_from_slice-in-Failed-clause-cut :
    goal.returns-in_err-extend_from_slice-in-Failed-clause-cut
returns-in_err-extend_from_slice-in-Failed-clause-cut g c = λ ready. on_err
    c.from_residual-in_err-extend_from_slice-in-Failed.result (λ dirs limits s start at.
    let machine = (compiler (g.R.Runner.meaning dirs limits) dirs) in
    scan_untold g.R.Runner.meaning dirs limits s (spot_of g.R.Runner g.S.Source g.H.Shelf g.K.Keeper
    c.args.site.now c.args.steps.now) _ start.spent c.take_next.new.works.engine.core Build refl
    (built machine (publication.Done []) NotSaved) (λ line scan. refl) (builds_rise machine)
    c.take_next.ensures.perhaps c.take_next.ensures.count.later refl _
    (c.in_ok-take_next.ensures.took ready.begun dirs limits s start.spent at.engine at.coming))

pub returns-in_err-make_all_turns-clause-cut : goal.returns-in_err-make_all_turns-clause-cut
returns-in_err-make_all_turns-clause-cut g c = λ ready. on_err
    c.from_residual-in_err-make_all_turns.result (λ dirs limits s start at.
    let t = (subst (λ how. TakesNext (compiler (g.R.Runner.meaning dirs limits) dirs) dirs limits s
    how c.take_next.new.works.engine.core start.spent (counts (g.R.Runner.runs_of
    c.take_next.new.works.runner) c.take_next.new.steps) (g.S.Source.coming
    c.take_next.new.source) (g.S.Source.fault_count c.args.site.now.source)
    (g.S.Source.fault_count c.take_next.new.source)) c.in-Taken.is
    (c.in_ok-take_next.ensures.took ready.begun dirs limits s start.spent at.engine at.coming))
    in
    build_cut g.R.Runner.meaning dirs limits s (spot_of g.R.Runner g.S.Source g.H.Shelf g.K.Keeper
    c.args.site.now c.args.steps.now) _ start.spent t refl c.take_next.ensures.perhaps
    c.take_next.ensures.count.later refl (c.in_err-make_all_turns.ensures.cut
    (c.in_ok-take_next.ensures.begun ready.begun c.in-Taken.is) dirs limits t.state start.spent
    t.stands))

pub returns-in_err-has_faults-clause-cut : goal.returns-in_err-has_faults-clause-cut
returns-in_err-has_faults-clause-cut g c = λ ready. on_err c.from_residual-in_err-has_faults.result
    (λ dirs limits s start at.
    let t = (subst (λ how. TakesNext (compiler (g.R.Runner.meaning dirs limits) dirs) dirs limits s
    how c.take_next.new.works.engine.core start.spent (counts (g.R.Runner.runs_of
    c.take_next.new.works.runner) c.take_next.new.steps) (g.S.Source.coming
    c.take_next.new.source) (g.S.Source.fault_count c.args.site.now.source)
    (g.S.Source.fault_count c.take_next.new.source)) c.in-Taken.is
    (c.in_ok-take_next.ensures.took ready.begun dirs limits s start.spent at.engine at.coming))
    in
    let made = (subst (λ all. MakesTurns (compiler (g.R.Runner.meaning dirs limits) dirs) dirs
    limits (turns_left_of c.take_next.new.works.engine.core) t.state all
    c.make_all_turns.new.works.engine.core start.spent (counts (g.R.Runner.runs_of
    c.make_all_turns.new.works.runner) c.make_all_turns.new.steps)) c.if-not-branch.false
    (c.in_ok-make_all_turns.ensures.made (c.in_ok-take_next.ensures.begun ready.begun
    c.in-Taken.is) dirs limits t.state start.spent t.stands)) in
    let sound = sound_kept g.R.Runner.meaning g.met.R.Runner.laws c.make_all_turns.new.works
    (c.in_ok-make_all_turns.ensures.settled c.if-not-branch.false)
    (c.make_all_turns.ensures.faithful (c.in_ok-take_next.ensures.begun ready.begun
    c.in-Taken.is)) dirs limits made.state.engine made.stands.engine in
    let held = cut_off g.R.Runner.meaning dirs limits s (spot_of g.R.Runner g.S.Source g.H.Shelf
    g.K.Keeper c.args.site.now c.args.steps.now) c.take_next.new.works.engine.core
    c.make_all_turns.new.works.engine.core _ _ _ _ (turns_left_of
    c.take_next.new.works.engine.core) start at _ t refl made sound
    (c.in_err-has_faults.ensures.left (record {
      faithful = c.make_all_turns.ensures.faithful
          (c.in_ok-take_next.ensures.begun ready.begun c.in-Taken.is);
      texts = texts_still _ _ (trees_then _ _ _ (c.in_ok-take_next.ensures.trees ready.begun)
          (c.in_ok-make_all_turns.ensures.trees
          (c.in_ok-take_next.ensures.begun ready.begun c.in-Taken.is))) _ ready.texts;
    })) in
    build_untold g.R.Runner.meaning dirs limits s (spot_of g.R.Runner g.S.Source g.H.Shelf
    g.K.Keeper c.args.site.now c.args.steps.now) _ start.spent t refl
    c.take_next.ensures.perhaps c.take_next.ensures.count.later held true
    c.make_all_turns.new.works.engine.core made)

-- what holds before the next line
pub returns-in-Failed-clause-ready : goal.returns-in-Failed-clause-ready
returns-in-Failed-clause-ready g c = λ ready. failed_ready _ _ (c.take_next.ensures.still
    ready.begun) (λ taken. c.take_next.ensures.faithful (ready.faithful taken))
    (texts_still _ _ (c.in_ok-take_next.ensures.trees ready.begun) _ ready.texts)

pub returns-clause-ready : goal.returns-clause-ready
returns-clause-ready g c = λ ready. faithful_ready _ _ (record {
  sound = c.forget_runs.ensures.sound (c.make_all_turns.ensures.faithful
      (c.in_ok-take_next.ensures.begun ready.begun c.in-Taken.is)).sound;
  kept = forgotten_kept g.R.Runner.meaning c.make_all_turns.new.works.engine.core
      c.forget_runs.new.self.core c.forget_runs.ensures.files c.forget_runs.ensures.dirs
      c.forget_runs.ensures.state (c.make_all_turns.ensures.faithful
      (c.in_ok-take_next.ensures.begun ready.begun c.in-Taken.is)).kept;
}) (texts_still _ _ (trees_forgotten g.R.Runner.meaning c.make_all_turns.new.works.engine.core
    c.forget_runs.new.self.core c.forget_runs.ensures.state) _
    (c.in_ok-has_faults.ensures.texts (record {
      faithful = c.make_all_turns.ensures.faithful
          (c.in_ok-take_next.ensures.begun ready.begun c.in-Taken.is);
      texts = texts_still _ _ (trees_then _ _ _ (c.in_ok-take_next.ensures.trees ready.begun)
          (c.in_ok-make_all_turns.ensures.trees
          (c.in_ok-take_next.ensures.begun ready.begun c.in-Taken.is))) _ ready.texts;
    })))

pub returns-in-SpendsNumbers-clause-ready : goal.returns-in-SpendsNumbers-clause-ready
returns-in-SpendsNumbers-clause-ready g c = λ ready. failed_ready _ _ (c.take_next.ensures.still
    ready.begun) (λ taken. c.take_next.ensures.faithful (ready.faithful taken))
    (texts_still _ _ (c.in_ok-take_next.ensures.trees ready.begun) _ ready.texts)

pub returns-in-IsTooMuch-clause-ready : goal.returns-in-IsTooMuch-clause-ready
returns-in-IsTooMuch-clause-ready g c = λ ready. failed_ready _ _ (c.take_next.ensures.still
    ready.begun) (λ taken. c.take_next.ensures.faithful (ready.faithful taken))
    (texts_still _ _ (c.in_ok-take_next.ensures.trees ready.begun) _ ready.texts)

pub returns-then-not-branch-clause-ready : goal.returns-then-not-branch-clause-ready
returns-then-not-branch-clause-ready g c = λ ready. faithful_ready _ _
    (c.make_all_turns.ensures.faithful (c.in_ok-take_next.ensures.begun ready.begun c.in-Taken.is))
    (texts_still _ _ (trees_then _ _ _ (c.in_ok-take_next.ensures.trees ready.begun)
    (c.in_ok-make_all_turns.ensures.trees (c.in_ok-take_next.ensures.begun ready.begun
    c.in-Taken.is))) _ ready.texts)
