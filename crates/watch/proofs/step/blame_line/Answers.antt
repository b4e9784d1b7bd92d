use Rattle.std.proofs.Common.{◌≡◌, rules, subst, sym, true, codes, ◌∙◌}
use Rattle.engine_session.specs.Compiler.{compiler}
use Rattle.engine_session.specs.KeptTexts.{AreTexts}
use Rattle.engine_session.specs.Standing.{counts}
use Rattle.publication.proofs.Planning.{on_err}
use Rattle.rebuild.specs.Engines.{situation_of}
use Rattle.session.specs.Orders.{Blame}
use Rattle.watch.proofs.Blaming.{blame_cut, blame_none, blame_told}
use Rattle.watch.proofs.Ready.{faithful_ready}
use Rattle.watch.proofs.Working.{cut_still}
use Rattle.watch.specs.Sites.{spot_of}
use Rattle.watch.specs.Steps.{Cut, Spot, Went}
use Rattle.watch.specs.declared.step.Step.TheVariants as step
use Rattle.watch.proofs.step.blame_line.Goals as goal

pub returns-in_err-extend_from_slice-clause-cut : goal.returns-in_err-extend_from_slice-clause-cut
returns-in_err-extend_from_slice-clause-cut g c = λ ready.
    on_err c.from_residual.result (λ dirs limits s start at.
    cut_still (compiler (g.R.Runner.meaning dirs limits) dirs) g.R.Runner.meaning dirs limits
    (Blame c.args.name.now c.args.path.now.terms) s
    (spot_of g.R.Runner g.S.Source g.H.Shelf g.K.Keeper c.args.site.now c.args.steps.now)
    start.spent at.engine.spent)

-- before the first picture
pub returns-then-not-site-clause-went : goal.returns-then-not-site-clause-went
returns-then-not-site-clause-went g c =
    let text : c.extend_from_slice.new.self.items ≡ codes "no object\n" = search rules in
    λ ready dirs limits s start at.
    blame_none g.R.Runner.meaning dirs limits s
    (spot_of g.R.Runner g.S.Source g.H.Shelf g.K.Keeper c.args.site.now c.args.steps.now) start
    c.args.name.now c.args.path.now.terms _ c.if-not-site.true text at

pub returns-in_err-blame-clause-cut : goal.returns-in_err-blame-clause-cut
returns-in_err-blame-clause-cut g c =
    let before = spot_of g.R.Runner g.S.Source g.H.Shelf g.K.Keeper c.args.site.now
    c.args.steps.now in
    let new = c.blame.new.works.engine.core in
    let spent = counts (g.R.Runner.runs_of c.blame.new.works.runner) c.blame.new.steps in
    let after : Spot g.row.R-Rest.Denot = record before { core = new; spent = spent } in
    let taken : c.args.site.now.has_taken ≡ true = c.if-not-site.false in
    λ ready. on_err c.from_residual-in_err-blame.result (λ dirs limits s start at.
    subst (λ terms. Cut (compiler (g.R.Runner.meaning dirs limits) dirs) g.R.Runner.meaning dirs
    limits (Blame c.args.name.now terms) s before after start.spent) c.as_slice.ensures
    (blame_cut g.R.Runner.meaning dirs limits s before start c.args.name.now
    c.as_slice.result.now new spent (c.in_err-blame.ensures.cut (ready.faithful taken) dirs limits s
    start.spent at.engine (at.taken ∙ taken))))

pub returns-clause-went : goal.returns-clause-went
returns-clause-went g c =
    let before = spot_of g.R.Runner g.S.Source g.H.Shelf g.K.Keeper c.args.site.now
    c.args.steps.now in
    let new = c.blame.new.works.engine.core in
    let spent = counts (g.R.Runner.runs_of c.blame.new.works.runner) c.blame.new.steps in
    let after : Spot g.row.R-Rest.Denot = record before { core = new; spent = spent } in
    let taken : c.args.site.now.has_taken ≡ true = c.if-not-site.false in
    λ ready dirs limits s start at.
    subst (λ terms. Went (compiler (g.R.Runner.meaning dirs limits) dirs) g.R.Runner.meaning dirs
    limits (Blame c.args.name.now terms) s step.GoesOn c.blame.new.text.items before after start)
    c.as_slice.ensures
    (blame_told g.R.Runner.meaning dirs limits s before start c.args.name.now
    c.as_slice.result.now new spent c.blame.new.text.items at (c.in_ok-blame.ensures.told
    (ready.faithful taken) dirs limits s start.spent at.engine (at.taken ∙ taken)))

-- what holds before the next line
pub returns-clause-ready : goal.returns-clause-ready
returns-clause-ready g c =
    let taken : c.args.site.now.has_taken ≡ true = c.if-not-site.false in
    λ ready. faithful_ready _ _ (c.blame.ensures.faithful (ready.faithful taken))
    (subst (λ engine. AreTexts (situation_of engine.core) c.args.site.now.carried.texts)
    (sym c.blame.ensures.engine) ready.texts)
