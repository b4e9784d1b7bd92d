use Rattle.std.proofs.Common.{◌≡◌, ◌++◌, ap₂, codes, length, refl, rules, subst, ◌∙◌}
use Rattle.engine_session.proofs.KeptTrees.{texts_still}
use Rattle.engine_session.specs.Compiler.{compiler}
use Rattle.engine_session.specs.Standing.{counts, TakesNext}
use Rattle.engine_turns.specs.Places.{names}
use Rattle.engine_turns.specs.States.{pictured}
use Rattle.publication.proofs.Planning.{on_err}
use Rattle.session.specs.Orders.{Scan}
use Rattle.session.specs.Sessions.{writes, answers_in}
use Rattle.session.specs.Texts.{files_line}
use Rattle.watch.proofs.Going.{files_are, scan_taken, scan_failed, scan_spends, scan_exceeds}
use Rattle.watch.proofs.Ready.{failed_ready, faithful_ready}
use Rattle.watch.proofs.Working.{scan_cut, scan_untold, writes_rises}
use Rattle.watch.specs.Sites.{spot_of}
use Rattle.watch.proofs.step.scan_line.Goals as goal

pub returns-in_ok-extend_from_slice-in-Failed-clause-went :
    goal.returns-in_ok-extend_from_slice-in-Failed-clause-went
returns-in_ok-extend_from_slice-in-Failed-clause-went g c =
    let text : c.extend_from_slice.new.self.items ≡ codes "source fault\n" = search rules in
    λ ready dirs limits s start at.
    scan_failed (compiler (g.R.Runner.meaning dirs limits) dirs) g.R.Runner.meaning dirs limits s
    (spot_of g.R.Runner g.S.Source g.H.Shelf g.K.Keeper c.args.site.now c.args.steps.now) _ _ _
    _ start Scan _ _ refl (λ line scan. refl) at (subst (λ how. TakesNext (compiler
    (g.R.Runner.meaning dirs limits) dirs) dirs limits s how c.take_next.new.works.engine.core
    start.spent (counts (g.R.Runner.runs_of c.take_next.new.works.runner) c.take_next.new.steps)
    (g.S.Source.coming c.take_next.new.source) (g.S.Source.fault_count c.args.site.now.source)
    (g.S.Source.fault_count c.take_next.new.source)) c.in-Failed.is
    (c.in_ok-take_next.ensures.took ready.begun dirs limits s start.spent at.engine at.coming))
    c.take_next.ensures.count.later text

pub returns-in_ok-push_files-in-Taken-clause-went :
    goal.returns-in_ok-push_files-in-Taken-clause-went
returns-in_ok-push_files-in-Taken-clause-went g c =
    let core = c.take_next.new.works.engine.core in
    let count : c.len.result ≡ length (names core.rows.items) = search rules in
    let text : c.push_files.new.text.items ≡ files_line (length (pictured core.files.items)) (length
    (names core.rows.items)) = c.in_ok-push_files-in-Taken.ensures ∙ ap₂ (λ before line. before
    ++ line) c.requires.text (ap₂ (λ a b. files_line (length a) b) (c.files.ensures.files ∙
    c.picture.ensures ∙ c.take_next.new.works.files) count) in
    λ ready dirs limits s start at.
    let t = (subst (λ how. TakesNext (compiler (g.R.Runner.meaning dirs limits) dirs) dirs limits s
    how c.take_next.new.works.engine.core start.spent (counts (g.R.Runner.runs_of
    c.take_next.new.works.runner) c.take_next.new.steps) (g.S.Source.coming
    c.take_next.new.source) (g.S.Source.fault_count c.args.site.now.source)
    (g.S.Source.fault_count c.take_next.new.source)) c.in-Taken.is
    (c.in_ok-take_next.ensures.took ready.begun dirs limits s start.spent at.engine at.coming))
    in
    scan_taken (compiler (g.R.Runner.meaning dirs limits) dirs) g.R.Runner.meaning dirs limits s
    (spot_of g.R.Runner g.S.Source g.H.Shelf g.K.Keeper c.args.site.now c.args.steps.now) _ _ _
    _ start c.push_files.new.text.items at t c.take_next.ensures.count.later (text ∙ files_are
    g.R.Runner.meaning core (c.in_ok-take_next.ensures.begun ready.begun c.in-Taken.is).kept
    dirs limits t.state.engine t.stands.engine)

pub returns-in-SpendsNumbers-clause-went : goal.returns-in-SpendsNumbers-clause-went
returns-in-SpendsNumbers-clause-went g c = λ ready dirs limits s start at.
    scan_spends (compiler (g.R.Runner.meaning dirs limits) dirs) g.R.Runner.meaning dirs limits s
    (spot_of g.R.Runner g.S.Source g.H.Shelf g.K.Keeper c.args.site.now c.args.steps.now) _ _ _
    _ start Scan _ _ refl (λ line scan. refl) (subst (λ how. TakesNext (compiler
    (g.R.Runner.meaning dirs limits) dirs) dirs limits s how c.take_next.new.works.engine.core
    start.spent (counts (g.R.Runner.runs_of c.take_next.new.works.runner) c.take_next.new.steps)
    (g.S.Source.coming c.take_next.new.source) (g.S.Source.fault_count c.args.site.now.source)
    (g.S.Source.fault_count c.take_next.new.source)) c.in-SpendsNumbers.is
    (c.in_ok-take_next.ensures.took ready.begun dirs limits s start.spent at.engine at.coming))
    c.take_next.ensures.count.later _

pub returns-in-IsTooMuch-clause-went : goal.returns-in-IsTooMuch-clause-went
returns-in-IsTooMuch-clause-went g c = λ ready dirs limits s start at.
    scan_exceeds (compiler (g.R.Runner.meaning dirs limits) dirs) g.R.Runner.meaning dirs limits s
    (spot_of g.R.Runner g.S.Source g.H.Shelf g.K.Keeper c.args.site.now c.args.steps.now) _ _ _
    _ start Scan _ _ refl (λ line scan. refl) (subst (λ how. TakesNext (compiler
    (g.R.Runner.meaning dirs limits) dirs) dirs limits s how c.take_next.new.works.engine.core
    start.spent (counts (g.R.Runner.runs_of c.take_next.new.works.runner) c.take_next.new.steps)
    (g.S.Source.coming c.take_next.new.source) (g.S.Source.fault_count c.args.site.now.source)
    (g.S.Source.fault_count c.take_next.new.source)) c.in-IsTooMuch.is
    (c.in_ok-take_next.ensures.took ready.begun dirs limits s start.spent at.engine at.coming))
    c.take_next.ensures.count.later _

pub returns-in_err-take_next-clause-cut : goal.returns-in_err-take_next-clause-cut
returns-in_err-take_next-clause-cut g c =
    let same : g.S.Source.fault_count c.take_next.new.source ≡ g.S.Source.fault_count
    c.args.site.now.source = search rules in
    λ ready. on_err c.from_residual.result (λ dirs limits s start at.
    let machine = (compiler (g.R.Runner.meaning dirs limits) dirs) in
    scan_cut g.R.Runner.meaning dirs limits s (spot_of g.R.Runner g.S.Source g.H.Shelf g.K.Keeper
    c.args.site.now c.args.steps.now) _ start.spent c.take_next.new.works.engine.core Scan refl
    (λ u. writes u (files_line (length (machine.picture u.engine)) (length (answers_in machine
    u.engine)))) (λ line scan. refl) (writes_rises (λ u. files_line (length (machine.picture
    u.engine)) (length (answers_in machine u.engine)))) c.take_next.ensures.perhaps
    c.take_next.ensures.count.later refl same (c.in_err-take_next.ensures.cut dirs limits s
    start.spent at.engine at.coming (λ u. writes u (files_line (length (machine.picture
    u.engine)) (length (answers_in machine u.engine)))) (writes_rises (λ u. files_line (length
    (machine.picture u.engine)) (length (answers_in machine u.engine))))))

pub returns-in_err-extend_from_slice-in-Failed-clause-cut :
    goal.returns-in_err-extend_from_slice-in-Failed-clause-cut
returns-in_err-extend_from_slice-in-Failed-clause-cut g c = λ ready. on_err
    c.from_residual-in_err-extend_from_slice-in-Failed.result (λ dirs limits s start at.
    let machine = (compiler (g.R.Runner.meaning dirs limits) dirs) in
    scan_untold g.R.Runner.meaning dirs limits s (spot_of g.R.Runner g.S.Source g.H.Shelf g.K.Keeper
    c.args.site.now c.args.steps.now) _ start.spent c.take_next.new.works.engine.core Scan refl
    (λ u. writes u (files_line (length (machine.picture u.engine)) (length (answers_in machine
    u.engine)))) (λ line scan. refl) (writes_rises (λ u. files_line (length (machine.picture
    u.engine)) (length (answers_in machine u.engine)))) c.take_next.ensures.perhaps
    c.take_next.ensures.count.later refl _ (c.in_ok-take_next.ensures.took ready.begun dirs
    limits s start.spent at.engine at.coming))

pub returns-in_err-objects-in-Taken-clause-cut : goal.returns-in_err-objects-in-Taken-clause-cut
returns-in_err-objects-in-Taken-clause-cut g c = λ ready. on_err
    c.from_residual-in_err-objects-in-Taken.result (λ dirs limits s start at.
    let machine = (compiler (g.R.Runner.meaning dirs limits) dirs) in
    scan_untold g.R.Runner.meaning dirs limits s (spot_of g.R.Runner g.S.Source g.H.Shelf g.K.Keeper
    c.args.site.now c.args.steps.now) _ start.spent c.take_next.new.works.engine.core Scan refl
    (λ u. writes u (files_line (length (machine.picture u.engine)) (length (answers_in machine
    u.engine)))) (λ line scan. refl) (writes_rises (λ u. files_line (length (machine.picture
    u.engine)) (length (answers_in machine u.engine)))) c.take_next.ensures.perhaps
    c.take_next.ensures.count.later refl _ (c.in_ok-take_next.ensures.took ready.begun dirs
    limits s start.spent at.engine at.coming))

pub returns-in_err-push_files-in-Taken-clause-cut :
    goal.returns-in_err-push_files-in-Taken-clause-cut
returns-in_err-push_files-in-Taken-clause-cut g c = λ ready. on_err
    c.from_residual-in_err-push_files-in-Taken.result (λ dirs limits s start at.
    let machine = (compiler (g.R.Runner.meaning dirs limits) dirs) in
    scan_untold g.R.Runner.meaning dirs limits s (spot_of g.R.Runner g.S.Source g.H.Shelf g.K.Keeper
    c.args.site.now c.args.steps.now) _ start.spent c.take_next.new.works.engine.core Scan refl
    (λ u. writes u (files_line (length (machine.picture u.engine)) (length (answers_in machine
    u.engine)))) (λ line scan. refl) (writes_rises (λ u. files_line (length (machine.picture
    u.engine)) (length (answers_in machine u.engine)))) c.take_next.ensures.perhaps
    c.take_next.ensures.count.later refl _ (c.in_ok-take_next.ensures.took ready.begun dirs
    limits s start.spent at.engine at.coming))

-- what holds before the next line
pub returns-in_ok-extend_from_slice-in-Failed-clause-ready :
    goal.returns-in_ok-extend_from_slice-in-Failed-clause-ready
returns-in_ok-extend_from_slice-in-Failed-clause-ready g c = λ ready. failed_ready _ _
    (c.take_next.ensures.still ready.begun) (λ taken. c.take_next.ensures.faithful (ready.faithful
    taken)) (texts_still _ _ (c.in_ok-take_next.ensures.trees ready.begun) _ ready.texts)

pub returns-in_ok-push_files-in-Taken-clause-ready :
    goal.returns-in_ok-push_files-in-Taken-clause-ready
returns-in_ok-push_files-in-Taken-clause-ready g c = λ ready. faithful_ready _ _
    (c.in_ok-take_next.ensures.begun ready.begun c.in-Taken.is)
    (texts_still _ _ (c.in_ok-take_next.ensures.trees ready.begun) _ ready.texts)

pub returns-in-SpendsNumbers-clause-ready : goal.returns-in-SpendsNumbers-clause-ready
returns-in-SpendsNumbers-clause-ready g c = λ ready. failed_ready _ _ (c.take_next.ensures.still
    ready.begun) (λ taken. c.take_next.ensures.faithful (ready.faithful taken))
    (texts_still _ _ (c.in_ok-take_next.ensures.trees ready.begun) _ ready.texts)

pub returns-in-IsTooMuch-clause-ready : goal.returns-in-IsTooMuch-clause-ready
returns-in-IsTooMuch-clause-ready g c = λ ready. failed_ready _ _ (c.take_next.ensures.still
    ready.begun) (λ taken. c.take_next.ensures.faithful (ready.faithful taken))
    (texts_still _ _ (c.in_ok-take_next.ensures.trees ready.begun) _ ready.texts)
