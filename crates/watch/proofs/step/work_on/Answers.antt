use Rattle.std.proofs.Common.{◌≡◌, ◌++◌, rules, codes, refl, sym, ap, subst, if◌then◌else◌, ◌∙◌}
use Rattle.engine_session.specs.Compiler.{compiler, cause_text}
use Rattle.engine_session.specs.Standing.{compiled_in}
use Rattle.engine_session.proofs.Moves.{along}
use Rattle.publication.proofs.Planning.{on_err}
use Rattle.rebuild.specs.Answers.{why_at}
use Rattle.session.specs.Orders.{order_of, Show, Why, Deps, Impact, Unused, BadLine}
use Rattle.session.specs.Sessions.{shown_of, deps_of, touched_of, unused_of, writes}
use Rattle.session.specs.Texts.{about, outcome_text, deps_text, touched_text, unused_text}
use Rattle.watch.proofs.Behind.{behind_scan, behind_still}
use Rattle.watch.proofs.Going.{tells_of, quits}
use Rattle.watch.specs.Read.{as_order}
use Rattle.watch.specs.Sites.{Goes, IsCut, spot_of}
use Rattle.std.proofs.lemmas.Result.{IfOk-weaker, on_err_weaker}
use Rattle.watch.proofs.Working.{cut_still}
use Rattle.watch.proofs.step.work_on.Goals as goal

pub returns-in-Quit-clause-went : goal.returns-in-Quit-clause-went
returns-in-Quit-clause-went g c = λ ready dirs limits s start at. quits (compiler
    (g.R.Runner.meaning dirs limits) dirs) g.R.Runner.meaning dirs limits s _ start (order_of
    c.args.line.now) _ (ap as_order (sym c.in-Quit.is) ∙ c.in_ok-read_order.ensures) at

pub returns-in_ok-show_line-in-Show-clause-went : goal.returns-in_ok-show_line-in-Show-clause-went
returns-in_ok-show_line-in-Show-clause-went g c = λ ready.
    let M = g.R.Runner.meaning in
    let core = c.args.site.now.works.engine.core in
    let taken = c.args.site.now.has_taken in
    let none = codes "no object\n" in
    let text = c.in_ok-show_line-in-Show.ensures ready ∙ ap (λ before. before ++ (if taken then
    about outcome_text (shown_of (compiler (M core.dirs core.limits) core.dirs)
    c.in-Show.name.now (compiled_in core)) else none)) c.requires.text in
    λ dirs limits s start at.
    tells_of (compiler (M dirs limits) dirs) M dirs limits s (spot_of g.R.Runner g.S.Source
    g.H.Shelf g.K.Keeper c.args.site.now c.args.steps.now) start (order_of c.args.line.now)
    (Show c.in-Show.name.now) _ (ap as_order (sym c.in-Show.is) ∙ c.in_ok-read_order.ensures) (λ
    P Q q. q) (λ line. ap (writes s) (sym (text ∙ along core (λ d l e. (if taken then about
    outcome_text (shown_of (compiler (M core.dirs core.limits) core.dirs) c.in-Show.name.now
    (compiled_in core)) else none) ≡ (if taken then about outcome_text (shown_of (compiler (M d
    l) d) c.in-Show.name.now e) else none)) dirs limits s.engine at.engine.engine refl ∙ ap (λ
    b. if b then about outcome_text (shown_of (compiler (M dirs limits) dirs) c.in-Show.name.now
    s.engine) else none) (sym at.taken)))) at

pub returns-in_ok-why_line-in-Why-clause-went : goal.returns-in_ok-why_line-in-Why-clause-went
returns-in_ok-why_line-in-Why-clause-went g c = λ ready.
    let M = g.R.Runner.meaning in
    let core = c.args.site.now.works.engine.core in
    let taken = c.args.site.now.has_taken in
    let none = codes "no object\n" in
    let text = c.in_ok-why_line-in-Why.ensures ready ∙ ap (λ before. before ++ (if taken then
    cause_text (why_at (compiled_in core).situation c.in-Why.name.now) else none))
    c.requires.text in
    λ dirs limits s start at.
    tells_of (compiler (M dirs limits) dirs) M dirs limits s (spot_of g.R.Runner g.S.Source
    g.H.Shelf g.K.Keeper c.args.site.now c.args.steps.now) start (order_of c.args.line.now) (Why
    c.in-Why.name.now) _ (ap as_order (sym c.in-Why.is) ∙ c.in_ok-read_order.ensures) (λ P Q q.
    q) (λ line. ap (writes s) (sym (text ∙ along core (λ d l e. (if taken then cause_text
    (why_at (compiled_in core).situation c.in-Why.name.now) else none) ≡ (if taken then
    cause_text (why_at e.situation c.in-Why.name.now) else none)) dirs limits s.engine
    at.engine.engine refl ∙ ap (λ b. if b then cause_text (why_at s.engine.situation
    c.in-Why.name.now) else none) (sym at.taken)))) at

pub returns-in_ok-deps_line-in-Deps-clause-went : goal.returns-in_ok-deps_line-in-Deps-clause-went
returns-in_ok-deps_line-in-Deps-clause-went g c = λ ready.
    let M = g.R.Runner.meaning in
    let core = c.args.site.now.works.engine.core in
    let taken = c.args.site.now.has_taken in
    let none = codes "no object\n" in
    let text = c.in_ok-deps_line-in-Deps.ensures ready ∙ ap (λ before. before ++ (if taken then
    about deps_text (deps_of (compiler (M core.dirs core.limits) core.dirs) c.in-Deps.name.now
    (compiled_in core)) else none)) c.requires.text in
    λ dirs limits s start at.
    tells_of (compiler (M dirs limits) dirs) M dirs limits s (spot_of g.R.Runner g.S.Source
    g.H.Shelf g.K.Keeper c.args.site.now c.args.steps.now) start (order_of c.args.line.now)
    (Deps c.in-Deps.name.now) _ (ap as_order (sym c.in-Deps.is) ∙ c.in_ok-read_order.ensures) (λ
    P Q q. q) (λ line. ap (writes s) (sym (text ∙ along core (λ d l e. (if taken then about
    deps_text (deps_of (compiler (M core.dirs core.limits) core.dirs) c.in-Deps.name.now
    (compiled_in core)) else none) ≡ (if taken then about deps_text (deps_of (compiler (M d l)
    d) c.in-Deps.name.now e) else none)) dirs limits s.engine at.engine.engine refl ∙ ap (λ b.
    if b then about deps_text (deps_of (compiler (M dirs limits) dirs) c.in-Deps.name.now
    s.engine) else none) (sym at.taken)))) at

pub returns-in_ok-impact_line-in-Impact-clause-went :
    goal.returns-in_ok-impact_line-in-Impact-clause-went
returns-in_ok-impact_line-in-Impact-clause-went g c = λ ready.
    let M = g.R.Runner.meaning in
    let core = c.args.site.now.works.engine.core in
    let taken = c.args.site.now.has_taken in
    let none = codes "end\n" in
    let text = c.in_ok-impact_line-in-Impact.ensures ready ∙ ap (λ before. before ++ (if taken then
    touched_text (touched_of (compiler (M core.dirs core.limits) core.dirs) c.in-Impact.file.now
    (compiled_in core)) else none)) c.requires.text in
    λ dirs limits s start at.
    tells_of (compiler (M dirs limits) dirs) M dirs limits s (spot_of g.R.Runner g.S.Source
    g.H.Shelf g.K.Keeper c.args.site.now c.args.steps.now) start (order_of c.args.line.now)
    (Impact c.in-Impact.file.now) _ (ap as_order (sym c.in-Impact.is) ∙
    c.in_ok-read_order.ensures) (λ P Q q. q) (λ line. ap (writes s) (sym (text ∙ along core (λ d
    l e. (if taken then touched_text (touched_of (compiler (M core.dirs core.limits) core.dirs)
    c.in-Impact.file.now (compiled_in core)) else none) ≡ (if taken then touched_text
    (touched_of (compiler (M d l) d) c.in-Impact.file.now e) else none)) dirs limits s.engine
    at.engine.engine refl ∙ ap (λ b. if b then touched_text (touched_of (compiler (M dirs
    limits) dirs) c.in-Impact.file.now s.engine) else none) (sym at.taken)))) at

pub returns-in_ok-unused_line-in-Unused-clause-went :
    goal.returns-in_ok-unused_line-in-Unused-clause-went
returns-in_ok-unused_line-in-Unused-clause-went g c = λ ready.
    let M = g.R.Runner.meaning in
    let core = c.args.site.now.works.engine.core in
    let taken = c.args.site.now.has_taken in
    let none = codes "end\n" in
    let text = c.in_ok-unused_line-in-Unused.ensures ready ∙ ap (λ before. before ++ (if taken then
    unused_text (unused_of (compiler (M core.dirs core.limits) core.dirs) (compiled_in core))
    else none)) c.requires.text in
    λ dirs limits s start at.
    tells_of (compiler (M dirs limits) dirs) M dirs limits s (spot_of g.R.Runner g.S.Source
    g.H.Shelf g.K.Keeper c.args.site.now c.args.steps.now) start (order_of c.args.line.now)
    Unused _ (ap as_order (sym c.in-Unused.is) ∙ c.in_ok-read_order.ensures) (λ P Q q. q) (λ
    line. ap (writes s) (sym (text ∙ along core (λ d l e. (if taken then unused_text (unused_of
    (compiler (M core.dirs core.limits) core.dirs) (compiled_in core)) else none) ≡ (if taken
    then unused_text (unused_of (compiler (M d l) d) e) else none)) dirs limits s.engine
    at.engine.engine refl ∙ ap (λ b. if b then unused_text (unused_of (compiler (M dirs limits)
    dirs) s.engine) else none) (sym at.taken)))) at

pub returns-in_ok-bad_line-in-BadLine-clause-went :
    goal.returns-in_ok-bad_line-in-BadLine-clause-went
returns-in_ok-bad_line-in-BadLine-clause-went g c = λ ready.
    let text : c.bad_line.new.text.items ≡ codes "bad line\n" = search rules in
    λ dirs limits s start at. tells_of (compiler (g.R.Runner.meaning dirs limits) dirs)
    g.R.Runner.meaning dirs limits s (spot_of g.R.Runner g.S.Source g.H.Shelf g.K.Keeper
    c.args.site.now c.args.steps.now) start (order_of c.args.line.now) BadLine _ (ap as_order
    (sym c.in-BadLine.is) ∙ c.in_ok-read_order.ensures) (λ P Q q. q) (λ line. ap (writes s) (sym
    text)) at

pub returns-in_err-show_line-in-Show-clause-cut : goal.returns-in_err-show_line-in-Show-clause-cut
returns-in_err-show_line-in-Show-clause-cut g c = λ ready. on_err
    c.from_residual-in_err-show_line-in-Show.result (λ dirs limits s start at. cut_still (compiler
    (g.R.Runner.meaning dirs limits) dirs) g.R.Runner.meaning dirs limits (order_of c.args.line.now)
    s (spot_of g.R.Runner g.S.Source g.H.Shelf g.K.Keeper c.args.site.now c.args.steps.now)
    start.spent at.engine.spent)

pub returns-in_err-why_line-in-Why-clause-cut : goal.returns-in_err-why_line-in-Why-clause-cut
returns-in_err-why_line-in-Why-clause-cut g c = λ ready. on_err
    c.from_residual-in_err-why_line-in-Why.result (λ dirs limits s start at. cut_still (compiler
    (g.R.Runner.meaning dirs limits) dirs) g.R.Runner.meaning dirs limits (order_of c.args.line.now)
    s (spot_of g.R.Runner g.S.Source g.H.Shelf g.K.Keeper c.args.site.now c.args.steps.now)
    start.spent at.engine.spent)

pub returns-in_err-deps_line-in-Deps-clause-cut : goal.returns-in_err-deps_line-in-Deps-clause-cut
returns-in_err-deps_line-in-Deps-clause-cut g c = λ ready. on_err
    c.from_residual-in_err-deps_line-in-Deps.result (λ dirs limits s start at. cut_still (compiler
    (g.R.Runner.meaning dirs limits) dirs) g.R.Runner.meaning dirs limits (order_of c.args.line.now)
    s (spot_of g.R.Runner g.S.Source g.H.Shelf g.K.Keeper c.args.site.now c.args.steps.now)
    start.spent at.engine.spent)

pub returns-in_err-impact_line-in-Impact-clause-cut :
    goal.returns-in_err-impact_line-in-Impact-clause-cut
returns-in_err-impact_line-in-Impact-clause-cut g c = λ ready. on_err
    c.from_residual-in_err-impact_line-in-Impact.result (λ dirs limits s start at. cut_still
    (compiler (g.R.Runner.meaning dirs limits) dirs) g.R.Runner.meaning dirs limits (order_of
    c.args.line.now) s (spot_of g.R.Runner g.S.Source g.H.Shelf g.K.Keeper c.args.site.now
    c.args.steps.now) start.spent at.engine.spent)

pub returns-in_err-unused_line-in-Unused-clause-cut :
    goal.returns-in_err-unused_line-in-Unused-clause-cut
returns-in_err-unused_line-in-Unused-clause-cut g c = λ ready. on_err
    c.from_residual-in_err-unused_line-in-Unused.result (λ dirs limits s start at. cut_still
    (compiler (g.R.Runner.meaning dirs limits) dirs) g.R.Runner.meaning dirs limits (order_of
    c.args.line.now) s (spot_of g.R.Runner g.S.Source g.H.Shelf g.K.Keeper c.args.site.now
    c.args.steps.now) start.spent at.engine.spent)

pub returns-in_err-bad_line-in-BadLine-clause-cut :
    goal.returns-in_err-bad_line-in-BadLine-clause-cut
returns-in_err-bad_line-in-BadLine-clause-cut g c = λ ready. on_err
    c.from_residual-in_err-bad_line-in-BadLine.result (λ dirs limits s start at. cut_still (compiler
    (g.R.Runner.meaning dirs limits) dirs) g.R.Runner.meaning dirs limits (order_of c.args.line.now)
    s (spot_of g.R.Runner g.S.Source g.H.Shelf g.K.Keeper c.args.site.now c.args.steps.now)
    start.spent at.engine.spent)

pub returns-in-Scan-clause-went : goal.returns-in-Scan-clause-went
returns-in-Scan-clause-went g c = λ ready. IfOk-weaker c.scan_line.result _ _ (λ how went. subst (λ
    order. Goes g.R.Runner.meaning order how c.scan_line.new.text.items (spot_of g.R.Runner
    g.S.Source g.H.Shelf g.K.Keeper c.args.site.now c.args.steps.now) (spot_of g.R.Runner g.S.Source
    g.H.Shelf g.K.Keeper c.scan_line.new.site c.scan_line.new.steps)) (ap as_order (sym
    c.in-Scan.is) ∙ c.in_ok-read_order.ensures) went) (c.scan_line.ensures.went ready)

pub returns-in-Scan-clause-cut : goal.returns-in-Scan-clause-cut
returns-in-Scan-clause-cut g c = λ ready. on_err_weaker c.scan_line.result (λ cut. subst (λ order.
    IsCut g.R.Runner.meaning order (spot_of g.R.Runner g.S.Source g.H.Shelf g.K.Keeper
    c.args.site.now c.args.steps.now) (spot_of g.R.Runner g.S.Source g.H.Shelf g.K.Keeper
    c.scan_line.new.site c.scan_line.new.steps)) (ap as_order (sym c.in-Scan.is) ∙
    c.in_ok-read_order.ensures) cut) (c.scan_line.ensures.cut ready)

pub returns-in-Turns-clause-went : goal.returns-in-Turns-clause-went
returns-in-Turns-clause-went g c = λ ready. IfOk-weaker c.turn_line.result _ _ (λ how went. subst (λ
    order. Goes g.R.Runner.meaning order how c.turn_line.new.text.items (spot_of g.R.Runner
    g.S.Source g.H.Shelf g.K.Keeper c.args.site.now c.args.steps.now) (spot_of g.R.Runner g.S.Source
    g.H.Shelf g.K.Keeper c.turn_line.new.site c.turn_line.new.steps)) (ap as_order (sym
    c.in-Turns.is) ∙ c.in_ok-read_order.ensures) went) (c.turn_line.ensures.went ready)

pub returns-in-Turns-clause-cut : goal.returns-in-Turns-clause-cut
returns-in-Turns-clause-cut g c = λ ready. on_err_weaker c.turn_line.result (λ cut. subst (λ order.
    IsCut g.R.Runner.meaning order (spot_of g.R.Runner g.S.Source g.H.Shelf g.K.Keeper
    c.args.site.now c.args.steps.now) (spot_of g.R.Runner g.S.Source g.H.Shelf g.K.Keeper
    c.turn_line.new.site c.turn_line.new.steps)) (ap as_order (sym c.in-Turns.is) ∙
    c.in_ok-read_order.ensures) cut) (c.turn_line.ensures.cut ready)

pub returns-in-Build-clause-went : goal.returns-in-Build-clause-went
returns-in-Build-clause-went g c = λ ready. IfOk-weaker c.build_line.result _ _ (λ how went. subst
    (λ order. Goes g.R.Runner.meaning order how c.build_line.new.text.items (spot_of g.R.Runner
    g.S.Source g.H.Shelf g.K.Keeper c.args.site.now c.args.steps.now) (spot_of g.R.Runner g.S.Source
    g.H.Shelf g.K.Keeper c.build_line.new.site c.build_line.new.steps)) (ap as_order (sym
    c.in-Build.is) ∙ c.in_ok-read_order.ensures) went) (c.build_line.ensures.went ready)

pub returns-in-Build-clause-cut : goal.returns-in-Build-clause-cut
returns-in-Build-clause-cut g c = λ ready. on_err_weaker c.build_line.result (λ cut. subst (λ order.
    IsCut g.R.Runner.meaning order (spot_of g.R.Runner g.S.Source g.H.Shelf g.K.Keeper
    c.args.site.now c.args.steps.now) (spot_of g.R.Runner g.S.Source g.H.Shelf g.K.Keeper
    c.build_line.new.site c.build_line.new.steps)) (ap as_order (sym c.in-Build.is) ∙
    c.in_ok-read_order.ensures) cut) (c.build_line.ensures.cut ready)

pub returns-in-Blame-clause-went : goal.returns-in-Blame-clause-went
returns-in-Blame-clause-went g c = λ ready. IfOk-weaker c.blame_line.result _ _ (λ how went. subst
    (λ order. Goes g.R.Runner.meaning order how c.blame_line.new.text.items (spot_of g.R.Runner
    g.S.Source g.H.Shelf g.K.Keeper c.args.site.now c.args.steps.now) (spot_of g.R.Runner g.S.Source
    g.H.Shelf g.K.Keeper c.blame_line.new.site c.blame_line.new.steps)) (ap as_order (sym
    c.in-Blame.is) ∙ c.in_ok-read_order.ensures) went) (c.blame_line.ensures.went ready)

pub returns-in-Blame-clause-cut : goal.returns-in-Blame-clause-cut
returns-in-Blame-clause-cut g c = λ ready. on_err_weaker c.blame_line.result (λ cut. subst (λ order.
    IsCut g.R.Runner.meaning order (spot_of g.R.Runner g.S.Source g.H.Shelf g.K.Keeper
    c.args.site.now c.args.steps.now) (spot_of g.R.Runner g.S.Source g.H.Shelf g.K.Keeper
    c.blame_line.new.site c.blame_line.new.steps)) (ap as_order (sym c.in-Blame.is) ∙
    c.in_ok-read_order.ensures) cut) (c.blame_line.ensures.cut ready)

pub returns-in_err-read_order-clause-cut : goal.returns-in_err-read_order-clause-cut
returns-in_err-read_order-clause-cut g c = λ ready. on_err c.from_residual.result (λ dirs limits s
    start at. cut_still (compiler (g.R.Runner.meaning dirs limits) dirs) g.R.Runner.meaning dirs
    limits (order_of c.args.line.now) s (spot_of g.R.Runner g.S.Source g.H.Shelf g.K.Keeper
    c.args.site.now c.args.steps.now) start.spent at.engine.spent)

pub returns-in-Scan-clause-behind : goal.returns-in-Scan-clause-behind
returns-in-Scan-clause-behind g c =
    let e = c.scan_line.ensures in
    behind_scan g.S.Source g.H.Shelf g.K.Keeper c.scan_line.result c.args.site.now
    c.scan_line.new.site c.requires.knows e.shelf e.publisher e.carried e.later

pub returns-in-Turns-clause-behind : goal.returns-in-Turns-clause-behind
returns-in-Turns-clause-behind g c =
    let e = c.turn_line.ensures in
    behind_still g.S.Source g.H.Shelf g.K.Keeper c.turn_line.result c.args.site.now
    c.turn_line.new.site c.requires.knows e.shelf e.publisher e.carried e.source

pub returns-in-Blame-clause-behind : goal.returns-in-Blame-clause-behind
returns-in-Blame-clause-behind g c =
    let e = c.blame_line.ensures in
    behind_still g.S.Source g.H.Shelf g.K.Keeper c.blame_line.result c.args.site.now
    c.blame_line.new.site c.requires.knows e.shelf e.publisher e.carried e.source
