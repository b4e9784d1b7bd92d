use Rattle.std.proofs.Common.{◌≡◌, ◌<◌, ◌++◌, codes, Ok, sym, ap, ◌∙◌, subst, arith}
use Rattle.std.proofs.lemmas.Result.{on_ok_weaker}
use Rattle.pan_ast.specs.Printed.{line_of}
use Rattle.engine_turns.specs.States.{pictured}
use Rattle.rebuild.specs.Engines.{objects_of, turns_left_of}
use Rattle.run_again.specs.Again.{scratch_steps}
use Rattle.run_again.proofs.Settled.{on_err}
use Rattle.session.specs.Sessions.{writes}
use Rattle.session.specs.Texts.{blame_text}
use Rattle.engine_session.specs.Blaming.{leaves_of}
use Rattle.engine_session.specs.Compiler.{compiler}
use Rattle.engine_session.specs.Standing.{counts}
use Rattle.blamed_works.specs.Lines.{Blames}
use Rattle.blamed_works.proofs.Cases.{none_seen, fault_seen, profile_seen, told_pending, told_none, told_fault, told_leaves}
use Rattle.blamed_works.proofs.Lines.{after_run, behind_none, cut_before, cut_after, on_done, spent_most, told_text, told_run}
use Rattle.blamed_works.proofs.blaming.blame.Goals as goal

pub returns-then-left-gt0-clause-told : goal.returns-then-left-gt0-clause-told
returns-then-left-gt0-clause-told g c = λ f. on_ok_weaker c.extend_from_slice.result
    (λ e dirs limits s start at taken.
    let M = g.R.Runner.meaning in
    let core = c.args.works.now.engine.core in
    let name = c.args.name.now in
    let terms = c.args.terms.now in
    let some : 0 < turns_left_of core = omega (arith, c.if-left-gt0.true, c.turns_left-left.ensures)
    in
    told_text M core name terms dirs limits s start c.extend_from_slice.new.self.items
    (codes "pending\n") _ (behind_none c.args.text.now.items c.extend_from_slice.new.self.items
    (codes "pending\n") e c.requires.text)
    (told_pending M core f.kept s taken name terms some) at)
    (on_done c.extend_from_slice.result c.extend_from_slice.new.self.items
    (c.args.text.now.items ++ codes "pending\n") c.args.text.now.items
    c.extend_from_slice.ensures.items)

pub returns-then-left-gt0-clause-cut : goal.returns-then-left-gt0-clause-cut
returns-then-left-gt0-clause-cut g c = λ f. on_err c.extend_from_slice.result
    (λ dirs limits s start at taken. cut_before g.R.Runner.meaning dirs limits c.args.name.now
    c.args.terms.now s start _ at.spent)

pub returns-in-NoObject-clause-told : goal.returns-in-NoObject-clause-told
returns-in-NoObject-clause-told g c = λ f. on_ok_weaker c.extend_from_slice-in-NoObject.result
    (λ e dirs limits s start at taken.
    let M = g.R.Runner.meaning in
    let core = c.args.works.now.engine.core in
    let name = c.args.name.now in
    let terms = c.args.terms.now in
    let new = c.extend_from_slice-in-NoObject.new.self.items in
    let none : turns_left_of core ≡ 0 = omega (
      arith,
      c.if-left-gt0.false,
      c.turns_left-left.ensures,
    ) in
    told_text M core name terms dirs limits s start new (codes "no object\n") _
    (behind_none c.args.text.now.items new (codes "no object\n") e c.requires.text)
    (told_none M core f.kept s taken name terms none
    (none_seen M core name (c.in-NoObject.ensures.scratch f.sound))) at)
    (on_done c.extend_from_slice-in-NoObject.result c.extend_from_slice-in-NoObject.new.self.items
    (c.args.text.now.items ++ codes "no object\n") c.args.text.now.items
    c.extend_from_slice-in-NoObject.ensures.items)

pub returns-in-NoObject-clause-cut : goal.returns-in-NoObject-clause-cut
returns-in-NoObject-clause-cut g c = λ f. on_err c.extend_from_slice-in-NoObject.result
    (λ dirs limits s start at taken. cut_before g.R.Runner.meaning dirs limits c.args.name.now
    c.args.terms.now s start _ at.spent)

pub returns-in-Fault-clause-told : goal.returns-in-Fault-clause-told
returns-in-Fault-clause-told g c = λ f. on_ok_weaker c.push_fault.result
    (λ e dirs limits s start at taken.
    let M = g.R.Runner.meaning in
    let core = c.args.works.now.engine.core in
    let name = c.args.name.now in
    let terms = c.args.terms.now in
    let fault = c.in-Fault.fault.now in
    let new = c.push_fault.new.text.items in
    let said = codes "fault " ++ line_of fault ++ codes "\n" in
    let none : turns_left_of core ≡ 0 = omega (
      arith,
      c.if-left-gt0.false,
      c.turns_left-left.ensures,
    ) in
    let seen = fault_seen M core name fault (c.in-Fault.ensures.scratch f.sound) in
    told_text M core name terms dirs limits s start new said _
    (behind_none c.args.text.now.items new said e c.requires.text)
    (told_fault M core f.kept s taken name terms none fault seen.0 seen.1) at)
    c.push_fault.ensures

pub returns-in-Fault-clause-cut : goal.returns-in-Fault-clause-cut
returns-in-Fault-clause-cut g c = λ f. on_err c.push_fault.result
    (λ dirs limits s start at taken. cut_before g.R.Runner.meaning dirs limits c.args.name.now
    c.args.terms.now s start _ at.spent)

pub returns-in-Pending-clause-cut : goal.returns-in-Pending-clause-cut
returns-in-Pending-clause-cut g c = λ f dirs limits s start at taken.
    cut_before g.R.Runner.meaning dirs limits c.args.name.now c.args.terms.now s start _ at.spent

pub returns-in_ok-built-in-Profile-clause-told : goal.returns-in_ok-built-in-Profile-clause-told
returns-in_ok-built-in-Profile-clause-told g c = λ f. on_ok_weaker c.push_built.result
    (λ e dirs limits s start at taken.
    let M = g.R.Runner.meaning in
    let core = c.args.works.now.engine.core in
    let name = c.args.name.now in
    let terms = c.args.terms.now in
    let m = M core.dirs core.limits in
    let built = c.in_ok-built-in-Profile.built in
    let new = c.push_built.new.text.items in
    let said = blame_text (leaves_of m (Ok built) terms) in
    let cost = scratch_steps m (pictured core.files.items) (objects_of core) name in
    let none : turns_left_of core ≡ 0 = omega (
      arith,
      c.if-left-gt0.false,
      c.turns_left-left.ensures,
    ) in
    let seen = profile_seen M core name c.in-Profile._tree.now
    (c.in-Profile.ensures.scratch f.sound) in
    let ends = c.in_ok-built-in-Profile.ensures.end f none in
    let leads = told_leaves M core f.kept s taken name terms none c.in-Profile._tree.now seen.0
    seen.1 ∙ ap (λ r. writes (after_run M core name terms s cost)
    (blame_text (leaves_of m r terms))) ends in
    let mid = counts (g.R.Runner.runs_of c.args.works.now.runner) c.args.steps.now in
    let runs = g.R.Runner.runs_of c.build_again.new.works.runner in
    let steps = c.build_again.new.steps in
    let went = told_run M core name terms dirs limits s start cost new said mid runs steps
    (behind_none c.args.text.now.items new said (e core.dirs core.limits) c.requires.text) leads
    at (c.in_ok-built-in-Profile.ensures.spent f none) in
    subst (λ w. Blames (compiler (M dirs limits) dirs) dirs limits name terms s new w.core start
    (counts runs steps)) (sym c.in_ok-built-in-Profile.ensures.engine) went)
    c.push_built.ensures

pub returns-in_ok-built-in-Profile-clause-cut : goal.returns-in_ok-built-in-Profile-clause-cut
returns-in_ok-built-in-Profile-clause-cut g c = λ f. on_err c.push_built.result
    (λ dirs limits s start at taken.
    let M = g.R.Runner.meaning in
    let core = c.args.works.now.engine.core in
    let name = c.args.name.now in
    let terms = c.args.terms.now in
    let cost = scratch_steps (M core.dirs core.limits) (pictured core.files.items)
    (objects_of core) name in
    let none : turns_left_of core ≡ 0 = omega (
      arith,
      c.if-left-gt0.false,
      c.turns_left-left.ensures,
    ) in
    let seen = profile_seen M core name c.in-Profile._tree.now
    (c.in-Profile.ensures.scratch f.sound) in
    let leads = told_leaves M core f.kept s taken name terms none c.in-Profile._tree.now seen.0
    seen.1 in
    let mid = counts (g.R.Runner.runs_of c.args.works.now.runner) c.args.steps.now in
    cut_after M core name terms dirs limits s start cost _ mid
    (g.R.Runner.runs_of c.build_again.new.works.runner) c.build_again.new.steps leads at
    (spent_most cost mid.steps c.build_again.new.steps mid.runs
    (g.R.Runner.runs_of c.build_again.new.works.runner)
    (c.in_ok-built-in-Profile.ensures.spent f none)))

pub returns-in_err-built-in-Profile-clause-cut : goal.returns-in_err-built-in-Profile-clause-cut
returns-in_err-built-in-Profile-clause-cut g c = λ f. on_err c.from_residual.result
    (λ dirs limits s start at taken.
    let M = g.R.Runner.meaning in
    let core = c.args.works.now.engine.core in
    let name = c.args.name.now in
    let terms = c.args.terms.now in
    let cost = scratch_steps (M core.dirs core.limits) (pictured core.files.items)
    (objects_of core) name in
    let none : turns_left_of core ≡ 0 = omega (
      arith,
      c.if-left-gt0.false,
      c.turns_left-left.ensures,
    ) in
    let seen = profile_seen M core name c.in-Profile._tree.now
    (c.in-Profile.ensures.scratch f.sound) in
    let leads = told_leaves M core f.kept s taken name terms none c.in-Profile._tree.now seen.0
    seen.1 in
    let mid = counts (g.R.Runner.runs_of c.args.works.now.runner) c.args.steps.now in
    cut_after M core name terms dirs limits s start cost _ mid
    (g.R.Runner.runs_of c.build_again.new.works.runner) c.build_again.new.steps leads at
    (c.in_err-built-in-Profile.ensures.spent f none))
