use Rattle.std.proofs.Common.{◌≡◌, inl, inr, refl, sym, ◌∙◌}
use Rattle.engine_session.specs.Standing.{counts}
use Rattle.session.specs.declared.Ended.TheVariants as ended
use Rattle.demo.specs.Demo.{Breaks, Ends}
use Rattle.demo.specs.declared.ends.End.TheVariants as ends
use Rattle.pan_top.specs.Demos.{shown_by}
use Rattle.call_status.specs.declared.status.Status.TheVariants as S
use Rattle.pan_top.proofs.Counting.{counted_on, counted_same}
use Rattle.pan_top.proofs.Shown.{never_many, shown_plain, shown_said, shown_part}
use Rattle.pan_top.proofs.showing.show.Goals as goal

pub returns-in-Ok-NumbersSpent-clause-shows : goal.returns-in-Ok-NumbersSpent-clause-shows
returns-in-Ok-NumbersSpent-clause-shows g c =
    let x = shown_by g.R.Runner.meaning c.args.demonstration.now in
    let before = counts (g.R.Runner.runs_of c.args.works.now.runner) c.args.steps.now in
    let now = counts (g.R.Runner.runs_of c.demo.new.works.runner) c.demo.new.steps in
    let old = g.O.Sink.held c.args.out.now in
    let mid = g.O.Sink.held c.demo.new.out in
    let ends : Ends x ended.NumbersSpent before now old mid =
    rw (c.limits_given-limits.ensures, c.in-Ok-NumbersSpent.field-0-is) at
    c.in-Ok-NumbersSpent.ensures.ok in
    shown_said x ended.NumbersSpent before now old mid ends c.say.result
    (g.O.Sink.held c.say.new.out) c.say.ensures.line

pub returns-in-Ok-TooMuch-clause-shows : goal.returns-in-Ok-TooMuch-clause-shows
returns-in-Ok-TooMuch-clause-shows g c =
    let x = shown_by g.R.Runner.meaning c.args.demonstration.now in
    let before = counts (g.R.Runner.runs_of c.args.works.now.runner) c.args.steps.now in
    let now = counts (g.R.Runner.runs_of c.demo.new.works.runner) c.demo.new.steps in
    let old = g.O.Sink.held c.args.out.now in
    let mid = g.O.Sink.held c.demo.new.out in
    let ends : Ends x ended.TooMuch before now old mid =
    rw (c.limits_given-limits.ensures, c.in-Ok-TooMuch.field-0-is) at c.in-Ok-TooMuch.ensures.ok
    in
    shown_said x ended.TooMuch before now old mid ends c.say-in-Ok-TooMuch.result
    (g.O.Sink.held c.say-in-Ok-TooMuch.new.out) c.say-in-Ok-TooMuch.ensures.line

pub returns-in-Ok-Clean-clause-shows : goal.returns-in-Ok-Clean-clause-shows
returns-in-Ok-Clean-clause-shows g c =
    let x = shown_by g.R.Runner.meaning c.args.demonstration.now in
    let before = counts (g.R.Runner.runs_of c.args.works.now.runner) c.args.steps.now in
    let now = counts (g.R.Runner.runs_of c.demo.new.works.runner) c.demo.new.steps in
    let old = g.O.Sink.held c.args.out.now in
    let mid = g.O.Sink.held c.demo.new.out in
    let ends : Ends x ended.Clean before now old mid =
    rw (c.limits_given-limits.ensures, c.in-Ok-Clean.field-0-is) at c.in-Ok-Clean.ensures.ok in
    shown_plain x ended.Clean before now old mid ends _ refl refl

pub returns-in-Ok-SomeFaults-clause-shows : goal.returns-in-Ok-SomeFaults-clause-shows
returns-in-Ok-SomeFaults-clause-shows g c =
    let x = shown_by g.R.Runner.meaning c.args.demonstration.now in
    let before = counts (g.R.Runner.runs_of c.args.works.now.runner) c.args.steps.now in
    let now = counts (g.R.Runner.runs_of c.demo.new.works.runner) c.demo.new.steps in
    let old = g.O.Sink.held c.args.out.now in
    let mid = g.O.Sink.held c.demo.new.out in
    let ends : Ends x ended.SomeFaults before now old mid =
    rw (c.limits_given-limits.ensures, c.in-Ok-SomeFaults.field-0-is) at
    c.in-Ok-SomeFaults.ensures.ok in
    shown_plain x ended.SomeFaults before now old mid ends _ refl refl

pub returns-in-Err-Out-clause-shows : goal.returns-in-Err-Out-clause-shows
returns-in-Err-Out-clause-shows g c =
    let x = shown_by g.R.Runner.meaning c.args.demonstration.now in
    let before = counts (g.R.Runner.runs_of c.args.works.now.runner) c.args.steps.now in
    let now = counts (g.R.Runner.runs_of c.demo.new.works.runner) c.demo.new.steps in
    let breaks : Breaks x before now (g.O.Sink.held c.args.out.now) (g.O.Sink.held c.demo.new.out) =
    rw c.limits_given-limits.ensures at c.in-Err-Out.ensures.err in
    shown_part x _ _ _ before now (inl refl) breaks

pub returns-in-Err-Memory-clause-shows : goal.returns-in-Err-Memory-clause-shows
returns-in-Err-Memory-clause-shows g c =
    let x = shown_by g.R.Runner.meaning c.args.demonstration.now in
    let before = counts (g.R.Runner.runs_of c.args.works.now.runner) c.args.steps.now in
    let now = counts (g.R.Runner.runs_of c.demo.new.works.runner) c.demo.new.steps in
    let breaks : Breaks x before now (g.O.Sink.held c.args.out.now) (g.O.Sink.held c.demo.new.out) =
    rw c.limits_given-limits.ensures at c.in-Err-Memory.ensures.err in
    shown_part x _ _ _ before now (inr refl) breaks

pub returns-in-Ok-NumbersSpent-clause-count : goal.returns-in-Ok-NumbersSpent-clause-count
returns-in-Ok-NumbersSpent-clause-count g c =
    counted_on (c.say.result ≡ S.OutFault) _ _ _ c.in-Ok-NumbersSpent.ensures.out_cause.done
    c.say.ensures.count

pub returns-in-Ok-TooMuch-clause-count : goal.returns-in-Ok-TooMuch-clause-count
returns-in-Ok-TooMuch-clause-count g c =
    counted_on (c.say-in-Ok-TooMuch.result ≡ S.OutFault) _ _ _
    c.in-Ok-TooMuch.ensures.out_cause.done c.say-in-Ok-TooMuch.ensures.count

pub returns-in-Ok-Clean-clause-count : goal.returns-in-Ok-Clean-clause-count
returns-in-Ok-Clean-clause-count g c =
    counted_same (S.Clean ≡ S.OutFault) _ _ c.in-Ok-Clean.ensures.out_cause.done (λ is. cc)

pub returns-in-Ok-SomeFaults-clause-count : goal.returns-in-Ok-SomeFaults-clause-count
returns-in-Ok-SomeFaults-clause-count g c =
    counted_same (S.SomeFaults ≡ S.OutFault) _ _ c.in-Ok-SomeFaults.ensures.out_cause.done
    (λ is. cc)

pub returns-in-Err-Out-clause-count : goal.returns-in-Err-Out-clause-count
returns-in-Err-Out-clause-count g c = let cause = c.in-Err-Out.ensures.out_cause in
    record {
      later = cause.later;
      rose = λ is. cause.rose c.in-Err-Out.field-0-is;
      once =
          cause.once;
      kept = λ other. absurd (other refl);
    }

pub returns-in-Err-Memory-clause-count : goal.returns-in-Err-Memory-clause-count
returns-in-Err-Memory-clause-count g c =
    counted_same (S.Memory ≡ S.OutFault) _ _ (c.in-Err-Memory.ensures.out_cause.kept
    (λ is. let e : ends.Memory ≡ ends.Out = sym c.in-Err-Memory.field-0-is ∙ is in cc)) (λ is. cc)

-- no demo ends so
pub unreachable-requires : goal.unreachable-requires
unreachable-requires g c =
    let x = shown_by g.R.Runner.meaning c.args.demonstration.now in
    let before = counts (g.R.Runner.runs_of c.args.works.now.runner) c.args.steps.now in
    let now = counts (g.R.Runner.runs_of c.demo.new.works.runner) c.demo.new.steps in
    let old = g.O.Sink.held c.args.out.now in
    let mid = g.O.Sink.held c.demo.new.out in
    let ends : Ends x (ended.TooManyRemovals c.in-Ok-TooManyRemovals.field-0-0) before now old mid =
    rw (c.limits_given-limits.ensures, c.in-Ok-TooManyRemovals.field-0-is) at
    c.in-Ok-TooManyRemovals.ensures.ok in
    never_many x c.in-Ok-TooManyRemovals.field-0-0 ends.ended
