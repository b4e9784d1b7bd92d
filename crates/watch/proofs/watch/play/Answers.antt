use Rattle.std.proofs.Common.{◌≡◌, ◌<◌, ◌∙◌, true, false, inl, inr, refl, arith}
use Rattle.engine_session.specs.Compiler.{compiler}
use Rattle.outside.specs.Contents.{Appends}
use Rattle.outside.specs.Lines.{NextLine}
use Rattle.watch.proofs.Playing.{one_more, none_yet}
use Rattle.watch.proofs.Rows.{may_keep_on}
use Rattle.watch.proofs.Stopping.{broken, caused_behind, ends_in, stopped_lines, stopped_out}
use Rattle.watch.specs.declared.ends.End.TheVariants as ends
use Rattle.watch.specs.declared.step.Step.TheVariants as step
use Rattle.watch.specs.declared.watch.TheConstants.{MAX_LINES}
use Rattle.watch.proofs.watch.play.Goals as goal

pub loop-i-init : goal.loop-i-init
loop-i-init g c = record {
  knows = c.requires.knows;
  lines = refl;
  out = refl;
  source_opened = refl;
  shelf_opened = refl;
  store_opened = refl;
  unkept = λ none. (refl, none);
  ready = λ ready. record {
    begun = ready.begun;
    faithful = ready.faithful;
    texts = ready.texts;
  };
  played = λ ready dirs limits e ps names begins. none_yet (compiler (g.R.Runner.meaning dirs
      limits) dirs) g.R.Runner.meaning dirs limits e ps names (g.N.Lines.left c.args.lines.now)
      (g.O.Sink.held c.args.out.now) _ refl begins;
}

pub work_on-requires-clause-store_open : goal.work_on-requires-clause-store_open
work_on-requires-clause-store_open g c =
    may_keep_on g.K.Keeper c.args.site.now.carried c.loop-i.site.carried c.requires.store_open
    c.loop-i.invariant.unkept c.loop-i.invariant.store_opened

pub returns-in-Ok-false-clause-ok : goal.returns-in-Ok-false-clause-ok
returns-in-Ok-false-clause-ok g c =
    let read : NextLine false c.next_line.new.into.items (g.N.Lines.left c.loop-i.lines)
    (g.N.Lines.left c.next_line.new.lines) = rw c.in-Ok-false.field-0-test at
    c.in-Ok-false.ensures.ok in
    let few : c.loop-i._i < MAX_LINES = omega (arith, c.loop-i-test.true) in
    λ ready dirs limits e ps names begins. inl (record {
      many = c.loop-i._i;
      few = few;
      lines =
          g.N.Lines.left c.loop-i.lines;
      played = c.loop-i.invariant.played ready dirs limits e ps
          names begins;
      line = c.next_line.new.into.items;
      over = read;
    })

pub returns-in-Err-clause-err : goal.returns-in-Err-clause-err
returns-in-Err-clause-err g c =
    let few : c.loop-i._i < MAX_LINES = omega (arith, c.loop-i-test.true) in
    λ ready dirs limits e ps names begins. stopped_lines (compiler (g.R.Runner.meaning dirs limits)
    dirs) g.R.Runner.meaning dirs limits _ _ _ _ _ _ _ _ _ _ _ few (c.loop-i.invariant.played
    ready dirs limits e ps names begins) c.in-Err.end c.in-Err.ensures.kind c.in-Err.ensures.err
    refl refl

pub returns-in-Err-clause-lines_cause : goal.returns-in-Err-clause-lines_cause
returns-in-Err-clause-lines_cause g c = caused_behind c.in-Err.end ends.Lines (g.N.Lines.fault_count
    c.args.lines.now) (g.N.Lines.fault_count c.loop-i.lines) (g.N.Lines.fault_count
    c.next_line.new.lines) c.loop-i.invariant.lines c.in-Err.ensures.cause

pub returns-in-Ok-Quits-clause-ok : goal.returns-in-Ok-Quits-clause-ok
returns-in-Ok-Quits-clause-ok g c =
    let read : NextLine true c.next_line.new.into.items (g.N.Lines.left c.loop-i.lines)
    (g.N.Lines.left c.next_line.new.lines) = rw c.in-Ok-true.field-0-test at
    c.in-Ok-true.ensures.ok in
    let few : c.loop-i._i < MAX_LINES = omega (arith, c.loop-i-test.true) in
    λ ready dirs limits e ps names begins. let played = c.loop-i.invariant.played ready dirs limits
    e ps names begins in
    let went = rw (c.deref.ensures.value, c.in-Ok-Quits.field-0-is) at (c.in-Ok-Quits.ensures.went
    (c.loop-i.invariant.ready ready) dirs limits played.state _ played.at) in
    inr (ends_in (compiler (g.R.Runner.meaning dirs limits) dirs) g.R.Runner.meaning dirs limits _ _
    _ _ _ (g.O.Sink.held c.loop-i.out) (g.O.Sink.held c.loop-i.out) _ _ _ _ few played
    c.next_line.new.into.items read step.Quits c.work_on.new.text.items went went.on)

pub returns-in-Ok-SpendsNumbers-clause-err : goal.returns-in-Ok-SpendsNumbers-clause-err
returns-in-Ok-SpendsNumbers-clause-err g c =
    let read : NextLine true c.next_line.new.into.items (g.N.Lines.left c.loop-i.lines)
    (g.N.Lines.left c.next_line.new.lines) = rw c.in-Ok-true.field-0-test at
    c.in-Ok-true.ensures.ok in
    let few : c.loop-i._i < MAX_LINES = omega (arith, c.loop-i-test.true) in
    λ ready dirs limits e ps names begins. let played = c.loop-i.invariant.played ready dirs limits
    e ps names begins in
    let went = rw (c.deref.ensures.value, c.in-Ok-SpendsNumbers.field-0-is) at
    (c.in-Ok-SpendsNumbers.ensures.went (c.loop-i.invariant.ready ready) dirs limits
    played.state _ played.at) in
    ends_in (compiler (g.R.Runner.meaning dirs limits) dirs) g.R.Runner.meaning dirs limits _ _ _ _
    _ (g.O.Sink.held c.loop-i.out) (g.O.Sink.held c.loop-i.out) _ _ _ _ few played
    c.next_line.new.into.items read step.SpendsNumbers c.work_on.new.text.items went went.on

pub returns-in-Ok-IsTooMuch-clause-err : goal.returns-in-Ok-IsTooMuch-clause-err
returns-in-Ok-IsTooMuch-clause-err g c =
    let read : NextLine true c.next_line.new.into.items (g.N.Lines.left c.loop-i.lines)
    (g.N.Lines.left c.next_line.new.lines) = rw c.in-Ok-true.field-0-test at
    c.in-Ok-true.ensures.ok in
    let few : c.loop-i._i < MAX_LINES = omega (arith, c.loop-i-test.true) in
    λ ready dirs limits e ps names begins. let played = c.loop-i.invariant.played ready dirs limits
    e ps names begins in
    let went = rw (c.deref.ensures.value, c.in-Ok-IsTooMuch.field-0-is) at
    (c.in-Ok-IsTooMuch.ensures.went (c.loop-i.invariant.ready ready) dirs limits played.state _
    played.at) in
    ends_in (compiler (g.R.Runner.meaning dirs limits) dirs) g.R.Runner.meaning dirs limits _ _ _ _
    _ (g.O.Sink.held c.loop-i.out) (g.O.Sink.held c.loop-i.out) _ _ _ _ few played
    c.next_line.new.into.items read step.IsTooMuch c.work_on.new.text.items went went.on

pub returns-in-Err-work_on-clause-err : goal.returns-in-Err-work_on-clause-err
returns-in-Err-work_on-clause-err g c =
    let read : NextLine true c.next_line.new.into.items (g.N.Lines.left c.loop-i.lines)
    (g.N.Lines.left c.next_line.new.lines) = rw c.in-Ok-true.field-0-test at
    c.in-Ok-true.ensures.ok in
    let few : c.loop-i._i < MAX_LINES = omega (arith, c.loop-i-test.true) in
    λ ready dirs limits e ps names begins. let played = c.loop-i.invariant.played ready dirs limits
    e ps names begins in
    broken (compiler (g.R.Runner.meaning dirs limits) dirs) g.R.Runner.meaning dirs limits _ _
    (g.N.Lines.left c.loop-i.lines) (g.N.Lines.left c.next_line.new.lines) _ _ (g.O.Sink.held
    c.loop-i.out) _ _ _ _ few played c.next_line.new.into.items read (rw c.deref.ensures.value
    at (c.in-Err-work_on.ensures.cut (c.loop-i.invariant.ready ready) dirs limits played.state _
    played.at))

pub returns-in-Err-write-clause-err : goal.returns-in-Err-write-clause-err
returns-in-Err-write-clause-err g c =
    let read : NextLine true c.next_line.new.into.items (g.N.Lines.left c.loop-i.lines)
    (g.N.Lines.left c.next_line.new.lines) = rw c.in-Ok-true.field-0-test at
    c.in-Ok-true.ensures.ok in
    let few : c.loop-i._i < MAX_LINES = omega (arith, c.loop-i-test.true) in
    λ ready dirs limits e ps names begins. let played = c.loop-i.invariant.played ready dirs limits
    e ps names begins in
    stopped_out (compiler (g.R.Runner.meaning dirs limits) dirs) g.R.Runner.meaning dirs limits _ _
    _ _ _ _ _ _ _ _ _ few played c.next_line.new.into.items read c.in-Err-write.end
    c.work_on.new.text.items c.in-Err-write.ensures.kind (rw (
      c.deref.ensures.value,
      c.in-Ok-GoesOn.field-0-is,
    ) at (c.in-Ok-GoesOn.ensures.went (c.loop-i.invariant.ready ready)
    dirs limits played.state _ played.at)) (rw c.deref-in-loop-i.ensures.value at
    c.in-Err-write.ensures.err)

pub loop-i-preserved : goal.loop-i-preserved
loop-i-preserved g c =
    let read : NextLine true c.next_line.new.into.items (g.N.Lines.left c.loop-i.lines)
    (g.N.Lines.left c.next_line.new.lines) = rw c.in-Ok-true.field-0-test at
    c.in-Ok-true.ensures.ok in
    let whole : Appends (g.O.Sink.held c.loop-i.out) c.work_on.new.text.items (g.O.Sink.held
    c.write.new.out) = rw c.deref-in-loop-i.ensures.value at c.in-Ok.ensures.ok in
    record {
      knows = c.in-Ok-GoesOn.ensures.behind.knows;
      lines = c.in-Ok-true.ensures.cause.done ∙ c.loop-i.invariant.lines;
      out = c.in-Ok.ensures.cause.done ∙ c.loop-i.invariant.out;
      source_opened = c.work_on.ensures.behind.later.source_opened ∙
          c.loop-i.invariant.source_opened;
      shelf_opened = c.work_on.ensures.behind.later.shelf_opened ∙ c.loop-i.invariant.shelf_opened;
      store_opened = c.work_on.ensures.behind.later.store_opened ∙ c.loop-i.invariant.store_opened;
      unkept = λ none. let was = c.loop-i.invariant.unkept none in let now =
          c.work_on.ensures.behind.unkept was.1 in (now.0 ∙ was.0, now.1);
      ready = λ ready. c.in-Ok-GoesOn.ensures.ready (c.loop-i.invariant.ready ready);
      played = λ ready dirs limits e ps names begins. let played = c.loop-i.invariant.played ready
          dirs limits e ps names begins in
          one_more (compiler (g.R.Runner.meaning dirs limits) dirs) g.R.Runner.meaning dirs limits _
          _ _ _ _ _ _ _ _ _ _ c.next_line.new.into.items c.work_on.new.text.items played read
          (rw (c.deref.ensures.value, c.in-Ok-GoesOn.field-0-is) at (c.in-Ok-GoesOn.ensures.went
          (c.loop-i.invariant.ready ready) dirs limits played.state _ played.at)) whole;
    }

pub returns-clause-err : goal.returns-clause-err
returns-clause-err g c =
    let all : c.loop-i._i ≡ 1000000 = omega (arith, c.loop-i-test.false, c.loop-i.auto._i-end) in
    λ ready dirs limits e ps names begins. (rw all at (c.loop-i.invariant.played ready dirs limits e
    ps names begins))
