use Rattle.std.proofs.Common.{◌≡◌, ◌-◌, ◌+◌, suc, [], ap, is_some, refl, arith, ◌∙◌}
use Rattle.engine_session.specs.Compiler.{compiler}
use Rattle.outside.specs.Contents.{Appends, AppendsPart}
use Rattle.demo.proofs.Going.{none_yet, one_more, spends, exceeds, cut_off, unwritten, all_made}
use Rattle.demo.proofs.builds.play.Goals as goal

pub loop-i-init : goal.loop-i-init
loop-i-init g c = record {
  opened = c.requires;
  out = refl;
  faithful = λ f. f;
  played = λ f dirs limits e ps is told. none_yet (compiler (g.R.Runner.meaning dirs limits) dirs)
      dirs limits e ps _ _ _ (g.O.Sink.held c.args.out.now) is told;
}

pub returns-in-Ok-SpendsNumbers-clause-ok : goal.returns-in-Ok-SpendsNumbers-clause-ok
returns-in-Ok-SpendsNumbers-clause-ok g c =
    let more : 4 - c.loop-i._i ≡ suc (4 - (c.loop-i._i + 1)) = omega (arith, c.loop-i-test.true) in
    λ f dirs limits e ps is told. let p = c.loop-i.invariant.played f dirs limits e ps is told in
    let m = compiler (g.R.Runner.meaning dirs limits) dirs in
    spends m dirs limits _ _ _ _ _ _ _ _ _ _ _ _ _ _ (g.O.Sink.held c.loop-i.out)
    c.build_next.new.line.items more p (rw c.in-Ok-SpendsNumbers.field-0-is at
    (c.in-Ok-SpendsNumbers.ensures.went (c.loop-i.invariant.faithful f) dirs limits
    (record p.state { text = [] }) _
    (record {
      engine = p.at.engine;
      spent =
          record { in_runs = p.at.spent.in_runs; in_steps = p.at.spent.in_steps };
    }) p.pictures refl))

pub returns-in-Ok-IsTooMuch-clause-ok : goal.returns-in-Ok-IsTooMuch-clause-ok
returns-in-Ok-IsTooMuch-clause-ok g c =
    let more : 4 - c.loop-i._i ≡ suc (4 - (c.loop-i._i + 1)) = omega (arith, c.loop-i-test.true) in
    λ f dirs limits e ps is told. let p = c.loop-i.invariant.played f dirs limits e ps is told in
    let m = compiler (g.R.Runner.meaning dirs limits) dirs in
    exceeds m dirs limits _ _ _ _ _ _ _ _ _ _ _ _ _ _ (g.O.Sink.held c.loop-i.out)
    c.build_next.new.line.items more p (rw c.in-Ok-IsTooMuch.field-0-is at
    (c.in-Ok-IsTooMuch.ensures.went (c.loop-i.invariant.faithful f) dirs limits
    (record p.state { text = [] }) _
    (record {
      engine = p.at.engine;
      spent =
          record { in_runs = p.at.spent.in_runs; in_steps = p.at.spent.in_steps };
    }) p.pictures refl))

pub returns-in-Err-clause-err : goal.returns-in-Err-clause-err
returns-in-Err-clause-err g c =
    let more : 4 - c.loop-i._i ≡ suc (4 - (c.loop-i._i + 1)) = omega (arith, c.loop-i-test.true) in
    λ f dirs limits e ps is told. let p = c.loop-i.invariant.played f dirs limits e ps is told in
    let m = compiler (g.R.Runner.meaning dirs limits) dirs in
    cut_off m dirs limits _ _ _ _ c.loop-i.has_faults _ c.build_next.new.works.engine.core _
    c.build_next.new.source.coming _ _ _ _ _ (g.O.Sink.held c.loop-i.out) [] more p
    (c.in-Err.ensures.cut (c.loop-i.invariant.faithful f) dirs limits
    (record p.state { text = [] }) _
    (record {
      engine = p.at.engine;
      spent =
          record { in_runs = p.at.spent.in_runs; in_steps = p.at.spent.in_steps };
    }) p.pictures)

pub returns-in-Err-write-clause-err : goal.returns-in-Err-write-clause-err
returns-in-Err-write-clause-err g c =
    let more : 4 - c.loop-i._i ≡ suc (4 - (c.loop-i._i + 1)) = omega (arith, c.loop-i-test.true) in
    let part : AppendsPart (g.O.Sink.held c.loop-i.out) c.build_next.new.line.items
    (g.O.Sink.held c.write.new.out) = rw c.deref.ensures.value at c.in-Err-write.ensures.err in
    λ f dirs limits e ps is told. let p = c.loop-i.invariant.played f dirs limits e ps is told in
    let m = compiler (g.R.Runner.meaning dirs limits) dirs in
    unwritten m dirs limits _ _ _ _ _ _ _ _ _ _ _ _ _ _ _ c.build_next.new.line.items more p
    (rw c.in-Ok-Reports.field-0-is at (c.in-Ok-Reports.ensures.went
    (c.loop-i.invariant.faithful f) dirs limits (record p.state { text = [] }) _
    (record {
      engine = p.at.engine;
      spent =
          record { in_runs = p.at.spent.in_runs; in_steps = p.at.spent.in_steps };
    }) p.pictures refl))
    part

pub loop-i-preserved : goal.loop-i-preserved
loop-i-preserved g c =
    let more : 4 - c.loop-i._i ≡ suc (4 - (c.loop-i._i + 1)) = omega (arith, c.loop-i-test.true) in
    let whole : Appends (g.O.Sink.held c.loop-i.out) c.build_next.new.line.items
    (g.O.Sink.held c.write.new.out) = rw c.deref.ensures.value at c.in-Ok.ensures.ok in
    record {
      opened = ap is_some c.build_next.ensures.opened ∙ c.loop-i.invariant.opened;
      out = c.in-Ok.ensures.cause.done ∙ c.loop-i.invariant.out;
      faithful = λ f. c.in-Ok-Reports.ensures.faithful (c.loop-i.invariant.faithful f);
      played = λ f dirs limits e ps is told. let p =
          c.loop-i.invariant.played f dirs limits e ps is told in
          let m = compiler (g.R.Runner.meaning dirs limits) dirs in
          one_more m dirs limits _ _ _ _ _ _ _ _ _ _ _ _ _ _ _ c.build_next.new.line.items more p
          (rw c.in-Ok-Reports.field-0-is at (c.in-Ok-Reports.ensures.went
          (c.loop-i.invariant.faithful f) dirs limits (record p.state { text = [] }) _
          (record {
            engine = p.at.engine;
            spent =
                record { in_runs = p.at.spent.in_runs; in_steps = p.at.spent.in_steps };
          }) p.pictures
          refl)) whole;
    }

pub returns-clause-ok : goal.returns-clause-ok
returns-clause-ok g c =
    let none : 4 - c.loop-i._i ≡ 0 = omega (arith, c.loop-i-test.false, c.loop-i.auto._i-end) in
    λ f dirs limits e ps is told. rw c.ended_by.ensures
    (all_made (compiler (g.R.Runner.meaning dirs limits) dirs) dirs limits _ _
    c.loop-i.has_faults _ _ _ _ _ _ none (c.loop-i.invariant.played f dirs limits e ps is told))
