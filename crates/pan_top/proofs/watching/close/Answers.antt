use Rattle.std.proofs.Common.{◌≡◌, sym, subst, ◌∙◌, refl}
use Rattle.watch.specs.declared.ends.End.TheVariants as W
use Rattle.pan_top.specs.Watches.{EndsWith, line_at, status_at}
use Rattle.call_status.specs.declared.status.Status.TheVariants as S
use Rattle.pan_top.proofs.Counting.{counted_behind, counted_by, counted_same}
use Rattle.pan_top.proofs.watching.close.Goals as goal

pub returns-in-Lines-clause-closes : goal.returns-in-Lines-clause-closes
returns-in-Lines-clause-closes g c =
    subst (λ e. EndsWith (status_at e) (line_at e) c.say.result (g.O.Sink.held c.args.out.now)
    (g.O.Sink.held c.say.new.out)) (sym c.in-Lines.is) c.say.ensures.line

pub returns-in-Lines-clause-count : goal.returns-in-Lines-clause-count
returns-in-Lines-clause-count g c =
    λ before at. counted_behind (c.args.end ≡ W.Out) (c.say.result ≡ S.OutFault) before _ _
    (λ is. let e : W.Lines ≡ W.Out = sym c.in-Lines.is ∙ is in cc) at c.say.ensures.count

pub returns-in-NumbersSpent-clause-closes : goal.returns-in-NumbersSpent-clause-closes
returns-in-NumbersSpent-clause-closes g c =
    subst (λ e. EndsWith (status_at e) (line_at e) c.say-in-NumbersSpent.result
    (g.O.Sink.held c.args.out.now) (g.O.Sink.held c.say-in-NumbersSpent.new.out))
    (sym c.in-NumbersSpent.is) c.say-in-NumbersSpent.ensures.line

pub returns-in-NumbersSpent-clause-count : goal.returns-in-NumbersSpent-clause-count
returns-in-NumbersSpent-clause-count g c =
    λ before at. counted_behind (c.args.end ≡ W.Out) (c.say-in-NumbersSpent.result ≡ S.OutFault)
    before _ _ (λ is. let e : W.NumbersSpent ≡ W.Out = sym c.in-NumbersSpent.is ∙ is in cc) at
    c.say-in-NumbersSpent.ensures.count

pub returns-in-TooMuch-clause-closes : goal.returns-in-TooMuch-clause-closes
returns-in-TooMuch-clause-closes g c =
    subst (λ e. EndsWith (status_at e) (line_at e) c.say-in-TooMuch.result
    (g.O.Sink.held c.args.out.now) (g.O.Sink.held c.say-in-TooMuch.new.out)) (sym c.in-TooMuch.is)
    c.say-in-TooMuch.ensures.line

pub returns-in-TooMuch-clause-count : goal.returns-in-TooMuch-clause-count
returns-in-TooMuch-clause-count g c =
    λ before at. counted_behind (c.args.end ≡ W.Out) (c.say-in-TooMuch.result ≡ S.OutFault) before _
    _ (λ is. let e : W.TooMuch ≡ W.Out = sym c.in-TooMuch.is ∙ is in cc) at
    c.say-in-TooMuch.ensures.count

pub returns-in-TooManyLines-clause-closes : goal.returns-in-TooManyLines-clause-closes
returns-in-TooManyLines-clause-closes g c =
    subst (λ e. EndsWith (status_at e) (line_at e) c.say-in-TooManyLines.result
    (g.O.Sink.held c.args.out.now) (g.O.Sink.held c.say-in-TooManyLines.new.out))
    (sym c.in-TooManyLines.is) c.say-in-TooManyLines.ensures.line

pub returns-in-TooManyLines-clause-count : goal.returns-in-TooManyLines-clause-count
returns-in-TooManyLines-clause-count g c =
    λ before at. counted_behind (c.args.end ≡ W.Out) (c.say-in-TooManyLines.result ≡ S.OutFault)
    before _ _ (λ is. let e : W.TooManyLines ≡ W.Out = sym c.in-TooManyLines.is ∙ is in cc) at
    c.say-in-TooManyLines.ensures.count

pub returns-in-Out-clause-closes : goal.returns-in-Out-clause-closes
returns-in-Out-clause-closes g c =
    subst (λ e. EndsWith (status_at e) (line_at e) S.OutFault (g.O.Sink.held c.args.out.now)
    (g.O.Sink.held c.args.out.now)) (sym c.in-Out.is) (refl, refl)

pub returns-in-Out-clause-count : goal.returns-in-Out-clause-count
returns-in-Out-clause-count g c =
    λ before at. counted_by (c.args.end ≡ W.Out) (S.OutFault ≡ S.OutFault) before _ (λ is. refl)
    (λ is. c.in-Out.is) at

pub returns-in-Memory-clause-closes : goal.returns-in-Memory-clause-closes
returns-in-Memory-clause-closes g c =
    subst (λ e. EndsWith (status_at e) (line_at e) S.Memory (g.O.Sink.held c.args.out.now)
    (g.O.Sink.held c.args.out.now)) (sym c.in-Memory.is) (refl, refl)

pub returns-in-Memory-clause-count : goal.returns-in-Memory-clause-count
returns-in-Memory-clause-count g c =
    λ before at. counted_same (S.Memory ≡ S.OutFault) before _
    (at.kept (λ is. let e : W.Memory ≡ W.Out = sym c.in-Memory.is ∙ is in cc)) (λ is. cc)
