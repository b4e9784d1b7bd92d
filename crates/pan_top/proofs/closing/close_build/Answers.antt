use Rattle.std.proofs.Common.{◌≡◌, ◌⊎◌, ◌++◌, codes, inl, inr, refl, sym, subst}
use Rattle.site_build.specs.Ends.{IsFailureOf}
use Rattle.site_build.specs.Session.{WritesEarly}
use Rattle.site_build.specs.declared.ends.Device.TheVariants as D
use Rattle.site_build.specs.declared.ends.End.TheVariants as E
use Rattle.pan_top.specs.Builds.{Wrote}
use Rattle.pan_top.specs.Statuses.{IsCut, status_of}
use Rattle.call_status.specs.declared.status.Status.TheVariants as S
use Rattle.pan_top.proofs.Counting.{counted_behind, counted_by, counted_same, not_out}
use Rattle.pan_top.proofs.Said.{said, own_or_cut}
use Rattle.pan_top.proofs.closing.close_build.Goals as goal

pub returns-in-Source-clause-status : goal.returns-in-Source-clause-status
returns-in-Source-clause-status g c =
    subst (λ e. (c.say.result ≡ status_of e) ⊎ IsCut c.say.result) (sym c.in-Source.is)
    (own_or_cut S.SourceFault c.say.result _ _ _ c.say.ensures.line)

pub returns-in-Source-clause-text : goal.returns-in-Source-clause-text
returns-in-Source-clause-text g c =
    subst (λ e. (text : _) (old : _) → WritesEarly text e old (g.O.Sink.held c.args.out.now) → Wrote
    text e c.say.result old (g.O.Sink.held c.say.new.out)) (sym c.in-Source.is)
    (λ text old early. said S.SourceFault c.say.result (codes "source fault\n") old _ _ early
    c.say.ensures.line)

pub returns-in-Source-clause-count : goal.returns-in-Source-clause-count
returns-in-Source-clause-count g c =
    λ before at. counted_behind (IsFailureOf D.Out c.args.end.now) (c.say.result ≡ S.OutFault)
    before _ _ (not_out c.args.end.now E.Source c.in-Source.is (λ is. cc)) at c.say.ensures.count

pub returns-in-Shelf-clause-status : goal.returns-in-Shelf-clause-status
returns-in-Shelf-clause-status g c =
    subst (λ e. (c.say-in-Shelf.result ≡ status_of e) ⊎ IsCut c.say-in-Shelf.result)
    (sym c.in-Shelf.is) (own_or_cut S.ShelfFault c.say-in-Shelf.result _ _ _
    c.say-in-Shelf.ensures.line)

pub returns-in-Shelf-clause-text : goal.returns-in-Shelf-clause-text
returns-in-Shelf-clause-text g c =
    subst (λ e. (text : _) (old : _) → WritesEarly text e old (g.O.Sink.held c.args.out.now) → Wrote
    text e c.say-in-Shelf.result old (g.O.Sink.held c.say-in-Shelf.new.out)) (sym c.in-Shelf.is)
    (λ text old early. said S.ShelfFault c.say-in-Shelf.result (codes "shelf fault\n") old _ _ early
    c.say-in-Shelf.ensures.line)

pub returns-in-Shelf-clause-count : goal.returns-in-Shelf-clause-count
returns-in-Shelf-clause-count g c =
    λ before at. counted_behind (IsFailureOf D.Out c.args.end.now)
    (c.say-in-Shelf.result ≡ S.OutFault) before _ _
    (not_out c.args.end.now E.Shelf c.in-Shelf.is (λ is. cc)) at c.say-in-Shelf.ensures.count

pub returns-in-Publishing-clause-status : goal.returns-in-Publishing-clause-status
returns-in-Publishing-clause-status g c =
    subst (λ e. (c.say_name.result ≡ status_of e) ⊎ IsCut c.say_name.result)
    (sym c.in-Publishing.is) (own_or_cut S.ShelfFault c.say_name.result _ _ _
    c.say_name.ensures.line)

pub returns-in-Publishing-clause-text : goal.returns-in-Publishing-clause-text
returns-in-Publishing-clause-text g c =
    subst (λ e. (text : _) (old : _) → WritesEarly text e old (g.O.Sink.held c.args.out.now) → Wrote
    text e c.say_name.result old (g.O.Sink.held c.say_name.new.out)) (sym c.in-Publishing.is)
    (λ text old early. said S.ShelfFault c.say_name.result
    (codes "shelf fault " ++ c.in-Publishing.object ++ codes "\n") old _ _ early
    c.say_name.ensures.line)

pub returns-in-Publishing-clause-count : goal.returns-in-Publishing-clause-count
returns-in-Publishing-clause-count g c =
    λ before at. counted_behind (IsFailureOf D.Out c.args.end.now) (c.say_name.result ≡ S.OutFault)
    before _ _ (not_out c.args.end.now (E.Publishing c.in-Publishing.object) c.in-Publishing.is
    (λ is. cc)) at c.say_name.ensures.count

pub returns-in-Out-clause-status : goal.returns-in-Out-clause-status
returns-in-Out-clause-status g c = inr (inl refl)

pub returns-in-Out-clause-text : goal.returns-in-Out-clause-text
returns-in-Out-clause-text g c =
    subst (λ e. (text : _) (old : _) → WritesEarly text e old (g.O.Sink.held c.args.out.now) → Wrote
    text e S.OutFault old (g.O.Sink.held c.args.out.now)) (sym c.in-Out.is)
    (λ text old early. (refl, early))

pub returns-in-Out-clause-count : goal.returns-in-Out-clause-count
returns-in-Out-clause-count g c =
    λ before at. counted_by (IsFailureOf D.Out c.args.end.now) (S.OutFault ≡ S.OutFault) before _
    (λ is. refl) (λ is. subst (IsFailureOf D.Out) (sym c.in-Out.is) refl) at

pub returns-in-Memory-clause-status : goal.returns-in-Memory-clause-status
returns-in-Memory-clause-status g c = inr (inr refl)

pub returns-in-Memory-clause-text : goal.returns-in-Memory-clause-text
returns-in-Memory-clause-text g c =
    subst (λ e. (text : _) (old : _) → WritesEarly text e old (g.O.Sink.held c.args.out.now) → Wrote
    text e S.Memory old (g.O.Sink.held c.args.out.now)) (sym c.in-Memory.is)
    (λ text old early. (refl, early))

pub returns-in-Memory-clause-count : goal.returns-in-Memory-clause-count
returns-in-Memory-clause-count g c =
    λ before at. counted_same (S.Memory ≡ S.OutFault) before _
    (at.kept (not_out c.args.end.now E.Memory c.in-Memory.is (λ is. cc))) (λ is. cc)
