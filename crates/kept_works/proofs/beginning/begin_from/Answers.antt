use Rattle.std.proofs.Common.{rules, ◌≡◌, true, Some, sym, subst}
use Rattle.std.proofs.lemmas.Result.{on_ok_weaker}
use Rattle.kept_state.specs.Stored.{stored}
use Rattle.read_index.specs.Readers.{asks}
use Rattle.rebuild.specs.Sound.{IsSound}
use Rattle.engine_rows.specs.Restoring.{IsUnfit}
use Rattle.engine_session.specs.Standing.{AreNumbers, IsIn}
use Rattle.kept_works.specs.Kept.{is_under, begun_with}
use Rattle.kept_works.proofs.Begun.{kept_numbers, kept_short, it_fits, not_fit, anew, resumes}
use Rattle.kept_works.proofs.beginning.begin_from.Goals as goal

pub resume-requires : goal.resume-requires
resume-requires g c = record {
  short = kept_short (stored c.args.kept) c.in-Ok.engine.core c.in-Ok.ensures.restored
      c.in-Ok.ensures.fit;
}

pub returns-in-Ok-clause-at : goal.returns-in-Ok-clause-at
returns-in-Ok-clause-at g c =
    let dirs = c.args.dirs.now in
    let limits = c.args.limits in
    let kept = stored c.args.kept in
    let found = c.in-Ok.ensures in
    let under : is_under dirs limits kept ≡ true = search rules in
    on_ok_weaker c.resume.result (λ same.
    subst (λ e. IsIn dirs limits e.core (begun_with dirs limits (Some kept))) (sym same)
    (resumes dirs limits kept c.in-Ok.engine.core under found.fit found.restored))
    c.resume.ensures.engine

pub returns-in-Ok-clause-begun : goal.returns-in-Ok-clause-begun
returns-in-Ok-clause-begun g c =
    let kept = stored c.args.kept in
    let found = c.in-Ok.ensures in
    let under : is_under c.args.dirs.now c.args.limits kept ≡ true = search rules in
    on_ok_weaker c.resume.result (λ same sound. record {
      sound = subst (λ e. IsSound g.R.Runner.meaning e.core (asks e.index)) (sym same)
          (found.sound (sound (it_fits c.args.dirs.now c.args.limits kept under found.fit)));
      numbers = subst (λ e. AreNumbers e.core.files.items) (sym same)
          (kept_numbers kept c.in-Ok.engine.core found.restored found.fit);
    })
    c.resume.ensures.engine

pub returns-in-Err-Unfit-clause-at : goal.returns-in-Err-Unfit-clause-at
returns-in-Err-Unfit-clause-at g c =
    let dirs = c.args.dirs.now in
    let limits = c.args.limits in
    let kept = stored c.args.kept in
    let unfit = c.in-Err-Unfit in
    let off = subst (λ e. IsUnfit e kept) unfit.field-0-is unfit.ensures.refused in
    let core = c.start-in-Err-Unfit.new.works.engine.core in
    on_ok_weaker c.start-in-Err-Unfit.result
    (anew dirs limits kept core (not_fit dirs limits kept off)) c.start-in-Err-Unfit.ensures.at
