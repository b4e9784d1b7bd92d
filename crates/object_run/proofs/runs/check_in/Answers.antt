use Rattle.std.proofs.Common.{refl, rules, arith, subst, List, true, IfOk}
use Rattle.asking.specs.declared.limits.TheConstants.{MAX_WORK}
use Rattle.questions.specs.Laws.{MayAsk}
use Rattle.questions.specs.Contents.{Answers}
use Rattle.questions.specs.Told.{answers_of, whole}
use Rattle.questions.proofs.Parts.{none_beyond, only_all}
use Rattle.questions.proofs.Runs.{asks_unknown}
use Rattle.read_sets.specs.declared.trace.Item.{Item}
use Rattle.read_sets.specs.Items.{keys_in}
use Rattle.validate.specs.Exits.{Comes, meter}
use Rattle.object_meaning.specs.Builds.{site_at}
use Rattle.object_meaning.specs.Checks.{check_run}
use Rattle.object_meaning.proofs.BothLawful.{check_is_lawful}
use Rattle.object_run.specs.Ended.{IsCheckEnd}
use Rattle.object_run.proofs.Ending.{check_ended, needs_own}
use Rattle.object_run.proofs.runs.check_in.Goals as goal

pub returns-clause-answer : goal.returns-clause-answer
returns-clause-answer g c =
    let tells = g.T.Words.tells in
    let built = c.args.built.now in
    let run = check_run (site_at c.args.dirs.now c.args.limits.now built.object) built in
    let own = needs_own c.args.picture.now (g.K.Known.numbers c.args.known.now)
    (g.K.Known.objects c.args.known.now) tells c.requires.told in
    let world = c.check_object-end.result.world in
    let end = c.check_object-end.result.end in
    let after = meter c.check_object-end.new.work (keys_in world.notes) in
    let from = λ (o : Answers) (items : List Item). Comes (λ x. x) end after
    (run o tt (record { left = MAX_WORK; asked = keys_in items })) in
    let all = subst (λ o. from o c.new.result) (only_all (answers_of tells))
    ((c.check_object-end.ensures.gives (λ k. true)).1 (none_beyond _)) in
    let gives = subst (from (answers_of tells)) c.new.ensures all in
    let ends = subst (λ items. IfOk c.check_end.result (λ e. IsCheckEnd end items e))
    c.into_trace.ensures c.check_end.ensures in
    let unknown = asks_unknown (MayAsk built.object) run
    (check_is_lawful c.args.dirs.now c.args.limits.now built) (answers_of tells) tt whole in
    check_ended tells own world.notes after refl world.numbered end
    (run (answers_of tells) tt whole) c.check_end.result gives (λ k e. unknown k after e) ends

pub returns-clause-spent : goal.returns-clause-spent
returns-clause-spent g c =
    let tells = g.T.Words.tells in
    let built = c.args.built.now in
    let run = check_run (site_at c.args.dirs.now c.args.limits.now built.object) built in
    let end = c.check_object-end.result.end in
    let after = meter c.check_object-end.new.work (keys_in c.check_object-end.result.world.notes) in
    let from = λ (o : Answers) (items : List Item). Comes (λ x. x) end after
    (run o tt (record { left = MAX_WORK; asked = keys_in items })) in
    let all = subst (λ o. from o c.new.result) (only_all (answers_of tells))
    ((c.check_object-end.ensures.gives (λ k. true)).1 (none_beyond _)) in
    let gives = subst (from (answers_of tells)) c.new.ensures all in
    first_of (search (rules, gives), grind (arith, gives))
