use Rattle.std.proofs.Common.{refl, rules, arith, subst, List, true, Ok, IfOk}
use Rattle.asking.specs.declared.limits.TheConstants.{MAX_WORK}
use Rattle.questions.specs.Laws.{MayAsk}
use Rattle.questions.specs.Contents.{Answers}
use Rattle.questions.specs.Told.{answers_of, whole}
use Rattle.questions.proofs.Parts.{none_beyond, only_all}
use Rattle.questions.proofs.Runs.{asks_unknown}
use Rattle.read_sets.specs.declared.trace.Item.{Item}
use Rattle.read_sets.specs.Items.{keys_in}
use Rattle.dml_world.specs.Exits.{Tells}
use Rattle.dml_world.specs.Seen.{meter}
use Rattle.template_meaning.specs.Program.{no_program}
use Rattle.object_meaning.specs.Builds.{site_at, built_run, build_ending}
use Rattle.object_meaning.proofs.BothLawful.{build_is_lawful}
use Rattle.object_run.specs.Ended.{ended, IsBuildEnd}
use Rattle.object_run.proofs.Ending.{build_ended, needs_own}
use Rattle.object_run.proofs.runs.build_in.Goals as goal

pub returns-clause-answer : goal.returns-clause-answer
returns-clause-answer g c =
    let tells = g.T.Words.tells in
    let object = c.args.name.now in
    let site = site_at c.args.dirs.now c.args.limits.now object in
    let own = needs_own c.args.picture.now (g.K.Known.numbers c.args.known.now)
    (g.K.Known.objects c.args.known.now) tells c.requires.told in
    let world = c.build_object-built.new.world in
    let after = meter c.build_object-built.new.work (keys_in world.notes) in
    let from = λ (o : Answers) (items : List Item). Tells Ok c.build_object-built.result after
    (ended (build_ending site) (built_run site o no_program
    (record { left = MAX_WORK; asked = keys_in items }))) in
    let all = subst (λ o. from o c.new.result) (only_all (answers_of tells))
    ((c.build_object-built.ensures.gives (λ k. true)).1 (none_beyond _)) in
    let gives = subst (from (answers_of tells)) c.new.ensures all in
    let ends = subst (λ items. IfOk c.build_end.result
    (λ e. IsBuildEnd c.build_object-built.result items e)) c.into_trace.ensures
    c.build_end.ensures in
    let unknown = asks_unknown (MayAsk object) (built_run site)
    (build_is_lawful c.args.dirs.now c.args.limits.now object) (answers_of tells) no_program
    whole in
    build_ended tells own world.notes after refl world.numbered c.build_object-built.result site
    (built_run site (answers_of tells) no_program whole) c.build_end.result gives
    (λ k e. unknown k after e) ends

pub returns-clause-spent : goal.returns-clause-spent
returns-clause-spent g c =
    let tells = g.T.Words.tells in
    let site = site_at c.args.dirs.now c.args.limits.now c.args.name.now in
    let after = meter c.build_object-built.new.work (keys_in c.build_object-built.new.world.notes)
    in
    let from = λ (o : Answers) (items : List Item). Tells Ok c.build_object-built.result after
    (ended (build_ending site) (built_run site o no_program
    (record { left = MAX_WORK; asked = keys_in items }))) in
    let all = subst (λ o. from o c.new.result) (only_all (answers_of tells))
    ((c.build_object-built.ensures.gives (λ k. true)).1 (none_beyond _)) in
    let gives = subst (from (answers_of tells)) c.new.ensures all in
    first_of (search (rules, gives), grind (arith, gives))
