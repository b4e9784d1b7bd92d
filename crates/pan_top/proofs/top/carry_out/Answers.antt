use Rattle.std.proofs.Common.{Some, None, refl, sym, ap, ◌∙◌}
use Rattle.command_words.specs.Commands.{command_of}
use Rattle.command_words.specs.declared.commands.Command.TheVariants.{Build, Demo, Format, Watch}
use Rattle.engine_session.specs.Standing.{counts}
use Rattle.kept_build.specs.Stores.{store_of}
use Rattle.site_build.specs.Scenes.{scene}
use Rattle.pan_top.proofs.Calling.{called, nothing_called}
use Rattle.pan_top.proofs.top.carry_out.Goals as goal

pub returns-in-Ok-Some-Build : goal.returns-in-Ok-Some-Build
returns-in-Ok-Some-Build g c =
    let before = scene g.R.Runner g.S.Source g.H.Shelf g.N.Lines g.O.Sink c.args.runner
    c.args.devices c.args.steps.now in
    let store = store_of g.K.Keeper c.args.keeper in
    (called g.R.Runner.meaning c.args.words.now (Some (Build c.in-Ok-Some-Build.work))
    c.carry_out_build.result.status before _ _ store _
    (ap (λ command. Some command) (sym c.in-Ok-Some-Build.field-0-0-is)
    ∙ sym c.in-Ok-Some-Build.field-0-is
    ∙ c.in-Ok-Some-Build.ensures)
    (ap (λ n. counts n c.args.steps.now) c.new_works-works.ensures.runs)
    c.carry_out_build.ensures)

pub returns-in-Ok-Some-Watch : goal.returns-in-Ok-Some-Watch
returns-in-Ok-Some-Watch g c =
    let before = scene g.R.Runner g.S.Source g.H.Shelf g.N.Lines g.O.Sink c.args.runner
    c.args.devices c.args.steps.now in
    let store = store_of g.K.Keeper c.args.keeper in
    (called g.R.Runner.meaning c.args.words.now (Some (Watch c.in-Ok-Some-Watch.work))
    c.watch.result.status before _ _ store _
    (ap (λ command. Some command) (sym c.in-Ok-Some-Watch.field-0-0-is)
    ∙ sym c.in-Ok-Some-Watch.field-0-is
    ∙ c.in-Ok-Some-Watch.ensures)
    (ap (λ n. counts n c.args.steps.now) c.new_works-works.ensures.runs)
    c.watch.ensures)

pub returns-in-Ok-Some-Demo : goal.returns-in-Ok-Some-Demo
returns-in-Ok-Some-Demo g c =
    let before = scene g.R.Runner g.S.Source g.H.Shelf g.N.Lines g.O.Sink c.args.runner
    c.args.devices c.args.steps.now in
    let store = store_of g.K.Keeper c.args.keeper in
    rw (
      c.beside.ensures.status,
      c.beside.ensures.works,
      c.beside.ensures.devices,
      c.beside.ensures.keeper,
      c.hand_back.ensures.status,
      c.hand_back.ensures.works,
      c.hand_back.ensures.devices,
    )
    (called g.R.Runner.meaning c.args.words.now (Some (Demo c.in-Ok-Some-Demo.demonstration))
    c.show-status.result before _ _ store _
    (ap (λ command. Some command) (sym c.in-Ok-Some-Demo.field-0-0-is)
    ∙ sym c.in-Ok-Some-Demo.field-0-is
    ∙ c.in-Ok-Some-Demo.ensures)
    (ap (λ n. counts n c.args.steps.now) c.new_works-works.ensures.runs) (
      record {
        only = refl;
        shows = c.show-status.ensures.shows;
        out_count = c.show-status.ensures.count;
      },
      refl,
    ))

pub returns-in-Ok-Some-Format : goal.returns-in-Ok-Some-Format
returns-in-Ok-Some-Format g c =
    let before = scene g.R.Runner g.S.Source g.H.Shelf g.N.Lines g.O.Sink c.args.runner
    c.args.devices c.args.steps.now in
    let store = store_of g.K.Keeper c.args.keeper in
    rw (
      c.beside-in-Ok-Some-Format.ensures.status,
      c.beside-in-Ok-Some-Format.ensures.works,
      c.beside-in-Ok-Some-Format.ensures.devices,
      c.beside-in-Ok-Some-Format.ensures.keeper,
      c.hand_back-in-Ok-Some-Format.ensures.status,
      c.hand_back-in-Ok-Some-Format.ensures.works,
      c.hand_back-in-Ok-Some-Format.ensures.devices,
    )
    (called g.R.Runner.meaning c.args.words.now (Some (Format c.in-Ok-Some-Format.pair))
    c.format_templates-status.result before _ _ store _
    (ap (λ command. Some command) (sym c.in-Ok-Some-Format.field-0-0-is)
    ∙ sym c.in-Ok-Some-Format.field-0-is
    ∙ c.in-Ok-Some-Format.ensures)
    (ap (λ n. counts n c.args.steps.now) c.new_works-works.ensures.runs) (
      c.format_templates-status.ensures
          (counts (g.R.Runner.runs_of c.new_works-works.result.runner) c.args.steps.now),
      refl,
    ))

pub returns-in-Ok-None : goal.returns-in-Ok-None
returns-in-Ok-None g c =
    let before = scene g.R.Runner g.S.Source g.H.Shelf g.N.Lines g.O.Sink c.args.runner
    c.args.devices c.args.steps.now in
    let store = store_of g.K.Keeper c.args.keeper in
    rw (
      c.beside-in-Ok-None.ensures.status,
      c.beside-in-Ok-None.ensures.works,
      c.beside-in-Ok-None.ensures.devices,
      c.beside-in-Ok-None.ensures.keeper,
      c.hand_back-in-Ok-None.ensures.status,
      c.hand_back-in-Ok-None.ensures.works,
      c.hand_back-in-Ok-None.ensures.devices,
    )
    (called g.R.Runner.meaning c.args.words.now None c.say-status.result before _ _ store _
    (sym c.in-Ok-None.field-0-is ∙ c.in-Ok-None.ensures)
    (ap (λ n. counts n c.args.steps.now) c.new_works-works.ensures.runs) (
      record {
        only = refl;
        spent = refl;
        line = c.say-status.ensures.line;
        out_count = c.say-status.ensures.count;
      },
      refl,
    ))

pub returns-in-Err : goal.returns-in-Err
returns-in-Err g c =
    let before = scene g.R.Runner g.S.Source g.H.Shelf g.N.Lines g.O.Sink c.args.runner
    c.args.devices c.args.steps.now in
    let s = scene g.R.Runner g.S.Source g.H.Shelf g.N.Lines g.O.Sink
    c.new_works-works.result.runner c.args.devices c.args.steps.now in
    let store = store_of g.K.Keeper c.args.keeper in
    rw (
      c.beside-in-Err.ensures.status,
      c.beside-in-Err.ensures.works,
      c.beside-in-Err.ensures.devices,
      c.beside-in-Err.ensures.keeper,
      c.hand_back-in-Err.ensures.status,
      c.hand_back-in-Err.ensures.works,
      c.hand_back-in-Err.ensures.devices,
    )
    (called g.R.Runner.meaning c.args.words.now (command_of c.args.words.now) _ before _ _ store _
    refl (ap (λ n. counts n c.args.steps.now) c.new_works-works.ensures.runs)
    (nothing_called g.R.Runner.meaning (command_of c.args.words.now) s store))
