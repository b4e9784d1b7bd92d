use Rattle.std.proofs.Common.{◌≡◌, ◌∷◌, [], ◌++◌, map, true, sym, ap, ap₂, ◌∙◌, subst}
use Rattle.engine_laws.specs.Engine.{is_among}
use Rattle.engine_turns.specs.States.{pictured}
use Rattle.rebuild.specs.Engines.{objects_of}
use Rattle.engine_session.specs.Compiler.{answer_name, answer_of}
use Rattle.engine_session.specs.KeptTexts.{AreFaithful}
use Rattle.engine_session.proofs.Said.{item_among, map_more, named_more, take_more}
use Rattle.engine_session.proofs.building.answers.Goals as goal

pub answer-requires-clause-object : goal.answer-requires-clause-object
answer-requires-clause-object g c =
    subst (λ os. is_among c.name-item.result os ≡ true)
    (c.deref-name-items.ensures.value ∙ c.in_ok-names.ensures)
    (item_among c.deref-name-items.result.now c.loop-name.name-index c.name-item.result
    c.loop-name-test.true c.name-item.is)

pub loop-name-preserved : goal.loop-name-preserved
loop-name-preserved g c =
    let core = c.args.works.now.engine.core in
    let f = answer_of (g.R.Runner.meaning core.dirs core.limits) core.dirs
    (pictured core.files.items) (objects_of core) in
    let names = c.deref-name-items.result.now in
    let i = c.loop-name.name-index in
    let answer = c.in_ok-answer.ensures in
    let still : AreFaithful g.R.Runner.meaning c.args.works.now c.args.texts.now
    → AreFaithful g.R.Runner.meaning c.args.works.now c.loop-name.texts = λ both.
    record { faithful = both.faithful; texts = c.loop-name.invariant.texts both } in
    record {
      answers = λ both. c.in_ok-push.ensures.items
          ∙ ap₂ (λ made a. made ++ a ∷ []) (c.loop-name.invariant.answers both)
          (answer.answer (still both))
          ∙ sym (map_more f names i c.name-item.result c.loop-name-test.true c.name-item.is);
      names = ap (map answer_name) c.in_ok-push.ensures.items
          ∙ named_more c.loop-name.made.items c.in_ok-answer.field-0
          ∙ ap₂ (λ made a. made ++ a ∷ []) c.loop-name.invariant.names answer.name
          ∙ sym (take_more names i c.name-item.result c.loop-name-test.true c.name-item.is);
      texts = λ both. answer.texts (still both);
    }
