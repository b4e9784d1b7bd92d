use Rattle.std.proofs.Common.{◌≡◌, ◌-◌, ℕ, List, [], Some, false, nat_eq, option_copied, refl, sym, ap, ◌∙◌, subst}
use Rattle.std.proofs.lemmas.Result.{IfOk-weaker}
use Rattle.questions.specs.Told.{answers_of}
use Rattle.runner.specs.Words.{words, object_word, object_content, seen_told}
use Rattle.written_runner.specs.Written.{tested_in}
use Rattle.written_runner.specs.Traces.{with_told, meter_of, AreNumbered}
use Rattle.read_sets.specs.declared.trace.Item.{Item}
use Rattle.written_runner.proofs.Numbered.{goes_on, not_zero, numbered_told, whenever}
use Rattle.written_runner.proofs.acting.test_object.Goals as goal

pub returns-clause-outcome : goal.returns-clause-outcome
returns-clause-outcome g c =
    let used = c.args.used.now in
    let object = c.args.object in
    let told = c.in-Some.told in
    let tells = words c.args.picture.now (g.K.Known.numbers c.args.known.now)
    (g.K.Known.objects c.args.known.now) in
    let known : g.K.Known.objects c.args.known.now object []
    ≡ Some (told.number, option_copied told.value) =
    sym c.in_ok-told.ensures.told ∙ ap seen_told c.in-Some.is in
    let left : nat_eq used.left 0 ≡ false =
    not_zero (nat_eq used.left 0) c.step.result c.step.ensures.stepped c.if-not-step.false in
    let asked = goes_on c.args.place.now (tested_in c.args.place.now) object tells told.number
    (option_copied told.value) used.value used.left used.trace left
    (ap (object_word object) known) in
    let named = c.as_str.ensures.text ∙ c.in_ok-name.ensures in
    let items = c.in_ok-told.ensures.trace ∙ ap (λ q. with_told object q used.trace) known in
    let o = answers_of tells in
    let goes = λ (n : List ℕ) (l : ℕ) (i : List Item). tested_in c.args.place.now n
    (object_content told.number (option_copied told.value)) o used.value (meter_of l i) in
    IfOk-weaker c.tested_told.result _ _ (λ came h. h o
    (meter_of c.step.new.left c.ask_object.new.trace)
    ∙ ap (λ n. goes n c.step.new.left c.ask_object.new.trace) named
    ∙ ap (λ l. goes object l c.ask_object.new.trace) c.step.ensures.left
    ∙ ap (goes object (used.left - 1)) items ∙ sym asked) c.tested_told.ensures

pub returns-clause-numbered : goal.returns-clause-numbered
returns-clause-numbered g c =
    let items = c.args.used.now.trace in
    let object = c.args.object in
    let objects = g.K.Known.objects c.args.known.now in
    let tells = words c.args.picture.now (g.K.Known.numbers c.args.known.now) objects in
    whenever c.tested_told.result (λ before. subst (AreNumbered tells)
    (sym c.in_ok-told.ensures.trace) (numbered_told tells object (objects object []) items refl
    before))
