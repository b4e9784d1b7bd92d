use Rattle.std.proofs.Common.{◌≡◌, ◌-◌, ◌+◌, ◌∷◌, ℕ, List, true, false, nat_eq, drop, is_some, Option, refl, sym, ap, ◌∙◌, subst, arith}
use Rattle.std.proofs.lemmas.Grind.{common_steps}
use Rattle.std.proofs.lemmas.Result.{IfOk-weaker, on_ok_weaker}
use Rattle.load_path.specs.declared.picture.Content.{Content}
use Rattle.load_path.specs.Pictures.{content_in}
use Rattle.questions.specs.declared.key.Key.TheVariants.{File}
use Rattle.questions.specs.Told.{answers_of}
use Rattle.read_sets.specs.declared.trace.Item.{Item}
use Rattle.runner.specs.Words.{words, file_content}
use Rattle.written_runner.specs.Written.{action_of, file_run, first_asked}
use Rattle.written_runner.specs.Traces.{with_item, meter_of, AreNumbered}
use Rattle.written_runner.proofs.Numbered.{copied_some, first_there, first_missing, not_zero, numbered_with}
use Rattle.written_runner.proofs.running.begin.Goals as goal

pub returns-then-is_some-clause-outcome : goal.returns-then-is_some-clause-outcome
returns-then-is_some-clause-outcome g c =
    let used = c.loop-file.used in
    let place = c.args.part.now.place in
    let numbers = g.K.Known.numbers c.args.known.now in
    let tells = words c.args.picture.now numbers (g.K.Known.objects c.args.known.now) in
    let o = answers_of tells in
    let file = c.file-item.result in
    let rest = drop (c.loop-file.file-index + 1) c.args.files.now in
    let e : drop c.loop-file.file-index c.args.files.now ≡ file ∷ rest =
    grind (arith, common_steps, c.file-item.is, c.loop-file-test.true) in
    let run = file_run place c.args.part.now.own.now (action_of c.args.part.now.side) in
    let content = content_in c.args.picture.now file in
    let left : nat_eq used.left 0 ≡ false =
    not_zero (nat_eq used.left 0) c.step.result c.step.ensures.stepped c.if-not-step.false in
    let is = c.in_ok-content.ensures.content ∙ ap (content_in c.args.picture.now)
    c.in_ok-share.ensures in
    let some : is_some content ≡ true =
    ap is_some (sym is) ∙ copied_some c.in_ok-content.content ∙ sym c.is_some.ensures
    ∙ c.if-is_some.true in
    let items = c.in_ok-content.ensures.trace ∙ ap (λ f. with_item (File f) (numbers f) used.trace)
    c.in_ok-share.ensures in
    let goes = λ (x : Option Content) (l : ℕ) (i : List Item). run (file_content x) o used.value
    (meter_of l i) in
    IfOk-weaker c.act_on.result _ _
    (λ came h. h ∙ ap (λ x. goes x c.step.new.left c.ask_file.new.trace) is
    ∙ ap (λ l. goes content l c.ask_file.new.trace) c.step.ensures.left
    ∙ ap (goes content (used.left - 1)) items ∙ sym
    (first_there place run file rest tells (numbers file) content used.value used.left
    used.trace left refl some) ∙ rw e at c.loop-file.invariant.outcome)
    c.act_on.ensures.outcome

pub returns-then-is_some-clause-numbered : goal.returns-then-is_some-clause-numbered
returns-then-is_some-clause-numbered g c =
    let used = c.loop-file.used in
    let numbers = g.K.Known.numbers c.args.known.now in
    let tells = words c.args.picture.now numbers (g.K.Known.objects c.args.known.now) in
    let name = c.in_ok-share.field-0 in
    on_ok_weaker c.act_on.result (λ later before. later
    (subst (AreNumbered tells) (sym c.in_ok-content.ensures.trace)
    (numbered_with tells (File name) (numbers name) used.trace refl
    (c.loop-file.invariant.numbered before)))) c.act_on.ensures.numbered

pub loop-file-preserved : goal.loop-file-preserved
loop-file-preserved g c =
    let used = c.loop-file.used in
    let place = c.args.part.now.place in
    let numbers = g.K.Known.numbers c.args.known.now in
    let tells = words c.args.picture.now numbers (g.K.Known.objects c.args.known.now) in
    let o = answers_of tells in
    let file = c.file-item.result in
    let name = c.in_ok-share.field-0 in
    let rest = drop (c.loop-file.file-index + 1) c.args.files.now in
    let e : drop c.loop-file.file-index c.args.files.now ≡ file ∷ rest =
    grind (arith, common_steps, c.file-item.is, c.loop-file-test.true) in
    let run = file_run place c.args.part.now.own.now (action_of c.args.part.now.side) in
    let content = content_in c.args.picture.now file in
    let left : nat_eq used.left 0 ≡ false =
    not_zero (nat_eq used.left 0) c.step.result c.step.ensures.stepped c.if-not-step.false in
    let is = c.in_ok-content.ensures.content ∙ ap (content_in c.args.picture.now)
    c.in_ok-share.ensures in
    let none : is_some content ≡ false =
    ap is_some (sym is) ∙ copied_some c.in_ok-content.content ∙ sym c.is_some.ensures
    ∙ c.if-is_some.false in
    let items = c.in_ok-content.ensures.trace ∙ ap (λ f. with_item (File f) (numbers f) used.trace)
    c.in_ok-share.ensures in
    let goes = λ (l : ℕ) (i : List Item). first_asked place rest run o used.value (meter_of l i) in
    record {
      outcome = ap (λ l. goes l c.ask_file.new.trace) c.step.ensures.left
          ∙ ap (goes (used.left - 1)) items
          ∙ sym (first_missing place run file rest tells (numbers file) content used.value used.left
          used.trace left refl none) ∙ rw e at c.loop-file.invariant.outcome;
      numbered = λ before. subst (AreNumbered tells) (sym c.in_ok-content.ensures.trace)
          (numbered_with tells (File name) (numbers name) used.trace refl
          (c.loop-file.invariant.numbered before));
    }
