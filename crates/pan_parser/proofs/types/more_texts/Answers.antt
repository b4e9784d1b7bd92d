use Rattle.std.proofs.Common.{◌∙◌, ◌++◌, [], ◌∷◌, ◌≡◌, rules, sym, refl, ap, arith, length}
use Rattle.std.proofs.lemmas.Result.{err_from_is_err_and}
use Rattle.pan_grammar.specs.Machine.{run, text_wanted}
use Rattle.pan_grammar.specs.States.{TextsOpen}
use Rattle.pan_parser.proofs.Turns.{fails_along}
use Rattle.pan_parser.proofs.TypeTurns.{texts_go_on}
use Rattle.pan_parser.proofs.types.more_texts.Goals as goal

pub returns-in_err-text-clause-read : goal.returns-in_err-text-clause-read
returns-in_err-text-clause-read c = λ s.
    let p = err_from_is_err_and c.from_residual.result c.from_residual.ensures.1 in
    let l = c.loop-after in
    let xs = l.texts.items in
    rw (p.1, p.2) (fails_along c.in_err-text.field-0.0 _ _
    (l.invariant.0 s ∙ texts_go_on l.rest.now c.in-Some.after.now xs s c.in-Some.ensures)
    (c.in_err-text.ensures.read (text_wanted xs s) (λ x. TextsOpen (xs ++ x.value ∷ []) s)
    (refl, λ t. refl, λ t. refl)))

pub loop-after-preserved : goal.loop-after-preserved
loop-after-preserved c =
    let l = c.loop-after in
    let xs = l.texts.items in
    let e : c.push.new.self.items ≡ xs ++ c.in_ok-text.text.now.value ∷ [] = search rules in (
      λ s. l.invariant.0 s ∙ texts_go_on l.rest.now c.in-Some.after.now xs s c.in-Some.ensures
          ∙ c.in_ok-text.ensures.read (text_wanted xs s) (λ x. TextsOpen (xs ++ x.value ∷ []) s)
          (refl, λ t. refl, λ t. refl) ∙ ap (λ v. run c.in_ok-text.more.now (TextsOpen v s))
          (sym e),
      omega (arith, ap length c.in-Some.ensures.1, c.in_ok-text.ensures.shorter, l.invariant.1),
    )
