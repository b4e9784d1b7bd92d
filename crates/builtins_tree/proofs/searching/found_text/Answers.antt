use Rattle.std.proofs.Common.{◌≡◌, ◌<◌, length, Some, subst, ap, ◌∙◌, sym, drop, arith}
use Rattle.std.specs.Str.{chars}
use Rattle.std.proofs.lemmas.List.{drop-drop}
use Rattle.builtins_tree.proofs.Finds.{text_found, text_passed}
use Rattle.builtins_tree.proofs.searching.found_text.Goals as goal

pub returns-then-begins-clause-value : goal.returns-then-begins-clause-value
returns-then-begins-clause-value c =
    sym (text_found c.args.wanted.now c.loop-place.rest.now c.args.text.now c.loop-place.place
    c.loop-place.invariant.0 c.loop-place.invariant.1
    (sym c.begins.ensures ∙ c.if-begins.true)) ∙ c.loop-place.invariant.2

pub loop-place-preserved : goal.loop-place-preserved
loop-place-preserved c =
    let within : c.loop-place.place < length (chars c.args.text.now) =
    subst (λ n. c.loop-place.place < n) c.char_count-end.ensures c.loop-place-test.true in (
      c.from_char-rest-in-loop-place.utf8,
      c.from_char-rest-in-loop-place.ensures.chars ∙ ap (drop 1) c.loop-place.invariant.1
          ∙ drop-drop 1 c.loop-place.place (chars c.args.text.now),
      sym (text_passed c.args.wanted.now c.loop-place.rest.now c.args.text.now c.loop-place.place
          c.loop-place.invariant.0 c.loop-place.invariant.1 within
          (sym c.begins.ensures ∙ c.if-begins.false)) ∙ c.loop-place.invariant.2,
    )

pub returns-then-begins-2-clause-value : goal.returns-then-begins-2-clause-value
returns-then-begins-2-clause-value c =
    let end : c.char_count-end.result ≡ c.loop-place.place =
    omega (
      arith,
      c.loop-place-test.false,
      c.loop-place.auto.place-end,
      c.requires.start,
      c.char_count-end.ensures,
    ) in
    ap Some end ∙ (sym (text_found c.args.wanted.now c.loop-place.rest.now c.args.text.now
    c.loop-place.place c.loop-place.invariant.0 c.loop-place.invariant.1
    (sym c.begins-2.ensures ∙ c.if-begins-2.true)) ∙ c.loop-place.invariant.2)
