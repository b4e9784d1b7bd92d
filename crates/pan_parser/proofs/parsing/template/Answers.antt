use Rattle.std.proofs.Common.{◌∙◌, ◌≡◌, rules, refl, true, false, Some}
use Rattle.std.proofs.lemmas.Result.{err_from_is_err_and}
use Rattle.pan_ast.specs.declared.sort.Sort.TheVariants as sorts
use Rattle.pan_ast.specs.Sorts.{at, sort}
use Rattle.pan_grammar.specs.Machine.{kind_read, name_wanted}
use Rattle.pan_grammar.specs.Templates.{kind_of}
use Rattle.pan_parser.proofs.Turns.{fails_along, goes_along}
use Rattle.pan_parser.proofs.StatementTurns.{kind_turns, ordinary_turns}
use Rattle.pan_parser.proofs.parsing.template.Goals as goal

pub returns-then-is-clause-read : goal.returns-then-is-clause-read
returns-then-is-clause-read c =
    let first = c.in-Some.first.now in
    let on = c.in-Some.rest.now in
    let x : at sorts.Template (sort first) ≡ true = search rules in
    goes_along c.named_template.result _ _ _ (ordinary_turns c.args.tokens.now on first
    c.in-Some.ensures x) (rw c.place.ensures at c.named_template.ensures.read)

pub returns-in_err-rest-clause-read : goal.returns-in_err-rest-clause-read
returns-in_err-rest-clause-read c =
    let p = err_from_is_err_and c.from_residual.result c.from_residual.ensures.1 in
    let first = c.in-Some.first.now in
    let on = c.in-Some.rest.now in
    let other : at sorts.Template (sort first) ≡ false = search rules in
    let k = c.in-Some-kind_of.kind in
    let e : kind_of (sort first) ≡ Some k = search rules in
    rw (p.1, p.2) (fails_along c.in_err-rest.field-0.0 _ _
    (kind_turns c.args.tokens.now on first k c.in-Some.ensures other e)
    (c.in_err-rest.ensures.read (kind_read first.place k) (λ w. name_wanted k first.place)
    (refl, λ t. refl, λ t. refl)))

pub returns-clause-read : goal.returns-clause-read
returns-clause-read c =
    let first = c.in-Some.first.now in
    let on = c.in-Some.rest.now in
    let other : at sorts.Template (sort first) ≡ false = search rules in
    let k = c.in-Some-kind_of.kind in
    let e : kind_of (sort first) ≡ Some k = search rules in
    goes_along c.named_template-2.result _ _ _ (kind_turns c.args.tokens.now on first k
    c.in-Some.ensures other e ∙ c.in_ok-rest.ensures.read (kind_read first.place k)
    (λ w. name_wanted k first.place) (refl, λ t. refl, λ t. refl))
    (rw c.place-2.ensures at c.named_template-2.ensures.read)
