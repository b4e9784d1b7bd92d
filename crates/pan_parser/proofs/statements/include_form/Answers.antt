use Rattle.std.proofs.Common.{map, ◌∙◌, ◌++◌, [], ◌∷◌, ◌≡◌, rules, sym, refl, ap}
use Rattle.std.proofs.lemmas.Result.{err_from_is_err_and}
use Rattle.pan_ast.specs.declared.sort.Sort.TheVariants as sorts
use Rattle.pan_ast.specs.Seen.{item_seen}
use Rattle.pan_ast.specs.Sorts.{sort}
use Rattle.pan_ast.specs.Syntax as nodes
use Rattle.pan_ast.specs.Templates as plain
use Rattle.pan_ast.specs.TemplatesSeen.{form_seen}
use Rattle.pan_grammar.specs.Grammar.{block}
use Rattle.pan_grammar.specs.Grammar as grammar
use Rattle.pan_grammar.specs.Machine.{run, text_included_read}
use Rattle.pan_grammar.specs.States.{HasItem, Out, StatementItem, Statements}
use Rattle.pan_grammar.specs.Templates.{stated}
use Rattle.pan_parser.proofs.Turns.{fails_along}
use Rattle.pan_parser.proofs.StatementTurns.{block_included, text_included}
use Rattle.pan_parser.proofs.statements.include_form.Goals as goal

pub returns-in_err-rest-in-Text-clause-read : goal.returns-in_err-rest-in-Text-clause-read
returns-in_err-rest-in-Text-clause-read c = λ q h ss.
    let p = err_from_is_err_and c.from_residual-in_err-rest-in-Text.result
    c.from_residual-in_err-rest-in-Text.ensures.1 in
    let first = c.in-Some.first.now in
    let x : sort first ≡ sorts.Text = sym c.sort.ensures ∙ c.in-Text.is in
    let b = grammar.plain (nodes.Text first.place first.value) in
    rw (p.1, p.2) (fails_along c.in_err-rest-in-Text.field-0.0 _ _
    (text_included c.args.tokens.now c.in-Some.rest.now first q h ss c.in-Some.ensures x)
    (c.in_err-rest-in-Text.ensures.read (text_included_read q h ss first)
    (λ e. Statements h (ss ++ stated q (plain.Include b) ∷ [])) (refl, λ t. refl, λ t. refl)))

pub returns-in_ok-rest-in-Text-clause-read : goal.returns-in_ok-rest-in-Text-clause-read
returns-in_ok-rest-in-Text-clause-read c = λ q h ss.
    let first = c.in-Some.first.now in
    let x : sort first ≡ sorts.Text = sym c.sort.ensures ∙ c.in-Text.is in
    let b = grammar.plain (nodes.Text first.place first.value) in
    let m : form_seen c.include_statement.result ≡ plain.Include b = search rules in
    text_included c.args.tokens.now c.in-Some.rest.now first q h ss c.in-Some.ensures x
    ∙ c.in_ok-rest-in-Text.ensures.read (text_included_read q h ss first)
    (λ e. Statements h (ss ++ stated q (plain.Include b) ∷ [])) (refl, λ t. refl, λ t. refl)
    ∙ ap (λ v. run c.in_ok-rest-in-Text.rest.now (Statements h (ss ++ stated q v ∷ []))) (sym m)

pub returns-in_err-rest-in-OpenBrace-clause-read : goal.returns-in_err-rest-in-OpenBrace-clause-read
returns-in_err-rest-in-OpenBrace-clause-read c = λ q h ss.
    let p = err_from_is_err_and c.from_residual-in_err-rest-in-OpenBrace.result
    c.from_residual-in_err-rest-in-OpenBrace.ensures.1 in
    let first = c.in-Some.first.now in
    let x : sort first ≡ sorts.OpenBrace = sym c.sort.ensures ∙ c.in-OpenBrace.is in
    let b = block first.place (map item_seen c.in_ok-items-in-OpenBrace.items.items) in
    rw (p.1, p.2) (fails_along c.in_err-rest-in-OpenBrace.field-0.0 _ _
    (block_included c.args.tokens.now c.in-Some.rest.now first q h ss c.in-Some.ensures x
    ∙ (rw c.place-in-OpenBrace.ensures at c.in_ok-items-in-OpenBrace.ensures.read
    (Out (StatementItem h ss (λ i. stated q (plain.Include i)))) refl))
    (c.in_err-rest-in-OpenBrace.ensures.read (HasItem b
    (Out (StatementItem h ss (λ i. stated q (plain.Include i)))))
    (λ t. Statements h (ss ++ stated q (plain.Include b) ∷ [])) (refl, λ t. refl, λ t. refl)))

pub returns-in_ok-make_block-in-OpenBrace-clause-read :
    goal.returns-in_ok-make_block-in-OpenBrace-clause-read
returns-in_ok-make_block-in-OpenBrace-clause-read c = λ q h ss.
    let first = c.in-Some.first.now in
    let x : sort first ≡ sorts.OpenBrace = sym c.sort.ensures ∙ c.in-OpenBrace.is in
    let b = block first.place (map item_seen c.in_ok-items-in-OpenBrace.items.items) in
    let m : form_seen c.include_statement-in-OpenBrace.result ≡ plain.Include b =
    c.include_statement-in-OpenBrace.ensures.seen
    ∙ ap plain.Include (rw c.place-in-OpenBrace-2.ensures at
    c.in_ok-make_block-in-OpenBrace.ensures.seen) in
    block_included c.args.tokens.now c.in-Some.rest.now first q h ss c.in-Some.ensures x
    ∙ (rw c.place-in-OpenBrace.ensures at c.in_ok-items-in-OpenBrace.ensures.read
    (Out (StatementItem h ss (λ i. stated q (plain.Include i)))) refl)
    ∙ c.in_ok-rest-in-OpenBrace.ensures.read (HasItem b
    (Out (StatementItem h ss (λ i. stated q (plain.Include i)))))
    (λ t. Statements h (ss ++ stated q (plain.Include b) ∷ [])) (refl, λ t. refl, λ t. refl)
    ∙ ap (λ v. run c.in_ok-rest-in-OpenBrace.rest.now (Statements h (ss ++ stated q v ∷ [])))
    (sym m)
