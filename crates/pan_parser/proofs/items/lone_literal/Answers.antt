use Rattle.std.proofs.Common.{◌≡◌, Some, true, option_map, sym, ap, ◌∙◌, rules}
use Rattle.pan_ast.specs.declared.sort.Sort.TheVariants as sorts
use Rattle.pan_ast.specs.Seen.{item_seen, node_seen}
use Rattle.pan_ast.specs.Sorts.{sort}
use Rattle.pan_grammar.specs.Grammar.{literal, plain}
use Rattle.pan_grammar.specs.Machine.{run}
use Rattle.pan_grammar.specs.States.{HasItem}
use Rattle.pan_parser.specs.Answers.{NotAt, ends_chains}
use Rattle.pan_parser.proofs.Turns.{alone}
use Rattle.pan_parser.proofs.items.lone_literal.Goals as goal

pub returns-in_ok-make_plain-in-Some-clause-read : goal.returns-in_ok-make_plain-in-Some-clause-read
returns-in_ok-make_plain-in-Some-clause-read c = λ s low.
    let first = c.args.first.now in
    let rest = c.args.rest.now in
    let node = node_seen c.in-Some.node in
    let is : literal (sort first) first ≡ Some node =
    sym c.in_ok-node.ensures.seen ∙ ap (option_map node_seen) c.in-Some.is in
    let unindexed : NotAt sorts.OpenBracket rest = search rules in
    let ends : ends_chains rest ≡ true = search rules in
    let made : item_seen c.in_ok-make_plain-in-Some.field-0 ≡ plain node =
    c.in_ok-make_plain-in-Some.ensures.seen in
    alone first rest s node is unindexed ends low ∙ ap (λ i. run rest (HasItem i s)) (sym made)
