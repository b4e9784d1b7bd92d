use Rattle.std.proofs.Common.{map, ◌∙◌, ◌++◌, ◌-◌, [], ◌∷◌, sym, refl, ap, ◌≡◌, Some, true, false, length, arith, rules}
use Rattle.std.proofs.lemmas.Result.{err_from_is_err_and}
use Rattle.pan_ast.specs.declared.sort.Sort.TheVariants as sorts
use Rattle.pan_ast.specs.Seen.{item_seen, node_seen}
use Rattle.pan_ast.specs.Sorts.{at, is_plain, sort}
use Rattle.pan_ast.specs.Syntax.{choice}
use Rattle.pan_ast.specs.Syntax as nodes
use Rattle.pan_grammar.specs.Depths.{holders, node_holders}
use Rattle.pan_grammar.specs.Grammar.{assigned, block, called, index, inside, name, reference, unary_of}
use Rattle.pan_grammar.specs.Machine.{for_read, if_read, run, while_read}
use Rattle.pan_grammar.specs.States.{AtClose, AtSemicolon, Braces, Chained, Closes, Further, HasItem, HasNode, HasPrimary, HasReference, InBlock, InCall, InIndex, InParens, InParts, InReference, Last, MayElse, NeedItem, Parens, Signed, Takes, down, for_parts, foreach_parts, if_parts, right_side, while_parts}
use Rattle.pan_parser.specs.Answers.{indexed, op_seen}
use Rattle.pan_grammar.proofs.Firsts.{NotQuoted}
use Rattle.pan_parser.proofs.Turns.{assign_turns, at_operand, at_zero, below, block_goes_on, chain_end, chain_fails, chain_init, chain_next, chain_turns, chained, down_holders, else_turns, fails_along, first_fails, goes_along, in_block, index_turns, item_call, last_argument, last_done, last_of_block, line_above, more_arguments, no_else, one_more, parens_turn, pushed_seen, reference_index, reference_pushed, sign_turns, signed_done, word_turns}
use Rattle.pan_ast.proofs.Pointers.{items_push}
use Rattle.pan_parser.proofs.+items.Goals as goal

pub chains::arguments-returns-in_err-rest-clause-read :
    goal.chains::arguments-returns-in_err-rest-clause-read
chains::arguments-returns-in_err-rest-clause-read t c = λ n h.
    let p = err_from_is_err_and c.from_residual-in_err-rest.result
    c.from_residual-in_err-rest.ensures.1 in
    let l = c.loop-items in
    let w = c.args.word.now in
    let is = map item_seen l.items.items in
    let i = item_seen c.in_ok-next.next in
    let new = map item_seen c.push.new.self.items in
    let after = Takes (Closes Parens) (λ t. HasPrimary (called w new) n) in
    rw (p.1, p.2) (fails_along c.in_err-rest.field-0.0 _ _
    (l.invariant.0 n h
    ∙ c.in_ok-next.ensures.read (InCall w is n) h
    ∙ last_argument c.in_ok-next.more.now w is new i n c.in_default-next_is.ensures
    (pushed_seen _ _ _ c.in_ok-push.ensures.items))
    (c.in_err-rest.ensures.read after (λ t. HasPrimary (called w new) n)
    (refl, λ t. refl, λ t. refl)))

pub chains::arguments-returns-in_default-next_is-clause-read :
    goal.chains::arguments-returns-in_default-next_is-clause-read
chains::arguments-returns-in_default-next_is-clause-read t c = λ n h.
    let l = c.loop-items in
    let w = c.args.word.now in
    let is = map item_seen l.items.items in
    let i = item_seen c.in_ok-next.next in
    let new = map item_seen c.push.new.self.items in
    let after = Takes (Closes Parens) (λ t. HasPrimary (called w new) n) in
    l.invariant.0 n h
    ∙ c.in_ok-next.ensures.read (InCall w is n) h
    ∙ last_argument c.in_ok-next.more.now w is new i n c.in_default-next_is.ensures
    (pushed_seen _ _ _ c.in_ok-push.ensures.items)
    ∙ c.in_ok-rest.ensures.read after (λ t. HasPrimary (called w new) n)
    (refl, λ t. refl, λ t. refl)

pub chains::chain-returns-then-line-eq0-clause-read :
    goal.chains::chain-returns-then-line-eq0-clause-read
chains::chain-returns-then-line-eq0-clause-read t c =
    at_zero c.args.depth c.args.tokens.now (node_seen c.args.first) c.args.line c.if-line-eq0.true

pub chains::chain-returns-then-ends_chains-clause-read :
    goal.chains::chain-returns-then-ends_chains-clause-read
chains::chain-returns-then-ends_chains-clause-read t c =
    at_operand c.args.depth c.args.tokens.now (node_seen c.args.first) c.args.line
    (sym c.ends_chains.ensures ∙ c.if-ends_chains.true)

pub chains::chain-returns-in_err-left-clause-read :
    goal.chains::chain-returns-in_err-left-clause-read
chains::chain-returns-in_err-left-clause-read t c =
    let p = err_from_is_err_and c.from_residual.result c.from_residual.ensures.1 in
    rw (p.1, p.2) (first_fails c.args.depth c.in_err-left.field-0.0 c.args.tokens.now
    (λ n. HasNode (node_seen c.args.first) n) c.args.line c.if-line-eq0.false
    c.in_err-left.ensures.read)

pub chains::chain-loop-operator-init : goal.chains::chain-loop-operator-init
chains::chain-loop-operator-init t c = (
  λ k e. chain_init c.args.depth c.args.tokens.now c.in_ok-left.rest.now
      (λ n. HasNode (node_seen c.args.first) n) (node_seen c.in_ok-left.left) c.args.line k e
      c.in_ok-left.ensures.read,
  omega arith,
  c.in_ok-left.ensures.shorter,
  omega
      (arith, c.in_ok-left.ensures.pointers),
)

pub chains::chain-returns-in_err-right-clause-read :
    goal.chains::chain-returns-in_err-right-clause-read
chains::chain-returns-in_err-right-clause-read t c =
    let p = err_from_is_err_and c.from_residual-in_err-right.result
    c.from_residual-in_err-right.ensures.1 in
    let l = c.loop-operator in
    let k = c.args.line - 1 in
    let e = line_above c.args.line l.invariant.1 in
    rw (p.1, p.2) (chain_fails c.args.depth c.in_err-right.field-0.0 c.args.tokens.now l.rest.now
    c.in-Some.after.now (λ n. HasNode (node_seen c.args.first) n) (node_seen l.left)
    (op_seen c.in-Some.operator) c.args.line k e (l.invariant.0 k e) c.in-Some.ensures
    c.in_err-right.ensures.read)

pub chains::chain-loop-operator-preserved : goal.chains::chain-loop-operator-preserved
chains::chain-loop-operator-preserved t c =
    let l = c.loop-operator in (
      λ k e. chain_next c.args.depth c.args.tokens.now l.rest.now c.in-Some.after.now
          c.in_ok-right.more.now (λ n. HasNode (node_seen c.args.first) n) (node_seen l.left)
          (node_seen c.in_ok-right.right) (node_seen c.in_ok-left-2.left)
          (op_seen c.in-Some.operator) c.args.line k e (l.invariant.0 k e) c.in-Some.ensures
          c.in_ok-right.ensures.read c.in_ok-left-2.ensures.seen,
      l.invariant.1,
      omega (arith, ap length c.in-Some.ensures.1, c.in_ok-right.ensures.shorter, l.invariant.2),
      omega (
        arith,
        c.in_ok-right.ensures.pointers,
        c.in_ok-left-2.ensures.pointers,
        l.invariant.1,
        l.invariant.3,
      ),
    )

pub chains::chain-returns-clause-read : goal.chains::chain-returns-clause-read
chains::chain-returns-clause-read t c =
    let l = c.loop-operator in
    let k = c.args.line - 1 in
    let e = line_above c.args.line l.invariant.1 in
    chain_end c.args.depth c.args.tokens.now l.rest.now (λ n. HasNode (node_seen c.args.first) n)
    (node_seen l.left) c.args.line k e (l.invariant.0 k e) c.in_default.ensures

pub chains::chain_item-returns-clause-read : goal.chains::chain_item-returns-clause-read
chains::chain_item-returns-clause-read t c = λ s h.
    let r = c.in_ok-node in
    r.ensures.read (Chained s) h
    ∙ chained r.rest.now (node_seen r.node) s
    ∙ ap (λ i. run r.rest.now (HasItem i s)) (sym c.in_ok-make_plain.ensures.seen)

pub chains::indexes-returns-in_err-rest-clause-read :
    goal.chains::indexes-returns-in_err-rest-clause-read
chains::indexes-returns-in_err-rest-clause-read t c = λ n h.
    let p = err_from_is_err_and c.from_residual-in_err-rest.result
    c.from_residual-in_err-rest.ensures.1 in
    let l = c.loop-after in
    let x = node_seen l.whole in
    let i = item_seen c.in_ok-index.index in
    rw (p.1, p.2) (fails_along c.in_err-rest.field-0.0 _ _
    (l.invariant.0 n h
    ∙ index_turns l.rest.now c.in-Some.after.now x n c.in-Some.ensures
    ∙ c.in_ok-index.ensures.read (InIndex x n) h)
    (c.in_err-rest.ensures.read (HasItem i (InIndex x n)) (λ t. HasPrimary (index x i) n)
    (refl, λ t. refl, λ t. refl)))

pub chains::indexes-loop-after-preserved : goal.chains::indexes-loop-after-preserved
chains::indexes-loop-after-preserved t c =
    let l = c.loop-after in
    let x = node_seen l.whole in
    let i = item_seen c.in_ok-index.index in (
      λ n h. l.invariant.0 n h
          ∙ index_turns l.rest.now c.in-Some.after.now x n c.in-Some.ensures
          ∙ c.in_ok-index.ensures.read (InIndex x n) h
          ∙ c.in_ok-rest.ensures.read (HasItem i (InIndex x n)) (λ t. HasPrimary (index x i) n)
          (refl, λ t. refl, λ t. refl)
          ∙ ap (λ v. run c.in_ok-rest.field-0-1.now (HasPrimary v n))
          (sym c.in_ok-whole.ensures.seen),
      omega (
        arith,
        ap length c.in-Some.ensures.1,
        c.in_ok-index.ensures.shorter,
        c.in_ok-rest.ensures.shorter,
        l.invariant.1,
      ),
      omega (arith, c.in_ok-index.ensures.pointers, c.in_ok-whole.ensures.pointers, l.invariant.2),
    )

pub chains::operand-returns-in_err-first-clause-read :
    goal.chains::operand-returns-in_err-first-clause-read
chains::operand-returns-in_err-first-clause-read t c = λ n h.
    let p = err_from_is_err_and c.from_residual.result c.from_residual.ensures.1 in
    rw (p.1, p.2) (c.in_err-first.ensures.read (down c.args.line n)
    (down_holders c.args.line n ∙ h))

pub chains::operand-returns-clause-read : goal.chains::operand-returns-clause-read
chains::operand-returns-clause-read t c = λ n h.
    goes_along c.chain.result _ _ _ (c.in_ok-first.ensures.read (down c.args.line n)
    (down_holders c.args.line n ∙ h)) (c.chain.ensures.read n h)

pub chains::primary-returns-in_err-rest-clause-read :
    goal.chains::primary-returns-in_err-rest-clause-read
chains::primary-returns-in_err-rest-clause-read t c = λ n h.
    let p = err_from_is_err_and c.from_residual-in_err-rest.result
    c.from_residual-in_err-rest.ensures.1 in
    let first = c.in-Some.first.now in
    let q = first.place in
    let i = item_seen c.in_ok-inner.inner in
    let e : at sorts.Open (sort first) ≡ true = search rules in
    rw (p.1, p.2) (fails_along c.in_err-rest.field-0.0 _ _
    (parens_turn c.args.tokens.now first c.in-Some.rest.now n c.in-Some.ensures e
    ∙ c.in_ok-inner.ensures.read (InParens q n) h)
    (c.in_err-rest.ensures.read (HasItem i (InParens q n)) (λ t. HasPrimary (inside q i) n)
    (refl, λ t. refl, λ t. refl)))

pub chains::primary-returns-clause-read : goal.chains::primary-returns-clause-read
chains::primary-returns-clause-read t c = λ n h.
    let first = c.in-Some.first.now in
    let q = first.place in
    let i = item_seen c.in_ok-inner.inner in
    let e : at sorts.Open (sort first) ≡ true = search rules in
    let made : node_seen c.in_ok-make_inside.field-0 ≡ inside q i = search rules in
    parens_turn c.args.tokens.now first c.in-Some.rest.now n c.in-Some.ensures e
    ∙ c.in_ok-inner.ensures.read (InParens q n) h
    ∙ c.in_ok-rest.ensures.read (HasItem i (InParens q n)) (λ t. HasPrimary (inside q i) n)
    (refl, λ t. refl, λ t. refl)
    ∙ ap (λ v. run c.in_ok-rest.rest.now (HasPrimary v n)) (sym made)

pub chains::reference_indexes-returns-in_err-rest-clause-read :
    goal.chains::reference_indexes-returns-in_err-rest-clause-read
chains::reference_indexes-returns-in_err-rest-clause-read t c = λ s h.
    let p = err_from_is_err_and c.from_residual-in_err-rest.result
    c.from_residual-in_err-rest.ensures.1 in
    let l = c.loop-after in
    let w = c.args.word.now in
    let is = map item_seen l.items.items in
    let x = indexed (name w) is in
    let i = item_seen c.in_ok-index.index in
    rw (p.1, p.2) (fails_along c.in_err-rest.field-0.0 _ _
    (l.invariant.0 s h
    ∙ reference_index l.rest.now c.in-Some.after.now w is x s c.in-Some.ensures
    ∙ c.in_ok-index.ensures.read (InReference w is x s) h)
    (c.in_err-rest.ensures.read (HasItem i (InReference w is x s))
    (λ t. HasReference w (is ++ i ∷ []) (index x i) s) (refl, λ t. refl, λ t. refl)))

pub chains::reference_indexes-loop-after-preserved :
    goal.chains::reference_indexes-loop-after-preserved
chains::reference_indexes-loop-after-preserved t c =
    let l = c.loop-after in
    let w = c.args.word.now in
    let is = map item_seen l.items.items in
    let x = indexed (name w) is in
    let i = item_seen c.in_ok-index.index in (
      λ s h. l.invariant.0 s h
          ∙ reference_index l.rest.now c.in-Some.after.now w is x s c.in-Some.ensures
          ∙ c.in_ok-index.ensures.read (InReference w is x s) h
          ∙ c.in_ok-rest.ensures.read (HasItem i (InReference w is x s))
          (λ t. HasReference w (is ++ i ∷ []) (index x i) s) (refl, λ t. refl, λ t. refl)
          ∙ reference_pushed c.in_ok-rest.field-0-1.now w is (map item_seen c.push.new.self.items) i
          s (pushed_seen _ _ _ c.in_ok-push.ensures.items),
      omega (
        arith,
        ap length c.in-Some.ensures.1,
        c.in_ok-index.ensures.shorter,
        c.in_ok-rest.ensures.shorter,
        l.invariant.1,
      ),
      omega (
        arith,
        c.in_ok-index.ensures.pointers,
        items_push _ _ _ c.in_ok-push.ensures.items,
        l.invariant.2,
      ),
    )

pub chains::unary-returns-in_err-node-2-clause-read :
    goal.chains::unary-returns-in_err-node-2-clause-read
chains::unary-returns-in_err-node-2-clause-read t c = λ n h.
    let p = err_from_is_err_and c.from_residual-in_err-node-2.result
    c.from_residual-in_err-node-2.ensures.1 in
    let first = c.in-Some.first.now in
    let op = c.in-Some-unary_of.operator in
    let e : unary_of (sort first) ≡ Some op = search rules in
    rw (p.1, p.2) (fails_along c.in_err-node-2.field-0.0 _ _
    (sign_turns c.args.tokens.now first c.in-Some.rest.now n op c.in-Some.ensures e
    (below (node_holders n) c.args.depth h c.requires c.if-depth-eq-MAX_NESTING.false))
    (c.in_err-node-2.ensures.read (Signed op first.place n)
    (one_more (node_holders n) c.args.depth h)))

pub chains::unary-returns-clause-read : goal.chains::unary-returns-clause-read
chains::unary-returns-clause-read t c = λ n h.
    let first = c.in-Some.first.now in
    let op = c.in-Some-unary_of.operator in
    let r = c.in_ok-node-2 in
    let e : unary_of (sort first) ≡ Some op = search rules in
    let made : node_seen c.in_ok-make_unary.field-0
    ≡ nodes.Unary first.place op (node_seen r.node) = search rules in
    sign_turns c.args.tokens.now first c.in-Some.rest.now n op c.in-Some.ensures e
    (below (node_holders n) c.args.depth h c.requires c.if-depth-eq-MAX_NESTING.false)
    ∙ r.ensures.read (Signed op first.place n) (one_more (node_holders n) c.args.depth h)
    ∙ signed_done r.rest.now op first.place (node_seen r.node) n
    ∙ ap (λ v. run r.rest.now (HasNode v n)) (sym made)

pub items::block_items-returns-in_err-next-clause-read :
    goal.items::block_items-returns-in_err-next-clause-read
items::block_items-returns-in_err-next-clause-read t c = λ s h.
    let p = err_from_is_err_and c.from_residual.result c.from_residual.ensures.1 in
    let l = c.loop-after in
    let q = c.args.place.now in
    let is = map item_seen l.items.items in
    rw (p.1, p.2) (fails_along c.in_err-next.field-0.0 _ _
    (l.invariant.0 s h
    ∙ in_block l.rest.now q is s c.in_default.ensures)
    (c.in_err-next.ensures.read (InBlock q is s) h))

pub items::block_items-returns-in_err-rest-clause-read :
    goal.items::block_items-returns-in_err-rest-clause-read
items::block_items-returns-in_err-rest-clause-read t c = λ s h.
    let p = err_from_is_err_and c.from_residual-in_err-rest.result
    c.from_residual-in_err-rest.ensures.1 in
    let l = c.loop-after in
    let q = c.args.place.now in
    let is = map item_seen l.items.items in
    let i = item_seen c.in_ok-next.next in
    let new = map item_seen c.push.new.self.items in
    rw (p.1, p.2) (fails_along c.in_err-rest.field-0.0 _ _
    (l.invariant.0 s h
    ∙ in_block l.rest.now q is s c.in_default.ensures
    ∙ c.in_ok-next.ensures.read (InBlock q is s) h
    ∙ last_of_block c.in_ok-next.more.now q is new i s c.in_default-next_is.ensures
    (pushed_seen _ _ _ c.in_ok-push.ensures.items))
    (c.in_err-rest.ensures.read (Takes (Closes Braces) (λ t. HasItem (block q new) s))
    (λ t. HasItem (block q new) s) (refl, λ t. refl, λ t. refl)))

pub items::block_items-returns-in_default-next_is-clause-read :
    goal.items::block_items-returns-in_default-next_is-clause-read
items::block_items-returns-in_default-next_is-clause-read t c = λ s h.
    let l = c.loop-after in
    let q = c.args.place.now in
    let is = map item_seen l.items.items in
    let i = item_seen c.in_ok-next.next in
    let new = map item_seen c.push.new.self.items in
    l.invariant.0 s h
    ∙ in_block l.rest.now q is s c.in_default.ensures
    ∙ c.in_ok-next.ensures.read (InBlock q is s) h
    ∙ last_of_block c.in_ok-next.more.now q is new i s c.in_default-next_is.ensures
    (pushed_seen _ _ _ c.in_ok-push.ensures.items)
    ∙ c.in_ok-rest.ensures.read (Takes (Closes Braces) (λ t. HasItem (block q new) s))
    (λ t. HasItem (block q new) s) (refl, λ t. refl, λ t. refl)

pub items::block_items-loop-after-preserved : goal.items::block_items-loop-after-preserved
items::block_items-loop-after-preserved t c =
    let l = c.loop-after in
    let q = c.args.place.now in
    let is = map item_seen l.items.items in
    let i = item_seen c.in_ok-next.next in
    let new = map item_seen c.push.new.self.items in (
      λ s h. l.invariant.0 s h
          ∙ in_block l.rest.now q is s c.in_default.ensures
          ∙ c.in_ok-next.ensures.read (InBlock q is s) h
          ∙ block_goes_on c.in_ok-next.more.now c.in-Some-next_is.after.now q is new i s
          c.in-Some-next_is.ensures (pushed_seen _ _ _ c.in_ok-push.ensures.items),
      omega (
        arith,
        ap length c.in-Some-next_is.ensures.1,
        c.in_ok-next.ensures.shorter,
        l.invariant.1,
      ),
      omega (
        arith,
        c.in_ok-next.ensures.pointers,
        items_push _ _ _ c.in_ok-push.ensures.items,
        l.invariant.2,
      ),
    )

pub items::while_item-returns-in_err-rest-clause-read :
    goal.items::while_item-returns-in_err-rest-clause-read
items::while_item-returns-in_err-rest-clause-read t c = λ s h.
    let p = err_from_is_err_and c.from_residual.result c.from_residual.ensures.1 in
    let q = c.args.place.now in
    rw (p.1, p.2) (c.in_err-rest.ensures.read (while_read q s)
    (λ o. NeedItem (InParts (while_parts q) s)) (refl, λ t. refl, λ t. refl))

pub items::while_item-returns-in_err-condition-clause-read :
    goal.items::while_item-returns-in_err-condition-clause-read
items::while_item-returns-in_err-condition-clause-read t c = λ s h.
    let p = err_from_is_err_and c.from_residual-in_err-condition.result
    c.from_residual-in_err-condition.ensures.1 in
    let q = c.args.place.now in
    rw (p.1, p.2) (fails_along c.in_err-condition.field-0.0 _ _
    (c.in_ok-rest.ensures.read (while_read q s) (λ o. NeedItem (InParts (while_parts q) s))
    (refl, λ t. refl, λ t. refl))
    (c.in_err-condition.ensures.read AtClose (λ x. Last (λ b. nodes.While q x b)) s refl h))

pub items::while_item-returns-in_err-body-clause-read :
    goal.items::while_item-returns-in_err-body-clause-read
items::while_item-returns-in_err-body-clause-read t c = λ s h.
    let p = err_from_is_err_and c.from_residual-in_err-body.result
    c.from_residual-in_err-body.ensures.1 in
    let q = c.args.place.now in
    let x = item_seen c.in_ok-condition.condition.value in
    rw (p.1, p.2) (fails_along c.in_err-body.field-0.0 _ _
    (c.in_ok-rest.ensures.read (while_read q s) (λ o. NeedItem (InParts (while_parts q) s))
    (refl, λ t. refl, λ t. refl)
    ∙ c.in_ok-condition.ensures.read AtClose (λ x. Last (λ b. nodes.While q x b)) s refl h)
    (c.in_err-body.ensures.read (InParts (Last (λ b. nodes.While q x b)) s) h))

pub items::while_item-returns-clause-read : goal.items::while_item-returns-clause-read
items::while_item-returns-clause-read t c = λ s h.
    let q = c.args.place.now in
    let x = item_seen c.in_ok-condition.condition.value in
    let r = c.in_ok-body in
    c.in_ok-rest.ensures.read (while_read q s) (λ o. NeedItem (InParts (while_parts q) s))
    (refl, λ t. refl, λ t. refl)
    ∙ c.in_ok-condition.ensures.read AtClose (λ x. Last (λ b. nodes.While q x b)) s refl h
    ∙ c.in_ok-body.ensures.read (InParts (Last (λ b. nodes.While q x b)) s) h
    ∙ last_done r.rest.now (λ b. nodes.While q x b) (item_seen r.body.value) s
    ∙ ap (λ i. run r.rest.now (HasItem i s)) (sym c.in_ok-make_while.ensures.seen)

pub items::for_item-returns-in_err-rest-clause-read :
    goal.items::for_item-returns-in_err-rest-clause-read
items::for_item-returns-in_err-rest-clause-read t c = λ s h.
    let p = err_from_is_err_and c.from_residual.result c.from_residual.ensures.1 in
    let q = c.args.place.now in
    rw (p.1, p.2) (c.in_err-rest.ensures.read (for_read q s)
    (λ o. NeedItem (InParts (for_parts q) s)) (refl, λ t. refl, λ t. refl))

pub items::for_item-returns-in_err-first-clause-read :
    goal.items::for_item-returns-in_err-first-clause-read
items::for_item-returns-in_err-first-clause-read t c = λ s h.
    let p = err_from_is_err_and c.from_residual-in_err-first.result
    c.from_residual-in_err-first.ensures.1 in
    let q = c.args.place.now in
    rw (p.1, p.2) (fails_along c.in_err-first.field-0.0 _ _
    (c.in_ok-rest.ensures.read (for_read q s) (λ o. NeedItem (InParts (for_parts q) s))
    (refl, λ t. refl, λ t. refl))
    (c.in_err-first.ensures.read AtSemicolon (λ a. Further AtSemicolon
    (λ x. Further AtClose (λ m. Last (λ b. nodes.For q a x m b)))) s refl h))

pub items::for_item-returns-in_err-condition-clause-read :
    goal.items::for_item-returns-in_err-condition-clause-read
items::for_item-returns-in_err-condition-clause-read t c = λ s h.
    let p = err_from_is_err_and c.from_residual-in_err-condition.result
    c.from_residual-in_err-condition.ensures.1 in
    let q = c.args.place.now in
    let a = item_seen c.in_ok-first.first.value in
    rw (p.1, p.2) (fails_along c.in_err-condition.field-0.0 _ _
    (c.in_ok-rest.ensures.read (for_read q s) (λ o. NeedItem (InParts (for_parts q) s))
    (refl, λ t. refl, λ t. refl)
    ∙ c.in_ok-first.ensures.read AtSemicolon (λ a. Further AtSemicolon
    (λ x. Further AtClose (λ m. Last (λ b. nodes.For q a x m b)))) s refl h)
    (c.in_err-condition.ensures.read AtSemicolon (λ x. Further AtClose
    (λ m. Last (λ b. nodes.For q a x m b))) s refl h))

pub items::for_item-returns-in_err-step-clause-read :
    goal.items::for_item-returns-in_err-step-clause-read
items::for_item-returns-in_err-step-clause-read t c = λ s h.
    let p = err_from_is_err_and c.from_residual-in_err-step.result
    c.from_residual-in_err-step.ensures.1 in
    let q = c.args.place.now in
    let a = item_seen c.in_ok-first.first.value in
    let x = item_seen c.in_ok-condition.condition.value in
    rw (p.1, p.2) (fails_along c.in_err-step.field-0.0 _ _
    (c.in_ok-rest.ensures.read (for_read q s) (λ o. NeedItem (InParts (for_parts q) s))
    (refl, λ t. refl, λ t. refl)
    ∙ c.in_ok-first.ensures.read AtSemicolon (λ a. Further AtSemicolon
    (λ x. Further AtClose (λ m. Last (λ b. nodes.For q a x m b)))) s refl h
    ∙ c.in_ok-condition.ensures.read AtSemicolon (λ x. Further AtClose
    (λ m. Last (λ b. nodes.For q a x m b))) s refl h)
    (c.in_err-step.ensures.read AtClose (λ m. Last (λ b. nodes.For q a x m b)) s refl h))

pub items::for_item-returns-in_err-body-clause-read :
    goal.items::for_item-returns-in_err-body-clause-read
items::for_item-returns-in_err-body-clause-read t c = λ s h.
    let p = err_from_is_err_and c.from_residual-in_err-body.result
    c.from_residual-in_err-body.ensures.1 in
    let q = c.args.place.now in
    let a = item_seen c.in_ok-first.first.value in
    let x = item_seen c.in_ok-condition.condition.value in
    let m = item_seen c.in_ok-step.step.value in
    rw (p.1, p.2) (fails_along c.in_err-body.field-0.0 _ _
    (c.in_ok-rest.ensures.read (for_read q s) (λ o. NeedItem (InParts (for_parts q) s))
    (refl, λ t. refl, λ t. refl)
    ∙ c.in_ok-first.ensures.read AtSemicolon (λ a. Further AtSemicolon
    (λ x. Further AtClose (λ m. Last (λ b. nodes.For q a x m b)))) s refl h
    ∙ c.in_ok-condition.ensures.read AtSemicolon (λ x. Further AtClose
    (λ m. Last (λ b. nodes.For q a x m b))) s refl h
    ∙ c.in_ok-step.ensures.read AtClose (λ m. Last (λ b. nodes.For q a x m b)) s refl h)
    (c.in_err-body.ensures.read (InParts (Last (λ b. nodes.For q a x m b)) s) h))

pub items::for_item-returns-clause-read : goal.items::for_item-returns-clause-read
items::for_item-returns-clause-read t c = λ s h.
    let q = c.args.place.now in
    let a = item_seen c.in_ok-first.first.value in
    let x = item_seen c.in_ok-condition.condition.value in
    let m = item_seen c.in_ok-step.step.value in
    let r = c.in_ok-body in
    c.in_ok-rest.ensures.read (for_read q s) (λ o. NeedItem (InParts (for_parts q) s))
    (refl, λ t. refl, λ t. refl)
    ∙ c.in_ok-first.ensures.read AtSemicolon (λ a. Further AtSemicolon
    (λ x. Further AtClose (λ m. Last (λ b. nodes.For q a x m b)))) s refl h
    ∙ c.in_ok-condition.ensures.read AtSemicolon (λ x. Further AtClose
    (λ m. Last (λ b. nodes.For q a x m b))) s refl h
    ∙ c.in_ok-step.ensures.read AtClose (λ m. Last (λ b. nodes.For q a x m b)) s refl h
    ∙ c.in_ok-body.ensures.read (InParts (Last (λ b. nodes.For q a x m b)) s) h
    ∙ last_done r.rest.now (λ b. nodes.For q a x m b) (item_seen r.body.value) s
    ∙ ap (λ i. run r.rest.now (HasItem i s)) (sym c.in_ok-make_for.ensures.seen)

pub items::foreach_item-returns-in_err-key-clause-read :
    goal.items::foreach_item-returns-in_err-key-clause-read
items::foreach_item-returns-in_err-key-clause-read t c = λ s h.
    let p = err_from_is_err_and c.from_residual.result c.from_residual.ensures.1 in
    let q = c.args.place.now in
    rw (p.1, p.2) (c.in_err-key.ensures.read (λ k v. NeedItem
    (InParts (foreach_parts q k.value v.value) s)))

pub items::foreach_item-returns-in_err-items-clause-read :
    goal.items::foreach_item-returns-in_err-items-clause-read
items::foreach_item-returns-in_err-items-clause-read t c = λ s h.
    let p = err_from_is_err_and c.from_residual-in_err-items.result
    c.from_residual-in_err-items.ensures.1 in
    let q = c.args.place.now in
    let k = c.in_ok-key.key.now.value in
    let v = c.in_ok-key.value.now.value in
    rw (p.1, p.2) (fails_along c.in_err-items.field-0.0 _ _
    (c.in_ok-key.ensures.read (λ k v. NeedItem (InParts (foreach_parts q k.value v.value) s)))
    (c.in_err-items.ensures.read AtClose (λ x. Last (λ b. nodes.Foreach q k v x b)) s refl h))

pub items::foreach_item-returns-in_err-body-clause-read :
    goal.items::foreach_item-returns-in_err-body-clause-read
items::foreach_item-returns-in_err-body-clause-read t c = λ s h.
    let p = err_from_is_err_and c.from_residual-in_err-body.result
    c.from_residual-in_err-body.ensures.1 in
    let q = c.args.place.now in
    let k = c.in_ok-key.key.now.value in
    let v = c.in_ok-key.value.now.value in
    let x = item_seen c.in_ok-items.items.value in
    rw (p.1, p.2) (fails_along c.in_err-body.field-0.0 _ _
    (c.in_ok-key.ensures.read (λ k v. NeedItem (InParts (foreach_parts q k.value v.value) s))
    ∙ c.in_ok-items.ensures.read AtClose (λ x. Last (λ b. nodes.Foreach q k v x b)) s refl h)
    (c.in_err-body.ensures.read (InParts (Last (λ b. nodes.Foreach q k v x b)) s) h))

pub items::foreach_item-returns-clause-read : goal.items::foreach_item-returns-clause-read
items::foreach_item-returns-clause-read t c = λ s h.
    let q = c.args.place.now in
    let k = c.in_ok-key.key.now.value in
    let v = c.in_ok-key.value.now.value in
    let x = item_seen c.in_ok-items.items.value in
    let r = c.in_ok-body in
    let made : item_seen c.in_ok-make_foreach.field-0
    ≡ nodes.Foreach q k v x (item_seen r.body.value) = search rules in
    c.in_ok-key.ensures.read (λ k v. NeedItem (InParts (foreach_parts q k.value v.value) s))
    ∙ c.in_ok-items.ensures.read AtClose (λ x. Last (λ b. nodes.Foreach q k v x b)) s refl h
    ∙ c.in_ok-body.ensures.read (InParts (Last (λ b. nodes.Foreach q k v x b)) s) h
    ∙ last_done r.rest.now (λ b. nodes.Foreach q k v x b) (item_seen r.body.value) s
    ∙ ap (λ i. run r.rest.now (HasItem i s)) (sym made)

pub items::if_item-returns-in_err-rest-clause-read :
    goal.items::if_item-returns-in_err-rest-clause-read
items::if_item-returns-in_err-rest-clause-read t c = λ s h.
    let p = err_from_is_err_and c.from_residual.result c.from_residual.ensures.1 in
    let q = c.args.place.now in
    rw (p.1, p.2) (c.in_err-rest.ensures.read (if_read q s) (λ o. NeedItem (InParts (if_parts q) s))
    (refl, λ t. refl, λ t. refl))

pub items::if_item-returns-in_err-condition-clause-read :
    goal.items::if_item-returns-in_err-condition-clause-read
items::if_item-returns-in_err-condition-clause-read t c = λ s h.
    let p = err_from_is_err_and c.from_residual-in_err-condition.result
    c.from_residual-in_err-condition.ensures.1 in
    let q = c.args.place.now in
    rw (p.1, p.2) (fails_along c.in_err-condition.field-0.0 _ _
    (c.in_ok-rest.ensures.read (if_read q s) (λ o. NeedItem (InParts (if_parts q) s))
    (refl, λ t. refl, λ t. refl))
    (c.in_err-condition.ensures.read AtClose (λ x. MayElse (λ a b. choice q x a b)) s refl h))

pub items::if_item-returns-in_err-then-clause-read :
    goal.items::if_item-returns-in_err-then-clause-read
items::if_item-returns-in_err-then-clause-read t c = λ s h.
    let p = err_from_is_err_and c.from_residual-in_err-then.result
    c.from_residual-in_err-then.ensures.1 in
    let q = c.args.place.now in
    let x = item_seen c.in_ok-condition.condition.value in
    rw (p.1, p.2) (fails_along c.in_err-then.field-0.0 _ _
    (c.in_ok-rest.ensures.read (if_read q s) (λ o. NeedItem (InParts (if_parts q) s))
    (refl, λ t. refl, λ t. refl)
    ∙ c.in_ok-condition.ensures.read AtClose (λ x. MayElse (λ a b. choice q x a b)) s refl h)
    (c.in_err-then.ensures.read (InParts (MayElse (λ a b. choice q x a b)) s) h))

pub items::if_item-returns-in_default-clause-read :
    goal.items::if_item-returns-in_default-clause-read
items::if_item-returns-in_default-clause-read t c = λ s h.
    let q = c.args.place.now in
    let x = item_seen c.in_ok-condition.condition.value in
    let a = item_seen c.in_ok-then.then.value in
    c.in_ok-rest.ensures.read (if_read q s) (λ o. NeedItem (InParts (if_parts q) s))
    (refl, λ t. refl, λ t. refl)
    ∙ c.in_ok-condition.ensures.read AtClose (λ x. MayElse (λ a b. choice q x a b)) s refl h
    ∙ c.in_ok-then.ensures.read (InParts (MayElse (λ a b. choice q x a b)) s) h
    ∙ no_else c.in_ok-then.rest.now (λ a b. choice q x a b) a s c.in_default.ensures
    ∙ ap (λ i. run c.in_ok-then.rest.now (HasItem i s)) (sym c.in_ok-make_if.ensures.seen)

pub items::if_item-returns-in_err-otherwise-clause-read :
    goal.items::if_item-returns-in_err-otherwise-clause-read
items::if_item-returns-in_err-otherwise-clause-read t c = λ s h.
    let p = err_from_is_err_and c.from_residual-in_err-otherwise.result
    c.from_residual-in_err-otherwise.ensures.1 in
    let q = c.args.place.now in
    let x = item_seen c.in_ok-condition.condition.value in
    let a = item_seen c.in_ok-then.then.value in
    rw (p.1, p.2) (fails_along c.in_err-otherwise.field-0.0 _ _
    (c.in_ok-rest.ensures.read (if_read q s) (λ o. NeedItem (InParts (if_parts q) s))
    (refl, λ t. refl, λ t. refl)
    ∙ c.in_ok-condition.ensures.read AtClose (λ x. MayElse (λ a b. choice q x a b)) s refl h
    ∙ c.in_ok-then.ensures.read (InParts (MayElse (λ a b. choice q x a b)) s) h
    ∙ else_turns c.in_ok-then.rest.now c.in-Some.after.now (λ a b. choice q x a b) a s
    c.in-Some.ensures)
    (c.in_err-otherwise.ensures.read (InParts (Last (λ b. choice q x a (Some b))) s) h))

pub items::if_item-returns-clause-read : goal.items::if_item-returns-clause-read
items::if_item-returns-clause-read t c = λ s h.
    let q = c.args.place.now in
    let x = item_seen c.in_ok-condition.condition.value in
    let a = item_seen c.in_ok-then.then.value in
    let r = c.in_ok-otherwise in
    c.in_ok-rest.ensures.read (if_read q s) (λ o. NeedItem (InParts (if_parts q) s))
    (refl, λ t. refl, λ t. refl)
    ∙ c.in_ok-condition.ensures.read AtClose (λ x. MayElse (λ a b. choice q x a b)) s refl h
    ∙ c.in_ok-then.ensures.read (InParts (MayElse (λ a b. choice q x a b)) s) h
    ∙ else_turns c.in_ok-then.rest.now c.in-Some.after.now (λ a b. choice q x a b) a s
    c.in-Some.ensures
    ∙ r.ensures.read (InParts (Last (λ b. choice q x a (Some b))) s) h
    ∙ last_done r.rest.now (λ b. choice q x a (Some b)) (item_seen r.otherwise.value) s
    ∙ ap (λ i. run r.rest.now (HasItem i s)) (sym c.in_ok-make_if_else.ensures.seen)

pub items::item_before-returns-in_err-rest-clause-read :
    goal.items::item_before-returns-in_err-rest-clause-read
items::item_before-returns-in_err-rest-clause-read t c = λ k make s e h.
    let p = err_from_is_err_and c.from_residual-in_err-rest.result
    c.from_residual-in_err-rest.ensures.1 in
    let i = item_seen c.in_ok-next.next.value in
    rw (p.1, p.2) (fails_along c.in_err-rest.field-0.0 _ _
    (c.in_ok-next.ensures.read (InParts (Further k make) s) h)
    (c.in_err-rest.ensures.read (HasItem i (InParts (Further k make) s))
    (λ t. NeedItem (InParts (make i) s)) (refl, λ t. rw e refl, λ t. refl)))

pub items::item_before-returns-clause-read : goal.items::item_before-returns-clause-read
items::item_before-returns-clause-read t c = λ k make s e h.
    let i = item_seen c.in_ok-next.next.value in
    c.in_ok-next.ensures.read (InParts (Further k make) s) h
    ∙ c.in_ok-rest.ensures.read (HasItem i (InParts (Further k make) s))
    (λ t. NeedItem (InParts (make i) s)) (refl, λ t. rw e refl, λ t. refl)

pub items::item-returns-in_err-node-in_default-sort :
    goal.items::item-returns-in_err-node-in_default-sort
items::item-returns-in_err-node-in_default-sort t c =
    let p = err_from_is_err_and c.from_residual-in_err-node-in_default-sort.result
    c.from_residual-in_err-node-in_default-sort.ensures.1 in
    let first = c.in-Some.first.now in
    let ts = c.args.tokens.now in
    let other : NotQuoted (sort first) = (
      λ k. c.in_default-sort.not-OpenBrace (c.sort.ensures ∙ k),
      λ k. c.in_default-sort.not-If
          (c.sort.ensures ∙ k),
      λ k. c.in_default-sort.not-While (c.sort.ensures ∙ k),
      λ k.
          c.in_default-sort.not-For (c.sort.ensures ∙ k),
      λ k. c.in_default-sort.not-Foreach
          (c.sort.ensures ∙ k),
    ) in
    let e : is_plain (sort first) ≡ false = search rules in
    record {
      read = λ s h. rw (p.1, p.2) (fails_along c.in_err-node-in_default-sort.field-0.0 _ _
          (chain_turns ts first c.in-Some.rest.now s c.in-Some.ensures other e
          (below (holders s) c.args.depth h c.requires c.if-depth-eq-MAX_NESTING.false))
          (c.in_err-node-in_default-sort.ensures.read (down 9 (Chained s))
          (one_more (holders s) c.args.depth h)));
      shorter = rw p.1 tt;
      pointers = rw p.1 tt;
    }

pub items::item-returns-in_ok-node-in_default-sort :
    goal.items::item-returns-in_ok-node-in_default-sort
items::item-returns-in_ok-node-in_default-sort t c =
    let first = c.in-Some.first.now in
    let ts = c.args.tokens.now in
    let other : NotQuoted (sort first) = (
      λ k. c.in_default-sort.not-OpenBrace (c.sort.ensures ∙ k),
      λ k. c.in_default-sort.not-If
          (c.sort.ensures ∙ k),
      λ k. c.in_default-sort.not-While (c.sort.ensures ∙ k),
      λ k.
          c.in_default-sort.not-For (c.sort.ensures ∙ k),
      λ k. c.in_default-sort.not-Foreach
          (c.sort.ensures ∙ k),
    ) in
    let e : is_plain (sort first) ≡ false = search rules in
    let r = c.in_ok-node-in_default-sort in
    record {
      read = λ s h. goes_along c.chain_item.result _ _ _
          (chain_turns ts first c.in-Some.rest.now s c.in-Some.ensures other e
          (below (holders s) c.args.depth h c.requires c.if-depth-eq-MAX_NESTING.false)
          ∙ r.ensures.read (down 9 (Chained s)) (one_more (holders s) c.args.depth h))
          (c.chain_item.ensures.read s (one_more (holders s) c.args.depth h));
      shorter = search rules;
      pointers = search rules;
    }

pub items::reference_item-returns-clause-read : goal.items::reference_item-returns-clause-read
items::reference_item-returns-clause-read t c = λ s h.
    let w = c.args.word.now in
    let is = map item_seen c.args.items.items in
    let x = indexed (name w) is in
    let r = c.in_ok-right in
    let y = item_seen r.right.value in
    let made : item_seen c.in_ok-make_assign.field-0 ≡ assigned (reference w is) y = search rules in
    assign_turns c.args.tokens.now c.in-Some.after.now w is x s c.in-Some.ensures
    ∙ r.ensures.read (InParts (right_side (reference w is)) s) h
    ∙ last_done r.rest.now (λ v. assigned (reference w is) v) y s
    ∙ ap (λ i. run r.rest.now (HasItem i s)) (sym made)

pub items::word_item-returns-clause-read : goal.items::word_item-returns-clause-read
items::word_item-returns-clause-read t c = λ s h.
    let w = c.args.word.now in
    let m = c.in_ok-items-2 in
    let r = c.in_ok-node in
    let made : node_seen c.in_ok-call.call ≡ called w (map item_seen m.items.items) =
    search rules in
    goes_along c.chain_item.result _ _ _
    (item_call c.args.tokens.now c.in-Some.after.now w s c.in-Some.ensures
    ∙ m.ensures.read (down 9 (Chained s)) h
    ∙ ap (λ v. run m.rest.now (HasPrimary v (down 9 (Chained s)))) (sym made)
    ∙ r.ensures.read (down 9 (Chained s)) h)
    (c.chain_item.ensures.read s h)

pub chains::arguments-returns-in_default-next_is-clause-pointers :
    goal.chains::arguments-returns-in_default-next_is-clause-pointers
chains::arguments-returns-in_default-next_is-clause-pointers t c =
    omega (
      arith,
      c.in_ok-next.ensures.pointers,
      items_push _ _ _ c.in_ok-push.ensures.items,
      c.loop-items.invariant.2,
    )

pub chains::arguments-loop-items-preserved : goal.chains::arguments-loop-items-preserved
chains::arguments-loop-items-preserved t c =
    let l = c.loop-items in
    let w = c.args.word.now in
    let is = map item_seen l.items.items in
    let i = item_seen c.in_ok-next.next in
    let new = map item_seen c.push.new.self.items in (
      λ n h. l.invariant.0 n h
          ∙ c.in_ok-next.ensures.read (InCall w is n) h
          ∙ more_arguments c.in_ok-next.more.now c.in-Some-next_is.after.now w is new i n
          c.in-Some-next_is.ensures (pushed_seen _ _ _ c.in_ok-push.ensures.items),
      omega (
        arith,
        ap length c.in-Some-next_is.ensures.1,
        c.in_ok-next.ensures.shorter,
        l.invariant.1,
      ),
      omega (
        arith,
        c.in_ok-next.ensures.pointers,
        items_push _ _ _ c.in_ok-push.ensures.items,
        l.invariant.2,
      ),
    )

pub items::block_items-returns-in_default-next_is-clause-pointers :
    goal.items::block_items-returns-in_default-next_is-clause-pointers
items::block_items-returns-in_default-next_is-clause-pointers t c =
    omega (
      arith,
      c.in_ok-next.ensures.pointers,
      items_push _ _ _ c.in_ok-push.ensures.items,
      c.loop-after.invariant.2,
    )

pub items::item-returns-then-is_plain : goal.items::item-returns-then-is_plain
items::item-returns-then-is_plain t c =
    let first = c.in-Some.first.now in
    let ts = c.args.tokens.now in
    let other : NotQuoted (sort first) = (
      λ k. c.in_default-sort.not-OpenBrace (c.sort.ensures ∙ k),
      λ k. c.in_default-sort.not-If
          (c.sort.ensures ∙ k),
      λ k. c.in_default-sort.not-While (c.sort.ensures ∙ k),
      λ k.
          c.in_default-sort.not-For (c.sort.ensures ∙ k),
      λ k. c.in_default-sort.not-Foreach
          (c.sort.ensures ∙ k),
    ) in
    let e : is_plain (sort first) ≡ true = search rules in
    record {
      read = λ s h. goes_along c.word_item.result _ _ _
          (word_turns ts first c.in-Some.rest.now s c.in-Some.ensures other e
          (below (holders s) c.args.depth h c.requires c.if-depth-eq-MAX_NESTING.false))
          (c.word_item.ensures.read s (one_more (holders s) c.args.depth h));
      shorter = search rules;
      pointers = search rules;
    }
