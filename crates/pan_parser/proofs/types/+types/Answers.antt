use Rattle.std.proofs.Common.{◌∙◌, ◌++◌, [], ◌∷◌, ◌≡◌, map, arith, rules, sym, refl, ap, true}
use Rattle.pan_ast.proofs.Pointers.{fields_push}
use Rattle.pan_parser.proofs.Pushes.{fields_seen_push}
use Rattle.std.proofs.lemmas.Result.{err_from_is_err_and}
use Rattle.pan_ast.specs.declared.sort.Sort.TheVariants as sorts
use Rattle.pan_ast.specs.Sorts.{at, sort}
use Rattle.pan_ast.specs.TypesSeen.{field_seen, full_seen, head_seen}
use Rattle.pan_grammar.specs.Depths.{full_holders}
use Rattle.pan_grammar.specs.Machine.{extensible_read, has_form, include_read, is_key_text, key_read, run}
use Rattle.pan_grammar.specs.States.{FieldsOpen, HasHead, InField, NeedFull}
use Rattle.pan_grammar.specs.Types.{included, own}
use Rattle.pan_parser.specs.Answers.{on_front}
use Rattle.pan_parser.proofs.Turns.{fails_along, goes_along}
use Rattle.pan_parser.proofs.TypeTurns.{below_twice, extensible_turns, field_done, include_turns, key_turns, no_suffix, two_more}
use Rattle.pan_parser.proofs.types.+types.Goals as goal

pub field-returns-in_err-name-clause-read : goal.field-returns-in_err-name-clause-read
field-returns-in_err-name-clause-read t c = λ e fs s h.
    let p = err_from_is_err_and c.from_residual.result c.from_residual.ensures.1 in
    let first = c.in-Some.first.now in
    let i : at sorts.Include (sort first) ≡ true = search rules in
    rw (p.1, p.2) (fails_along c.in_err-name.field-0.0 _ _
    (include_turns c.args.tokens.now c.in-Some.rest.now first e fs s c.in-Some.ensures i)
    (c.in_err-name.ensures.read (include_read first e fs s)
    (λ n. FieldsOpen e (fs ++ included first n ∷ []) s) (refl, λ t. refl, λ t. refl)))

pub field-returns-then-is-clause-read : goal.field-returns-then-is-clause-read
field-returns-then-is-clause-read t c = λ e fs s h.
    let first = c.in-Some.first.now in
    let i : at sorts.Include (sort first) ≡ true = search rules in
    let r = c.in_ok-name in
    let made : field_seen c.in_ok-make_include.field-0 ≡ included first r.name.now = search rules in
    include_turns c.args.tokens.now c.in-Some.rest.now first e fs s c.in-Some.ensures i
    ∙ r.ensures.read (include_read first e fs s) (λ n. FieldsOpen e
    (fs ++ included first n ∷ []) s) (refl, λ t. refl, λ t. refl)
    ∙ ap (λ v. run r.rest.now (FieldsOpen e (fs ++ v ∷ []) s)) (sym made)

pub field-returns-in_err-mark-clause-read : goal.field-returns-in_err-mark-clause-read
field-returns-in_err-mark-clause-read t c = λ e fs s h.
    let p = err_from_is_err_and c.from_residual-in_err-mark.result
    c.from_residual-in_err-mark.ensures.1 in
    let first = c.in-Some.first.now in
    let k : is_key_text first ≡ true = search rules in
    rw (p.1, p.2) (fails_along c.in_err-mark.field-0.0 _ _
    (key_turns c.args.tokens.now c.in-Some.rest.now first e fs s c.in-Some.ensures k)
    (c.in_err-mark.ensures.read (key_read first e fs s) (λ m. NeedFull (InField first m e fs s))
    (refl, λ t. refl, λ t. refl)))

pub field-returns-in_err-full-clause-read : goal.field-returns-in_err-full-clause-read
field-returns-in_err-full-clause-read t c = λ e fs s h.
    let p = err_from_is_err_and c.from_residual-in_err-full.result
    c.from_residual-in_err-full.ensures.1 in
    let first = c.in-Some.first.now in
    let k : is_key_text first ≡ true = search rules in
    let m = c.in_ok-mark.mark.now in
    rw (p.1, p.2) (fails_along c.in_err-full.field-0.0 _ _
    (key_turns c.args.tokens.now c.in-Some.rest.now first e fs s c.in-Some.ensures k
    ∙ c.in_ok-mark.ensures.read (key_read first e fs s) (λ m. NeedFull (InField first m e fs s))
    (refl, λ t. refl, λ t. refl)) (c.in_err-full.ensures.read (InField first m e fs s) h))

pub field-returns-clause-read : goal.field-returns-clause-read
field-returns-clause-read t c = λ e fs s h.
    let first = c.in-Some.first.now in
    let k : is_key_text first ≡ true = search rules in
    let m = c.in_ok-mark.mark.now in
    let r = c.in_ok-full in
    let made : field_seen c.in_ok-make_field.field-0 ≡ own first m (full_seen r.full) =
    search rules in
    key_turns c.args.tokens.now c.in-Some.rest.now first e fs s c.in-Some.ensures k
    ∙ c.in_ok-mark.ensures.read (key_read first e fs s) (λ m. NeedFull (InField first m e fs s))
    (refl, λ t. refl, λ t. refl) ∙ r.ensures.read (InField first m e fs s) h
    ∙ field_done r.rest.now first m e fs (full_seen r.full) s
    ∙ ap (λ v. run r.rest.now (FieldsOpen e (fs ++ v ∷ []) s)) (sym made)

pub full_type-returns-clause-read : goal.full_type-returns-clause-read
full_type-returns-clause-read t c = λ s h.
    let a = c.in_ok-head in
    let b = c.in_ok-suffixes in
    goes_along c.whole_type.result _ _ _ (a.ensures.read s h ∙ b.ensures.read (head_seen a.head) s
    ∙ no_suffix b.rest.now (head_seen a.head) b.suffixes.items s b.ensures.ended
    ∙ ap (λ v. on_front (has_form v s) b.rest.now) (sym c.make_type.ensures.seen))
    (c.whole_type.ensures.read s h)

pub head-returns-in_err-rest-in-Extensible-clause-read :
    goal.head-returns-in_err-rest-in-Extensible-clause-read
head-returns-in_err-rest-in-Extensible-clause-read t c = λ s h.
    let p = err_from_is_err_and c.from_residual-in_err-rest-in-Extensible.result
    c.from_residual-in_err-rest-in-Extensible.ensures.1 in
    let first = c.in-Some.first.now in
    let x : sort first ≡ sorts.Extensible = sym c.sort.ensures ∙ c.in-Extensible.is in
    rw (p.1, p.2) (fails_along c.in_err-rest-in-Extensible.field-0.0 _ _
    (extensible_turns c.args.tokens.now c.in-Some.rest.now first s c.in-Some.ensures x
    (below_twice (full_holders s) c.args.depth h c.requires c.if-depth-eq-MAX_NESTING-2.false))
    (c.in_err-rest-in-Extensible.ensures.read (extensible_read s) (λ o. FieldsOpen true [] s)
    (refl, λ t. refl, λ t. refl)))

pub head-returns-in_err-fields-in-Extensible-clause-read :
    goal.head-returns-in_err-fields-in-Extensible-clause-read
head-returns-in_err-fields-in-Extensible-clause-read t c = λ s h.
    let p = err_from_is_err_and c.from_residual-in_err-fields-in-Extensible.result
    c.from_residual-in_err-fields-in-Extensible.ensures.1 in
    let first = c.in-Some.first.now in
    let x : sort first ≡ sorts.Extensible = sym c.sort.ensures ∙ c.in-Extensible.is in
    rw (p.1, p.2) (fails_along c.in_err-fields-in-Extensible.field-0.0 _ _
    (extensible_turns c.args.tokens.now c.in-Some.rest.now first s c.in-Some.ensures x
    (below_twice (full_holders s) c.args.depth h c.requires c.if-depth-eq-MAX_NESTING-2.false)
    ∙ c.in_ok-rest-in-Extensible.ensures.read (extensible_read s) (λ o. FieldsOpen true [] s)
    (refl, λ t. refl, λ t. refl)) (c.in_err-fields-in-Extensible.ensures.read true s
    (two_more (full_holders s) c.args.depth h)))

pub head-returns-in_ok-fields-in-Extensible-clause-read :
    goal.head-returns-in_ok-fields-in-Extensible-clause-read
head-returns-in_ok-fields-in-Extensible-clause-read t c = λ s h.
    let first = c.in-Some.first.now in
    let x : sort first ≡ sorts.Extensible = sym c.sort.ensures ∙ c.in-Extensible.is in
    let r = c.in_ok-fields-in-Extensible in
    extensible_turns c.args.tokens.now c.in-Some.rest.now first s c.in-Some.ensures x
    (below_twice (full_holders s) c.args.depth h c.requires c.if-depth-eq-MAX_NESTING-2.false)
    ∙ c.in_ok-rest-in-Extensible.ensures.read (extensible_read s) (λ o. FieldsOpen true [] s)
    (refl, λ t. refl, λ t. refl) ∙ r.ensures.read true s
    (two_more (full_holders s) c.args.depth h) ∙ ap (λ v. run r.rest.now (HasHead v [] s))
    (sym c.make_record-in-Extensible.ensures.seen)

pub fields-loop-after-preserved : goal.fields-loop-after-preserved
fields-loop-after-preserved t c = (
  λ e s h. c.loop-after.invariant.0 e s h
      ∙ c.in_ok-next.ensures.read e (map field_seen c.loop-after.fields.items) s h
      ∙ ap (λ fs. run c.in_ok-next.more.now (FieldsOpen e fs s))
      (sym (fields_seen_push _ _ _ c.in_ok-push.ensures.items)),
  omega (arith, c.in_ok-next.ensures.shorter, c.loop-after.invariant.1),
  omega (
    arith,
    c.in_ok-next.ensures.pointers,
    fields_push _ _ _ c.in_ok-push.ensures.items,
    c.loop-after.invariant.2,
  ),
)
