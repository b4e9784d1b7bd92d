use Rattle.std.proofs.Common.{◌<◌, List, ℕ, ◌++◌, Some, None, subst, sym, ◌∙◌, arith}
use Rattle.std.proofs.lemmas.Str.Pattern.{split_parts}
use Rattle.base.specs.Answers.{Gives}
use Rattle.path_tree.specs.Refusals.{refusal}
use Rattle.builtins_text.proofs.Joined.{finished_is}
use Rattle.builtins_text.proofs.Walks.{end_done, end_refused, none_left, refused_alike, some_left, step_done, step_refused}
use Rattle.builtins_text.proofs.formatting.format_text.Goals as goal

ascii : 37 < 128
ascii = omega arith

pub returns-in-Err : goal.returns-in-Err
returns-in-Err c =
    let parts = split_parts 37 c.loop-plain.rest.now (Some (c.in-Some.plain, c.in-Some.behind))
    c.in-Some.ensures.cases ascii in
    refused_alike c.in-Err.error _ (λ other.
    let bad = c.in-Err.ensures.err other in (
      bad.0,
      step_refused c.args.text.now c.loop-plain.rest.now c.args.values.now
          c.loop-plain.invariant.1.0 c.in-Some.plain.now c.in-Some.behind.now c.loop-plain.left.now
          c.loop-plain.invariant.1.2 parts.0 parts.1 bad.1,
    ))

pub loop-plain-preserved : goal.loop-plain-preserved
loop-plain-preserved c =
    let parts = split_parts 37 c.loop-plain.rest.now (Some (c.in-Some.plain, c.in-Some.behind))
    c.in-Some.ensures.cases ascii in
    let made : List ℕ = c.loop-plain.invariant.1.0 in
    let both : List ℕ = made ++ c.in-Some.plain.now in
    let next = c.in-Ok.ensures.ok in (
      c.in-Ok.ensures.utf8,
      (
        both ++ next.0,
        next.1 both (c.in_ok-push.ensures made c.loop-plain.invariant.1.1),
        step_done c.args.text.now c.loop-plain.rest.now c.args.values.now made c.in-Some.plain.now
            c.in-Some.behind.now c.in-Ok.next.text.now next.0 c.loop-plain.left.now
            c.in-Ok.next.values.now c.loop-plain.invariant.1.2 parts.0 parts.1 next.2,
      ),
    )

pub returns-then-not-is_empty : goal.returns-then-not-is_empty
returns-then-not-is_empty c =
    end_refused c.args.text.now c.loop-plain.rest.now c.args.values.now c.loop-plain.invariant.1.0
    c.loop-plain.left.now c.loop-plain.invariant.1.2
    (split_parts 37 c.loop-plain.rest.now None c.in_default.ensures.cases ascii)
    (some_left c.loop-plain.left.now c.is_empty.result c.is_empty.ensures
    c.if-not-is_empty.true)

pub returns : goal.returns
returns c =
    let made : List ℕ = c.loop-plain.invariant.1.0 in
    let done = end_done c.args.text.now c.loop-plain.rest.now c.args.values.now made
    c.loop-plain.left.now c.loop-plain.invariant.1.2
    (split_parts 37 c.loop-plain.rest.now None c.in_default.ensures.cases ascii)
    (none_left c.loop-plain.left.now c.is_empty.result c.is_empty.ensures
    c.if-not-is_empty.false) in
    subst (Gives (λ t. t) refusal c.finish.result)
    (finished_is _ (made ++ c.loop-plain.rest.now)
    (c.in_ok-push-2.ensures made c.loop-plain.invariant.1.1) ∙ sym done) c.finish.ensures
