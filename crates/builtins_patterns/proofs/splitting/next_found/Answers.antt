use Rattle.std.proofs.Common.{◌≡◌, ◌≤◌, ◌<◌, ◌-◌, ◌∙◌, None, Some, ap, arith, refl}
use Rattle.std.specs.Prelude.{option_map}
use Rattle.regex.specs.Patterns.{find_str, span}
use Rattle.regex.specs.Strings.{match_span, matcher_pattern}
use Rattle.builtins_patterns.proofs.Rewriting.{starts_later, starts_nowhere, starts_there}
use Rattle.builtins_patterns.proofs.splitting.next_found.Goals as goal

pub returns-in_default-clause-found : goal.returns-in_default-clause-found
returns-in_default-clause-found c =
    let re = matcher_pattern c.args.matcher.now in
    let text = c.args.text.now in
    let after = c.args.after in
    let none : None ≡ option_map span (find_str re text (after - 1)) =
    c.in_default.ensures.found ∙ ap (λ n. option_map span (find_str re text n))
    c.saturating_sub.ensures in
    none ∙ ap (option_map span) (starts_nowhere re text after (find_str re text (after - 1)) refl
    none)

pub returns-then-after-end-clause-found : goal.returns-then-after-end-clause-found
returns-then-after-end-clause-found c =
    let re = matcher_pattern c.args.matcher.now in
    let text = c.args.text.now in
    let after = c.args.after in
    let found = match_span c.in-Some.found in
    let some : Some found ≡ option_map span (find_str re text (after - 1)) =
    c.in-Some.ensures.found ∙ ap (λ n. option_map span (find_str re text n))
    c.saturating_sub.ensures in
    let behind : after ≤ found.1 = omega (arith, c.if-after-end.true, c.end.ensures) in
    some ∙ ap (option_map span) (starts_there re text after (find_str re text (after - 1)) found
    refl some behind)

pub returns-clause-found : goal.returns-clause-found
returns-clause-found c =
    let re = matcher_pattern c.args.matcher.now in
    let text = c.args.text.now in
    let after = c.args.after in
    let found = match_span c.in-Some.found in
    let some : Some found ≡ option_map span (find_str re text (after - 1)) =
    c.in-Some.ensures.found ∙ ap (λ n. option_map span (find_str re text n))
    c.saturating_sub.ensures in
    let past : found.1 < after = omega (arith, c.if-after-end.false, c.end.ensures) in
    c.find_at-2.ensures.found
    ∙ ap (λ r. option_map span (find_str r text after)) c.in-Some.ensures.same
    ∙ ap (option_map span) (starts_later re text after (find_str re text (after - 1)) found refl
    some past)
