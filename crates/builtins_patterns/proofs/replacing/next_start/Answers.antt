use Rattle.std.proofs.Common.{◌<◌, ◌≤◌, ◌-◌, arith, refl}
use Rattle.regex.specs.Patterns.{find_str}
use Rattle.regex.specs.Strings.{match_span, matcher_pattern}
use Rattle.builtins_patterns.proofs.Rewriting.{starts_first, starts_later, starts_nowhere, starts_there}
use Rattle.builtins_patterns.proofs.replacing.next_start.Goals as goal

pub returns-then-after-eq0-clause-value : goal.returns-then-after-eq0-clause-value
returns-then-after-eq0-clause-value c =
    starts_first (matcher_pattern c.args.matcher.now) c.args.text.now c.args.after
    c.if-after-eq0.true

pub returns-then-end-after-clause-value : goal.returns-then-end-after-clause-value
returns-then-end-after-clause-value c =
    let re = matcher_pattern c.args.matcher.now in
    let past : (match_span c.in-Some.found).1 < c.args.after =
    omega (arith, c.if-end-after.true, c.end.ensures) in
    starts_later re c.args.text.now c.args.after (find_str re c.args.text.now (c.args.after - 1))
    (match_span c.in-Some.found) refl c.in-Some.ensures.found past

pub returns-else-end-after-clause-value : goal.returns-else-end-after-clause-value
returns-else-end-after-clause-value c =
    let re = matcher_pattern c.args.matcher.now in
    let behind : c.args.after ≤ (match_span c.in-Some.found).1 =
    omega (arith, c.if-end-after.false, c.end.ensures) in
    starts_there re c.args.text.now c.args.after (find_str re c.args.text.now (c.args.after - 1))
    (match_span c.in-Some.found) refl c.in-Some.ensures.found behind

pub returns-in-None-clause-value : goal.returns-in-None-clause-value
returns-in-None-clause-value c =
    let re = matcher_pattern c.args.matcher.now in
    starts_nowhere re c.args.text.now c.args.after (find_str re c.args.text.now (c.args.after - 1))
    refl c.in-None.ensures.found
