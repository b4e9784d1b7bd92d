use Rattle.std.proofs.Common.{◌++◌, ap, ◌∙◌, lit<}
use Rattle.regex.specs.Strings.{regex_names}
use Rattle.regex.specs.Templates.{written_after}
use Rattle.builtins_patterns.proofs.Templating.{behind_utf8, lone_sign, named_group, two_signs}
use Rattle.builtins_patterns.proofs.template.reference.Goals as goal

pub returns-in-Some-clause-value : goal.returns-in-Some-clause-value
returns-in-Some-clause-value c =
    λ groups. two_signs (regex_names c.args.pattern.now) groups c.args.after.now c.in-Some.left.now
    c.in-Some.ensures.0 c.in-Some.ensures.1

pub returns-in-Some-clause-utf8 : goal.returns-in-Some-clause-utf8
returns-in-Some-clause-utf8 c =
    behind_utf8 c.args.after.now c.in-Some.left.now 36 c.utf8.after c.in-Some.ensures.0 (lit< tt)
    (lit< tt) c.in-Some.ensures.1

pub returns-in-Some-name_at-clause-value : goal.returns-in-Some-name_at-clause-value
returns-in-Some-name_at-clause-value c =
    λ groups.
    let names = regex_names c.args.pattern.now in
    let found = c.in-Some-name_at.ensures in
    ap (λ x. x ++ written_after names groups c.in-Some-name_at.left.now 0)
    (c.group_part.ensures groups)
    ∙ named_group names groups c.args.after.now c.in-Some-name_at.name.now
    c.in-Some-name_at.left.now found.0 c.in_default.ensures found.1 found.2

pub returns-in-None-clause-value : goal.returns-in-None-clause-value
returns-in-None-clause-value c =
    λ groups. lone_sign (regex_names c.args.pattern.now) groups c.args.after.now
    c.in_default.ensures c.in-None.ensures
