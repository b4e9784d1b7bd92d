use Rattle.std.proofs.Common.{lit<}
use Rattle.regex.specs.Strings.{regex_names}
use Rattle.regex.specs.Templates.{written_after}
use Rattle.builtins_patterns.proofs.Templating.{one_more, the_rest}
use Rattle.builtins_patterns.proofs.template.parts.Goals as goal

pub loop-before-preserved : goal.loop-before-preserved
loop-before-preserved c = (
  c.reference.ensures.utf8,
  λ groups.
      one_more (regex_names c.args.pattern.now) groups c.loop-before.parts.items
      c.push.new.self.items c.push-in-Some.new.self.items c.in-Some.before c.reference.result.0
      c.loop-before.rest.now c.in-Some.after.now c.reference.result.1.now
      (written_after (regex_names c.args.pattern.now) groups c.args.template.now 0)
      c.in_ok-push.ensures.items c.in_ok-push-2.ensures.items
      (c.in-Some.ensures.byte (lit< tt) (λ w o h. h)) (c.reference.ensures.value groups)
      (c.loop-before.invariant.1 groups),
)

pub returns : goal.returns
returns c = λ groups.
    the_rest (regex_names c.args.pattern.now) groups c.loop-before.parts.items
    c.push-2.new.self.items c.loop-before.rest (written_after (regex_names c.args.pattern.now)
    groups c.args.template.now 0) c.in_ok-push-3.ensures.items
    (c.in_default.ensures.byte (lit< tt) (λ w o h. h)) (c.loop-before.invariant.1 groups)
