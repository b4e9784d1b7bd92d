use Rattle.std.proofs.Common.{◌≡◌, ◌++◌, take, codes}
use Rattle.session.specs.Texts.{name_lines}
use Rattle.watch.proofs.texts.push_objects.Given as goal

abbrev pub invariant-loop-object : goal.invariant-loop-object
invariant-loop-object l = l.text.items ≡ l.fn.text.items ++ name_lines (codes "touches ") (take
    l.object-index l.objects)
