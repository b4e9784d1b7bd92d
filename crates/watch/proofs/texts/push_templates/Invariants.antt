use Rattle.std.proofs.Common.{◌≡◌, ◌++◌, take, codes}
use Rattle.session.specs.Texts.{name_lines}
use Rattle.watch.proofs.texts.push_templates.Given as goal

abbrev pub invariant-loop-file : goal.invariant-loop-file
invariant-loop-file l = l.text.items ≡ l.fn.text.items ++ name_lines (codes "unused ") (take
    l.file-index l.files)
