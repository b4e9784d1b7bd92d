use Rattle.std.proofs.Common.{ap, sym, ◌∙◌}
use Rattle.std.proofs.lemmas.Result.{IfOk-weaker}
use Rattle.path_tree.specs.Paths.{path_of}
use Rattle.session.specs.Orders.{with_path}
use Rattle.watch.proofs.Orders.{text_path}
use Rattle.watch.proofs.reading.blame_text.Goals as goal

pub returns : goal.returns
returns c = IfOk-weaker c.blame_shared.result _ _ (λ order told. told ∙ ap (λ t. with_path
    c.args.name.now (path_of t)) c.in_ok-text.ensures ∙ sym (text_path c.args.name.now
    c.args.text.now c.utf8.text)) c.blame_shared.ensures
