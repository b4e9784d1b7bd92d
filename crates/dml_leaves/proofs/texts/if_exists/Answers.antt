use Rattle.std.proofs.Common.{arith}
use Rattle.dml_meaning.specs.BuiltIns.{text_run}
use Rattle.dml_world.proofs.Ends.{stops}
use Rattle.dml_leaves.proofs.texts.if_exists.Goals as goal

pub returns-in_err-find_template_file-clause-gives : goal.returns-in_err-find_template_file-clause-gives
unfolding text_run
returns-in_err-find_template_file-clause-gives g c = λ keys. let found =
    c.find_template_file.ensures.gives keys in grind (arith, stops, found)

pub returns-clause-gives : goal.returns-clause-gives
unfolding text_run
returns-clause-gives g c = λ keys. let found = c.find_template_file.ensures.gives keys in
    grind (arith, found)
