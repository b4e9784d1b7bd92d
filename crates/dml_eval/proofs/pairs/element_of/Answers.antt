use Rattle.std.proofs.Common.{◌≡◌, length, arith}
use Rattle.std.proofs.lemmas.Bool.Decides.{nat_tests}
use Rattle.dml_eval.proofs.Waits.{element_is}
use Rattle.dml_eval.proofs.pairs.element_of.Goals as goal

pub returns : goal.returns
returns c =
    let none : length c.args.chain.now.rest.now ≡ 0 =
    grind (arith, nat_tests, c.is_empty.ensures, c.if-not-is_empty.false) in (
      element_is c.args.chain.now c.in-Index.index c.in-Index.is none,
      c.is_operand.ensures c.if-not-is_operand.false,
    )
