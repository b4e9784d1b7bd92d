use Rattle.std.proofs.Common.{◌∙◌, ◌≡◌, map, arith, sym, ap}
use Rattle.pan_ast.proofs.Pointers.{statements_push}
use Rattle.pan_ast.specs.TemplatesSeen.{statement_seen}
use Rattle.pan_grammar.specs.Machine.{run}
use Rattle.pan_grammar.specs.States.{Statements}
use Rattle.pan_parser.proofs.Pushes.{statements_seen_push}
use Rattle.pan_parser.proofs.statements.statements.Goals as goal

pub loop-after-preserved : goal.loop-after-preserved
loop-after-preserved c = (
  λ h. c.loop-after.invariant.0 h
      ∙ c.in_ok-next.ensures.read h (map statement_seen c.loop-after.statements.items)
      ∙ ap (λ ss. run c.in_ok-next.more.now (Statements h ss))
      (sym (statements_seen_push _ _ _ c.in_ok-push.ensures.items)),
  omega (arith, c.in_ok-next.ensures.shorter, c.loop-after.invariant.1),
  omega (
    arith,
    c.in_ok-next.ensures.pointers,
    statements_push _ _ _ c.in_ok-push.ensures.items,
    c.loop-after.invariant.2,
  ),
)
