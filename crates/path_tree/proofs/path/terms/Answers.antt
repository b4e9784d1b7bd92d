use Rattle.std.proofs.Common.{◌≡◌, ◌∙◌, Some, sym, option_copied, rules, arith}
use Rattle.std.proofs.lemmas.Grind.{common_steps}
use Rattle.path_tree.specs.Paths.{pieces, term_of, terms_at}
use Rattle.path_tree.specs.Reading.{StandsAt}
use Rattle.path_tree.proofs.Pieces.{behind, behind_one}
use Rattle.path_tree.proofs.Standing.{more_stands}
use Rattle.path_tree.proofs.path.terms.Goals as goal

pub loop-rest-preserved : goal.loop-rest-preserved
loop-rest-preserved c =
    let here : StandsAt c.loop-rest.position c.in-Some.text.now c.args.whole.now = search rules in
    let read : behind c.loop-rest.terms.items (terms_at c.loop-rest.position
    (pieces c.in-Some.text.now)) ≡ terms_at c.args.position (pieces c.args.text.now) =
    search rules in
    let term : term_of c.first_piece.result.0.now ≡ Some c.in-Some-2.term =
    sym c.in_ok-term.ensures ∙ c.in-Some-2.is in
    record {
      read = behind_one _ _ c.in-Some-2.term c.loop-rest.position c.first_piece.result.0.now
          c.in-Some.text.now (option_copied c.first_piece.result.1) c.in_ok-push.ensures.items
          c.first_piece.ensures.pieces term ∙ read;
      part = more_stands _ _ _ _ _ here c.first_piece.ensures.more;
      short = grind (arith, common_steps);
    }
