use Rattle.std.proofs.Common.{◌≡◌, ◌+◌, ◌≤◌, IfSome, option_copied}
use Rattle.base.specs.declared.limits.TheConstants.{MAX_PATH_BYTES}
use Rattle.path_tree.specs.Paths.{terms_at, pieces}
use Rattle.path_tree.specs.Reading.{StandsAt, optional_pieces}
use Rattle.path_tree.proofs.Pieces.{behind, text_length}
use Rattle.path_tree.proofs.path.terms.Given as goal

abbrev pub invariant-loop-rest : goal.invariant-loop-rest
invariant-loop-rest l = record {
  read : behind l.terms.items (terms_at l.position (optional_pieces (option_copied l.rest)))
      ≡ terms_at l.fn.position (pieces l.fn.text);
  part : IfSome (option_copied l.rest) (λ text. StandsAt l.position text l.whole);
  short : l.position + text_length (option_copied l.rest) ≤ MAX_PATH_BYTES + 1;
}

abbrev pub decreases-loop-rest : goal.decreases-loop-rest
decreases-loop-rest l = text_length (option_copied l.rest)
