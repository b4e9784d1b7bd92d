use Rattle.std.proofs.Common.{◌≡◌, ◌++◌, drop, string_bytes}
use Rattle.std.specs.List.{flat_map}
use Rattle.path_tree.specs.Paths.{terms_text}
use Rattle.path_tree.proofs.TermTexts.{slashed}
use Rattle.path_tree.proofs.path.push_terms.Given as goal

abbrev pub invariant-loop-term : goal.invariant-loop-term
invariant-loop-term l = string_bytes l.text ++ flat_map slashed (drop l.term-index l.rest)
    ≡ string_bytes l.fn.text ++ terms_text l.terms
