use Rattle.std.proofs.Common.{◌≡◌, map, take}
use Rattle.std.specs.List.{filter}
use Rattle.expected_tokens.specs.Candidates.{words}
use Rattle.expected_tokens.specs.Texts.{is_told}
use Rattle.expected_tokens.proofs.texts.told.Given as goal

abbrev pub invariant-loop-candidate : goal.invariant-loop-candidate
invariant-loop-candidate l = map (λ w. w.now) l.told.items
    ≡ map words (filter (is_told l.all) (take l.candidate-index l.all))
