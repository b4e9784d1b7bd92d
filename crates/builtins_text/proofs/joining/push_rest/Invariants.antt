use Rattle.std.proofs.Common.{◌≡◌, ℕ, List, ◌++◌, take}
use Rattle.std.specs.List.{flat_map}
use Rattle.call_values.specs.Drafts.{drafted}
use Rattle.builtins_text.specs.Joins.{text_or_nothing}
use Rattle.builtins_text.proofs.joining.push_rest.Given as goal

abbrev pub invariant-loop-value : goal.invariant-loop-value
invariant-loop-value l = (w : List ℕ) → l.fn.draft ≡ drafted w →
    l.draft ≡ drafted (w ++ flat_map (λ v. l.separator ++ text_or_nothing v)
    (take l.value-index l.values))
