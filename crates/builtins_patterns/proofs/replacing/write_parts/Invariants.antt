use Rattle.std.proofs.Common.{◌≡◌, ℕ, ◌++◌, List, take}
use Rattle.call_values.specs.Drafts.{drafted}
use Rattle.builtins_patterns.specs.Parts.{captured_text, written}
use Rattle.builtins_patterns.proofs.replacing.write_parts.Given as goal

abbrev pub invariant-loop-part : goal.invariant-loop-part
invariant-loop-part l =
    (w : List ℕ) → l.fn.draft ≡ drafted w → l.draft
    ≡ drafted (w ++ written (captured_text l.captures) (take l.part-index l.parts))
