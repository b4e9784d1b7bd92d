use Rattle.std.proofs.Common.{◌≡◌, ◌++◌, take}
use Rattle.std.specs.Prelude.{flat_map}
use Rattle.json.specs.Tree.{json_tokens}
use Rattle.fault_notes.specs.Printed.{text_json}
use Rattle.fault_notes.proofs.printed.write_strings.Given as goal

abbrev pub invariant-loop-text : goal.invariant-loop-text
invariant-loop-text l =
    (l.out.tokens ≡ l.fn.out.tokens
    ++ flat_map (λ text. json_tokens (text_json text)) (take l.text-index l.texts))
    × (l.out.before ≡ l.fn.out.before)
