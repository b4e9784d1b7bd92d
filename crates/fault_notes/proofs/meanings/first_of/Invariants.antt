use Rattle.std.proofs.Common.{◌≡◌, drop}
use Rattle.std.specs.Prelude.{bytes_eq}
use Rattle.std.specs.List.{find}
use Rattle.pan_ast.specs.Codes.{code_text}
use Rattle.fault_notes.proofs.meanings.first_of.Given as goal

abbrev pub invariant-loop-code : goal.invariant-loop-code
invariant-loop-code l = find (λ code. bytes_eq (code_text code) l.text) (drop l.code-index l.among)
    ≡ find (λ code. bytes_eq (code_text code) l.text) l.among
