use Rattle.std.proofs.Common.{refl}
use Rattle.builtins_patterns.proofs.Compiled.{compiled_is, refused_is}
use Rattle.builtins_patterns.proofs.pattern.compiled.Goals as goal

pub returns-in-Ok-clause-ok : goal.returns-in-Ok-clause-ok
returns-in-Ok-clause-ok c =
    compiled_is c.args.source.now c.in-Ok.pattern c.if-source-gt-MAX_PATTERN_BYTES.false
    c.in-Ok.ensures.source c.in-Ok.ensures.config c.in-Ok.ensures.read

pub returns-in-Err-Syntax-clause-err : goal.returns-in-Err-Syntax-clause-err
returns-in-Err-Syntax-clause-err c =
    let given = c.in-Err-Syntax.ensures in
    λ h. (
      refl,
      refused_is c.args.source.now c.in-Err-Syntax.field-0 c.in-Err-Syntax.field-0-0
          c.in-Err-Syntax.field-0-is given.by_grammar given.kind,
    )
