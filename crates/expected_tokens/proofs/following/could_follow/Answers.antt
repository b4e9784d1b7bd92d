use Rattle.std.proofs.Common.{◌≡◌, [], ◌∷◌, ◌++◌, Err, sym, ap, subst, ◌∙◌, rules}
use Rattle.pan_ast.specs.Detail.{fault_at}
use Rattle.pan_ast.specs.declared.fault.Code.TheVariants.{BadSyntax}
use Rattle.pan_grammar.specs.Parsed.{parsed}
use Rattle.expected_tokens.proofs.Could.{could, could_not, tried}
use Rattle.expected_tokens.proofs.following.could_follow.Goals as goal

pub returns-clause-could : goal.returns-clause-could
returns-clause-could c = λ goes.
    let front = c.args.tokens.now.items in
    let p = c.args.place.now in
    let far = c.in_ok-nowhere.field-0 in
    let read : c.deref.result.now ≡ tried front p far c.args.candidate = search rules in
    could front p far c.args.candidate c.requires (λ stops. c.in_ok-could.ensures.stays goes
    (ap parsed read ∙ stops))

pub returns-clause-could_not : goal.returns-clause-could_not
returns-clause-could_not c = λ stays.
    let front = c.args.tokens.now.items in
    let p = c.args.place.now in
    let far = c.in_ok-nowhere.field-0 in
    let read : c.deref.result.now ≡ tried front p far c.args.candidate = search rules in
    could_not front p far c.args.candidate c.in_ok-nowhere.ensures c.requires
    (sym (ap parsed read) ∙ c.in_ok-could.ensures.stops stays)
