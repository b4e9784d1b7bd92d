use Rattle.std.proofs.Common.{◌∙◌, ◌≡◌, sym}
use Rattle.pan_ast.specs.declared.sort.Sort.TheVariants as sorts
use Rattle.pan_ast.specs.Sorts.{sort}
use Rattle.pan_parser.proofs.Turns.{goes_along}
use Rattle.pan_parser.proofs.StatementTurns.{final_turns, setting_turns}
use Rattle.pan_parser.proofs.statements.form.Goals as goal

pub returns-in-Final-clause-read : goal.returns-in-Final-clause-read
returns-in-Final-clause-read c = λ h ss.
    let first = c.args.first.now in
    let x : sort first ≡ sorts.Final = sym c.sort.ensures ∙ c.in-Final.is in
    goes_along c.setting_form.result _ _ _ (final_turns c.args.tokens.now c.args.rest.now first h ss
    c.requires.parts x) (c.setting_form.ensures.read first.place h ss)

pub returns-in_default : goal.returns-in_default
returns-in_default c =
    let first = c.args.first.now in
    record {
      read = λ h ss. goes_along c.setting_form-in_default.result _ _ _
          (setting_turns c.args.tokens.now c.args.rest.now first h ss c.requires.parts
          c.requires.open (λ k. c.in_default.not-Final (c.sort.ensures ∙ k))
          (λ k. c.in_default.not-Function (c.sort.ensures ∙ k))
          (λ k. c.in_default.not-Type (c.sort.ensures ∙ k))
          (λ k. c.in_default.not-Bind (c.sort.ensures ∙ k))
          (λ k. c.in_default.not-Valid (c.sort.ensures ∙ k))
          (λ k. c.in_default.not-Include (c.sort.ensures ∙ k))
          (λ k. c.in_default.not-Prefix (c.sort.ensures ∙ k)))
          (c.setting_form-in_default.ensures.read first.place h ss);
      shorter = c.setting_form-in_default.ensures.shorter;
      pointers = c.setting_form-in_default.ensures.pointers;
    }
