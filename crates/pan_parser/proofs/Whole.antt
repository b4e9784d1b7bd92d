-- From a whole reading to the grammar's words.
use Rattle.base.specs.Answers.{Gives}
use Rattle.std.proofs.Common.{◌≡◌, ◌≢◌, ◌↔◌, ◌++◌, [], ◌∷◌, Ok, Err, inl, inr, refl, subst, sym, ap, ◌∙◌}
use Rattle.std.specs.Prelude.{Result, IfSome}
use Rattle.pan_ast.specs.Failures.{fault_of}
use Rattle.pan_ast.specs.declared.failure.Failure.{Failure}
use Rattle.pan_ast.specs.declared.failure.Failure.TheVariants as failures
use Rattle.pan_ast.specs.declared.fault.Code.TheVariants.{BadSyntax, TooDeep}
use Rattle.pan_ast.specs.declared.fault.Fault.{Fault}
use Rattle.pan_ast.specs.declared.token.Token.{Token}
use Rattle.pan_ast.specs.Sorts.{EndsInEnd}
use Rattle.pan_ast.specs.Templates.{Template}
use Rattle.pan_ast.specs.TemplatesSeen.{template_seen}
use Rattle.pan_grammar.specs.Faults.{DeepInLast, IsFault, Parses, ParsesWhere}
use Rattle.pan_grammar.specs.Grammar.{Tokens}
use Rattle.pan_grammar.specs.Machine.{Stop, Bad, Deep, run}
use Rattle.pan_grammar.specs.Parsed.{answer_of, fault_on, parsed}
use Rattle.pan_grammar.specs.States.{Start}
use Rattle.pan_grammar.proofs.Ends.{deep_somewhere, never_left}
use Rattle.pan_grammar.proofs.Exact.{bad_exact, deep_exact, parse_unique}
use Rattle.pan_grammar.proofs.Runs.{parse_bad, parse_complete, parse_deep, parse_low}

pub bad_some : (ts bad : Tokens) → EndsInEnd ts → run ts Start ≡ Err (Bad bad) → bad ≢ []
bad_some ts bad e r n = let q : run (e.0 ++ e.1 ∷ []) Start ≡ Err (Bad []) =
    ap (λ x. run x Start) (sym e.3) ∙ r ∙ ap (λ x. Err (Bad x)) n in
    absurd (never_left e.0 e.1 Start e.2 q)

pub deep_some : (ts bad : Tokens) → run ts Start ≡ Err (Deep bad) → bad ≢ []
deep_some ts bad r n = absurd (deep_somewhere ts Start (r ∙ ap (λ x. Err (Deep x)) n))

-- the fault where a reading stops is the grammar's
bad_at : (ts bad : Tokens) → bad ≢ [] → run ts Start ≡ Err (Bad bad)
    → IsFault ts (fault_on BadSyntax bad)
bad_at ts [] some q = absurd (some refl)
bad_at ts (k ∷ on) some q = inl (k, on, parse_bad ts (k ∷ on) q, refl)

deep_at : (ts bad : Tokens) → bad ≢ [] → run ts Start ≡ Err (Deep bad)
    → IsFault ts (fault_on TooDeep bad)
deep_at ts [] some q = absurd (some refl)
deep_at ts (k ∷ on) some q = inr (k, on, parse_deep ts k on q, refl)

-- the same of an answer
pub bad_fault : (ts bad : Tokens) (r : Failure) → bad ≢ [] → run ts Start ≡ Err (Bad bad)
    → IfSome (fault_of r) (λ f. f ≡ fault_on BadSyntax bad) → IfSome (fault_of r) (IsFault ts)
bad_fault ts bad failures.Memory some q g = tt
bad_fault ts bad (failures.Fault f) some q g = subst (IsFault ts) (sym g) (bad_at ts bad some q)

pub deep_fault : (ts bad : Tokens) (r : Failure) → bad ≢ [] → run ts Start ≡ Err (Deep bad)
    → IfSome (fault_of r) (λ f. f ≡ fault_on TooDeep bad) → IfSome (fault_of r) (IsFault ts)
deep_fault ts bad failures.Memory some q g = tt
deep_fault ts bad (failures.Fault f) some q g = subst (IsFault ts) (sym g) (deep_at ts bad some q)

pub bad_gives : (ts bad : Tokens) (r : Failure) → run ts Start ≡ Err (Bad bad)
    → IfSome (fault_of r) (λ f. f ≡ fault_on BadSyntax bad)
    → Gives template_seen fault_of (Err r) (parsed ts)
bad_gives ts bad failures.Memory q g = tt
bad_gives ts bad (failures.Fault f) q g = ap answer_of q ∙ ap Err (sym g)

pub deep_gives : (ts bad : Tokens) (r : Failure) → run ts Start ≡ Err (Deep bad)
    → IfSome (fault_of r) (λ f. f ≡ fault_on TooDeep bad)
    → Gives template_seen fault_of (Err r) (parsed ts)
deep_gives ts bad failures.Memory q g = tt
deep_gives ts bad (failures.Fault f) q g = ap answer_of q ∙ ap Err (sym g)

-- the definition of what tokens give is what the grammar says
err_inside : (f g : Fault) → ◌≡◌ {A = Result Template Fault} (Err f) (Err g) → f ≡ g
err_inside f g e = cc

pub parsed_template : (ts : Tokens) (z : Template)
    → (parsed ts ≡ Ok z) ↔ ParsesWhere (DeepInLast 0) ts z
parsed_template ts z = (by (run ts Start) refl, λ p. ap answer_of (parse_complete ts z p)) where
  by : (r : Result Template Stop) → run ts Start ≡ r → answer_of r ≡ Ok z
      → ParsesWhere (DeepInLast 0) ts z
  by (Ok y) q e = parse_low ts z (q ∙ same y e) where
    same : (y : Template) → ◌≡◌ {A = Result Template Fault} (Ok y) (Ok z)
        → ◌≡◌ {A = Result Template Stop} (Ok y) (Ok z)
    same y e = cc
  by (Err (Bad bad)) q e = absurd cc
  by (Err (Deep bad)) q e = absurd cc

pub parsed_fault : (ts : Tokens) (f : Fault) → EndsInEnd ts → (parsed ts ≡ Err f) ↔ IsFault ts f
parsed_fault ts f ended = (by (run ts Start) refl, back) where
  by : (r : Result Template Stop) → run ts Start ≡ r → answer_of r ≡ Err f → IsFault ts f
  by (Ok y) q e = absurd cc
  by (Err (Bad bad)) q e =
      subst (IsFault ts) (err_inside (fault_on BadSyntax bad) f e)
      (bad_at ts bad (bad_some ts bad ended q) q)
  by (Err (Deep bad)) q e =
      subst (IsFault ts) (err_inside (fault_on TooDeep bad) f e)
      (deep_at ts bad (deep_some ts bad q) q)

  back : IsFault ts f → parsed ts ≡ Err f
  back (inl h) = ap answer_of (bad_exact ts h.0 h.1 h.2) ∙ ap Err (sym h.3)
  back (inr h) = ap answer_of (deep_exact ts h.0 h.1 h.2) ∙ ap Err (sym h.3)

pub one_template : (ts : Tokens) (y z : Template) → Parses ts y → Parses ts z → y ≡ z
one_template ts y z p q = parse_unique ts y z p q
