-- The tokens before the place of a wrong one begin some template.
use Rattle.std.proofs.Common.{◌≡◌, ℕ, ◌≤◌, ◌&&◌, ◌==◌, length, Bool, true, [], ◌∷◌, ◌++◌, Err, refl, sym, ap, subst, append_assoc, ◌∙◌, inl, inr, arith}
use Rattle.pan_ast.specs.Detail.{fault_at}
use Rattle.pan_ast.specs.declared.fault.Code.TheVariants.{BadSyntax, TooDeep}
use Rattle.pan_ast.specs.declared.fault.Fault.{Fault}
use Rattle.pan_ast.specs.declared.place.Place.{Place}
use Rattle.pan_ast.specs.declared.token.Token.{Token}
use Rattle.pan_ast.specs.Sorts.{EndsInEnd}
use Rattle.pan_grammar.specs.Faults.{DeepInLast, IsFault, IsFirstBad, ParsesWhere}
use Rattle.pan_grammar.specs.Grammar.{Tokens}
use Rattle.pan_grammar.specs.Parsed.{parsed}
use Rattle.pan_parser.proofs.Whole.{parsed_fault}
use Rattle.expected_tokens.specs.Expected.{before, is_at}
use Rattle.expected_tokens.specs.Following.{Begins}
use Rattle.expected_tokens.proofs.Sifting.{before_begins}

same_number : (n : ℕ) → (n == n) ≡ true
same_number n = search arith

at_itself : (k : Token) → is_at k.place k ≡ true
at_itself k = rw (same_number k.place.line, same_number k.place.column) refl

longer : (a b : Tokens) → length b ≤ length (a ++ b)
longer [] b = omega arith
longer (t ∷ a) b = omega (arith, longer a b)

first_bad : (ts : Tokens) (k : Token) (on : Tokens) → IsFirstBad ts (k ∷ on)
    → Begins (before k.place ts)
first_bad ts k on bad =
    let v = bad.viable in
    let b = before_begins (is_at k.place) bad.before k on (at_itself k) in
    let front = before k.place ts in
    let same : bad.before ≡ front ++ b.0 =
    subst (λ (x : Tokens). bad.before ≡ before k.place x ++ b.0) (sym bad.parts) b.1 in (
      length v.0,
      b.0 ++ v.0,
      v.1,
      longer b.0 v.0,
      subst (λ (x : Tokens). ParsesWhere (DeepInLast (length v.0)) x v.1)
          (ap (λ x. x ++ v.0) same ∙ append_assoc front b.0 v.0) v.2,
    )

place_of : (p q : Place) → fault_at BadSyntax p ≡ fault_at BadSyntax q → p ≡ q
place_of p q e = ap (λ (f : Fault). f.place) e

not_deep : (p q : Place) → fault_at BadSyntax p ≡ fault_at TooDeep q → ⊥
not_deep p q e = let c : BadSyntax ≡ TooDeep = ap (λ (f : Fault). f.code) e in absurd cc

pub begins_before : (ts : Tokens) (p : Place) → EndsInEnd ts
    → parsed ts ≡ Err (fault_at BadSyntax p) → Begins (before p ts)
begins_before ts p ended wrong = elim ((parsed_fault ts (fault_at BadSyntax p) ended).0 wrong) [
  | inl bad ↦ subst (λ (q : Place). Begins (before q ts)) (sym (place_of p bad.0.place bad.3))
      (first_bad ts bad.0 bad.1 bad.2)
  | inr deep ↦ absurd (not_deep p deep.0.place deep.3)
]
