-- What holds of the template of a file, or of its fault.
use Rattle.std.proofs.Common.{◌≡◌, ◌≢◌, Bool, true, ℕ, ◌≤◌, List, [], ◌∷◌, Some, refl, sym, ap, subst, ◌∙◌, arith}
use Rattle.std.specs.Prelude.{Result, Ok, Err}
use Rattle.pan_ast.specs.Codes.{code_number}
use Rattle.pan_ast.specs.declared.fault.Code.TheVariants.{Circular}
use Rattle.pan_ast.specs.declared.fault.Fault.{Fault}
use Rattle.pan_ast.specs.declared.place.Place.{Place}
use Rattle.pan_ast.specs.declared.sort.Sort.TheVariants as sorts
use Rattle.pan_ast.specs.declared.template.TemplateKind.{TemplateKind}
use Rattle.pan_ast.specs.declared.template.TemplateKind.TheVariants as kinds
use Rattle.pan_ast.specs.declared.token.Token.{Token}
use Rattle.pan_ast.specs.Sorts.{sort}
use Rattle.pan_ast.specs.Templates.{Template}
use Rattle.pan_grammar.specs.Faults.{DeepInLast}
use Rattle.pan_grammar.specs.Grammar.{Tokens}
use Rattle.pan_grammar.specs.Machine.{Stop, Bad, Deep, run}
use Rattle.pan_grammar.specs.Parsed.{answer_of, parsed}
use Rattle.pan_grammar.specs.States.{Start}
use Rattle.pan_grammar.specs.Templates.{IsNamed, is_named, IsTemplate, ordinary, of_kind, kind_of}
use Rattle.pan_grammar.proofs.Runs.{parse_low}
use Rattle.pan_lexer.specs.Lexed.{lexed_file}
use Rattle.pan_lexer.specs.Objects.{is_object}
use Rattle.pan_lexer.specs.Tokens.{StartsWith}
use Rattle.pan_lexer.proofs.FaultCodes.{file_codes}
use Rattle.pan_lexer.proofs.FirstToken.{object_file}
use Rattle.pan_template.specs.TemplateOf.{of_tokens, template_of}

err_inside : (f g : Fault) → ◌≡◌ {A = Result Template Fault} (Err f) (Err g) → f ≡ g
err_inside f g e = cc

error_inside : (f g : Fault) → ◌≡◌ {A = Result Template Fault} (Err f) (Err g)
    → ◌≡◌ {A = Result (List Token) Fault} (Err f) (Err g)
error_inside f g e = cc

-- ---- faults

token_code : (r : Result Template Stop) (f : Fault) → answer_of r ≡ Err f → code_number f.code ≤ 7
token_code (Ok z) f e = absurd cc
token_code (Err (Bad ts)) f e = let same =
    ap (λ (g : Fault). code_number g.code) (err_inside _ f e) in omega (arith, same)
token_code (Err (Deep ts)) f e = let same =
    ap (λ (g : Fault). code_number g.code) (err_inside _ f e) in omega (arith, same)

pub template_code : (file bytes : List ℕ) (f : Fault) → template_of file bytes ≡ Err f
    → code_number f.code ≤ 7
template_code file bytes f = by (lexed_file file bytes) refl where
  by : (r : Result (List Token) Fault) → lexed_file file bytes ≡ r → of_tokens r ≡ Err f
      → code_number f.code ≤ 7
  by (Ok ts) is e = token_code (run ts Start) f e
  by (Err g) is e = omega (arith, file_codes file bytes f (is ∙ error_inside g f e))

pub not_circular : (file bytes : List ℕ) (f : Fault) → template_of file bytes ≡ Err f
    → f.code ≢ Circular
not_circular file bytes f e is = let n = ap code_number is in
    absurd (omega (arith, n, template_code file bytes f e))

-- ---- kinds

named_kind : {May : ℕ → Tokens → Type 0} {kind : TemplateKind} {p : Place} {ts : Tokens}
    {z : Template} → IsNamed May kind p ts z → z.kind ≡ kind
named_kind (is_named n i s h) = refl

object_kind : {May : ℕ → Tokens → Type 0} {ts : Tokens} {z : Template} → IsTemplate May ts z
    → StartsWith sorts.Object ts → z.kind ≡ kinds.Object
object_kind (ordinary {t = t} e n) s = absurd cc
object_kind (of_kind {q = q} {kind = kind} k e n) s =
    let is : kind_of (sort q) ≡ Some kinds.Object = rw s refl in
    let same : kind ≡ kinds.Object = cc in
    named_kind n ∙ same

read_kind : (ts : Tokens) (r : Result Template Stop) (z : Template) → run ts Start ≡ r → answer_of r
    ≡ Ok z → StartsWith sorts.Object ts → z.kind ≡ kinds.Object
read_kind ts (Ok y) z q e s =
    subst (λ (x : Template). x.kind ≡ kinds.Object) (same y z e)
    (object_kind (parse_low ts y q) s) where
      same : (y z : Template) → ◌≡◌ {A = Result Template Fault} (Ok y) (Ok z) → y ≡ z
      same y z e = cc
read_kind ts (Err (Bad bad)) z q e s = absurd cc
read_kind ts (Err (Deep bad)) z q e s = absurd cc

pub object_template : (file bytes : List ℕ) (z : Template) → is_object bytes ≡ true
    → template_of file bytes ≡ Ok z → z.kind ≡ kinds.Object
object_template file bytes z o = by (lexed_file file bytes) refl where
  by : (r : Result (List Token) Fault) → lexed_file file bytes ≡ r → of_tokens r ≡ Ok z → z.kind
      ≡ kinds.Object
  by (Ok ts) is e = read_kind ts (run ts Start) z refl e (object_file file bytes ts o is)
  by (Err g) is e = absurd cc
