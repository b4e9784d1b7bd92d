-- Steps of the functions that read statements, as equations of whole readings.
use Rattle.std.proofs.Common.{ℕ, ◌≡◌, ◌≢◌, true, false, List, [], ◌∷◌, ◌++◌, Some, Err, refl}
use Rattle.pan_ast.specs.declared.place.Place.{Place}
use Rattle.pan_ast.specs.declared.sort.Sort.TheVariants as sorts
use Rattle.pan_ast.specs.declared.template.TemplateKind.{TemplateKind}
use Rattle.pan_ast.specs.declared.template.TemplateKind.TheVariants as kinds
use Rattle.pan_ast.specs.declared.token.Token.{Token}
use Rattle.pan_ast.specs.Sorts.{at, sort}
use Rattle.pan_ast.specs.Templates.{Statement}
use Rattle.pan_ast.specs.Types.{FullType}
use Rattle.pan_grammar.specs.Grammar.{Tokens}
use Rattle.pan_grammar.specs.Machine.{Bad, block_included_read, has_full, kind_read, name_wanted, run, setting_at, text_included_read}
use Rattle.pan_grammar.specs.States.{Done, IncludeRead, Start, StatementType, Statements}
use Rattle.pan_grammar.specs.Templates.{Header, kind_of, template}
use Rattle.pan_grammar.proofs.Tests.{at_miss}
use Rattle.pan_parser.specs.Answers.{IsAt, NotAt, on_front}

pub type_ends : (ts on : Tokens) (h : Header) (ss : List Statement) (make : FullType → Statement)
    (f : FullType) → IsAt sorts.Semicolon ts on → on_front (has_full (StatementType h ss make) f) ts
    ≡ run on (Statements h (ss ++ make f ∷ []))
type_ends ts on h ss make f i = let c = i.1 in let e = i.2 in rw (c, e) refl

pub type_goes_on : (ts : Tokens) (h : Header) (ss : List Statement) (make : FullType → Statement)
    (f : FullType) → NotAt sorts.Semicolon ts → on_front (has_full (StatementType h ss make) f) ts
    ≡ Err (Bad ts)
type_goes_on [] h ss make f i = refl
type_goes_on (t ∷ ts) h ss make f i = rw i refl

pub text_included : (ts on : Tokens) (first : Token) (p : Place) (h : Header) (ss : List Statement)
    → ts ≡ first ∷ on → sort first ≡ sorts.Text → run ts (IncludeRead p h ss)
    ≡ run on (text_included_read p h ss first)
text_included ts on first p h ss cut e = rw (cut, e) refl

pub block_included : (ts on : Tokens) (first : Token) (p : Place) (h : Header) (ss : List Statement)
    → ts ≡ first ∷ on → sort first ≡ sorts.OpenBrace → run ts (IncludeRead p h ss)
    ≡ run on (block_included_read p h ss first)
block_included ts on first p h ss cut e = rw (cut, e) refl

pub final_turns : (ts on : Tokens) (first : Token) (h : Header) (ss : List Statement) → ts
    ≡ first ∷ on → sort first ≡ sorts.Final → run ts (Statements h ss)
    ≡ on_front (setting_at first.place true h ss) on
final_turns ts [] first h ss cut e = rw (cut, e) refl
final_turns ts (t ∷ on) first h ss cut e = rw (cut, e) refl

pub setting_turns : (ts on : Tokens) (t : Token) (h : Header) (ss : List Statement) → ts ≡ t ∷ on
    → at sorts.End (sort t) ≡ false → sort t ≢ sorts.Final → sort t ≢ sorts.Function
    → sort t ≢ sorts.«Type» → sort t ≢ sorts.Bind → sort t ≢ sorts.Valid → sort t ≢ sorts.Include
    → sort t ≢ sorts.Prefix
    → run ts (Statements h ss) ≡ on_front (setting_at t.place false h ss) ts
setting_turns ts on t h ss cut e a b c d f g i =
    let a1 = at_miss sorts.Final (sort t) a in
    let b1 = at_miss sorts.Function (sort t) b in
    let c1 = at_miss sorts.«Type» (sort t) c in
    let d1 = at_miss sorts.Bind (sort t) d in
    let f1 = at_miss sorts.Valid (sort t) f in
    let g1 = at_miss sorts.Include (sort t) g in
    let i1 = at_miss sorts.Prefix (sort t) i in
    rw (cut, e, a1, b1, c1, d1, f1, g1, i1) refl

-- ---- headers

pub ordinary_turns : (ts on : Tokens) (first : Token) → ts ≡ first ∷ on
    → at sorts.Template (sort first) ≡ true → run ts Start
    ≡ run on (name_wanted kinds.Ordinary first.place)
ordinary_turns ts on first cut e = rw (cut, e) refl

pub kind_turns : (ts on : Tokens) (first : Token) (k : TemplateKind) → ts ≡ first ∷ on
    → at sorts.Template (sort first) ≡ false → kind_of (sort first) ≡ Some k → run ts Start
    ≡ run on (kind_read first.place k)
kind_turns ts on first k cut other e = rw (cut, other, e) refl

pub template_alike : (ts : Tokens) (k : TemplateKind) (p q : Place) (n : Token) (name : List ℕ)
    (r : Place) (ss : List Statement) → name ≡ n.value → r ≡ n.place → q ≡ p
    → run ts (Done (template (record { kind = k; place = p; name = n }) ss))
    ≡ run ts (Done (record {
      kind = k;
      name = name;
      name_place = r;
      place = q;
      statements =
          ss;
    }))
template_alike ts k p q n name r ss e f g = rw (e, f, g) refl
