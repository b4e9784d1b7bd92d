-- Statements and templates, in the form of Grammar. No construct holds a statement.
use Rattle.std.specs.Prelude.{◌≡◌, ℕ, Bool, true, false, ◌||◌, List, [], ◌∷◌, Option, Some, None}
use Rattle.path_tree.specs.Grammar.{is_name}
use Rattle.pan_ast.specs.declared.sort.Sort.{Sort}
use Rattle.pan_ast.specs.declared.sort.Sort.TheVariants as sorts
use Rattle.pan_ast.specs.declared.token.Token.{Token}
use Rattle.pan_ast.specs.declared.place.Place.{Place}
use Rattle.pan_ast.specs.declared.template.TemplateKind.{TemplateKind}
use Rattle.pan_ast.specs.declared.template.TemplateKind.TheVariants as kinds
use Rattle.pan_ast.specs.Sorts.{sort, at, is_word}
use Rattle.pan_ast.specs.Syntax.{Item}
use Rattle.pan_ast.specs.Syntax as nodes
use Rattle.pan_ast.specs.Types.{FullType}
use Rattle.pan_ast.specs.Templates.{StatementForm, Statement, Template}
use Rattle.pan_ast.specs.Templates as trees
use Rattle.pan_grammar.specs.Grammar.{Tokens, block, plain, IsItem, IsItems}
use Rattle.pan_grammar.specs.Types.{IsFull}

abbrev pub stated : Place → StatementForm → Statement
stated p f = record { place = p; form = f }

-- "=" | "?="
abbrev pub is_setting : Sort → Bool
is_setting s = at sorts.Assign s || at sorts.ConditionalAssign s

abbrev pub conditional : Token → Bool
conditional a = at sorts.ConditionalAssign (sort a)

-- "object" | "structure" | "unique" | "declaration"
abbrev pub kind_of : Sort → Option TemplateKind
kind_of sorts.Object = Some kinds.Object
kind_of sorts.Structure = Some kinds.Structure
kind_of sorts.Unique = Some kinds.Unique
kind_of sorts.Declaration = Some kinds.Declaration
kind_of _ = None

-- what a header says: a kind, the place of its first token, and the token of the name
pub record Header : Type 0 where
  pub kind : TemplateKind
  pub place : Place
  pub name : Token

abbrev pub template : Header → List Statement → Template
template h ss = record {
  kind = h.kind;
  name = h.name.value;
  name_place = h.name.place;
  place = h.place;
  statements = ss;
}

module _ (May : ℕ → Tokens → Type 0) where
  -- Text ( "=" | "?=" ) Item ";" | "variable" Word ( "=" | "?=" ) Item ";", in a statement that
  -- begins at p, with "final" before it or not
  pub data IsSetting (p : Place) (last : Bool) : Tokens → Statement → Tokens → Type 0 where
    of_path : {t a s : Token} {ts rest : Tokens} {i : Item}
        → sort t ≡ sorts.Text → is_setting (sort a) ≡ true → IsItem May 0 ts i (s ∷ rest)
        → sort s ≡ sorts.Semicolon
        → IsSetting p last (t ∷ a ∷ ts) (stated p (trees.Assign last t.value (conditional a) i))
        rest
    of_variable : {v w a s : Token} {ts rest : Tokens} {i : Item}
        → sort v ≡ sorts.Variable → is_word (sort w) ≡ true → is_setting (sort a) ≡ true
        → IsItem May 0 ts i (s ∷ rest) → sort s ≡ sorts.Semicolon
        → IsSetting p last (v ∷ w ∷ a ∷ ts) (stated p
        (trees.Variable last w.value (conditional a) i)) rest

  -- Text | Block, either an Item
  pub data IsIncluded : Tokens → Item → Tokens → Type 0 where
    text_included : {t : Token} {rest : Tokens}
        → May 1 (t ∷ rest) → sort t ≡ sorts.Text → IsIncluded (t
        ∷ rest) (plain (nodes.Text t.place t.value)) rest
    block_included : {t : Token} {ts rest : Tokens} {is : List Item}
        → May 1 (t ∷ ts) → sort t ≡ sorts.OpenBrace → IsItems May 1 ts is rest
        → IsIncluded (t ∷ ts) (block t.place is) rest

  -- Statement = [ "final" ] Text ( "=" | "?=" ) Item ";"
  --           | [ "final" ] "variable" Word ( "=" | "?=" ) Item ";"
  --           | "function" Word "=" Item ";" | "type" Word "=" FullType ";"
  --           | "bind" Text "=" FullType ";"
  --           | "valid" Text "=" Item ";" | "include" ( Text | Block ) ";" | "prefix" Text ";"
  pub data IsStatement : Tokens → Statement → Tokens → Type 0 where
    a_setting : {t : Token} {ts rest : Tokens} {x : Statement}
        → IsSetting t.place false (t ∷ ts) x rest → IsStatement (t ∷ ts) x rest
    a_final : {t : Token} {ts rest : Tokens} {x : Statement}
        → sort t ≡ sorts.Final → IsSetting t.place true ts x rest → IsStatement (t ∷ ts) x rest
    a_function : {t w e s : Token} {ts rest : Tokens} {i : Item}
        → sort t ≡ sorts.Function → is_word (sort w) ≡ true → sort e ≡ sorts.Assign
        → IsItem May 0 ts i (s ∷ rest)
        → sort s ≡ sorts.Semicolon → IsStatement (t ∷ w ∷ e
        ∷ ts) (stated t.place (trees.Function w.value i)) rest
    a_type : {t w e s : Token} {ts rest : Tokens} {f : FullType}
        → sort t ≡ sorts.«Type» → is_word (sort w) ≡ true → sort e ≡ sorts.Assign
        → IsFull May 0 ts f (s ∷ rest)
        → sort s ≡ sorts.Semicolon → IsStatement (t ∷ w ∷ e
        ∷ ts) (stated t.place (trees.Define w.value f)) rest
    a_bind : {t x e s : Token} {ts rest : Tokens} {f : FullType}
        → sort t ≡ sorts.Bind → sort x ≡ sorts.Text → sort e ≡ sorts.Assign
        → IsFull May 0 ts f (s ∷ rest)
        → sort s ≡ sorts.Semicolon → IsStatement (t ∷ x ∷ e
        ∷ ts) (stated t.place (trees.Bind x.value f)) rest
    a_valid : {t x e s : Token} {ts rest : Tokens} {i : Item}
        → sort t ≡ sorts.Valid → sort x ≡ sorts.Text → sort e ≡ sorts.Assign
        → IsItem May 0 ts i (s ∷ rest)
        → sort s ≡ sorts.Semicolon → IsStatement (t ∷ x ∷ e
        ∷ ts) (stated t.place (trees.Valid x.value i)) rest
    an_include : {t s : Token} {ts rest : Tokens} {i : Item}
        → sort t ≡ sorts.Include → IsIncluded ts i (s ∷ rest) → sort s ≡ sorts.Semicolon
        → IsStatement (t ∷ ts) (stated t.place (trees.Include i)) rest
    a_prefix : {t x s : Token} {rest : Tokens}
        → sort t ≡ sorts.Prefix → sort x ≡ sorts.Text → sort s ≡ sorts.Semicolon
        → IsStatement (t ∷ x ∷ s ∷ rest) (stated t.place (trees.Prefix x.value)) rest

  -- { Statement }, and the End after the last token
  pub data IsStatements : Tokens → List Statement → Type 0 where
    no_statement : {e : Token} → sort e ≡ sorts.End → IsStatements (e ∷ []) []
    a_statement : {ts rest : Tokens} {x : Statement} {xs : List Statement}
        → IsStatement ts x rest → IsStatements rest xs → IsStatements ts (x ∷ xs)

  -- Name ";" { Statement }, where the Name is the name of a template
  pub data IsNamed (kind : TemplateKind) (p : Place) : Tokens → Template → Type 0 where
    is_named : {n s : Token} {ts : Tokens} {xs : List Statement}
        → sort n ≡ sorts.Name → is_name n.value ≡ true → sort s ≡ sorts.Semicolon
        → IsStatements ts xs
        → IsNamed kind p (n ∷ s ∷ ts) (template (record { kind = kind; place = p; name = n }) xs)

  -- Template = [ "object" | "structure" | "unique" | "declaration" ] "template" Name ";"
  --            { Statement }
  pub data IsTemplate : Tokens → Template → Type 0 where
    ordinary : {t : Token} {ts : Tokens} {z : Template}
        → sort t ≡ sorts.Template → IsNamed kinds.Ordinary t.place ts z → IsTemplate (t ∷ ts) z
    of_kind : {q t : Token} {ts : Tokens} {kind : TemplateKind} {z : Template}
        → kind_of (sort q) ≡ Some kind → sort t ≡ sorts.Template → IsNamed kind q.place ts z
        → IsTemplate (q ∷ t ∷ ts) z
