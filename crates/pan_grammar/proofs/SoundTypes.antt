-- What completes the state after a token completes the state before it, with the token: statements
-- and types.
use Rattle.std.proofs.Common.{◌≡◌, ℕ, suc, ℤ, neg_ℤ, Bool, true, false, List, [], ◌∷◌, ◌++◌, Option, Some, None, refl, sym, subst, append_assoc, inl, inr}
use Rattle.std.proofs.lemmas.Bool.{and_parts}
use Rattle.std.proofs.lemmas.List.{append-nil}
use Rattle.pan_ast.specs.declared.sort.Sort.{Sort}
use Rattle.pan_ast.specs.declared.sort.Sort.TheVariants as sorts
use Rattle.pan_ast.specs.declared.token.Token.{Token}
use Rattle.pan_ast.specs.declared.place.Place.{Place}
use Rattle.pan_ast.specs.declared.template.TemplateKind.{TemplateKind}
use Rattle.pan_ast.specs.declared.template.TemplateKind.TheVariants as kinds
use Rattle.pan_ast.specs.declared.types.Bounds.{Bounds}
use Rattle.pan_ast.specs.declared.types.Suffix.{Suffix}
use Rattle.pan_ast.specs.declared.types.Suffix.TheVariants as suffixes
use Rattle.pan_ast.specs.Sorts.{sort, is_type_name}
use Rattle.pan_ast.specs.Syntax.{Item}
use Rattle.pan_ast.specs.Syntax as nodes
use Rattle.pan_ast.specs.Types.{FullType, Full, TypeForm, Formed, Head, Field}
use Rattle.pan_ast.specs.Types as types
use Rattle.pan_ast.specs.Templates.{Statement, Template}
use Rattle.pan_ast.specs.Templates as statements
use Rattle.pan_grammar.specs.Grammar.{Tokens, block, plain, number, IsItem}
use Rattle.pan_grammar.specs.Types.{bounds, named, recorded, own, included, IsSigned, a_number, a_negative, exactly, at_least, from_to, IsBounds, from_low, at_most, IsRange, no_range, a_range, IsBounded, unbounded, bounded, IsSuffixes, no_suffix, a_list, a_dict, a_link, IsTexts, no_text, a_text, absent, present, IsFull, a_full, IsType, a_named, a_record, an_extensible, a_choice, IsFields, no_field, own_field, include_field}
use Rattle.pan_grammar.specs.Templates.{stated, conditional, kind_of, Header, template, IsSetting, of_path, of_variable, IsIncluded, text_included, block_included, IsStatement, a_setting, a_final, a_function, a_type, a_bind, a_valid, an_include, a_prefix, IsStatements, no_statement, a_statement, IsNamed, is_named, ordinary, of_kind}
use Rattle.pan_grammar.specs.States.{FullStack, StatementType, InField, Hole, StatementItem, AfterEquals, AfterWith, Out, Closing, closing, Wanted, ATemplate, AName, ASemicolon, AnAssign, ASetting, AText, AWord, ATypeName, AnInt, AnOpen, AnOpenBrace, AMark, Closes, fits, State, Start, Takes, Statements, FinalRead, IncludeRead, NeedFull, NameRead, TextsOpen, FieldsOpen, HasHead, NeedSigned, NeedBounds, HasLow, RangeRead, RangeOpen, NeedItem, Done}
use Rattle.pan_grammar.specs.Machine.{when, setting_at, statements_at, included_at, name_wanted, kind_read, start_at, signed_at, high_read, bounds_at, is_key_text, fields_at, has_full, has_default, has_form, has_head, full_at, name_then, texts_then, hole_has, step}
use Rattle.pan_grammar.specs.Depths.{full_holders}
use Rattle.pan_grammar.specs.Waiting.{IsOne, one, IsThat, that, StatementsWait, StatementEnds, TypeGoes, FullWaits, HeadWaits, FieldsWait, DefaultWaits, HoleWaits, Completes}
use Rattle.pan_grammar.specs.Begins.{FullMay}
use Rattle.pan_grammar.proofs.Tests.{at_true, at_miss, that_cases, that_only, when_cases, when_only, some_only}

semicolon_one : {s : Token} {ts rest : Tokens} → IsThat ASemicolon s ts rest
    → IsOne sorts.Semicolon ts rest
semicolon_one (that k) = one (at_true _ _ k)

closing_one : {c : Closing} {k : Token} {ts rest : Tokens} → IsThat (Closes c) k ts rest
    → IsOne (closing c) ts rest
closing_one (that k) = one (at_true _ _ k)

module _ (May : ℕ → Tokens → Type 0) where
  pub back : (a b : State) (ts : Tokens) (z : Template) → a ≡ b → Completes May b ts z
      → Completes May a ts z
  back a b ts z e c = subst (λ (q : State). Completes May q ts z) (sym e) c

  pub takes_sound : (w : Wanted) (next : Token → State) (t : Token) (ts : Tokens) (z : Template)
      (y : State) → step (Takes w next) t ≡ Some y → Completes May y ts z
      → Completes May (Takes w next) (t ∷ ts) z
  takes_sound w next t ts z y e c = let k = that_only (fits w t) (next t) y e in
      (t, ts, that k.0, back (next t) y ts z k.1 c)

  -- ---- statements

  ends_sound : (h : Header) (ss : List Statement) (x : Statement) (t : Token) (ts : Tokens)
      (z : Template) (y : State) → when sorts.Semicolon (sort t) (Statements h (ss ++ x ∷ [])) None
      ≡ Some y → Completes May y ts z → StatementEnds May h ss x (t ∷ ts) z
  ends_sound h ss x t ts z y e c = let k =
      when_only sorts.Semicolon (sort t) (Statements h (ss ++ x ∷ [])) y e in
      (ts, one k.0, back (Statements h (ss ++ x ∷ [])) y ts z k.1 c)

  with_statement : (h : Header) (ss : List Statement) (x : Statement) (ts rest : Tokens)
      (z : Template) → IsStatement May ts x rest → StatementsWait May h (ss ++ x ∷ []) rest z
      → StatementsWait May h ss ts z
  with_statement h ss x ts rest z s w = (
    x ∷ w.0,
    a_statement s w.1,
    subst (λ (q : List Statement). template h q ≡ z)
        (append_assoc ss (x ∷ []) w.0) w.2,
  )

  path_setting : {p : Place} {last : Bool} {t a : Token} {ts ts1 ts2 rest : Tokens} {i : Item}
      → sort t ≡ sorts.Text → IsThat ASetting a ts ts1 → IsItem May 0 ts1 i ts2
      → IsOne sorts.Semicolon ts2 rest
      → IsSetting May p last (t ∷ ts) (stated p (statements.Assign last t.value (conditional a) i))
      rest
  path_setting e (that a) i (one s) = of_path e a i s

  variable_setting : {p : Place} {last : Bool} {v w a : Token} {ts ts1 ts2 ts3 rest : Tokens}
      {i : Item} → sort v ≡ sorts.Variable → IsThat AWord w ts ts1 → IsThat ASetting a ts1 ts2
      → IsItem May 0 ts2 i ts3 → IsOne sorts.Semicolon ts3 rest
      → IsSetting May p last (v ∷ ts)
      (stated p (statements.Variable last w.value (conditional a) i)) rest
  variable_setting e (that w) (that a) i (one s) = of_variable e w a i s

  pub setting_sound : (p : Place) (last : Bool) (h : Header) (ss : List Statement) (t : Token)
      (ts : Tokens) (z : Template) (y : State) → setting_at p last h ss t ≡ Some y
      → Completes May y ts z
      → (x : Statement) × (rest : Tokens) × IsSetting May p last (t ∷ ts) x rest
      × StatementsWait May h (ss ++ x ∷ []) rest z
  setting_sound p last h ss t ts z y e c =
      elim (when_cases sorts.Text (sort t) _ _ y e) [
        | inl k ↦ let g = back _ y ts z k.1 c in (
          stated p (statements.Assign last t.value (conditional g.0) g.3.0),
          g.3.3.0,
          path_setting k.0 g.2 g.3.2 g.3.3.1,
          g.3.3.2,
        )
        | inr m ↦ let k = when_only sorts.Variable (sort t) _ y m.1 in
            let g = back _ y ts z k.1 c in (
              stated p (statements.Variable last g.0.value (conditional g.3.0) g.3.3.0),
              g.3.3.3.0,
              variable_setting k.0 g.2 g.3.2 g.3.3.2 g.3.3.3.1,
              g.3.3.3.2,
            )
      ]

  function_statement : {t w e : Token} {ts ts1 ts2 ts3 rest : Tokens} {i : Item} → sort t
      ≡ sorts.Function → IsThat AWord w ts ts1 → IsThat AnAssign e ts1 ts2 → IsItem May 0 ts2 i ts3
      → IsOne sorts.Semicolon ts3 rest → IsStatement May (t ∷ ts)
      (stated t.place (statements.Function w.value i)) rest
  function_statement k (that w) (that e) i (one s) = a_function k w (at_true _ _ e) i s

  type_statement : {t w e : Token} {ts ts1 ts2 ts3 rest : Tokens} {f : FullType} → sort t
      ≡ sorts.«Type» → IsThat AWord w ts ts1 → IsThat AnAssign e ts1 ts2 → IsFull May 0 ts2 f ts3
      → IsOne sorts.Semicolon ts3 rest → IsStatement May (t ∷ ts)
      (stated t.place (statements.Define w.value f)) rest
  type_statement k (that w) (that e) f (one s) = a_type k w (at_true _ _ e) f s

  bind_statement : {t x e : Token} {ts ts1 ts2 ts3 rest : Tokens} {f : FullType} → sort t
      ≡ sorts.Bind → IsThat AText x ts ts1 → IsThat AnAssign e ts1 ts2 → IsFull May 0 ts2 f ts3
      → IsOne sorts.Semicolon ts3 rest → IsStatement May (t ∷ ts)
      (stated t.place (statements.Bind x.value f)) rest
  bind_statement k (that x) (that e) f (one s) = a_bind k (at_true _ _ x) (at_true _ _ e) f s

  valid_statement : {t x e : Token} {ts ts1 ts2 ts3 rest : Tokens} {i : Item} → sort t ≡ sorts.Valid
      → IsThat AText x ts ts1 → IsThat AnAssign e ts1 ts2 → IsItem May 0 ts2 i ts3
      → IsOne sorts.Semicolon ts3 rest → IsStatement May (t ∷ ts)
      (stated t.place (statements.Valid x.value i)) rest
  valid_statement k (that x) (that e) i (one s) = a_valid k (at_true _ _ x) (at_true _ _ e) i s

  include_statement : {t : Token} {ts ts1 rest : Tokens} {i : Item} → sort t ≡ sorts.Include
      → IsIncluded May ts i ts1 → IsOne sorts.Semicolon ts1 rest
      → IsStatement May (t ∷ ts) (stated t.place (statements.Include i)) rest
  include_statement k i (one s) = an_include k i s

  prefix_statement : {t x s : Token} {ts ts1 rest : Tokens} → sort t ≡ sorts.Prefix
      → IsThat AText x ts ts1 → IsThat ASemicolon s ts1 rest
      → IsStatement May (t ∷ ts) (stated t.place (statements.Prefix x.value)) rest
  prefix_statement k (that x) (that s) = a_prefix k (at_true _ _ x) (at_true _ _ s)

  pub statements_sound : (h : Header) (ss : List Statement) (t : Token) (ts : Tokens) (z : Template)
      (y : State) → statements_at h ss t ≡ Some y → Completes May y ts z
      → StatementsWait May h ss (t ∷ ts) z
  statements_sound h ss t ts z y e c =
      elim (when_cases sorts.End (sort t) (Done (template h ss)) _ y e) [
        | inl k ↦ let g : (ts ≡ []) × (template h ss ≡ z) =
            back (Done (template h ss)) y ts z k.1 c in (
              [],
              subst (λ (r : Tokens). IsStatements May (t ∷ r) []) (sym g.0) (no_statement k.0),
              subst (λ (q : List Statement). template h q ≡ z) (sym (append-nil ss)) g.1,
            )
        | inr m ↦ elim (when_cases sorts.Final (sort t) (FinalRead t.place h ss) _ y m.1) [
          | inl k ↦ let g = back (FinalRead t.place h ss) y ts z k.1 c in
              with_statement h ss g.0 (t ∷ ts) g.1 z (a_final k.0 g.2) g.3
          | inr m ↦ elim (when_cases sorts.Function (sort t) _ _ y m.1) [
            | inl k ↦ let g = back _ y ts z k.1 c in
                with_statement h ss (stated t.place (statements.Function g.0.value g.3.3.0))
                (t ∷ ts) g.3.3.3.0 z (function_statement k.0 g.2 g.3.2 g.3.3.2 g.3.3.3.1) g.3.3.3.2
            | inr m ↦ elim (when_cases sorts.«Type» (sort t) _ _ y m.1) [
              | inl k ↦ let g = back _ y ts z k.1 c in
                  with_statement h ss (stated t.place (statements.Define g.0.value g.3.3.0))
                  (t ∷ ts) g.3.3.3.0 z (type_statement k.0 g.2 g.3.2 g.3.3.2 g.3.3.3.1) g.3.3.3.2
              | inr m ↦ elim (when_cases sorts.Bind (sort t) _ _ y m.1) [
                | inl k ↦ let g = back _ y ts z k.1 c in
                    with_statement h ss (stated t.place (statements.Bind g.0.value g.3.3.0))
                    (t ∷ ts) g.3.3.3.0 z (bind_statement k.0 g.2 g.3.2 g.3.3.2 g.3.3.3.1) g.3.3.3.2
                | inr m ↦ elim (when_cases sorts.Valid (sort t) _ _ y m.1) [
                  | inl k ↦ let g = back _ y ts z k.1 c in
                      with_statement h ss (stated t.place (statements.Valid g.0.value g.3.3.0))
                      (t ∷ ts) g.3.3.3.0 z (valid_statement k.0 g.2 g.3.2 g.3.3.2 g.3.3.3.1)
                      g.3.3.3.2
                  | inr m ↦ elim (when_cases sorts.Include (sort t) (IncludeRead t.place h ss) _ y
                      m.1) [
                        | inl k ↦ let g = back (IncludeRead t.place h ss) y ts z k.1 c in
                            with_statement h ss (stated t.place (statements.Include g.0)) (t ∷ ts)
                            g.3.0
                            z (include_statement k.0 g.2 g.3.1) g.3.2
                        | inr m ↦ elim (when_cases sorts.Prefix (sort t) _ _ y m.1) [
                          | inl k ↦ let g = back _ y ts z k.1 c in
                              with_statement h ss (stated t.place (statements.Prefix g.0.value))
                              (t ∷ ts) g.3.1 z (prefix_statement k.0 g.2 g.3.2) g.3.3
                          | inr m ↦ let g = setting_sound t.place false h ss t ts z y m.1 c in
                              with_statement h ss g.0 (t ∷ ts) g.1 z (a_setting g.2) g.3
                        ]
                      ]
                ]
              ]
            ]
          ]
        ]
      ]

  pub included_sound : (p : Place) (h : Header) (ss : List Statement) (t : Token) (ts : Tokens)
      (z : Template) (y : State) → included_at p h ss t ≡ Some y → Completes May y ts z
      → May 1 (t ∷ ts) → Completes May (IncludeRead p h ss) (t ∷ ts) z
  included_sound p h ss t ts z y e c allowed =
      elim (when_cases sorts.Text (sort t) _ _ y e) [
        | inl k ↦ let g = back _ y ts z k.1 c in (
          plain (nodes.Text t.place t.value),
          ts,
          text_included allowed k.0,
          (g.1, semicolon_one g.2, g.3),
        )
        | inr m ↦ let k = when_only sorts.OpenBrace (sort t) _ y m.1 in
            let g = back _ y ts z k.1 c in
            (block t.place g.0, g.1, block_included allowed k.0 g.2, g.3)
      ]

  named_of : {kind : TemplateKind} {p : Place} {n s : Token} {ts ts1 ts2 : Tokens} {z : Template}
      → IsThat AName n ts ts1 → IsThat ASemicolon s ts1 ts2
      → StatementsWait May (record { kind = kind; place = p; name = n }) [] ts2 z
      → IsNamed May kind p ts z
  named_of {kind} {p} {n} {s} {z = z} (that {rest = r} k) (that {rest = r2} m) w =
      let q = and_parts _ _ k in
      subst (λ (x : Template). IsNamed May kind p (n ∷ s ∷ r2) x) w.2
      (is_named (at_true _ _ q.0) q.1 (at_true _ _ m) w.1)

  template_then : {kind : TemplateKind} {t : Token} {ts : Tokens} {q : Token} {ts1 : Tokens}
      {z : Template} → kind_of (sort q) ≡ Some kind → IsThat ATemplate t ts ts1
      → IsNamed May kind q.place ts1 z → Completes May Start (q ∷ ts) z
  template_then e (that k) n = of_kind e (at_true _ _ k) n

  pub start_sound : (t : Token) (ts : Tokens) (z : Template) (y : State) → start_at t ≡ Some y
      → Completes May y ts z → Completes May Start (t ∷ ts) z
  start_sound t ts z y e c =
      elim (when_cases sorts.Template (sort t) (name_wanted kinds.Ordinary t.place) _ y e) [
        | inl k ↦ let g = back (name_wanted kinds.Ordinary t.place) y ts z k.1 c in
            ordinary k.0 (named_of g.2 g.3.2 g.3.3)
        | inr m ↦ let k = some_only (kind_of (sort t)) (kind_read t.place) y m.1 in
            let g = back (kind_read t.place k.0) y ts z k.2 c in
            template_then k.1 g.2 (named_of g.3.2 g.3.3.2 g.3.3.3)
      ]

  -- ---- Bounds

  minus_signed : {m n : Token} {ts rest : Tokens} → sort m ≡ sorts.Minus → IsThat AnInt n ts rest
      → IsSigned (m ∷ ts) (neg_ℤ (number n)) rest
  minus_signed e (that k) = a_negative e (at_true _ _ k)

  pub signed_sound : (next : ℤ → State) (t : Token) (ts : Tokens) (z : Template) (y : State)
      → signed_at next t ≡ Some y → Completes May y ts z
      → Completes May (NeedSigned next) (t ∷ ts) z
  signed_sound next t ts z y e c =
      elim (when_cases sorts.Int (sort t) (next (number t)) _ y e) [
        | inl k ↦ (number t, ts, a_number k.0, back (next (number t)) y ts z k.1 c)
        | inr m ↦ let k = when_only sorts.Minus (sort t) _ y m.1 in
            let g = back _ y ts z k.1 c in
            (neg_ℤ (number g.0), g.1, minus_signed k.0 g.2, g.3)
      ]

  pub bounds_sound : (c : Closing) (next : Bounds → State) (t : Token) (ts : Tokens) (z : Template)
      (y : State) → bounds_at c next t ≡ Some y → Completes May y ts z
      → Completes May (NeedBounds c next) (t ∷ ts) z
  bounds_sound w next t ts z y e c =
      elim (when_cases sorts.Range (sort t) _ _ y e) [
        | inl k ↦ let g = back _ y ts z k.1 c in
            (bounds t.place None (Some g.0), g.1, g.3.1, at_most k.0 g.2, closing_one g.3.2, g.3.3)
        | inr m ↦ let g = signed_sound (λ n. HasLow w t.place n next) t ts z y m.1 c in
            (g.3.0, g.3.1, g.3.2, from_low g.2 g.3.3, g.3.4, g.3.5)
      ]

  pub low_sound : (c : Closing) (p : Place) (n : ℤ) (next : Bounds → State) (t : Token)
      (ts : Tokens) (z : Template) (y : State) → step (HasLow c p n next) t ≡ Some y
      → Completes May y ts z → Completes May (HasLow c p n next) (t ∷ ts) z
  low_sound w p n next t ts z y e c =
      elim (when_cases (closing w) (sort t) (next (bounds p (Some n) (Some n))) _ y e) [
        | inl k ↦ (
          bounds p (Some n) (Some n),
          t ∷ ts,
          ts,
          exactly,
          one k.0,
          back
              (next (bounds p (Some n) (Some n))) y ts z k.1 c,
        )
        | inr m ↦ let k = when_only sorts.Range (sort t) (RangeRead w p n next) y m.1 in
            elim (back (RangeRead w p n next) y ts z k.1 c) [
              | inl r ↦ (bounds p (Some n) None, ts, r.0, at_least k.0, r.1, r.2)
              | inr r ↦ (bounds p (Some n) (Some r.0), r.1, r.2, from_to k.0 r.3, r.4, r.5)
            ]
      ]

  pub range_sound : (c : Closing) (p : Place) (n : ℤ) (next : Bounds → State) (t : Token)
      (ts : Tokens) (z : Template) (y : State) → step (RangeRead c p n next) t ≡ Some y
      → Completes May y ts z → Completes May (RangeRead c p n next) (t ∷ ts) z
  range_sound w p n next t ts z y e c =
      elim (when_cases (closing w) (sort t) (next (bounds p (Some n) None)) _ y e) [
        | inl k ↦ inl (ts, one k.0, back (next (bounds p (Some n) None)) y ts z k.1 c)
        | inr m ↦ let g = signed_sound (high_read w p n next) t ts z y m.1 c in
            inr (g.0, g.1, g.3.1, g.2, closing_one g.3.2, g.3.3)
      ]

  range_of : {s : Sort} {ts ts1 rest : Tokens} {b : Bounds} → IsBounds ts b ts1 → IsOne s ts1 rest
      → IsRange s ts (Some b) rest
  range_of b (one k) = a_range b k

  pub open_sound : (c : Closing) (next : Option Bounds → State) (t : Token) (ts : Tokens)
      (z : Template) (y : State) → step (RangeOpen c next) t ≡ Some y → Completes May y ts z
      → Completes May (RangeOpen c next) (t ∷ ts) z
  open_sound w next t ts z y e c =
      elim (when_cases (closing w) (sort t) (next None) _ y e) [
        | inl k ↦ (None, ts, no_range k.0, back (next None) y ts z k.1 c)
        | inr m ↦ let g = bounds_sound w (λ b. next (Some b)) t ts z y m.1 c in
            (Some g.0, g.2, range_of g.3 g.4, g.5)
      ]

  -- ---- types

  key_field : {d : ℕ} {k c : Token} {ts ts1 ts2 rest : Tokens} {f : FullType} {fs : List Field}
      → is_key_text k ≡ true → IsThat AMark c ts ts1 → IsFull May d ts1 f ts2
      → IsFields May d ts2 fs rest → IsFields May d (k ∷ ts) (own k c f ∷ fs) rest
  key_field e (that c) f g = let q = and_parts _ _ e in own_field (at_true _ _ q.0) q.1 c f g

  name_field : {d : ℕ} {i n : Token} {ts ts1 rest : Tokens} {fs : List Field} → sort i
      ≡ sorts.Include → IsThat ATypeName n ts ts1 → IsFields May d ts1 fs rest
      → IsFields May d (i ∷ ts) (included i n ∷ fs) rest
  name_field e (that n) g = include_field e n g

  pub fields_sound : (extensible : Bool) (fs : List Field) (s : FullStack) (t : Token) (ts : Tokens)
      (z : Template) (y : State) → fields_at extensible fs s t ≡ Some y → Completes May y ts z
      → FieldsWait May extensible fs s (t ∷ ts) z
  fields_sound x fs s t ts z y e c =
      elim (that_cases (is_key_text t) _ _ y e) [
        | inl k ↦ let g = back _ y ts z k.1 c in
            (own t g.0 g.3.0 ∷ g.3.3.0, g.3.3.1, key_field k.0 g.2 g.3.2 g.3.3.2, g.3.3.3)
        | inr m ↦ elim (when_cases sorts.Include (sort t) _ _ y m.1) [
          | inl k ↦ let g = back _ y ts z k.1 c in (
            included t g.0 ∷ g.3.0,
            g.3.1,
            name_field k.0 g.2 g.3.2,
            subst
                (λ (q : List Field). HeadWaits May (recorded x q) [] s g.3.1 z)
                (append_assoc fs (included t g.0 ∷ []) g.3.0) g.3.3,
          )
          | inr m ↦ let k = when_only sorts.CloseBrace (sort t) (HasHead (recorded x fs) [] s) y m.1
              in (
                [],
                ts,
                no_field k.0,
                subst (λ (q : List Field). HeadWaits May (recorded x q) [] s ts
                    z) (sym (append-nil fs)) (back (HasHead (recorded x fs) [] s) y ts z k.1 c),
              )
        ]
      ]

  pub full_sound : (s : FullStack) (f : FullType) (t : Token) (ts : Tokens) (z : Template)
      (y : State) → has_full s f t ≡ Some y → Completes May y ts z → FullWaits May s f (t ∷ ts) z
  full_sound (StatementType h ss make) f t ts z y e c = ends_sound h ss (make f) t ts z y e c
  full_sound (InField k m x fs s) f t ts z y e c =
      let g = fields_sound x (fs ++ own k m f ∷ []) s t ts z y e c in (
        g.0,
        g.1,
        g.2,
        subst (λ (q : List Field). HeadWaits May (recorded x q) [] s g.1 z)
            (append_assoc fs (own k m f ∷ []) g.0) g.3,
      )

  pub default_sound : (f : TypeForm) (d : Option Item) (s : FullStack) (t : Token) (ts : Tokens)
      (z : Template) (y : State) → has_default f d s t ≡ Some y → Completes May y ts z
      → DefaultWaits May f d s (t ∷ ts) z
  default_sound f d s t ts z y e c =
      elim (when_cases sorts.With (sort t) (NeedItem (Out (AfterWith f d s))) _ y e) [
        | inl k ↦ let g = back (NeedItem (Out (AfterWith f d s))) y ts z k.1 c in
            (Some g.0, g.1, present k.0 g.2, g.3)
        | inr k ↦ (None, t ∷ ts, absent k.0, full_sound s (Full f d None) t ts z y k.1 c)
      ]

  pub hole_sound : (o : Hole) (i : Item) (t : Token) (ts : Tokens) (z : Template) (y : State)
      → hole_has o i t ≡ Some y → Completes May y ts z → HoleWaits May o i (t ∷ ts) z
  hole_sound (StatementItem h ss make) i t ts z y e c = ends_sound h ss (make i) t ts z y e c
  hole_sound (AfterEquals f s) i t ts z y e c = default_sound f (Some i) s t ts z y e c
  hole_sound (AfterWith f d s) i t ts z y e c = full_sound s (Full f d (Some i)) t ts z y e c

  form_sound : (f : TypeForm) (s : FullStack) (t : Token) (ts : Tokens) (z : Template) (y : State)
      → has_form f s t ≡ Some y → Completes May y ts z
      → TypeGoes May (full_holders s) (λ g r. FullWaits May s g r z) f (t ∷ ts)
  form_sound f s t ts z y e c =
      elim (when_cases sorts.Assign (sort t) (NeedItem (Out (AfterEquals f s))) _ y e) [
        | inl k ↦ let g = back (NeedItem (Out (AfterEquals f s))) y ts z k.1 c in
            (Some g.0, g.3.0, g.1, g.3.1, present k.0 g.2, g.3.2, g.3.3)
        | inr k ↦ let g = default_sound f None s t ts z y k.1 c in
            (None, g.0, t ∷ ts, g.1, absent k.0, g.2, g.3)
      ]

  with_suffix : (a : Head) (ss : List Suffix) (x : Suffix) (s : FullStack) (ts0 ts : Tokens)
      (z : Template) → ((sx : List Suffix) (rest : Tokens) → IsSuffixes ts sx rest → IsSuffixes ts0
      (x ∷ sx) rest) → HeadWaits May a (ss ++ x ∷ []) s ts z → HeadWaits May a ss s ts0 z
  with_suffix a ss x s ts0 ts z add w = (
    x ∷ w.0,
    w.1,
    add w.0 w.1 w.2,
    subst (λ (q : List Suffix). TypeGoes May (full_holders s)
        (λ g r. FullWaits May s g r z) (Formed a q) w.1) (append_assoc ss (x ∷ []) w.0) w.3,
  )

  pub head_sound : (h : Head) (ss : List Suffix) (s : FullStack) (t : Token) (ts : Tokens)
      (z : Template) (y : State) → has_head h ss s t ≡ Some y → Completes May y ts z
      → HeadWaits May h ss s (t ∷ ts) z
  head_sound a ss s t ts z y e c =
      elim (when_cases sorts.OpenBracket (sort t) _ _ y e) [
        | inl k ↦ let g = back _ y ts z k.1 c in
            with_suffix a ss (suffixes.List g.0) s (t ∷ ts) g.1 z (λ sx r m. a_list k.0 g.2 m) g.3
        | inr m1 ↦ elim (when_cases sorts.OpenBrace (sort t) _ _ y m1.1) [
          | inl k ↦ let g = back _ y ts z k.1 c in
              with_suffix a ss (suffixes.Dict g.0) s (t ∷ ts) g.1 z (λ sx r m. a_dict k.0 g.2 m) g.3
          | inr m2 ↦ elim (when_cases sorts.Star (sort t) (HasHead a (ss ++ suffixes.Link ∷ []) s) _
              y m2.1) [
                | inl k ↦ let g = back (HasHead a (ss ++ suffixes.Link ∷ []) s) y ts z k.1 c in
                    with_suffix a ss suffixes.Link s (t ∷ ts) ts z (λ sx r m. a_link k.0 m) g
                | inr m3 ↦ (
                  [],
                  t ∷ ts,
                  no_suffix (rw (
                    at_miss sorts.OpenBracket (sort t) m1.0,
                    at_miss sorts.OpenBrace
                        (sort t) m2.0,
                    at_miss sorts.Star (sort t) m3.0,
                  ) refl),
                  subst (λ (q : List Suffix). TypeGoes May (full_holders s)
                      (λ g r. FullWaits May s g r z) (Formed a q) (t ∷ ts)) (sym (append-nil ss))
                      (form_sound (Formed a ss) s t ts z y m3.1 c),
                )
              ]
        ]
      ]

  -- a Type with the head a, and what the full type goes on with
  headed : (a : Head) (s : FullStack) (ts0 ts : Tokens) (z : Template)
      → ((ss : List Suffix) (rest : Tokens) → IsSuffixes ts ss rest → IsType May (full_holders s)
      ts0 (Formed a ss) rest) → HeadWaits May a [] s ts z → Completes May (NeedFull s) ts0 z
  headed a s ts0 ts z type_of w =
      (Full (Formed a w.0) w.3.0 w.3.1, w.3.3, a_full (type_of w.0 w.1 w.2) w.3.4 w.3.5, w.3.6)

  extensible_type : {d : ℕ} {t o : Token} {ts ts1 ts2 rest : Tokens} {fs : List Field}
      {ss : List Suffix} → May (suc d) (t ∷ ts) → May (suc (suc d)) (t ∷ ts) → sort t
      ≡ sorts.Extensible → IsThat AnOpenBrace o ts ts1 → IsFields May (suc (suc d)) ts1 fs ts2
      → IsSuffixes ts2 ss rest
      → IsType May d (t ∷ ts) (Formed (recorded true fs) ss) rest
  extensible_type m1 m2 e (that o) f s = an_extensible m1 m2 e (at_true _ _ o) f s

  choice_type : {d : ℕ} {t o x : Token} {ts ts1 ts2 ts3 rest : Tokens} {xs : List (List ℕ)}
      {ss : List Suffix} → May (suc d) (t ∷ ts) → sort t ≡ sorts.Choice → IsThat AnOpen o ts ts1
      → IsThat AText x ts1 ts2 → IsTexts ts2 xs ts3 → IsSuffixes ts3 ss rest
      → IsType May d (t ∷ ts) (Formed (types.Choice (x.value ∷ xs)) ss) rest
  choice_type m e (that o) (that x) h s = a_choice m e (at_true _ _ o) (at_true _ _ x) h s

  pub full_at_sound : (t : Token) (s : FullStack) (ts : Tokens) (z : Template) (y : State)
      → full_at t s ≡ Some y → Completes May y ts z → FullMay May (full_holders s) t ts
      → Completes May (NeedFull s) (t ∷ ts) z
  full_at_sound t s ts z y e c allowed =
      elim (when_cases sorts.OpenBrace (sort t) (FieldsOpen false [] s) _ y e) [
        | inl k ↦ let g = back (FieldsOpen false [] s) y ts z k.1 c in
            headed (recorded false g.0) s (t ∷ ts) g.1 z (λ ss r m. a_record allowed.0
            (allowed.1 (rw k.0 refl)) k.0 g.2 m) g.3
        | inr m ↦ elim (when_cases sorts.Extensible (sort t) _ _ y m.1) [
          | inl k ↦ let g = back _ y ts z k.1 c in
              headed (recorded true g.3.0) s (t ∷ ts) g.3.1 z
              (λ ss r m. extensible_type allowed.0 (allowed.1 (rw k.0 refl)) k.0 g.2 g.3.2 m) g.3.3
          | inr m ↦ elim (when_cases sorts.Choice (sort t) _ _ y m.1) [
            | inl k ↦ let g = back _ y ts z k.1 c in
                headed (types.Choice (g.3.0.value ∷ g.3.3.0)) s (t ∷ ts) g.3.3.1 z
                (λ ss r m. choice_type allowed.0 k.0 g.2 g.3.2 g.3.3.2 m) g.3.3.3
            | inr m ↦ let k = that_only (is_type_name (sort t)) (NameRead t s) y m.1 in
                let g = back (NameRead t s) y ts z k.1 c in
                headed (named t g.0) s (t ∷ ts) g.1 z (λ ss r m. a_named allowed.0 k.0 g.2 m)
                g.3
          ]
        ]
      ]

  bounded_of : {o : Token} {ts ts1 rest : Tokens} {b : Bounds} → sort o ≡ sorts.Open
      → IsBounds ts b ts1 → IsOne sorts.Close ts1 rest → IsBounded (o ∷ ts) (Some b) rest
  bounded_of e b (one k) = bounded e b k

  pub name_sound : (n : Token) (s : FullStack) (t : Token) (ts : Tokens) (z : Template) (y : State)
      → name_then n s t ≡ Some y → Completes May y ts z → Completes May (NameRead n s) (t ∷ ts) z
  name_sound n s t ts z y e c =
      elim (when_cases sorts.Open (sort t) _ _ y e) [
        | inl k ↦ let g = back _ y ts z k.1 c in (Some g.0, g.2, bounded_of k.0 g.3 g.4, g.5)
        | inr k ↦ (None, t ∷ ts, unbounded k.0, head_sound (named n None) [] s t ts z y k.1 c)
      ]

  text_more : {c x : Token} {ts ts1 rest : Tokens} {xs : List (List ℕ)} → sort c ≡ sorts.Comma
      → IsThat AText x ts ts1 → IsTexts ts1 xs rest → IsTexts (c ∷ ts) (x.value ∷ xs) rest
  text_more e (that x) m = a_text e (at_true _ _ x) m

  pub texts_sound : (xs : List (List ℕ)) (s : FullStack) (t : Token) (ts : Tokens) (z : Template)
      (y : State) → texts_then xs s t ≡ Some y → Completes May y ts z
      → Completes May (TextsOpen xs s) (t ∷ ts) z
  texts_sound xs s t ts z y e c =
      elim (when_cases sorts.Comma (sort t) _ _ y e) [
        | inl k ↦ let g = back _ y ts z k.1 c in (
          g.0.value ∷ g.3.0,
          g.3.1,
          text_more k.0 g.2 g.3.2,
          subst
              (λ (q : List (List ℕ)). HeadWaits May (types.Choice q) [] s g.3.1 z)
              (append_assoc xs (g.0.value ∷ []) g.3.0) g.3.3,
        )
        | inr m ↦ let k = when_only sorts.Close (sort t) (HasHead (types.Choice xs) [] s) y m.1 in (
          [],
          ts,
          no_text k.0,
          subst (λ (q : List (List ℕ)). HeadWaits May (types.Choice q) [] s
              ts z) (sym (append-nil xs)) (back (HasHead (types.Choice xs) [] s) y ts z k.1 c),
        )
      ]
