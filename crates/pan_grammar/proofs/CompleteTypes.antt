-- What completes a state with a token completes the state after it: statements and types.
use Rattle.std.proofs.Common.{◌≡◌, ◌≢◌, ℕ, suc, ℤ, Bool, true, false, List, [], ◌∷◌, ◌++◌, Option, Some, None, refl, sym, subst, append_assoc, ◌∙◌, ◌⊎◌, inl, inr}
use Rattle.std.proofs.lemmas.Bool.{and_from, or_parts}
use Rattle.std.proofs.lemmas.List.{append-nil}
use Rattle.pan_ast.specs.declared.sort.Sort.{Sort}
use Rattle.pan_ast.specs.declared.sort.Sort.TheVariants as sorts
use Rattle.pan_ast.specs.declared.token.Token.{Token}
use Rattle.pan_ast.specs.declared.place.Place.{Place}
use Rattle.pan_ast.specs.declared.template.TemplateKind.{TemplateKind}
use Rattle.pan_ast.specs.declared.template.TemplateKind.TheVariants as kinds
use Rattle.pan_ast.specs.declared.types.Bounds.{Bounds}
use Rattle.pan_ast.specs.declared.types.Suffix.{Suffix}
use Rattle.pan_ast.specs.declared.types.Suffix.TheVariants as suffixes
use Rattle.pan_ast.specs.Sorts.{sort, at, is_type_name}
use Rattle.pan_ast.specs.Syntax.{Item}
use Rattle.pan_ast.specs.Types.{FullType, Full, TypeForm, Formed, Head, Field}
use Rattle.pan_ast.specs.Types as types
use Rattle.pan_ast.specs.Templates.{Statement, Template}
use Rattle.pan_ast.specs.Templates as statements
use Rattle.pan_grammar.specs.Grammar.{Tokens, number, IsItem}
use Rattle.pan_grammar.specs.Types.{bounds, named, recorded, own, included, IsSigned, a_number, a_negative, IsHigh, exactly, at_least, from_to, IsBounds, from_low, at_most, IsRange, no_range, a_range, IsBounded, unbounded, bounded, IsSuffixes, no_suffix, a_list, a_dict, a_link, IsTexts, no_text, a_text, IsOption, absent, present, IsFull, a_full, a_named, a_record, an_extensible, a_choice, IsFields, no_field, own_field, include_field}
use Rattle.pan_grammar.specs.Templates.{stated, kind_of, Header, template, IsSetting, of_path, of_variable, IsIncluded, text_included, block_included, IsStatement, a_setting, a_final, a_function, a_type, a_bind, a_valid, an_include, a_prefix, IsStatements, no_statement, a_statement, IsNamed, is_named, IsTemplate, ordinary, of_kind}
use Rattle.pan_grammar.specs.States.{FullStack, StatementType, InField, Hole, StatementItem, AfterEquals, AfterWith, Out, Closing, closing, Wanted, fits, State, Takes, Statements, FinalRead, IncludeRead, NameRead, TextsOpen, FieldsOpen, HasHead, HasLow, RangeRead, RangeOpen, NeedItem, Done}
use Rattle.pan_grammar.specs.Machine.{when, path_read, variable_read, function_read, type_read, bind_read, valid_read, prefix_read, setting_at, statements_at, text_included_read, block_included_read, included_at, name_wanted, kind_read, start_at, minus_read, signed_at, high_wanted, high_read, bounds_at, key_read, include_read, is_key_text, fields_at, has_full, has_default, has_form, list_open, dict_open, has_head, extensible_read, text_wanted, choice_read, full_at, bounds_wanted, name_then, texts_then, hole_has, step}
use Rattle.pan_grammar.specs.Depths.{full_holders}
use Rattle.pan_grammar.specs.Waiting.{IsOne, one, IsThat, that, StatementsWait, StatementEnds, TypeGoes, FullWaits, HeadWaits, FieldsWait, DefaultWaits, HoleWaits, Completes}
use Rattle.pan_grammar.proofs.Tests.{at_is, differs, taken, passed, hit, miss}
use Rattle.pan_grammar.proofs.Follow.{item_end, number_start, bounds_start, closing_apart, number_bounds}

pub one_cases : {s : Sort} {t : Token} {ts r : Tokens} (P : Tokens → Type 0) → IsOne s (t ∷ ts) r
    → P r → (sort t ≡ s) × P ts
one_cases P (one e) p = (e, p)

pub wanted_cases : {w : Wanted} {k t : Token} {ts r : Tokens} (P : Token → Tokens → Type 0)
    → IsThat w k (t ∷ ts) r → P k r → (fits w t ≡ true) × P t ts
wanted_cases P (that e) p = (e, p)

signed_start : {t : Token} {ts r : Tokens} {n : ℤ} → IsSigned (t ∷ ts) n r → number_start (sort t)
    ≡ true
signed_start (a_number e) = rw e refl
signed_start (a_negative e k) = rw e refl

bounds_first : {t : Token} {ts r : Tokens} {b : Bounds} → IsBounds (t ∷ ts) b r
    → bounds_start (sort t) ≡ true
bounds_first {t = t} (from_low s h) = number_bounds (sort t) (signed_start s)
bounds_first (at_most e s) = rw e refl

module _ (May : ℕ → Tokens → Type 0) where
  -- where a token leads: to a state that the rest completes
  abbrev pub Leads : Option State → Tokens → Template → Type 0
  Leads o ts z = (y : State) × (o ≡ Some y) × Completes May y ts z

  pub takes_complete : (w : Wanted) (next : Token → State) (t : Token) (ts : Tokens) (z : Template)
      → Completes May (Takes w next) (t ∷ ts) z → Leads (step (Takes w next) t) ts z
  takes_complete w next t ts z c = let h =
      wanted_cases (λ k r. Completes May (next k) r z) c.2 c.3 in
      (next t, taken (fits w t) (next t) None h.0, h.1)

  -- ---- statements

  ends_complete : (h : Header) (ss : List Statement) (x : Statement) (t : Token) (ts : Tokens)
      (z : Template) → StatementEnds May h ss x (t ∷ ts) z
      → Leads (when sorts.Semicolon (sort t) (Statements h (ss ++ x ∷ [])) None) ts z
  ends_complete h ss x t ts z w = let k =
      one_cases (λ r. StatementsWait May h (ss ++ x ∷ []) r z) w.1 w.2 in (
        Statements h (ss ++ x ∷ []),
        hit sorts.Semicolon (sort t) (Statements h (ss ++ x ∷ [])) None
            k.0,
        k.1,
      )

  pub setting_leads : (p : Place) (last : Bool) (h : Header) (ss : List Statement) (t : Token)
      (ts : Tokens) (z : Template) (x : Statement) (rest : Tokens)
      → IsSetting May p last (t ∷ ts) x rest → StatementsWait May h (ss ++ x ∷ []) rest z
      → Leads (setting_at p last h ss t) ts z
  setting_leads p last h ss t ts z x rest (of_path {a = a} {s = s} {ts = ts0} {i = i} k ka it ks)
      w = (
        path_read p last h ss t,
        rw k refl,
        (
          a,
          ts0,
          that ka,
          (i, s ∷ rest, it, (rest, one ks, w)),
        ),
      )
  setting_leads p last h ss t ts z x rest (of_variable {w = v} {a = a} {s = s} {ts = ts0} {i = i} k
      kv ka it ks) w = (
        variable_read p last h ss,
        rw k refl,
        (v, a ∷ ts0, that kv, (a, ts0, that ka, (i, s ∷ rest, it, (rest, one ks, w)))),
      )

  statement_leads : (h : Header) (ss : List Statement) (t : Token) (ts : Tokens) (z : Template)
      (x : Statement) (rest : Tokens) → IsStatement May (t ∷ ts) x rest
      → StatementsWait May h (ss ++ x ∷ []) rest z → Leads (statements_at h ss t) ts z
  statement_leads h ss t ts z x rest (a_setting
      (of_path {a = a} {s = s} {ts = ts0} {i = i} k ka it ks)) w = (
        path_read t.place false h ss t,
        rw k refl,
        (
          a,
          ts0,
          that ka,
          (i, s ∷ rest, it, (rest, one ks, w)),
        ),
      )
  statement_leads h ss t ts z x rest (a_setting
      (of_variable {w = v} {a = a} {s = s} {ts = ts0} {i = i} k kv ka it ks)) w = (
        variable_read t.place false h ss,
        rw k refl,
        (v, a ∷ ts0, that kv, (a, ts0, that ka, (i, s ∷ rest, it, (rest, one ks, w)))),
      )
  statement_leads h ss t ts z x rest (a_final k s) w =
      (FinalRead t.place h ss, rw k refl, (x, rest, s, w))
  statement_leads h ss t ts z x rest (a_function {w = v} {e = e} {s = s} {ts = ts0} {i = i} k kv ke
      it ks) w = (
        function_read t.place h ss,
        rw k refl,
        (v, e ∷ ts0, that kv, (e, ts0, that (at_is _ _ ke), (i, s ∷ rest, it, (rest, one ks, w)))),
      )
  statement_leads h ss t ts z x rest (a_type {w = v} {e = e} {s = s} {ts = ts0} {f = f} k kv ke it
      ks) w = (
        type_read t.place h ss,
        rw k refl,
        (
          v,
          e ∷ ts0,
          that kv,
          (e, ts0, that (at_is _ _ ke), (f, s ∷ rest, it, (rest, one ks, w))),
        ),
      )
  statement_leads h ss t ts z x rest (a_bind {x = v} {e = e} {s = s} {ts = ts0} {f = f} k kv ke it
      ks) w = (
        bind_read t.place h ss,
        rw k refl,
        (
          v,
          e ∷ ts0,
          that (at_is _ _ kv),
          (e, ts0, that (at_is _ _ ke), (f, s ∷ rest, it, (rest, one ks, w))),
        ),
      )
  statement_leads h ss t ts z x rest (a_valid {x = v} {e = e} {s = s} {ts = ts0} {i = i} k kv ke it
      ks) w = (
        valid_read t.place h ss,
        rw k refl,
        (
          v,
          e ∷ ts0,
          that (at_is _ _ kv),
          (e, ts0, that (at_is _ _ ke), (i, s ∷ rest, it, (rest, one ks, w))),
        ),
      )
  statement_leads h ss t ts z x rest (an_include {s = s} {i = i} k n ks) w =
      (IncludeRead t.place h ss, rw k refl, (i, s ∷ rest, n, (rest, one ks, w)))
  statement_leads h ss t ts z x rest (a_prefix {x = v} {s = s} k kv ks) w = (
    prefix_read t.place h ss,
    rw k refl,
    (
      v,
      s ∷ rest,
      that (at_is _ _ kv),
      (s, rest, that (at_is _ _ ks), w),
    ),
  )

  statements_leads : (h : Header) (ss : List Statement) (t : Token) (ts : Tokens) (z : Template)
      (xs : List Statement) → IsStatements May (t ∷ ts) xs → template h (ss ++ xs) ≡ z
      → Leads (statements_at h ss t) ts z
  statements_leads h ss t ts z xs (no_statement e) q = (
    Done (template h ss),
    rw e refl,
    (
      refl,
      subst (λ (x : List Statement). template h x ≡ z)
          (append-nil ss) q,
    ),
  )
  statements_leads h ss t ts z xs (a_statement {rest = rest} {x = x} {xs = ys} s m) q =
      statement_leads h ss t ts z x rest s (
        ys,
        m,
        subst (λ (x : List Statement). template h x ≡ z)
            (sym (append_assoc ss (x ∷ []) ys)) q,
      )

  pub statements_complete : (h : Header) (ss : List Statement) (t : Token) (ts : Tokens)
      (z : Template) → StatementsWait May h ss (t ∷ ts) z → Leads (statements_at h ss t) ts z
  statements_complete h ss t ts z w = statements_leads h ss t ts z w.0 w.1 w.2

  pub included_leads : (p : Place) (h : Header) (ss : List Statement) (t : Token) (ts : Tokens)
      (z : Template) (i : Item) (ts1 : Tokens) → IsIncluded May (t ∷ ts) i ts1
      → StatementEnds May h ss (stated p (statements.Include i)) ts1 z
      → Leads (included_at p h ss t) ts z
  included_leads p h ss t ts z i ts1 (text_included m k) (rest, one {t = s} ks, w) =
      (text_included_read p h ss t, rw k refl, (s, rest, that (at_is _ _ ks), w))
  included_leads p h ss t ts z i ts1 (block_included {is = is} m k b) w =
      (block_included_read p h ss t, rw k refl, (is, ts1, b, w))

  named_leads : {kind : TemplateKind} {p : Place} {ts : Tokens} {z : Template}
      → IsNamed May kind p ts z → Completes May (name_wanted kind p) ts z
  named_leads (is_named {n = n} {s = s} {ts = ts} {xs = xs} k kn ks m) =
      (n, s ∷ ts, that (and_from _ _ (at_is _ _ k) kn), (s, ts, that (at_is _ _ ks), (xs, m, refl)))

  pub start_complete : (t : Token) (ts : Tokens) (z : Template) → IsTemplate May (t ∷ ts) z
      → Leads (start_at t) ts z
  start_complete t ts z (ordinary k n) =
      (name_wanted kinds.Ordinary t.place, rw k refl, named_leads n)
  start_complete t ts z (of_kind {t = t1} {ts = ts1} {kind = kind} e k n) = (
    kind_read t.place kind,
    miss sorts.Template (sort t) _ _ (no_template (sort t) e)
        ∙ rw e refl,
    (t1, ts1, that (at_is _ _ k), named_leads n),
  ) where
    no_template : (s : Sort) → kind_of s ≡ Some kind → s ≢ sorts.Template
    no_template s e q = let k : kind_of sorts.Template ≡ Some kind = rw q at e in absurd cc

  -- ---- Bounds

  pub signed_leads : (next : ℤ → State) (t : Token) (ts : Tokens) (z : Template) (n : ℤ)
      (rest : Tokens) → IsSigned (t ∷ ts) n rest → Completes May (next n) rest z
      → Leads (signed_at next t) ts z
  signed_leads next t ts z n rest (a_number k) w = (next (number t), rw k refl, w)
  signed_leads next t ts z n rest (a_negative {t = v} k kv) w =
      (minus_read next, rw k refl, (v, rest, that (at_is _ _ kv), w))

  pub bounds_leads : (c : Closing) (next : Bounds → State) (t : Token) (ts : Tokens) (z : Template)
      (b : Bounds) (ts1 rest : Tokens) → IsBounds (t ∷ ts) b ts1 → IsOne (closing c) ts1 rest
      → Completes May (next b) rest z → Leads (bounds_at c next t) ts z
  bounds_leads c next t ts z b ts1 rest (from_low {ts1 = r1} {n = n} s h) o w =
      let g = signed_leads (λ n. HasLow c t.place n next) t ts z n r1 s (b, ts1, rest, h, o, w) in (
        g.0,
        miss sorts.Range (sort t) (high_wanted c t.place next) _
            (differs number_start (sort t) sorts.Range (signed_start s) refl) ∙ g.1,
        g.2,
      )
  bounds_leads c next t ts z b ts1 rest (at_most {n = n} k s) (one {t = v} kv) w =
      (high_wanted c t.place next, rw k refl, (n, v ∷ rest, s, (v, rest, that (at_is _ _ kv), w)))

  not_closing : (c : Closing) (s : Sort) → bounds_start s ≡ true → s ≢ closing c
  not_closing c s e = differs bounds_start s (closing c) e (closing_apart c)

  low_leads : (c : Closing) (p : Place) (n : ℤ) (next : Bounds → State) (t : Token) (ts : Tokens)
      (z : Template) (b : Bounds) (ts1 rest : Tokens) → IsHigh p n (t ∷ ts) b ts1
      → IsOne (closing c) ts1 rest → Completes May (next b) rest z
      → Leads (step (HasLow c p n next) t) ts z
  low_leads c p n next t ts z b ts1 rest exactly (one k) w =
      (next (bounds p (Some n) (Some n)), hit (closing c) (sort t) _ _ k, w)
  low_leads c p n next t ts z b ts1 rest (at_least k) o w = (
    RangeRead c p n next,
    miss (closing c) (sort t) (next (bounds p (Some n) (Some n)))
        (when sorts.Range (sort t) (RangeRead c p n next) None) (not_closing c (sort t) (rw k refl))
        ∙ hit sorts.Range (sort t) _ _ k,
    inl (rest, o, w),
  )
  low_leads c p n next t ts z b ts1 rest (from_to {m = m} k s) o w = (
    RangeRead c p n next,
    miss (closing c) (sort t) (next (bounds p (Some n) (Some n)))
        (when sorts.Range (sort t) (RangeRead c p n next) None) (not_closing c (sort t) (rw k refl))
        ∙ hit sorts.Range (sort t) _ _ k,
    inr (m, ts1, rest, s, o, w),
  )

  pub low_complete : (c : Closing) (p : Place) (n : ℤ) (next : Bounds → State) (t : Token)
      (ts : Tokens) (z : Template) → Completes May (HasLow c p n next) (t ∷ ts) z
      → Leads (step (HasLow c p n next) t) ts z
  low_complete c p n next t ts z w = low_leads c p n next t ts z w.0 w.1 w.2 w.3 w.4 w.5

  pub range_complete : (c : Closing) (p : Place) (n : ℤ) (next : Bounds → State) (t : Token)
      (ts : Tokens) (z : Template) → Completes May (RangeRead c p n next) (t ∷ ts) z
      → Leads (step (RangeRead c p n next) t) ts z
  range_complete c p n next t ts z w =
      elim w [
        | inl r ↦ let h = one_cases (λ q. Completes May (next (bounds p (Some n) None)) q z) r.1
            r.2 in (next (bounds p (Some n) None), hit (closing c) (sort t) _ _ h.0, h.1)
        | inr r ↦ let g = signed_leads (high_read c p n next) t ts z r.0 r.1 r.3
            (closed_by r.0 r.4 r.5) in (
              g.0,
              miss (closing c) (sort t) (next (bounds p (Some n) None))
                  (signed_at (high_read c p n next) t) (not_closing c (sort t)
                  (number_bounds (sort t) (signed_start r.3))) ∙ g.1,
              g.2,
            )
      ] where
        closed_by : (m : ℤ) {ts1 rest : Tokens} → IsOne (closing c) ts1 rest
            → Completes May (next (bounds p (Some n) (Some m))) rest z
            → Completes May (high_read c p n next m) ts1 z
        closed_by m {rest = rest} (one {t = v} k) q = (v, rest, that (at_is _ _ k), q)

  open_leads : (c : Closing) (next : Option Bounds → State) (t : Token) (ts : Tokens) (z : Template)
      (b : Option Bounds) (rest : Tokens) → IsRange (closing c) (t ∷ ts) b rest
      → Completes May (next b) rest z → Leads (step (RangeOpen c next) t) ts z
  open_leads c next t ts z b rest (no_range k) w = (next None, hit (closing c) (sort t) _ _ k, w)
  open_leads c next t ts z b rest (a_range {k = v} {b = q} s k) w =
      let g = bounds_leads c (λ x. next (Some x)) t ts z q (v ∷ rest) rest s (one k) w in (
        g.0,
        miss (closing c) (sort t) (next None) (bounds_at c (λ x. next (Some x)) t)
            (not_closing c (sort t) (bounds_first s)) ∙ g.1,
        g.2,
      )

  pub open_complete : (c : Closing) (next : Option Bounds → State) (t : Token) (ts : Tokens)
      (z : Template) → Completes May (RangeOpen c next) (t ∷ ts) z
      → Leads (step (RangeOpen c next) t) ts z
  open_complete c next t ts z w = open_leads c next t ts z w.0 w.1 w.2 w.3

  -- ---- types

  fields_leads : (x : Bool) (fs : List Field) (s : FullStack) (t : Token) (ts : Tokens)
      (z : Template) (gs : List Field) (ts1 : Tokens)
      → IsFields May (suc (suc (full_holders s))) (t ∷ ts) gs ts1
      → HeadWaits May (recorded x (fs ++ gs)) [] s ts1 z → Leads (fields_at x fs s t) ts z
  fields_leads x fs s t ts z gs ts1 (no_field k) w = (
    HasHead (recorded x fs) [] s,
    rw k refl,
    subst
        (λ (q : List Field). HeadWaits May (recorded x q) [] s ts1 z) (append-nil fs) w,
  )
  fields_leads x fs s t ts z gs ts1 (own_field {c = c} {ts = ts0} {ts1 = r} {f = f} {fs = gs'} k kk
      kc g m) w = (
        key_read t x fs s,
        taken (is_key_text t) _ _ (and_from _ _ (at_is _ _ k) kk),
        (c, ts0, that kc, (f, r, g, (gs', ts1, m, w))),
      )
  fields_leads x fs s t ts z gs ts1 (include_field {n = n} {ts = ts0} {fs = gs'} k kn m) w = (
    include_read t x fs s,
    rw k refl,
    (
      n,
      ts0,
      that kn,
      (
        gs',
        ts1,
        m,
        subst (λ (q : List Field). HeadWaits May (recorded x q) [] s ts1 z)
            (sym (append_assoc fs (included t n ∷ []) gs')) w,
      ),
    ),
  )

  pub fields_complete : (x : Bool) (fs : List Field) (s : FullStack) (t : Token) (ts : Tokens)
      (z : Template) → FieldsWait May x fs s (t ∷ ts) z → Leads (fields_at x fs s t) ts z
  fields_complete x fs s t ts z w = fields_leads x fs s t ts z w.0 w.1 w.2 w.3

  pub full_complete : (s : FullStack) (f : FullType) (t : Token) (ts : Tokens) (z : Template)
      → FullWaits May s f (t ∷ ts) z → Leads (has_full s f t) ts z
  full_complete (StatementType h ss make) f t ts z w = ends_complete h ss (make f) t ts z w
  full_complete (InField k c x fs s) f t ts z w =
      fields_complete x (fs ++ own k c f ∷ []) s t ts z (
        w.0,
        w.1,
        w.2,
        subst (λ (q : List Field). HeadWaits May (recorded x q) [] s w.1 z)
            (sym (append_assoc fs (own k c f ∷ []) w.0)) w.3,
      )

  option_cases : {s : Sort} {d : ℕ} {t : Token} {ts r : Tokens} {e : Option Item}
      (P : Option Item → Tokens → Type 0) → IsOption May s d (t ∷ ts) e r → P e r
      → ((sort t ≢ s) × P None (t ∷ ts)) ⊎ ((i : Item) × (sort t ≡ s) × IsItem May d ts i r
      × P (Some i) r)
  option_cases P (absent n) p = inl (n, p)
  option_cases P (present {i = i} e it) p = inr (i, e, it, p)

  pub default_complete : (f : TypeForm) (d : Option Item) (s : FullStack) (t : Token) (ts : Tokens)
      (z : Template) → DefaultWaits May f d s (t ∷ ts) z → Leads (has_default f d s t) ts z
  default_complete f d s t ts z w =
      elim (option_cases (λ e r. FullWaits May s (Full f d e) r z) w.2 w.3) [
        | inl h ↦ let g = full_complete s (Full f d None) t ts z h.1 in (
          g.0,
          miss sorts.With (sort t) (NeedItem (Out (AfterWith f d s)))
              (has_full s (Full f d None) t) h.0 ∙ g.1,
          g.2,
        )
        | inr h ↦ (
          NeedItem (Out (AfterWith f d s)),
          hit sorts.With (sort t) _ _ h.1,
          (h.0, w.1, h.2, h.3),
        )
      ]

  pub hole_complete : (o : Hole) (i : Item) (t : Token) (ts : Tokens) (z : Template)
      → HoleWaits May o i (t ∷ ts) z → Leads (hole_has o i t) ts z
  hole_complete (StatementItem h ss make) i t ts z w = ends_complete h ss (make i) t ts z w
  hole_complete (AfterEquals f s) i t ts z w = default_complete f (Some i) s t ts z w
  hole_complete (AfterWith f d s) i t ts z w = full_complete s (Full f d (Some i)) t ts z w

  form_complete : (f : TypeForm) (s : FullStack) (t : Token) (ts : Tokens) (z : Template)
      → TypeGoes May (full_holders s) (λ g r. FullWaits May s g r z) f (t ∷ ts)
      → Leads (has_form f s t) ts z
  form_complete f s t ts z w =
      elim (option_cases (λ e r. DefaultWaits May f e s r z) w.4 (w.1, w.3, w.5, w.6)) [
        | inl h ↦ let g = default_complete f None s t ts z h.1 in (
          g.0,
          miss sorts.Assign (sort t) (NeedItem (Out (AfterEquals f s)))
              (has_default f None s t) h.0 ∙ g.1,
          g.2,
        )
        | inr h ↦ (
          NeedItem (Out (AfterEquals f s)),
          hit sorts.Assign (sort t) _ _ h.1,
          (h.0, w.2, h.2, h.3),
        )
      ]

  -- a suffix more was read
  suffix_read : (a : Head) (ss : List Suffix) (x : Suffix) (s : FullStack) (ts : Tokens)
      (z : Template) (sx : List Suffix) (ts1 : Tokens) → IsSuffixes ts sx ts1
      → TypeGoes May (full_holders s) (λ g r. FullWaits May s g r z) (Formed a (ss ++ x ∷ sx)) ts1
      → HeadWaits May a (ss ++ x ∷ []) s ts z
  suffix_read a ss x s ts z sx ts1 m w = (
    sx,
    ts1,
    m,
    subst (λ (q : List Suffix). TypeGoes May (full_holders s)
        (λ g r. FullWaits May s g r z) (Formed a q) ts1) (sym (append_assoc ss (x ∷ []) sx)) w,
  )

  head_leads : (a : Head) (ss : List Suffix) (s : FullStack) (t : Token) (ts : Tokens)
      (z : Template) (sx : List Suffix) (ts1 : Tokens) → IsSuffixes (t ∷ ts) sx ts1
      → TypeGoes May (full_holders s) (λ g r. FullWaits May s g r z) (Formed a (ss ++ sx)) ts1
      → Leads (has_head a ss s t) ts z
  head_leads a ss s t ts z sx ts1 (no_suffix n) w =
      let q = or_parts _ _ n in
      let r = or_parts _ _ q.1 in
      let g = form_complete (Formed a ss) s t ts z (subst
      (λ (q : List Suffix). TypeGoes May (full_holders s) (λ g r. FullWaits May s g r z)
      (Formed a q) (t ∷ ts)) (append-nil ss) w) in (
        g.0,
        passed (at sorts.OpenBracket (sort t)) _ _ q.0
            ∙ (passed (at sorts.OpenBrace (sort t)) _ _ r.0
            ∙ (passed (at sorts.Star (sort t)) _ _ r.1 ∙ g.1)),
        g.2,
      )
  head_leads a ss s t ts z sx ts1 (a_list {ts1 = r} {b = b} {ss = sy} k h m) w =
      (list_open a ss s, rw k refl, (b, r, h, suffix_read a ss (suffixes.List b) s r z sy ts1 m w))
  head_leads a ss s t ts z sx ts1 (a_dict {ts1 = r} {b = b} {ss = sy} k h m) w =
      (dict_open a ss s, rw k refl, (b, r, h, suffix_read a ss (suffixes.Dict b) s r z sy ts1 m w))
  head_leads a ss s t ts z sx ts1 (a_link {ss = sy} k m) w = (
    HasHead a (ss ++ suffixes.Link ∷ []) s,
    rw k refl,
    suffix_read a ss suffixes.Link s ts z sy
        ts1 m w,
  )

  pub head_complete : (a : Head) (ss : List Suffix) (s : FullStack) (t : Token) (ts : Tokens)
      (z : Template) → HeadWaits May a ss s (t ∷ ts) z → Leads (has_head a ss s t) ts z
  head_complete a ss s t ts z w = head_leads a ss s t ts z w.0 w.1 w.2 w.3

  pub full_leads : (s : FullStack) (t : Token) (ts : Tokens) (z : Template) (f : FullType)
      (rest : Tokens) → IsFull May (full_holders s) (t ∷ ts) f rest → FullWaits May s f rest z
      → Leads (full_at t s) ts z
  full_leads s t ts z f rest (a_full {ts1 = r1} {ts2 = r2} {e = e} {w = w}
      (a_named {ts1 = r0} {b = b} {ss = ss} m k kb sx) d v) q = (
        NameRead t s,
        miss sorts.OpenBrace (sort t) _ _ (differs is_type_name (sort t) sorts.OpenBrace k refl)
            ∙ (miss sorts.Extensible (sort t) _ _ (differs is_type_name (sort t) sorts.Extensible k
            refl) ∙ (miss sorts.Choice (sort t) _ _ (differs is_type_name (sort t) sorts.Choice k
            refl)
            ∙ taken (is_type_name (sort t)) _ _ k)),
        (b, r0, kb, (ss, r1, sx, (e, w, r2, rest, d, v, q))),
      )
  full_leads s t ts z f rest (a_full {ts1 = r1} {ts2 = r2} {e = e} {w = w}
      (a_record {ts1 = r0} {fs = fs} {ss = ss} m n k g sx) d v) q =
      (FieldsOpen false [] s, rw k refl, (fs, r0, g, (ss, r1, sx, (e, w, r2, rest, d, v, q))))
  full_leads s t ts z f rest (a_full {ts1 = r1} {ts2 = r2} {e = e} {w = w}
      (an_extensible {o = o} {ts = ts0} {ts1 = r0} {fs = fs} {ss = ss} m n k ko g sx) d v) q = (
        extensible_read s,
        rw k refl,
        (
          o,
          ts0,
          that (at_is _ _ ko),
          (fs, r0, g, (ss, r1, sx, (e, w, r2, rest, d, v, q))),
        ),
      )
  full_leads s t ts z f rest (a_full {ts1 = r1} {ts2 = r2} {e = e} {w = w}
      (a_choice {o = o} {x = x} {ts = ts0} {ts1 = r0} {xs = xs} {ss = ss} m k ko kx g sx) d v) q = (
        choice_read s,
        rw k refl,
        (
          o,
          x ∷ ts0,
          that (at_is _ _ ko),
          (x, ts0, that (at_is _ _ kx), (xs, r0, g, (ss, r1, sx, (e, w, r2, rest, d, v, q)))),
        ),
      )

  pub name_leads : (n : Token) (s : FullStack) (t : Token) (ts : Tokens) (z : Template)
      (b : Option Bounds) (ts1 : Tokens) → IsBounded (t ∷ ts) b ts1
      → HeadWaits May (named n b) [] s ts1 z → Leads (name_then n s t) ts z
  name_leads n s t ts z b ts1 (unbounded k) w = let g =
      head_complete (named n None) [] s t ts z w in
      (g.0, miss sorts.Open (sort t) (bounds_wanted n s) _ k ∙ g.1, g.2)
  name_leads n s t ts z b ts1 (bounded {k = v} {b = q} k h kv) w =
      (bounds_wanted n s, hit sorts.Open (sort t) _ _ k, (q, v ∷ ts1, ts1, h, one kv, w))

  texts_leads : (xs : List (List ℕ)) (s : FullStack) (t : Token) (ts : Tokens) (z : Template)
      (ys : List (List ℕ)) (ts1 : Tokens) → IsTexts (t ∷ ts) ys ts1
      → HeadWaits May (types.Choice (xs ++ ys)) [] s ts1 z → Leads (texts_then xs s t) ts z
  texts_leads xs s t ts z ys ts1 (no_text k) w = (
    HasHead (types.Choice xs) [] s,
    rw k refl,
    subst
        (λ (q : List (List ℕ)). HeadWaits May (types.Choice q) [] s ts1 z) (append-nil xs) w,
  )
  texts_leads xs s t ts z ys ts1 (a_text {t = x} {ts = ts0} {xs = ys'} k kx m) w = (
    text_wanted xs s,
    rw k refl,
    (
      x,
      ts0,
      that (at_is _ _ kx),
      (
        ys',
        ts1,
        m,
        subst (λ (q : List (List ℕ)). HeadWaits May (types.Choice q) [] s ts1 z)
            (sym (append_assoc xs (x.value ∷ []) ys')) w,
      ),
    ),
  )

  pub texts_complete : (xs : List (List ℕ)) (s : FullStack) (t : Token) (ts : Tokens) (z : Template)
      → Completes May (TextsOpen xs s) (t ∷ ts) z → Leads (texts_then xs s t) ts z
  texts_complete xs s t ts z w = texts_leads xs s t ts z w.0 w.1 w.2 w.3

  -- ---- what can stand after an item of a type or a statement

  fields_follow : {d : ℕ} {t : Token} {ts r : Tokens} {fs : List Field}
      → IsFields May d (t ∷ ts) fs r → item_end (sort t) ≡ true
  fields_follow (no_field e) = rw e refl
  fields_follow (own_field e k c f g) = rw e refl
  fields_follow (include_field e n g) = rw e refl

  full_follow : (s : FullStack) (f : FullType) (t : Token) (ts : Tokens) (z : Template)
      → FullWaits May s f (t ∷ ts) z → item_end (sort t) ≡ true
  full_follow (StatementType h ss make) f t ts z w = rw (one_cases (λ r. Unit {0}) w.1 tt).0 refl
  full_follow (InField k c x fs s) f t ts z w = fields_follow w.2

  default_follow : (f : TypeForm) (d : Option Item) (s : FullStack) (t : Token) (ts : Tokens)
      (z : Template) → DefaultWaits May f d s (t ∷ ts) z → item_end (sort t) ≡ true
  default_follow f d s t ts z w =
      elim (option_cases (λ e r. FullWaits May s (Full f d e) r z) w.2 w.3)
      [ inl h ↦ full_follow s (Full f d None) t ts z h.1 | inr h ↦ rw h.1 refl ]

  pub hole_follow : (o : Hole) (i : Item) (t : Token) (ts : Tokens) (z : Template)
      → HoleWaits May o i (t ∷ ts) z → item_end (sort t) ≡ true
  hole_follow (StatementItem h ss make) i t ts z w = rw (one_cases (λ r. Unit {0}) w.1 tt).0 refl
  hole_follow (AfterEquals f s) i t ts z w = default_follow f (Some i) s t ts z w
  hole_follow (AfterWith f d s) i t ts z w = full_follow s (Full f d (Some i)) t ts z w
