-- Steps of the functions that read types, as equations of whole readings.
use Rattle.std.proofs.Common.{◌≢◌, ◌<◌, ◌+◌, suc, arith, ◌≡◌, ℕ, ℤ, Bool, true, false, List, [], ◌∷◌, ◌++◌, Option, Some, None, refl, sym, subst, ◌∙◌}
use Rattle.base.specs.declared.limits.TheConstants.{MAX_NESTING}
use Rattle.std.proofs.lemmas.Bool.{or_parts}
use Rattle.pan_ast.specs.declared.place.Place.{Place}
use Rattle.pan_ast.specs.declared.sort.Sort.{Sort}
use Rattle.pan_ast.specs.declared.sort.Sort.TheVariants as sorts
use Rattle.pan_ast.specs.declared.token.Token.{Token}
use Rattle.pan_ast.specs.declared.types.Bounds.{Bounds}
use Rattle.pan_ast.specs.declared.types.Suffix.{Suffix}
use Rattle.pan_ast.specs.Sorts.{at, sort}
use Rattle.pan_ast.specs.Types.{Field, Formed, FullType, Head}
use Rattle.pan_grammar.specs.Depths.{full_holders}
use Rattle.pan_grammar.specs.Grammar.{Tokens, number}
use Rattle.pan_grammar.specs.Machine.{extensible_read, has_form, has_full, include_read, is_key_text, key_read, over, text_wanted, high_read, high_wanted, minus_read, run}
use Rattle.pan_grammar.specs.States.{FieldsOpen, InField, NeedFull, TextsOpen, AnInt, Closing, FullStack, HasHead, HasLow, NeedBounds, NeedSigned, RangeOpen, RangeRead, State, Takes, closing}
use Rattle.pan_grammar.specs.Types.{own}
use Rattle.pan_grammar.proofs.Tests.{at_true}
use Rattle.pan_parser.specs.Answers.{IsAt, NoSuffix, NotAt, on_front}

not_there : (w : Sort) (ts on : Tokens) (t : Token) → ts ≡ t ∷ on → NotAt w ts → at w (sort t)
    ≡ false
not_there w ts on t cut n = subst (λ x. NotAt w x) cut n

-- ---- numbers and bounds

pub minus_turns : (ts on : Tokens) (next : ℤ → State) → IsAt sorts.Minus ts on
    → run ts (NeedSigned next) ≡ run on (minus_read next)
minus_turns ts on next h = let cut = h.1 in let e = at_true sorts.Minus (sort h.0) h.2 in
    rw (cut, e) refl

pub int_wanted : (ts : Tokens) (next : ℤ → State) → NotAt sorts.Minus ts → run ts (NeedSigned next)
    ≡ run ts (Takes AnInt (λ t. next (number t)))
int_wanted [] next h = refl
int_wanted (t ∷ ts) next h = rw h refl

pub range_first : (ts r on : Tokens) (first : Token) (k : Closing) (next : Bounds → State) → ts
    ≡ first ∷ r → IsAt sorts.Range ts on → run ts (NeedBounds k next)
    ≡ run on (high_wanted k first.place next)
range_first ts r on first k next cut h =
    let both : first ∷ r ≡ h.0 ∷ on = sym cut ∙ h.1 in
    let same : first ≡ h.0 = cc in
    let c = h.1 in
    let e = at_true sorts.Range (sort h.0) h.2 in
    rw (same, c, e) refl

pub low_first : (ts r : Tokens) (first : Token) (k : Closing) (next : Bounds → State) → ts
    ≡ first ∷ r → NotAt sorts.Range ts → run ts (NeedBounds k next)
    ≡ run ts (NeedSigned (λ n. HasLow k first.place n next))
low_first ts r first k next cut h = let g = not_there sorts.Range ts r first cut h in
    rw (cut, g) refl

pub high_needed : (ts : Tokens) (w : Sort) (k : Closing) (p : Place) (n : ℤ) (next : Bounds → State)
    → closing k ≡ w → NotAt w ts → run ts (RangeRead k p n next)
    ≡ run ts (NeedSigned (high_read k p n next))
high_needed [] w k p n next q m = refl
high_needed (t ∷ ts) w k p n next q m = rw (q, m) refl

pub no_range : (ts on : Tokens) (w : Sort) (k : Closing) (next : Option Bounds → State) → closing k
    ≡ w → IsAt w ts on → run ts (RangeOpen k next) ≡ run on (next None)
no_range ts on w k next q h = let c = h.1 in let e = h.2 in rw (c, q, e) refl

pub a_range : (ts : Tokens) (w : Sort) (k : Closing) (next : Option Bounds → State) → closing k ≡ w
    → NotAt w ts → run ts (RangeOpen k next) ≡ run ts (NeedBounds k (λ b. next (Some b)))
a_range [] w k next q m = refl
a_range (t ∷ ts) w k next q m = rw (q, m) refl

-- ---- suffixes

-- a type that no suffix goes on
pub no_suffix : (ts : Tokens) (h : Head) (ss : List Suffix) (s : FullStack) → NoSuffix ts
    → run ts (HasHead h ss s) ≡ on_front (has_form (Formed h ss) s) ts
no_suffix [] h ss s e = refl
no_suffix (t ∷ ts) h ss s e =
    let a = or_parts (at sorts.OpenBracket (sort t)) _ e in
    let b = or_parts (at sorts.OpenBrace (sort t)) _ a.1 in
    let x = a.0 in
    let y = b.0 in
    let z = b.1 in
    rw (x, y, z) refl

-- ---- heads

pub below_twice : (a d : ℕ) → a ≡ d → d < MAX_NESTING → d + 1 ≢ MAX_NESTING → over (suc (suc a))
    ≡ false
below_twice a d h le ne = grind arith

pub two_more : (a d : ℕ) → a ≡ d → suc (suc a) ≡ d + 2
two_more a d h = omega arith

pub extensible_turns : (ts on : Tokens) (first : Token) (s : FullStack) → ts ≡ first ∷ on
    → sort first ≡ sorts.Extensible → over (suc (suc (full_holders s))) ≡ false
    → run ts (NeedFull s) ≡ run on (extensible_read s)
extensible_turns ts on first s cut e low = rw (cut, e, low) refl

-- ---- choices and fields

pub texts_go_on : (ts on : Tokens) (xs : List (List ℕ)) (s : FullStack) → IsAt sorts.Comma ts on
    → run ts (TextsOpen xs s) ≡ run on (text_wanted xs s)
texts_go_on ts on xs s i = let c = i.1 in let e = i.2 in rw (c, e) refl

pub include_turns : (ts on : Tokens) (first : Token) (e : Bool) (fs : List Field) (s : FullStack)
    → ts ≡ first ∷ on → at sorts.Include (sort first) ≡ true → run ts (FieldsOpen e fs s)
    ≡ run on (include_read first e fs s)
include_turns ts on first e fs s cut i = let q = at_true sorts.Include (sort first) i in
    rw (cut, q) refl

pub key_turns : (ts on : Tokens) (first : Token) (e : Bool) (fs : List Field) (s : FullStack) → ts
    ≡ first ∷ on → is_key_text first ≡ true → run ts (FieldsOpen e fs s)
    ≡ run on (key_read first e fs s)
key_turns ts on first e fs s cut q = rw (cut, q) refl

pub field_done : (ts : Tokens) (k c : Token) (e : Bool) (fs : List Field) (f : FullType)
    (s : FullStack) → on_front (has_full (InField k c e fs s) f) ts
    ≡ run ts (FieldsOpen e (fs ++ own k c f ∷ []) s)
field_done [] k c e fs f s = refl
field_done (t ∷ ts) k c e fs f s = refl
