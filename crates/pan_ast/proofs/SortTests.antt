-- The test that tells sorts apart is their equality.
use Rattle.std.proofs.Common.{◌≡◌, ◌≢◌, ◌↔◌, ℕ, Bool, true, false, eqb, cond, refl, sym, ap, ◌∙◌, arith}
use Rattle.std.proofs.lemmas.Bool.{eqb-true, false_from_ne_true}
use Rattle.pan_ast.specs.declared.sort.Sort.{Sort}
use Rattle.pan_ast.specs.declared.sort.Sort.TheVariants as sorts
use Rattle.pan_ast.specs.Sorts.{code, at}

-- the sort of a number: what `code` is undone by
decode : ℕ → Sort
decode n =
    cond (eqb n 0) sorts.Int (cond (eqb n 1) sorts.Text
    (cond (eqb n 2) sorts.Name (cond (eqb n 3) sorts.End (
    cond (eqb n 4) sorts.If (cond (eqb n 5) sorts.Else
    (cond (eqb n 6) sorts.While (cond (eqb n 7) sorts.For (
    cond (eqb n 8) sorts.Foreach (cond (eqb n 9) sorts.True (cond (eqb n 10) sorts.False (
    cond (eqb n 11) sorts.Undef (cond (eqb n 12) sorts.Null (cond (eqb n 13) sorts.With (
    cond (eqb n 14) sorts.Extensible (cond (eqb n 15) sorts.Include (cond (eqb n 16) sorts.Choice (
    cond (eqb n 17) sorts.Object (cond (eqb n 18) sorts.Structure (cond (eqb n 19) sorts.Unique (
    cond (eqb n 20) sorts.Declaration (cond (eqb n 21) sorts.Template (cond (eqb n 22) sorts.Final (
    cond (eqb n 23) sorts.Variable (cond (eqb n 24) sorts.Function (cond (eqb n 25) sorts.«Type» (
    cond (eqb n 26) sorts.Bind (cond (eqb n 27) sorts.Valid (cond (eqb n 28) sorts.Prefix (
    cond (eqb n 29) sorts.Word (cond (eqb n 30) sorts.OpenBrace (cond (eqb n 31) sorts.CloseBrace (
    cond (eqb n 32) sorts.Open (cond (eqb n 33) sorts.Close (cond (eqb n 34) sorts.OpenBracket (
    cond (eqb n 35) sorts.CloseBracket (cond (eqb n 36) sorts.Semicolon
    (cond (eqb n 37) sorts.Comma (
    cond (eqb n 38) sorts.Colon (cond (eqb n 39) sorts.Question
    (cond (eqb n 40) sorts.ConditionalAssign (
    cond (eqb n 41) sorts.Assign (cond (eqb n 42) sorts.Equal (cond (eqb n 43) sorts.NotEqual (
    cond (eqb n 44) sorts.Less (cond (eqb n 45) sorts.LessEqual (cond (eqb n 46) sorts.More (
    cond (eqb n 47) sorts.MoreEqual (cond (eqb n 48) sorts.Plus (cond (eqb n 49) sorts.Minus (
    cond (eqb n 50) sorts.Star (cond (eqb n 51) sorts.Slash (cond (eqb n 52) sorts.Percent (
    cond (eqb n 53) sorts.Not (cond (eqb n 54) sorts.Flip
    (cond (eqb n 55) sorts.BitAnd (cond (eqb n 56) sorts.And (
    cond (eqb n 57) sorts.BitOr (cond (eqb n 58) sorts.Or
    (cond (eqb n 59) sorts.BitXor (cond (eqb n 60) sorts.Range
    (sorts.NoSign)))))))))))))))))))))))))))))))))))))))))))))))))))))))))))))

decode-code : (s : Sort) → decode (code s) ≡ s
unfolding decode
decode-code sorts.Int = refl
decode-code sorts.Text = refl
decode-code sorts.Name = refl
decode-code sorts.End = refl
decode-code sorts.If = refl
decode-code sorts.Else = refl
decode-code sorts.While = refl
decode-code sorts.For = refl
decode-code sorts.Foreach = refl
decode-code sorts.True = refl
decode-code sorts.False = refl
decode-code sorts.Undef = refl
decode-code sorts.Null = refl
decode-code sorts.With = refl
decode-code sorts.Extensible = refl
decode-code sorts.Include = refl
decode-code sorts.Choice = refl
decode-code sorts.Object = refl
decode-code sorts.Structure = refl
decode-code sorts.Unique = refl
decode-code sorts.Declaration = refl
decode-code sorts.Template = refl
decode-code sorts.Final = refl
decode-code sorts.Variable = refl
decode-code sorts.Function = refl
decode-code sorts.«Type» = refl
decode-code sorts.Bind = refl
decode-code sorts.Valid = refl
decode-code sorts.Prefix = refl
decode-code sorts.Word = refl
decode-code sorts.OpenBrace = refl
decode-code sorts.CloseBrace = refl
decode-code sorts.Open = refl
decode-code sorts.Close = refl
decode-code sorts.OpenBracket = refl
decode-code sorts.CloseBracket = refl
decode-code sorts.Semicolon = refl
decode-code sorts.Comma = refl
decode-code sorts.Colon = refl
decode-code sorts.Question = refl
decode-code sorts.ConditionalAssign = refl
decode-code sorts.Assign = refl
decode-code sorts.Equal = refl
decode-code sorts.NotEqual = refl
decode-code sorts.Less = refl
decode-code sorts.LessEqual = refl
decode-code sorts.More = refl
decode-code sorts.MoreEqual = refl
decode-code sorts.Plus = refl
decode-code sorts.Minus = refl
decode-code sorts.Star = refl
decode-code sorts.Slash = refl
decode-code sorts.Percent = refl
decode-code sorts.Not = refl
decode-code sorts.Flip = refl
decode-code sorts.BitAnd = refl
decode-code sorts.And = refl
decode-code sorts.BitOr = refl
decode-code sorts.Or = refl
decode-code sorts.BitXor = refl
decode-code sorts.Range = refl
decode-code sorts.NoSign = refl

pub at_true : (s x : Sort) → at s x ≡ true → x ≡ s
at_true s x e = sym (decode-code x) ∙ ap decode (sym (eqb-true (code s) (code x) e)) ∙ decode-code s

pub at_same : (s : Sort) → at s s ≡ true
at_same s = Prim.search (arith)

pub at_is : (s x : Sort) → x ≡ s → at s x ≡ true
at_is s x e = rw e (at_same s)

pub at_false : (s x : Sort) → at s x ≡ false → x ≢ s
at_false s x e h = let e1 : at s s ≡ false = rw h at e in let t : at s s ≡ true = at_same s in
    absurd cc

pub at_miss : (s x : Sort) → x ≢ s → at s x ≡ false
at_miss s x h = false_from_ne_true (at s x) (λ e. h (at_true s x e))

pub same_sort : (s x : Sort) (is : Bool) → is ≡ at s x → (is ≡ true) ↔ (s ≡ x)
same_sort s x is e = (λ h. sym (at_true s x (sym e ∙ h)), λ h. e ∙ at_is s x (sym h))
