-- Operators as they are written, and as the grammar reads them.
use Rattle.std.proofs.Common.{◌≡◌, ◌∙◌, ℕ, suc, Bool, true, false, cond, eqb, List, ◌∷◌, ◌++◌, Some, None, refl, sym, ap}
use Rattle.std.specs.Prelude.{codes}
use Rattle.path_tree.specs.declared.operators.BinaryOp.TheVariants as binary
use Rattle.pan_ast.specs.declared.sort.Sort.{Sort}
use Rattle.pan_ast.specs.declared.sort.Sort.TheVariants as sorts
use Rattle.pan_format.specs.Words.{binary_sign}
use Rattle.pan_grammar.specs.Grammar.{Both, Either, Of, Operator, level, op_of, operator}
use Rattle.pan_grammar.proofs.Follow.{op_level}
use Rattle.format_laws.proofs.Reading.{Apart, Behind, Follows, Reads}
use Rattle.format_laws.proofs.Fronts.{apart_space, blank, doubled_then, once_then, sign_then, with_equals_then, without_then}

abbrev pub operator_text : Operator → List ℕ
operator_text (Of op) = binary_sign op
operator_text Both = codes " && "
operator_text Either = codes " || "

abbrev pub sign_of : Operator → Sort
sign_of (Of binary.Add) = sorts.Plus
sign_of (Of binary.Subtract) = sorts.Minus
sign_of (Of binary.Multiply) = sorts.Star
sign_of (Of binary.Divide) = sorts.Slash
sign_of (Of binary.Rest) = sorts.Percent
sign_of (Of binary.BitAnd) = sorts.BitAnd
sign_of (Of binary.BitOr) = sorts.BitOr
sign_of (Of binary.BitXor) = sorts.BitXor
sign_of (Of binary.Equal) = sorts.Equal
sign_of (Of binary.NotEqual) = sorts.NotEqual
sign_of (Of binary.Less) = sorts.Less
sign_of (Of binary.LessEqual) = sorts.LessEqual
sign_of (Of binary.More) = sorts.More
sign_of (Of binary.MoreEqual) = sorts.MoreEqual
sign_of Both = sorts.And
sign_of Either = sorts.Or

pub operator_then : {file k : List ℕ} {P : Follows} (op : Operator) → Reads file k P
    → Reads file (operator_text op ++ k) (Behind (sign_of op) P)
operator_then (Of binary.Add) r = blank 32 refl (sign_then 43 refl refl (blank 32 refl r))
operator_then (Of binary.Subtract) r = blank 32 refl (sign_then 45 refl refl (blank 32 refl r))
operator_then (Of binary.Multiply) r = blank 32 refl (sign_then 42 refl refl (blank 32 refl r))
operator_then (Of binary.Divide) r = blank 32 refl (sign_then 47 refl refl (blank 32 refl r))
operator_then (Of binary.Rest) r = blank 32 refl (sign_then 37 refl refl (blank 32 refl r))
operator_then (Of binary.BitXor) r = blank 32 refl (sign_then 94 refl refl (blank 32 refl r))
operator_then {k = k} (Of binary.BitAnd) r = blank 32 refl
    (once_then {k = 32 ∷ k} 38 refl refl refl (blank 32 refl r))
operator_then {k = k} (Of binary.BitOr) r = blank 32 refl
    (once_then {k = 32 ∷ k} 124 refl refl refl (blank 32 refl r))
operator_then (Of binary.Equal) r = blank 32 refl (with_equals_then 61 refl refl (blank 32 refl r))
operator_then (Of binary.NotEqual) r = blank 32 refl
    (with_equals_then 33 refl refl (blank 32 refl r))
operator_then (Of binary.LessEqual) r = blank 32 refl
    (with_equals_then 60 refl refl (blank 32 refl r))
operator_then (Of binary.MoreEqual) r = blank 32 refl
    (with_equals_then 62 refl refl (blank 32 refl r))
operator_then {k = k} (Of binary.Less) r = blank 32 refl
    (without_then {k = 32 ∷ k} 60 refl refl refl refl (blank 32 refl r))
operator_then {k = k} (Of binary.More) r = blank 32 refl
    (without_then {k = 32 ∷ k} 62 refl refl refl refl (blank 32 refl r))
operator_then Both r = blank 32 refl (doubled_then 38 refl refl (blank 32 refl r))
operator_then Either r = blank 32 refl (doubled_then 124 refl refl (blank 32 refl r))

level_sign : (l : ℕ) (s : Sort) → level s ≡ suc l → s ≡ sign_of (operator s)
level_sign l sorts.Star e = refl
level_sign l sorts.Slash e = refl
level_sign l sorts.Percent e = refl
level_sign l sorts.Plus e = refl
level_sign l sorts.Minus e = refl
level_sign l sorts.Less e = refl
level_sign l sorts.LessEqual e = refl
level_sign l sorts.More e = refl
level_sign l sorts.MoreEqual e = refl
level_sign l sorts.Equal e = refl
level_sign l sorts.NotEqual e = refl
level_sign l sorts.BitAnd e = refl
level_sign l sorts.BitXor e = refl
level_sign l sorts.BitOr e = refl
level_sign l sorts.And e = refl
level_sign l sorts.Or e = refl
level_sign l _ e = absurd cc

same_operator : (l : ℕ) (s : Sort) (op : Operator) → op_of l s ≡ Some op → operator s ≡ op
same_operator l s op e = by (eqb (level s) l) e where
  by : (b : Bool) → cond b (Some (operator s)) None ≡ Some op → operator s ≡ op
  by true h = cc
  by false h = absurd cc

-- a sign of that sort is that operator of the line
pub operator_again : (l : ℕ) (s u : Sort) (op : Operator) → op_of (suc l) s ≡ Some op
    → u ≡ sign_of op → op_of (suc l) u ≡ Some op
operator_again l s u op e q =
    let k : s ≡ sign_of op = level_sign l s (op_level (suc l) s op e)
    ∙ ap sign_of (same_operator (suc l) s op e) in
    ap (op_of (suc l)) (q ∙ sym k) ∙ e

pub operator_apart : (op : Operator) (k : List ℕ) → Apart (operator_text op ++ k)
operator_apart (Of binary.Add) k = apart_space
operator_apart (Of binary.Subtract) k = apart_space
operator_apart (Of binary.Multiply) k = apart_space
operator_apart (Of binary.Divide) k = apart_space
operator_apart (Of binary.Rest) k = apart_space
operator_apart (Of binary.BitXor) k = apart_space
operator_apart (Of binary.BitAnd) k = apart_space
operator_apart (Of binary.BitOr) k = apart_space
operator_apart (Of binary.Equal) k = apart_space
operator_apart (Of binary.NotEqual) k = apart_space
operator_apart (Of binary.LessEqual) k = apart_space
operator_apart (Of binary.MoreEqual) k = apart_space
operator_apart (Of binary.Less) k = apart_space
operator_apart (Of binary.More) k = apart_space
operator_apart Both k = apart_space
operator_apart Either k = apart_space
