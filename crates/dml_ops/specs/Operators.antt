-- The operators of DML: what each gives of its operands, or why it gives nothing.
use Rattle.std.specs.Prelude.{ℕ, ℤ, pos, negsuc, ◌+◌, ◌+ℤ◌, ◌-ℤ◌, ◌*ℤ◌, neg_ℤ, Bool, true, false, not, ◌&&◌, ◌||◌, List, ◌++◌, length, Option, Some, None, Result, Ok, Err, nat_lt, int_lt, int_le, int_div, bytes_eq, if◌then◌else◌}
use Rattle.std.specs.Int.{int_bit_and, int_bit_or, int_bit_xor, int_bit_not}
use Rattle.std.specs.Ordering.{nat_cmp, int_eq, is_lt, is_le, is_gt, is_ge}
use Rattle.std.specs.Cmp.Lexicographic.{slice_cmp}
use mir.Syntax.{w64}
use Rattle.base.specs.declared.limits.TheConstants.{MAX_TEXT_BYTES}
use Rattle.path_tree.specs.Plain.{Plain, text, long, boolean}
use Rattle.path_tree.specs.Values.{within_64_bits}
use Rattle.path_tree.specs.declared.operators.UnaryOp.{UnaryOp}
use Rattle.path_tree.specs.declared.operators.UnaryOp.TheVariants as unary
use Rattle.path_tree.specs.declared.operators.BinaryOp.{BinaryOp}
use Rattle.path_tree.specs.declared.operators.BinaryOp.TheVariants as binary
use Rattle.path_tree.specs.declared.refused.Refused.{Refused}
use Rattle.path_tree.specs.declared.refused.Refused.TheVariants.{TypeClash, Overflow, ZeroDivisor, TooLarge}

-- a number that was computed within 64 bits, where it can be
abbrev pub of_number : Option ℤ → Result Plain Refused
of_number None = Err Overflow
of_number (Some z) = Ok (long z)

abbrev pub is_zero : ℤ → Bool
is_zero (pos n) = nat_lt n 1
is_zero (negsuc n) = false

abbrev pub answers : Bool → Result Plain Refused
answers b = Ok (boolean b)

-- two longs; / rounds toward zero
abbrev pub of_longs : BinaryOp → ℤ → ℤ → Result Plain Refused
of_longs binary.Add x y = within_64_bits (x +ℤ y)
of_longs binary.Subtract x y = within_64_bits (x -ℤ y)
of_longs binary.Multiply x y = within_64_bits (x *ℤ y)
of_longs binary.Divide x y = if is_zero y then Err ZeroDivisor else within_64_bits (int_div x y)
of_longs binary.Rest x y =
    if is_zero y then Err ZeroDivisor else Ok (long (x -ℤ (y *ℤ int_div x y)))
of_longs binary.BitAnd x y = Ok (long (int_bit_and w64 x y))
of_longs binary.BitOr x y = Ok (long (int_bit_or w64 x y))
of_longs binary.BitXor x y = Ok (long (int_bit_xor w64 x y))
of_longs binary.Equal x y = answers (int_eq x y)
of_longs binary.NotEqual x y = answers (not (int_eq x y))
of_longs binary.Less x y = answers (int_lt x y)
of_longs binary.LessEqual x y = answers (int_le x y)
of_longs binary.More x y = answers (int_lt y x)
of_longs binary.MoreEqual x y = answers (int_le y x)

-- two texts, compared by their bytes
abbrev pub of_texts : BinaryOp → List ℕ → List ℕ → Result Plain Refused
of_texts binary.Add s t =
    if nat_lt MAX_TEXT_BYTES (length s + length t) then Err TooLarge else Ok (text (s ++ t))
of_texts binary.Equal s t = answers (bytes_eq s t)
of_texts binary.NotEqual s t = answers (not (bytes_eq s t))
of_texts binary.Less s t = answers (is_lt (slice_cmp nat_cmp s t))
of_texts binary.LessEqual s t = answers (is_le (slice_cmp nat_cmp s t))
of_texts binary.More s t = answers (is_gt (slice_cmp nat_cmp s t))
of_texts binary.MoreEqual s t = answers (is_ge (slice_cmp nat_cmp s t))
of_texts _ s t = Err TypeClash

abbrev pub exclusive_or : Bool → Bool → Bool
exclusive_or true q = not q
exclusive_or false q = q

abbrev pub of_booleans : BinaryOp → Bool → Bool → Result Plain Refused
of_booleans binary.BitAnd p q = answers (p && q)
of_booleans binary.BitOr p q = answers (p || q)
of_booleans binary.BitXor p q = answers (exclusive_or p q)
of_booleans binary.Equal p q = answers (not (exclusive_or p q))
of_booleans binary.NotEqual p q = answers (exclusive_or p q)
of_booleans _ p q = Err TypeClash

abbrev pub with_long : BinaryOp → ℤ → Plain → Result Plain Refused
with_long op x (long y) = of_longs op x y
with_long op x _ = Err TypeClash

abbrev pub with_text : BinaryOp → List ℕ → Plain → Result Plain Refused
with_text op s (text t) = of_texts op s t
with_text op s _ = Err TypeClash

abbrev pub with_boolean : BinaryOp → Bool → Plain → Result Plain Refused
with_boolean op p (boolean q) = of_booleans op p q
with_boolean op p _ = Err TypeClash

-- operands of two kinds, and of other kinds, clash
abbrev pub binary_of : BinaryOp → Plain → Plain → Result Plain Refused
binary_of op (long x) b = with_long op x b
binary_of op (text s) b = with_text op s b
binary_of op (boolean p) b = with_boolean op p b
binary_of op _ b = Err TypeClash

abbrev pub unary_of : UnaryOp → Plain → Result Plain Refused
unary_of unary.Plus (long x) = Ok (long x)
unary_of unary.Minus (long x) = within_64_bits (neg_ℤ x)
unary_of unary.Flip (long x) = Ok (long (int_bit_not w64 x))
unary_of unary.Not (boolean p) = Ok (boolean (not p))
unary_of _ _ = Err TypeClash
