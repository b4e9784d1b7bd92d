-- Texts and numbers as values, within their limits.
use Rattle.std.specs.Prelude.{ℕ, ℤ, pos, negsuc, ◌^◌, Bool, List, length, Result, Ok, Err, nat_lt, if◌then◌else◌}
use Rattle.base.specs.declared.limits.TheConstants.{MAX_TEXT_BYTES}
use Rattle.path_tree.specs.Plain.{Plain, long, text}
use Rattle.path_tree.specs.declared.refused.Refused.{Refused}
use Rattle.path_tree.specs.declared.refused.Refused.TheVariants.{Overflow, TooLarge}

-- a text of at most MAX_TEXT_BYTES bytes
abbrev pub text_value : List ℕ → Result Plain Refused
text_value bytes = if nat_lt MAX_TEXT_BYTES (length bytes) then Err TooLarge else Ok (text bytes)

-- from -2^63 to 2^63 - 1
abbrev pub is_long : ℤ → Bool
is_long (pos n) = nat_lt n (2 ^ 63)
is_long (negsuc n) = nat_lt n (2 ^ 63)

abbrev pub within_64_bits : ℤ → Result Plain Refused
within_64_bits z = if is_long z then Ok (long z) else Err Overflow
