-- The rows of addresses of four bytes, as `10.0.0.1`.
use Rattle.std.specs.Prelude.{Bool, false, map, decimal, ℕ, ◌+◌, ◌-◌, ◌*◌, ◌^◌, ◌/◌, ◌%◌, ℤ, pos, negsuc, ◌==◌, ◌&&◌, not, List, [], ◌∷◌, Option, Some, None, option_map, Result, Err, nat_le, nat_lt, if◌then◌else◌}
use Rattle.std.specs.List.{join_with_byte, list_all, slice_split}
use Rattle.base.specs.Answers.{given}
use Rattle.base.specs.Ascii.{is_digit}
use Rattle.base.specs.Characters.{digit_0, dot, slash}
use Rattle.base.specs.Integers.{digits_value}
use Rattle.path_tree.specs.Lists.{list_of}
use Rattle.path_tree.specs.Plain.{Plain, text, long}
use Rattle.path_tree.specs.Values.{text_value}
use Rattle.path_tree.specs.declared.refused.Refused.{Refused}
use Rattle.call_values.specs.Positions.{number}
use Rattle.path_tree.specs.declared.refused.Refused.TheVariants.{BadArgument}

-- decimal digits without a leading zero
abbrev pub is_decimal : List ℕ → Bool
is_decimal [] = false
is_decimal (c ∷ []) = is_digit c
is_decimal (c ∷ d ∷ cs) = not (c == digit_0) && list_all is_digit (c ∷ d ∷ cs)

-- a number from 0 to a last one, in decimal without leading zeros
abbrev pub number_to : ℕ → List ℕ → Option ℕ
number_to last digits =
    if is_decimal digits && nat_le (digits_value 10 digits) last then Some (digits_value 10 digits)
    else None

-- the number of four bytes, of which the first counts most
abbrev pub joined_octets : Option ℕ → Option ℕ → Option ℕ → Option ℕ → Option ℕ
joined_octets (Some a) (Some b) (Some c) (Some d) =
    Some (((a * 256 + b) * 256 + c) * 256 + d)
joined_octets _ _ _ _ = None

abbrev pub octet : List ℕ → Option ℕ
octet digits = number_to 255 digits

abbrev pub octets_joined : List (List ℕ) → Option ℕ
octets_joined (a ∷ b ∷ c ∷ d ∷ []) = joined_octets (octet a) (octet b) (octet c) (octet d)
octets_joined _ = None

-- the number of an address a.b.c.d
abbrev pub address_of : List ℕ → Option ℕ
address_of bytes = octets_joined (slice_split (λ c. c == dot) bytes)

-- the mask of a length from 0 to 32: so many ones and then zeros
abbrev pub mask_of : List ℕ → Option ℕ
mask_of digits = option_map (λ n. 2 ^ 32 - 2 ^ (32 - n)) (number_to 32 digits)

abbrev pub one_number : Option ℕ → Result Plain Refused
one_number n = given BadArgument n (λ n. list_of (number n ∷ []))

abbrev pub two_numbers : Option ℕ → Option ℕ → Result Plain Refused
two_numbers n k =
    given BadArgument n (λ n. given BadArgument k (λ k. list_of (number n ∷ number k ∷ [])))

-- the list of an address, or of an address and a mask
abbrev pub address_parts : List (List ℕ) → Result Plain Refused
address_parts (a ∷ []) = one_number (address_of a)
address_parts (a ∷ m ∷ []) = two_numbers (address_of a) (mask_of m)
address_parts _ = Err BadArgument

abbrev pub ip4_to_long_of : List Plain → Result Plain Refused
ip4_to_long_of (text t ∷ []) = address_parts (slice_split (λ c. c == slash) t)
ip4_to_long_of _ = Err BadArgument

-- a number from 0 to 2^32 - 1
abbrev pub address_number : ℤ → Option ℕ
address_number (pos n) = if nat_lt n (2 ^ 32) then Some n else None
address_number (negsuc n) = None

-- its four bytes, the one that counts most first
abbrev pub octets : ℕ → List ℕ
octets n = n / 16777216 ∷ n / 65536 % 256 ∷ n / 256 % 256 ∷ n % 256 ∷ []

abbrev pub long_to_ip4_of : List Plain → Result Plain Refused
long_to_ip4_of (long z ∷ []) =
    given BadArgument (address_number z) (λ n.
    text_value (join_with_byte dot (map decimal (octets n))))
long_to_ip4_of _ = Err BadArgument
