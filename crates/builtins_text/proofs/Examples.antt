-- The definitions on written values.
use Rattle.std.proofs.Common.{◌≡◌, [], ◌∷◌, Ok, Err, pos, negsuc, codes, refl}
use Rattle.std.specs.Fmt.{digits}
use Rattle.std.specs.Str.{chars}
use Rattle.path_tree.specs.Plain.{list, text, long, item, no_items}
use Rattle.path_tree.specs.declared.refused.Refused.TheVariants.{BadArgument, BadIndex, Overflow}
use Rattle.builtins_text.specs.Addresses.{ip4_to_long_of, long_to_ip4_of}
use Rattle.builtins_text.specs.Formats.{format_of}
use Rattle.builtins_text.specs.Joins.{join_of}
use Rattle.builtins_text.specs.Numbers.{to_long_of}
use Rattle.builtins_text.specs.Texts.{escape_of, substr_of}

a_format : format_of (text (codes "%05d,%-4s,%x") ∷ long (negsuc 41) ∷ text (codes "ab") ∷ long
    (pos 255) ∷ []) ≡ Ok (text (codes "-0042,ab  ,ff"))
unfolding chars digits
a_format = refl

a_percent : format_of (text (codes "%d%%") ∷ long (pos 50) ∷ []) ≡ Ok (text (codes "50%"))
unfolding chars digits
a_percent = refl

a_zero_text : format_of (text (codes "%0s") ∷ text (codes "a") ∷ []) ≡ Err BadArgument
a_zero_text = refl

a_value_too_many : format_of (text (codes "a") ∷ text (codes "a") ∷ []) ≡ Err BadArgument
a_value_too_many = refl

an_escape : escape_of (text (codes "1a/b") ∷ []) ≡ Ok (text (codes "_31a_2fb"))
an_escape = refl

a_part : substr_of (text (codes "abcdef") ∷ long (pos 1) ∷ long (pos 3) ∷ [])
    ≡ Ok (text (codes "bcd"))
unfolding chars lib.Utf8.encode
a_part = refl

a_part_past_its_end : substr_of (text (codes "abc") ∷ long (pos 1) ∷ long (pos 3) ∷ [])
    ≡ Err BadIndex
unfolding chars
a_part_past_its_end = refl

an_address : ip4_to_long_of (text (codes "10.0.0.1/24") ∷ [])
    ≡ Ok (list (item (long (pos 167772161)) (item (long (pos 4294967040)) no_items)))
an_address = refl

no_address : ip4_to_long_of (text (codes "10.0.01.1") ∷ []) ≡ Err BadArgument
no_address = refl

a_number : to_long_of (text (codes "-0x1F") ∷ []) ≡ Ok (long (negsuc 30))
a_number = refl

an_octal_number : to_long_of (text (codes "+017") ∷ []) ≡ Ok (long (pos 15))
an_octal_number = refl

a_number_past_64_bits : to_long_of (text (codes "9223372036854775808") ∷ []) ≡ Err Overflow
a_number_past_64_bits = refl

a_join : join_of (text (codes "/") ∷ list (item (text (codes "a"))
    (item (text (codes "b")) no_items)) ∷ []) ≡ Ok (text (codes "a/b"))
a_join = refl

a_number_as_an_address : long_to_ip4_of (long (pos 167772161) ∷ []) ≡ Ok (text (codes "10.0.0.1"))
unfolding digits
a_number_as_an_address = refl

a_join_of_nothing : join_of (text (codes "/") ∷ []) ≡ Ok (text (codes ""))
a_join_of_nothing = refl

a_join_of_arguments : join_of (text (codes "/") ∷ text (codes "a") ∷ text (codes "b") ∷ [])
    ≡ Ok (text (codes "a/b"))
a_join_of_arguments = refl

a_width_of_zeros : format_of (text (codes "%00d") ∷ long (pos 1) ∷ []) ≡ Err BadArgument
unfolding chars digits
a_width_of_zeros = refl

a_percent_alone : format_of (text (codes "5%") ∷ []) ≡ Err BadArgument
a_percent_alone = refl

a_flag_without_a_width : format_of (text (codes "%-d") ∷ long (pos 7) ∷ []) ≡ Ok (text (codes "7"))
unfolding chars digits
a_flag_without_a_width = refl

the_least_number : to_long_of (text (codes "-9223372036854775808") ∷ [])
    ≡ Ok (long (negsuc 9223372036854775807))
the_least_number = refl
