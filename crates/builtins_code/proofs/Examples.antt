-- The definitions on written values.
use Rattle.std.proofs.Common.{◌≡◌, [], ◌∷◌, Ok, Err, true, pos, negsuc, codes, refl}
use Rattle.std.specs.Prelude.{⊤}
use Rattle.std.specs.Fmt.{digits}
use Rattle.std.specs.Str.{chars, is_utf8}
use lib.Utf8.{encode}
use Rattle.base64.specs.Decode.{groups_bytes, groups_error, scan_steps}
use Rattle.base64.specs.Rfc4648.{encode_symbols}
use Rattle.json.specs.Print.{escape_byte, print_from}
use Rattle.serde_json.proofs.OnLiterals.{serde_json_on_literals}
use Rattle.path_tree.specs.Plain.{dict, list, text, long, boolean, undef, null, item, no_items, field, no_fields}
use Rattle.path_tree.specs.declared.refused.Refused.TheVariants.{BadArgument, BadIndex}
use Rattle.builtins_code.specs.Base64Texts.{base64_decode_of, base64_encode_of}
use Rattle.builtins_code.specs.Digests.{digest_of}
use Rattle.builtins_code.specs.Json.{json_decode_of, json_encode_of}

-- what is unfolded to write and read a written text
unfoldable codes_on_literals : ⊤
unfolding digits chars is_utf8 encode groups_bytes groups_error scan_steps encode_symbols
    escape_byte print_from
codes_on_literals = tt

a_decoded_text : json_decode_of (text (codes "{\"b\":null,\"a\":[1]}") ∷ [])
    ≡ Ok (dict (field (codes "a") (list (item (long (pos 1)) no_items))
    (field (codes "b") undef no_fields)))
unfolding serde_json_on_literals
a_decoded_text = refl

-- the later of two equal names stays
a_name_twice : json_decode_of (text (codes "{\"a\":1,\"a\":true}") ∷ [])
    ≡ Ok (dict (field (codes "a") (boolean true) no_fields))
unfolding serde_json_on_literals
a_name_twice = refl

a_number_before_a_bad_key : json_decode_of (text (codes "{\"1\":1e2}") ∷ []) ≡ Err BadArgument
unfolding serde_json_on_literals
a_number_before_a_bad_key = refl

a_bad_key : json_decode_of (text (codes "{\"1\":1}") ∷ []) ≡ Err BadIndex
unfolding serde_json_on_literals
a_bad_key = refl

minus_zero : json_decode_of (text (codes "-0") ∷ []) ≡ Err BadArgument
unfolding serde_json_on_literals
minus_zero = refl

the_least_long : json_decode_of (text (codes "-9223372036854775808") ∷ [])
    ≡ Ok (long (negsuc 9223372036854775807))
unfolding serde_json_on_literals
the_least_long = refl

past_the_longs : json_decode_of (text (codes "9223372036854775808") ∷ []) ≡ Err BadArgument
unfolding serde_json_on_literals
past_the_longs = refl

no_json : json_decode_of (text (codes "[1,]") ∷ []) ≡ Err BadArgument
unfolding serde_json_on_literals
no_json = refl

an_undef_inside : json_encode_of (list (item undef no_items) ∷ []) ≡ Err BadArgument
an_undef_inside = refl

a_null : json_encode_of (null ∷ []) ≡ Err BadArgument
a_null = refl

an_encoded_dict : json_encode_of
    (dict (field (codes "a") (list (item (long (negsuc 0)) no_items))
    (field (codes "b") (boolean true) no_fields)) ∷ [])
    ≡ Ok (text (codes "{\"a\":[-1],\"b\":true}"))
unfolding codes_on_literals
an_encoded_dict = refl

-- RFC 4648, section 10
encoded_man : base64_encode_of (text (codes "foob") ∷ []) ≡ Ok (text (codes "Zm9vYg=="))
unfolding codes_on_literals
encoded_man = refl

decoded_man : base64_decode_of (text (codes "Zm9vYg==") ∷ []) ≡ Ok (text (codes "foob"))
unfolding codes_on_literals
decoded_man = refl

without_padding : base64_decode_of (text (codes "Zm9vYg") ∷ []) ≡ Err BadArgument
unfolding codes_on_literals
without_padding = refl

-- the bytes FF FE
no_text : base64_decode_of (text (codes "//4=") ∷ []) ≡ Err BadArgument
unfolding codes_on_literals
no_text = refl

no_algorithm : digest_of (text (codes "sha1") ∷ text (codes "abc") ∷ []) ≡ Err BadArgument
no_algorithm = refl

a_count_before_the_kinds : digest_of (long (pos 1) ∷ []) ≡ Err BadArgument
a_count_before_the_kinds = refl
