-- The functions by their names, and what each gives of its arguments.
use Rattle.std.specs.Prelude.{ℕ, List, [], ◌∷◌, Option, Result, codes}
use Rattle.path_tree.specs.Plain.{Plain}
use Rattle.path_tree.specs.declared.refused.Refused.{Refused}
use Rattle.call_values.specs.Names.{found_in}
use Rattle.builtins_patterns.specs.Calls.{match_of, matches_of, replace_of, split_of}
use Rattle.builtins_code.specs.Base64Texts.{base64_decode_of, base64_encode_of}
use Rattle.builtins_code.specs.Digests.{digest_of}
use Rattle.builtins_code.specs.Json.{json_decode_of, json_encode_of}
use Rattle.builtins_code.specs.declared.names.Call.{Call}
use Rattle.builtins_code.specs.declared.names.Call.TheVariants.{Match, Matches, Split, Replace, Base64Encode, Base64Decode, JsonEncode, JsonDecode, Digest}

abbrev pub names : List (List ℕ × Call)
names =
    (codes "match", Match) ∷ (codes "matches", Matches) ∷ (codes "split", Split)
    ∷ (codes "replace", Replace) ∷ (codes "base64_encode", Base64Encode)
    ∷ (codes "base64_decode", Base64Decode) ∷ (codes "json_encode", JsonEncode)
    ∷ (codes "json_decode", JsonDecode) ∷ (codes "digest", Digest) ∷ []

-- the function of a name
abbrev pub find_of : List ℕ → Option Call
find_of name = found_in names name

abbrev pub call_of : Call → List Plain → Result Plain Refused
call_of Match arguments = match_of arguments
call_of Matches arguments = matches_of arguments
call_of Split arguments = split_of arguments
call_of Replace arguments = replace_of arguments
call_of Base64Encode arguments = base64_encode_of arguments
call_of Base64Decode arguments = base64_decode_of arguments
call_of JsonEncode arguments = json_encode_of arguments
call_of JsonDecode arguments = json_decode_of arguments
call_of Digest arguments = digest_of arguments
