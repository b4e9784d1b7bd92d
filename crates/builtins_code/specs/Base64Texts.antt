-- Texts in base64: the standard alphabet with padding (RFC 4648), which is what the crate base64
-- reads and writes under its engine standard.
use Rattle.std.specs.Prelude.{ℕ, List, [], ◌∷◌, Result, Ok, Err, if◌then◌else◌}
use Rattle.std.specs.Str.{is_utf8}
use Rattle.base64.specs.Engines.{standard}
use Rattle.base64.specs.GeneralPurpose.{decode_of, encode_of}
use Rattle.base64.specs.declared.decode.DecodeError.{DecodeError}
use Rattle.path_tree.specs.Plain.{Plain, text}
use Rattle.path_tree.specs.Values.{text_value}
use Rattle.path_tree.specs.declared.refused.Refused.{Refused}
use Rattle.path_tree.specs.declared.refused.Refused.TheVariants.{BadArgument}

-- base64_encode(t): the bytes of t in base64
abbrev pub base64_encode_of : List Plain → Result Plain Refused
base64_encode_of (text t ∷ []) = text_value (encode_of standard t)
base64_encode_of _ = Err BadArgument

-- bytes that are UTF-8 as a text
abbrev pub utf8_text : List ℕ → Result Plain Refused
utf8_text bytes = if is_utf8 bytes then text_value bytes else Err BadArgument

abbrev pub decoded_text : Result (List ℕ) DecodeError → Result Plain Refused
decoded_text (Ok bytes) = utf8_text bytes
decoded_text (Err e) = Err BadArgument

-- base64_decode(t): the text whose bytes t is in base64
abbrev pub base64_decode_of : List Plain → Result Plain Refused
base64_decode_of (text t ∷ []) = decoded_text (decode_of standard t)
base64_decode_of _ = Err BadArgument
