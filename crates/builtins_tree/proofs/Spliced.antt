-- A text with another in the place of a part.
use Rattle.std.proofs.Common.{◌≡◌, ℕ, ◌+◌, List, [], ◌++◌, take, drop, append_assoc, encode_utf8_all, sym, ap, ◌∙◌}
use Rattle.std.specs.Str.{chars, IsUtf8}
use Rattle.std.proofs.lemmas.Str.{chars-nil, encodes-append, encodes-chars}
use Rattle.builtins_tree.specs.Splices.{replaced}

pub no_chars : chars [] ≡ []
no_chars = chars-nil

pub replaced_text : (part : ℕ × ℕ) (text other : List ℕ) → IsUtf8 other →
    (encode_utf8_all (take part.0 (chars text)) ++ other)
    ++ encode_utf8_all (drop (part.0 + part.1) (chars text))
    ≡ encode_utf8_all (replaced part (chars other) (chars text))
replaced_text part text other u =
    let first = take part.0 (chars text) in
    let last = drop (part.0 + part.1) (chars text) in
    append_assoc (encode_utf8_all first) other (encode_utf8_all last)
    ∙ (ap (λ o. encode_utf8_all first ++ (o ++ encode_utf8_all last)) (sym (encodes-chars other u))
    ∙ (ap (λ r. encode_utf8_all first ++ r) (sym (encodes-append (chars other) last))
    ∙ sym (encodes-append first (chars other ++ last))))
