-- What is missing to a width.
use Rattle.std.proofs.Common.{◌≡◌, ℕ, ◌-◌, ◌+◌, List, ◌++◌, length, ap, ◌∙◌, arith}
use Rattle.std.specs.Str.{IsUtf8, chars}
use Rattle.std.proofs.lemmas.Str.{chars-append}
use Rattle.std.proofs.lemmas.List.{length-append}

-- the characters of a text, and then of another one
pub both_missing : (width : ℕ) (a b : List ℕ) → IsUtf8 a →
    (width - length (chars a)) - length (chars b) ≡ width - length (chars (a ++ b))
both_missing width a b utf8 =
    let sum : length (chars (a ++ b)) ≡ length (chars a) + length (chars b) =
    ap length (chars-append a b utf8) ∙ length-append (chars a) (chars b) in
    omega (arith, sum)
