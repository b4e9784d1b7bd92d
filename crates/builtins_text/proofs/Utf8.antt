-- Whether bytes are a text.
use Rattle.std.proofs.Common.{◌≡◌, ℕ, Bool, true, false, List, Err, refl, sym}
use Rattle.std.specs.Str.{is_utf8, IsUtf8}
use Rattle.std.proofs.lemmas.Bool.{cond-true}
use Rattle.path_tree.specs.Values.{text_value}
use Rattle.path_tree.specs.declared.refused.Refused.TheVariants.{BadArgument}
use Rattle.builtins_text.specs.Texts.{if_utf8}
use Rattle.std.proofs.lemmas.Str.{IsUtf8-from_is_utf8, is_utf8-from_IsUtf8}

-- the text of bytes that are UTF-8 is theirs
pub utf8_text : (bs : List ℕ) → IsUtf8 bs → text_value bs ≡ if_utf8 bs
utf8_text bs u = sym (cond-true (is_utf8 bs) (text_value bs) (Err BadArgument)
    (is_utf8-from_IsUtf8 bs u))

pub fails_utf8 : (bs : List ℕ) → ¬ (IsUtf8 bs) → is_utf8 bs ≡ false
fails_utf8 bs h = by (is_utf8 bs) refl where
  by : (t : Bool) → is_utf8 bs ≡ t → t ≡ false
  by true e = absurd (h (IsUtf8-from_is_utf8 bs e))
  by false e = refl
