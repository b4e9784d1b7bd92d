-- Bytes that are a text, and bytes that are none.
use Rattle.std.proofs.Common.{◌≡◌, ℕ, Bool, true, false, List, refl, sym, Some, None}
use Rattle.std.specs.Str.{is_utf8, IsUtf8}
use Rattle.std.proofs.lemmas.Str.{IsUtf8-from_is_utf8, is_utf8-from_IsUtf8}
use Rattle.path_tree.specs.Plain.{text}
use Rattle.dml_world.specs.Answers.{text_read}

reads : (bs : List ℕ) → IsUtf8 bs → text_read bs ≡ Some (text bs)
reads bs h = rw (is_utf8-from_IsUtf8 bs h) refl

reads_none : (bs : List ℕ) → is_utf8 bs ≡ false → text_read bs ≡ None
reads_none bs h = rw h refl

fails : (bs : List ℕ) → ¬ (IsUtf8 bs) → text_read bs ≡ None
fails bs h = by (is_utf8 bs) refl where
  by : (t : Bool) → is_utf8 bs ≡ t → text_read bs ≡ None
  by true e = absurd (h (IsUtf8-from_is_utf8 bs e))
  by false e = reads_none bs e

pub text_reads : (bs : List ℕ) → IsUtf8 bs → text_read bs ≡ Some (text bs)
text_reads = reads

pub text_fails : (bs : List ℕ) → ¬ (IsUtf8 bs) → None ≡ text_read bs
text_fails bs h = sym (fails bs h)

pub ruleset texts = (text_reads, text_fails)
