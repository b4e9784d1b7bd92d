-- Bytes that stand in a text.
use Rattle.std.proofs.Common.{◌≡◌, ℕ, ◌+◌, List, length, Option, Some, None, IfSome, ap, sym, ◌∙◌, subst, arith}
use Rattle.std.proofs.lemmas.Str.{IsUtf8-from_ascii}
use Rattle.std.specs.Str.{IsAscii, IsUtf8}
use Rattle.base.specs.Parts.{bytes_from_to}
use Rattle.base.proofs.Parts.{part_of_part}
use Rattle.path_tree.specs.Reading.{StandsAt}

-- a part of a part
pub stands_within : (position i : ℕ) (bytes text whole : List ℕ) → StandsAt position text whole
    → StandsAt i bytes text → StandsAt (position + i) bytes whole
stands_within position i bytes text whole outer inner =
    let end : position + i + length bytes ≡ position + (i + length bytes) = omega arith in
    let parts : bytes_from_to (position + i) (position + (i + length bytes)) whole
    ≡ bytes_from_to i (i + length bytes) (bytes_from_to position (position + length text)
    whole) = part_of_part position (position + length text) i (i + length bytes) whole
    (omega arith) (omega (arith, inner.within)) in
    record {
      within = omega (arith, outer.within, inner.within);
      same = ap (λ stop. bytes_from_to (position + i) stop whole) end ∙ parts
          ∙ ap (bytes_from_to i (i + length bytes)) outer.same ∙ inner.same;
    }

-- what is behind a part, if anything is
pub more_stands : (position i : ℕ) (text whole : List ℕ) (more : Option (List ℕ))
    → StandsAt position text whole → IfSome more (λ rest. StandsAt i rest text)
    → IfSome more (λ rest. StandsAt (position + i) rest whole)
more_stands position i text whole None outer inner = inner
more_stands position i text whole (Some rest) outer inner =
    stands_within position i rest text whole outer inner

-- ASCII bytes that stand in a text are a text
pub stands_utf8 : (position end : ℕ) (bytes whole : List ℕ) → end ≡ position + length bytes
    → StandsAt position bytes whole → IsAscii bytes → IsUtf8 (bytes_from_to position end whole)
stands_utf8 position end bytes whole is part ascii =
    subst IsUtf8 (sym (ap (λ stop. bytes_from_to position stop whole) is ∙ part.same))
    (IsUtf8-from_ascii bytes ascii)
