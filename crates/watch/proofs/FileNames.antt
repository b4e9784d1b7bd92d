-- File names are ASCII.
use Rattle.std.proofs.Common.{◌≡◌, ℕ, zero, suc, ◌<◌, Bool, true, false, if◌then◌else◌, List, [], ◌∷◌, length, nat_le, ◌==◌, ◌&&◌, not, refl, lit<, arith}
use Rattle.std.proofs.lemmas.Bool.Decides.{nat_tests}
use Rattle.std.specs.Str.{IsAscii}
use Rattle.base.specs.declared.limits.TheConstants.{MAX_FILE_NAME_BYTES}
use Rattle.load_path.specs.FileNames.{is_name_byte, are_segments, are_segments_on, is_file_name}
use Rattle.path_tree.proofs.Ascii.{first, second}

small : (c : ℕ) → is_name_byte c ≡ true → c < 128
small c h = grind (arith, nat_tests)

-- a slash or a byte of a name
byte : (c : ℕ) (b : Bool) → (c == 47) ≡ b → (x y : Bool)
    → (if b then x else (is_name_byte c && y)) ≡ true → c < 128
byte c true is x y h = grind (arith, nat_tests)
byte c false is x y h = small c (first (is_name_byte c) y h)

rest : (c : ℕ) (b : Bool) (cs : List ℕ) → (if b then are_segments cs else (is_name_byte c &&
    are_segments_on cs)) ≡ true → (are_segments cs ≡ true → IsAscii cs)
    → (are_segments_on cs ≡ true → IsAscii cs) → IsAscii cs
rest c true cs h begins goes_on = begins h
rest c false cs h begins goes_on = goes_on (second (is_name_byte c) (are_segments_on cs) h)

mutual
  segments_ascii : (cs : List ℕ) → are_segments cs ≡ true → IsAscii cs
  segments_ascii [] h i = lit< tt
  segments_ascii (c ∷ cs) h zero = small c (first (is_name_byte c) (not (c == 46)) (first
      (is_name_byte c && not (c == 46)) (are_segments_on cs) h))
  segments_ascii (c ∷ cs) h (suc i) = on_ascii cs (second (is_name_byte c && not (c == 46))
      (are_segments_on cs) h) i

  on_ascii : (cs : List ℕ) → are_segments_on cs ≡ true → IsAscii cs
  on_ascii [] h i = lit< tt
  on_ascii (c ∷ cs) h zero = byte c (c == 47) refl (are_segments cs) (are_segments_on cs) h
  on_ascii (c ∷ cs) h (suc i) = rest c (c == 47) cs h (λ a. segments_ascii cs a) (λ a. on_ascii cs
      a) i

pub file_ascii : (cs : List ℕ) → is_file_name cs ≡ true → IsAscii cs
file_ascii cs h = segments_ascii cs (second (nat_le (length cs) MAX_FILE_NAME_BYTES) (are_segments
    cs) h)
