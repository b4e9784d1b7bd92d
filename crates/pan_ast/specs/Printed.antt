-- The printed line of a fault.
use Rattle.std.specs.Prelude.{ℕ, ◌/◌, ◌%◌, ◌+◌, ◌-◌, ◌&&◌, ◌==◌, nat_le, nat_lt, if◌then◌else◌, List, [], ◌∷◌, ◌++◌, flat_map, decimal}
use Rattle.base.specs.Characters.{colon, digit_0, lower_a, lower_x}
use Rattle.pan_ast.specs.Signs.{backslash, space, tilde}
use Rattle.pan_ast.specs.declared.place.Place.{Place}
use Rattle.pan_ast.specs.declared.fault.Fault.{Fault}
use Rattle.pan_ast.specs.Codes.{code_text}

-- 0 to 9 and a to f
abbrev pub hex_digit : ℕ → ℕ
hex_digit n = if nat_lt n 10 then digit_0 + n else lower_a + (n - 10)

-- `\` as `\\`, and a byte outside 0x20 to 0x7E as `\xHH`
abbrev pub printed_byte : ℕ → List ℕ
printed_byte b =
    if b == backslash then backslash ∷ backslash ∷ []
    else (if nat_le space b && nat_le b tilde then b ∷ []
    else backslash ∷ lower_x ∷ hex_digit (b / 16) ∷ hex_digit (b % 16) ∷ [])

abbrev pub printed : List ℕ → List ℕ
printed bytes = flat_map printed_byte bytes

-- FILE:LINE:COLUMN, the file as it is
abbrev pub place_text : Place → List ℕ
place_text p = p.file ++ colon ∷ [] ++ decimal p.line ++ colon ∷ [] ++ decimal p.column

-- a space and the detail, where it is not empty
abbrev pub detail_text : List ℕ → List ℕ
detail_text [] = []
detail_text (b ∷ bs) = space ∷ [] ++ printed (b ∷ bs)

-- CODE FILE:LINE:COLUMN, and the detail
abbrev pub line_of : Fault → List ℕ
line_of f = code_text f.code ++ space ∷ [] ++ place_text f.place ++ detail_text f.detail
