-- The first characters of a text. A character is a byte that is no continuation byte, with the
-- continuation bytes behind it.
use Rattle.std.specs.Prelude.{ℕ, zero, suc, ◌+◌, Bool, ◌&&◌, nat_le, if◌then◌else◌, List, [], ◌∷◌, take}
use Rattle.base.specs.declared.limits.TheConstants.{MAX_DETAIL_CHARACTERS}
use Rattle.pan_ast.specs.declared.place.Place.{Place}
use Rattle.pan_ast.specs.declared.fault.Code.{Code}
use Rattle.pan_ast.specs.declared.fault.Fault.{Fault}

abbrev pub is_continuation : ℕ → Bool
is_continuation b = nat_le 128 b && nat_le b 191

-- how many bytes the first n characters take
abbrev pub chars_len : ℕ → List ℕ → ℕ
chars_len n [] = 0
chars_len zero (b ∷ bs) = if is_continuation b then 1 + chars_len zero bs else 0
chars_len (suc n) (b ∷ bs) =
    if is_continuation b then 1 + chars_len (suc n) bs else 1 + chars_len n bs

abbrev pub first_chars : ℕ → List ℕ → List ℕ
first_chars n text = take (chars_len n text) text

-- a fault keeps the first characters of its detail
abbrev pub fault_with : Code → Place → List ℕ → Fault
fault_with code place text =
    record { code = code; place = place; detail = first_chars MAX_DETAIL_CHARACTERS text }

-- a fault without a detail
abbrev pub fault_at : Code → Place → Fault
fault_at code place = record { code = code; place = place; detail = [] }
