-- File names.
use Rattle.base.specs.declared.limits.TheConstants.{MAX_FILE_NAME_BYTES}
use Rattle.std.specs.Prelude.{ℕ, List, [], ◌∷◌, length, Bool, true, false, not, ◌&&◌, ◌==◌, nat_le, if◌then◌else◌}

-- from the space to the tilde, but no slash
abbrev pub is_name_byte : ℕ → Bool
is_name_byte c = nat_le 32 c && nat_le c 126 && not (c == 47)

abbrev mutual
  -- segments joined by slashes: each is one byte or more, and begins with no dot
  pub are_segments : List ℕ → Bool
  are_segments [] = false
  are_segments (c ∷ cs) = is_name_byte c && not (c == 46) && are_segments_on cs

  -- the same, from inside a segment on
  pub are_segments_on : List ℕ → Bool
  are_segments_on [] = true
  are_segments_on (c ∷ cs) =
      if c == 47 then are_segments cs else (is_name_byte c && are_segments_on cs)

abbrev pub is_file_name : List ℕ → Bool
is_file_name bytes = nat_le (length bytes) MAX_FILE_NAME_BYTES && are_segments bytes
