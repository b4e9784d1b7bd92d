-- A file that was read up to one byte more than it may have.
use Rattle.std.proofs.Common.{◌≡◌, ◌≤◌, ◌+◌, ℕ, List, length, min, true, Option, Some, None, IfSome, refl, ap, ◌∙◌, arith}
use Rattle.std.specs.Prelude.{take, option_map}
use Rattle.std.proofs.lemmas.Bool.{le-leb}
use Rattle.std.proofs.lemmas.List.{length-take, take_all}
use Rattle.base.specs.declared.limits.TheConstants.{MAX_FILE_BYTES}
use Rattle.outside.specs.Pictures.{got_of, read_of}
use Rattle.load_path.specs.Pictures.{is_short}
use Rattle.outside.specs.declared.source.Got.TheVariants.{Bytes}

-- so few bytes of one more are all
all_by : (most : ℕ) (xs items : List ℕ) → items ≡ take (most + 1) xs → length items ≤ most
    → (length xs ≤ most) × (items ≡ xs)
all_by most xs items is few =
    let long : length items ≡ min (most + 1) (length xs) =
    ap length is ∙ length-take (most + 1) xs in
    let fits : length xs ≤ most = omega (arith, long, few) in
    (fits, is ∙ take_all (most + 1) xs (omega (arith, fits)))

short_by : (xs items : List ℕ) → (length xs ≤ MAX_FILE_BYTES) × (items ≡ xs)
    → (Bytes ≡ got_of (Some xs)) × (items ≡ read_of (Some xs))
short_by xs items all =
    let fits : is_short xs ≡ true = le-leb (length xs) MAX_FILE_BYTES all.0 in
    rw fits (refl, all.1)

pub short_told : (told : Option (List ℕ)) (items : List ℕ) (most : ℕ) → most ≡ MAX_FILE_BYTES
    → IfSome (option_map (take (most + 1)) told) (λ xs. items ≡ xs) → length items ≤ most
    → IfSome told (λ xs. (Bytes ≡ got_of (Some xs)) × (items ≡ read_of (Some xs)))
short_told None items most same is few = tt
short_told (Some xs) items most same is few =
    short_by xs items (rw same at (all_by most xs items is few))
