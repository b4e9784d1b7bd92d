-- Files that are put under names of any kind, with no removal.
use Rattle.std.specs.Prelude.{◌≡◌, ◌⊎◌, ℕ, Bool, true, false, List, [], ◌∷◌, ◌&&◌, Option, Some, None, is_some, not, bytes_eq}
use Rattle.outside.specs.Cells.{Cell, with_content}
use Rattle.publication.specs.declared.puts.PutError.{PutError}
use Rattle.publication.specs.declared.puts.PutError.TheVariants.{Failed, Memory}
use Rattle.publication.specs.declared.want.Want.{Want}
use Rattle.publication.specs.Wants.{wanted}

-- no name is wanted twice
abbrev pub are_apart : List Want → Bool
are_apart [] = true
are_apart (w ∷ ws) = not (is_some (wanted ws w.name)) && are_apart ws

-- a name with these bytes, where there are any
abbrev pub put_where : Option (List ℕ) → Cell → Cell
put_where None c = c
put_where (Some b) c = with_content (Some b) c

-- each wanted name gets its bytes
abbrev pub placed : List Want → List ℕ → Cell → Cell
placed ws n c = put_where (wanted ws n) c

-- But for names that are open, each name is as it was or has its bytes; one that is not wanted is
-- as
-- it was.
pub record PutsLeave (is_open : List ℕ → Bool) (ws : List Want) (old new : List ℕ → Cell)
    : Type 0 where
  pub each : (n : List ℕ) → is_open n ≡ false → (new n ≡ old n) ⊎ (new n ≡ placed ws n (old n))

-- Where a call failed, its name is open; where memory was wanting, one name is.
abbrev pub PutsLeft : PutError → List Want → (List ℕ → Cell) → (List ℕ → Cell) → Type 0
PutsLeft (Failed m) ws old new = PutsLeave (bytes_eq m) ws old new
PutsLeft Memory ws old new = (m : List ℕ) × PutsLeave (bytes_eq m) ws old new

-- the name whose call failed is a wanted one
abbrev pub IsPutOf : List Want → PutError → Type 0
IsPutOf ws (Failed m) = is_some (wanted ws m) ≡ true
IsPutOf ws Memory = Unit {0}

abbrev pub IsPutFailure : PutError → Type 0
IsPutFailure (Failed m) = Unit {0}
IsPutFailure Memory = ⊥

-- an end of a call on this name. Inner contracts use it.
abbrev pub IsPutAt : List ℕ → PutError → Type 0
IsPutAt n (Failed m) = m ≡ n
IsPutAt n Memory = Unit {0}
