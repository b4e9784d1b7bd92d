-- A publication as a list of changes of the shelf, which are made one after the other.
use Rattle.std.specs.Prelude.{◌≡◌, ℕ, Bool, true, false, List, [], ◌∷◌, ◌++◌, Option, Some, None, is_some, option_map, flat_map, bytes_eq, if◌then◌else◌}
use Rattle.std.specs.List.{list_any}
use Rattle.std.specs.List.Sorted.{IsStrictlySortedBy}
use Rattle.std.specs.Cmp.Lexicographic.{slice_cmp}
use Rattle.std.specs.Ordering.{nat_cmp}
use Rattle.outside.specs.Cells.{Cell, AreSame, with_content}
use Rattle.outside.specs.declared.shelf.Change.{Change}
use Rattle.outside.specs.declared.shelf.Change.TheVariants.{Put, Removed}
use Rattle.publication.specs.declared.want.Want.{Want}
use Rattle.publication.specs.Wants.{goes, wanted}
use Rattle.publication.specs.Listings.{Lists}

-- the name is known to have these bytes
abbrev pub holds : List ℕ → Cell → Bool
holds bytes None = false
holds bytes (Some None) = false
holds bytes (Some (Some held)) = bytes_eq held bytes

-- a managed file that no profile wants is removed
abbrev pub removal : List Want → List ℕ → List Change
removal ws n = if goes ws n then Removed n ∷ [] else []

-- a wanted file is put where its bytes differ
abbrev pub putting : (List ℕ → Cell) → Want → List Change
putting cell w = if holds w.bytes (cell w.name) then [] else Put w.name ∷ []

-- all changes: first the removals, in the order of the names on the shelf; then the puts, in the
-- order of the wants
abbrev pub planned : List (List ℕ) → List Want → (List ℕ → Cell) → List Change
planned names ws cell = flat_map (removal ws) names ++ flat_map (putting cell) ws

abbrev pub name_of : Change → List ℕ
name_of (Put n) = n
name_of (Removed n) = n

abbrev pub is_changed : List ℕ → List Change → Bool
is_changed n changes = list_any (λ c. bytes_eq (name_of c) n) changes

-- the name of the change that comes next
abbrev pub is_next : List ℕ → List Change → Bool
is_next n [] = false
is_next n (c ∷ cs) = bytes_eq (name_of c) n

-- what was done to a shelf, and then these changes
abbrev pub done : Option (List Change) → List Change → Option (List Change)
done before changes = option_map (λ earlier. earlier ++ changes) before

-- a name that was changed stands as the profiles want it, another one as it was
abbrev pub stand : List Want → List Change → List ℕ → Cell → Cell
stand ws changes n c = if is_changed n changes then with_content (wanted ws n) c else c

-- these changes were made, and no other
pub record Made (ws : List Want) (changes : List Change) (old new : List ℕ
    → Cell) (before now : Option (List Change)) : Type 0 where
  pub told : now ≡ done before changes
  pub stands : (n : List ℕ) → new n ≡ stand ws changes n (old n)

-- A first part of the changes was made, in their order, and no other; the name of the one that came
-- next is unspecified.
pub record Begun (ws : List Want) (plan : List Change) (old new : List ℕ
    → Cell) (before now : Option (List Change)) : Type 0 where
  pub made : List Change
  pub left : List Change
  pub whole : plan ≡ made ++ left
  pub told : now ≡ done before made
  pub stands : (n : List ℕ) → is_next n left ≡ false → new n ≡ stand ws made n (old n)

-- the shelf tells of each name
abbrev pub Tells : (List ℕ → Cell) → Type 0
Tells cell = (n : List ℕ) → is_some (cell n) ≡ true

-- the names are all those on the shelf, each once, in byte order
pub record AreListed (names : List (List ℕ)) (cell : List ℕ → Cell) : Type 0 where
  pub lists : Lists names cell
  pub sorted : IsStrictlySortedBy (slice_cmp nat_cmp) names

-- a publication over these names was made
abbrev pub Makes : List Want → List (List ℕ) → (List ℕ → Cell) → (List ℕ → Cell)
    → Option (List Change) → Option (List Change) → Type 0
Makes ws names old new before now = Made ws (planned names ws old) old new before now

-- .. or begun
abbrev pub Begins : List Want → List (List ℕ) → (List ℕ → Cell) → (List ℕ → Cell)
    → Option (List Change) → Option (List Change) → Type 0
Begins ws names old new before now = Begun ws (planned names ws old) old new before now

-- .. where there is one; where there is none, nothing was done
abbrev pub MadeOver : Option (List Want) → List (List ℕ) → (List ℕ → Cell) → (List ℕ → Cell)
    → Option (List Change) → Option (List Change) → Type 0
MadeOver None names old new before now = (now ≡ before) × AreSame old new
MadeOver (Some ws) names old new before now = Makes ws names old new before now

abbrev pub BegunOver : Option (List Want) → List (List ℕ) → (List ℕ → Cell) → (List ℕ → Cell)
    → Option (List Change) → Option (List Change) → Type 0
BegunOver None names old new before now = (now ≡ before) × AreSame old new
BegunOver (Some ws) names old new before now = Begins ws names old new before now
