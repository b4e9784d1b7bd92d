-- What a publication promises.
use Rattle.std.specs.Prelude.{◌≡◌, ◌≤◌, ◌+◌, ◌⊎◌, ℕ, Bool, true, false, List, [], ◌∷◌, ◌++◌, Option, Some, None, IfSome, is_some, option_map, length, bytes_eq, not, ◌||◌, ◌&&◌, if◌then◌else◌}
use Rattle.std.specs.List.{list_all, list_any, IsDistinct}
use Rattle.std.specs.HashMap.{get}
use Rattle.std.specs.HashSet.{HashSet, contains}
use Rattle.base.specs.Integers.{saturated}
use Rattle.outside.specs.Causes.{Rose}
use Rattle.outside.specs.Cells.{Cell, Sets, AllBut, AreSame}
use Rattle.publication.specs.declared.answer.Publication.{Publication}
use Rattle.publication.specs.declared.answer.Publication.TheVariants.{Done}
use Rattle.publication.specs.declared.trouble.Trouble.{Trouble}
use Rattle.publication.specs.declared.publisher.Known.{Known}
use Rattle.publication.specs.declared.publisher.Known.TheVariants.{Unread, Holds}
use Rattle.publication.specs.declared.publisher.Publisher.{Publisher}
use Rattle.publication.specs.declared.profile.Profile.{Profile}
use Rattle.publication.specs.declared.trouble.Which.{Which}
use Rattle.publication.specs.declared.trouble.Call.{Call}
use Rattle.publication.specs.declared.trouble.Call.TheVariants.{Remove, Read, Put}
use Rattle.publication.specs.OwnNames.{is_own}
use Rattle.publication.specs.declared.want.Want.{Want}
use Rattle.publication.specs.Wants.{wanted, wants_of, goes}
use Rattle.publication.specs.Stands.{Stand, Meets, Stands, untouched, AtStart, Has, Unspecified}
use Rattle.publication.specs.Troubles.{called, fits, fits_removal, published, name_of, keeps, passes, unsettles, is_removal}
use Rattle.publication.specs.Bounds.{Bounded, published_by, stays, troubles_of}

-- how many calls failed, of one
abbrev pub failures : {A : Type 0} → Option A → ℕ
failures None = 0
failures (Some x) = 1

-- at most so many calls failed as the count rose
abbrev pub AtMost : ℕ → ℕ → ℕ → Type 0
AtMost failed before now = saturated (before + failed) ≤ now

-- A publication was made, but for its troubles, and no other call failed; or nothing was changed,
-- as
-- too many names were to go.
pub record Published (ws : List Want) (p : Publication) (before now : ℕ) (old new : List ℕ
    → Cell) : Type 0 where
  pub fit : list_all (fits ws) (troubles_of p) ≡ true
  pub causes : AtMost (length (troubles_of p)) before now
  pub most : now ≤ before + length (troubles_of p)
  pub stands : Stands (published_by ws p untouched) old new

-- Memory was wanting in one. But for one open name, each name is as it was or as after the
-- publication with these troubles.
pub record Interrupted (ws : List Want) (before now : ℕ) (old new : List ℕ → Cell) : Type 0 where
  pub troubles : List Trouble
  pub fit : list_all (fits ws) troubles ≡ true
  pub causes : AtMost (length troubles) before now
  pub open_name : List ℕ
  pub others : (n : List ℕ) → is_own n ≡ false → new n ≡ old n
  pub own : (n : List ℕ) → bytes_eq open_name n ≡ false
      → (new n ≡ old n) ⊎ Meets (published ws troubles untouched n) (old n) (new n)

-- what is known of an own name: nothing (it is absent), that it may be there, or its bytes
abbrev pub Allows : Option Known → Option (List ℕ) → Type 0
Allows None content = content ≡ None
Allows (Some Unread) content = Unit
Allows (Some (Holds bytes)) content = content ≡ Some bytes

-- the names that may be there, as a publisher knows
abbrev pub may_stand_in : Publisher → List ℕ → Bool
may_stand_in p n = is_some (get bytes_eq p.own n)

-- all that is known of the own names is so
abbrev pub Knows : Publisher → (List ℕ → Cell) → Type 0
Knows p cell = (n : List ℕ) → is_own n ≡ true → IfSome (cell n) (Allows (get bytes_eq p.own n))

-- a name was to get this content: it has it, or the call failed and it is open
pub record Came (name : List ℕ) (content : Option (List ℕ)) (done : Bool) (before now : ℕ)
    (old new : List ℕ → Cell) : Type 0 where
  pub later : before ≤ now
  pub rose : done ≡ false → Rose before now
  pub most : now ≤ before + (if done then 0 else 1)
  pub gives : done ≡ true → Sets old name content new
  pub unsettles : AllBut old name new
  pub tells : (n : List ℕ) → Meets Stand.Unspecified (old n) (new n)

-- the name is known to hold these bytes
abbrev pub Holding : List ℕ → Option Known → Type 0
Holding bytes None = ⊥
Holding bytes (Some Unread) = ⊥
Holding bytes (Some (Holds b)) = b ≡ bytes

-- what is left under a name that was to hold these bytes, where this call failed, or none
abbrev pub Left : List ℕ → List ℕ → Option Call → (List ℕ → Cell) → (List ℕ → Cell) → Type 0
Left name bytes None old new = Sets old name (Some bytes) new
Left name bytes (Some Remove) old new = ⊥
Left name bytes (Some Read) old new = (n : List ℕ) → new n ≡ old n
Left name bytes (Some Put) old new =
    AllBut old name new × ((n : List ℕ) → Meets Stand.Unspecified (old n) (new n))

-- a name was to hold these bytes
pub record Brings (name bytes : List ℕ) (failed : Option Call) (before now : ℕ) (old new : List ℕ
    → Cell) : Type 0 where
  pub later : before ≤ now
  pub rose : is_some failed ≡ true → Rose before now
  pub most : now ≤ before + failures failed
  pub left : Left name bytes failed old new

-- the trouble is with this file of the object
abbrev pub IsOn : List ℕ → Which → Trouble → Type 0
IsOn object which t = (t.object ≡ object) × (t.which ≡ which)

abbrev pub call_of : Trouble → Call
call_of t = t.call

-- the same of a file of an object
pub record BringsFile (object : List ℕ) (which : Which) (bytes : List ℕ) (trouble : Option Trouble)
    (before now : ℕ) (old new : List ℕ → Cell) : Type 0 where
  pub brings : Brings (name_of which object) bytes (option_map call_of trouble) before now old new
  pub on : IfSome trouble (IsOn object which)

abbrev pub one_or_none : Option Trouble → List Trouble
one_or_none None = []
one_or_none (Some t) = t ∷ []

-- what these wants alone leave, where these calls failed
abbrev pub placed : List Want → List Trouble → List ℕ → Stand
placed ws troubles n =
    if not (is_some (wanted ws n)) || list_any (keeps n) troubles then AtStart
    else if list_any (unsettles n) troubles then Unspecified
    else Has (wanted ws n)

-- the same of both files of an object
pub record BringsProfile (p : Profile) (trouble : Option Trouble) (before now : ℕ) (old new : List ℕ
    → Cell) : Type 0 where
  pub later : before ≤ now
  pub rose : is_some trouble ≡ true → Rose before now
  pub most : now ≤ before + failures trouble
  pub on : IfSome trouble (λ t. (t.object ≡ p.name) × (is_removal t.call ≡ false))
  pub stands : Stands (placed (wants_of (p ∷ [])) (one_or_none trouble)) old new

-- memory was wanting: but for one of the two files, each name is as it was, or has its bytes
pub record Partly (p : Profile) (old new : List ℕ → Cell) : Type 0 where
  pub which : Which
  pub others : (n : List ℕ) → bytes_eq (name_of which p.name) n ≡ false
      → (new n ≡ old n) ⊎ Meets (placed (wants_of (p ∷ [])) [] n) (old n) (new n)

-- A publication under way, with these troubles so far: the names of `rest` are still to get their
-- bytes.
pub record Placing (ws rest : List Want) (troubles : List Trouble) (before now : ℕ)
    (start cell : List ℕ → Cell) : Type 0 where
  pub fit : list_all (fits ws) troubles ≡ true
  pub causes : AtMost (length troubles) before now
  pub most : now ≤ before + length troubles
  pub stands : (n : List ℕ) → Meets (if is_some (wanted rest n) then AtStart
      else published ws troubles untouched n) (start n) (cell n)
  pub fresh : (n : List ℕ) → is_some (wanted rest n) ≡ true
      → (list_any (keeps n) troubles ≡ false) × (list_any (unsettles n) troubles ≡ false)
  pub same : (n : List ℕ) → is_some (wanted rest n) ≡ true → wanted ws n ≡ wanted rest n

-- Names being removed: those of `rest` are still to go.
pub record Clearing (ws : List Want) (rest : List (List ℕ)) (troubles : List Trouble)
    (before now : ℕ) (start cell : List ℕ → Cell) : Type 0 where
  pub removals : list_all (fits_removal ws) troubles ≡ true
  pub causes : AtMost (length troubles) before now
  pub most : now ≤ before + length troubles
  pub kept : (n : List ℕ) → goes ws n ≡ false → cell n ≡ start n
  pub gone : (n : List ℕ) → goes ws n ≡ true → list_any (λ m. bytes_eq m n) rest ≡ false
      → Meets (published ws troubles untouched n) (start n) (cell n)
  pub going : (n : List ℕ) → goes ws n ≡ true → (cell n ≡ start n)
      ⊎ Meets (published ws troubles untouched n) (start n) (cell n)

-- each name that no profile wants is among these, or known to be absent
abbrev pub Covers : List (List ℕ) → List Want → Publisher → Type 0
Covers names ws p = (n : List ℕ) → goes ws n ≡ true → list_any (λ m. bytes_eq m n) names ≡ false
    → get bytes_eq p.own n ≡ None

-- a name went, or it is open and there is one more trouble
pub record Sweeps (name : List ℕ) (troubles_old troubles_new : List Trouble) (before now : ℕ)
    (old new : List ℕ → Cell) : Type 0 where
  pub done : Bool
  pub came : Came name None done before now old new
  pub trouble : Option Trouble
  pub is : is_some trouble ≡ not done
  pub on : IfSome trouble (λ t. (called t ≡ name) × (t.call ≡ Remove))
  pub troubles : troubles_new ≡ troubles_old ++ one_or_none trouble

-- the name may be there no more, or its removal failed
pub record Drops (name : List ℕ) (troubles_old troubles_new : List Trouble)
    (known known_now : List ℕ → Bool) : Type 0 where
  pub trouble : Option Trouble
  pub on : IfSome trouble (λ t. (called t ≡ name) × (t.call ≡ Remove))
  pub troubles : troubles_new ≡ troubles_old ++ one_or_none trouble
  pub keys : (n : List ℕ) → known_now n ≡ (if bytes_eq name n then is_some trouble else known n)

-- Names being removed: which may be there, where at the start these might. Those of `rest` are
-- still
-- to go.
pub record Dropping (ws : List Want) (rest : List (List ℕ)) (troubles : List Trouble)
    (start known : List ℕ → Bool) : Type 0 where
  pub removals : list_all (fits_removal ws) troubles ≡ true
  pub keys : (n : List ℕ) → known n ≡ (if list_any (λ m. bytes_eq m n) rest || not (goes ws n)
      then start n else (start n && list_any (unsettles n) troubles))
  pub fresh : (n : List ℕ) → list_any (λ m. bytes_eq m n) rest ≡ true
      → list_any (unsettles n) troubles ≡ false
  pub starts : (n : List ℕ) → list_any (λ m. bytes_eq m n) rest ≡ true → start n ≡ true
  pub once : IsDistinct bytes_eq rest

-- A publication under way, in the same way: the names of `rest` are still to get their bytes.
pub record Bringing (ws rest : List Want) (troubles : List Trouble) (start known : List ℕ
    → Bool) : Type 0 where
  pub keys : (n : List ℕ) → known n
      ≡ (if is_some (wanted rest n) then start n else stays ws troubles start n)
  pub fresh : (n : List ℕ) → is_some (wanted rest n) ≡ true
      → list_any (passes n) troubles ≡ false
  pub same : (n : List ℕ) → is_some (wanted rest n) ≡ true → is_some (wanted ws n) ≡ true

-- the files of a profile may be there, but for one that was passed over
abbrev pub MayBring : Profile → Option Trouble → (List ℕ → Bool) → (List ℕ → Bool) → Type 0
MayBring p trouble known known_now = (n : List ℕ) → known_now n
    ≡ ((is_some (wanted (wants_of (p ∷ [])) n)
    && not (list_any (passes n) (one_or_none trouble))) || known n)

-- nothing was changed, or memory was wanting in a publication that is within the bound
abbrev pub InterruptedWithin : Option ℕ → List Want → (List ℕ → Bool) → ℕ → ℕ → (List ℕ → Cell)
    → (List ℕ → Cell) → Type 0
InterruptedWithin most ws may_stand before now old new = AreSame old new
    ⊎ ((i : Interrupted ws before now old new) × Bounded most ws may_stand (Done i.troubles))

-- the set of the names that profiles want
abbrev pub Names : {S : Type 0} → HashSet (List ℕ) S → List Want → Type 0
Names names ws = (n : List ℕ) → contains bytes_eq names n ≡ is_some (wanted ws n)
