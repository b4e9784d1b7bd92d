-- What the calls of a publication answered, and what they did to the shelf, in order.
use Rattle.std.specs.Prelude.{◌≡◌, ◌≤◌, ℕ, Bool, List, [], ◌∷◌, ◌++◌, Option, Some, None, IfSome, IfOk, OnErr, Result, is_some, if◌then◌else◌, flat_map, map, bytes_eq, ◌&&◌, ◌||◌, false}
use Rattle.std.specs.List.{list_any}
use Rattle.std.specs.List.Sorted.{IsSorted}
use Rattle.std.specs.Cmp.Lexicographic.{slice_cmp}
use Rattle.std.specs.Ordering.{nat_cmp}
use Rattle.std.specs.HashMap.{get}
use Rattle.outside.specs.Cells.{Cell, AllBut}
use Rattle.outside.specs.declared.shelf.Change.{Change}
use Rattle.outside.specs.declared.shelf.Change.TheVariants.{Put, Removed}
use Rattle.publication.specs.declared.answer.Publication.{Publication}
use Rattle.publication.specs.declared.answer.Publication.TheVariants.{Done, TooManyRemovals}
use Rattle.publication.specs.declared.profile.Profile.{Profile}
use Rattle.publication.specs.declared.publisher.Publisher.{Publisher}
use Rattle.publication.specs.declared.trouble.Trouble.{Trouble}
use Rattle.publication.specs.declared.trouble.Which.{Which}
use Rattle.publication.specs.declared.trouble.Which.TheVariants.{Json, Dep}
use Rattle.publication.specs.declared.trouble.Call.{Call}
use Rattle.publication.specs.declared.trouble.Call.TheVariants.{Remove}
use Rattle.publication.specs.Changing.{done, holds, putting}
use Rattle.publication.specs.Bounds.{removals_in}
use Rattle.publication.specs.Published.{Brings, one_or_none}
use Rattle.publication.specs.Troubles.{called, is_removal}
use Rattle.publication.specs.Wants.{json_want, dep_want, wants_of, goes}

-- a name that was to go, and the call that failed, or none
pub record Removal : Type 0 where
  pub name : List ℕ
  pub trouble : Option Trouble

abbrev pub removed : Bool → List ℕ → List Change
removed gone name = if gone then Removed name ∷ [] else []

abbrev pub removal_changes : Removal → List Change
removal_changes r = if is_some r.trouble then [] else Removed r.name ∷ []

abbrev pub removal_troubles : Removal → List Trouble
removal_troubles r = one_or_none r.trouble

abbrev pub name_to_go : Removal → List ℕ
name_to_go r = r.name

-- each trouble is that of a removal of its name
abbrev pub AreRemovals : List Removal → Type 0
AreRemovals [] = Unit {0}
AreRemovals (r ∷ rs) =
    IfSome r.trouble (λ t. (called t ≡ r.name) × (t.call ≡ Remove)) × AreRemovals rs

-- a profile whose files were to get their bytes, and the call that failed, or none
pub record Write : Type 0 where
  pub profile : Profile
  pub trouble : Option Trouble

-- What was put of a profile. A file is put where its bytes differ. A failed call puts nothing;
-- where it was on the first file, the second was passed over.
abbrev pub put_before : (List ℕ → Cell) → Profile → Which → List Change
put_before cell p Json = []
put_before cell p Dep = putting cell (json_want p)

abbrev pub put_of : (List ℕ → Cell) → Profile → Option Trouble → List Change
put_of cell p None = putting cell (json_want p) ++ putting cell (dep_want p)
put_of cell p (Some t) = put_before cell p t.which

abbrev pub write_changes : (List ℕ → Cell) → Write → List Change
write_changes cell w = put_of cell w.profile w.trouble

abbrev pub write_troubles : Write → List Trouble
write_troubles w = one_or_none w.trouble

abbrev pub profile_to_write : Write → Profile
profile_to_write w = w.profile

-- each trouble is that of a read or put of a file of its profile
abbrev pub AreWrites : List Write → Type 0
AreWrites [] = Unit {0}
AreWrites (w ∷ ws) = IfSome w.trouble (λ t. (t.object ≡ w.profile.name)
    × (is_removal t.call ≡ false)) × AreWrites ws

-- these names went, in order, but for those whose removal failed
pub record Removes (names : List (List ℕ)) (troubles troubles_now : List Trouble)
    (log log_now : Option (List Change)) : Type 0 where
  pub calls : List Removal
  pub are : AreRemovals calls
  pub of_names : map name_to_go calls ≡ names
  pub failed : troubles_now ≡ troubles ++ flat_map removal_troubles calls
  pub did : log_now ≡ done log (flat_map removal_changes calls)

-- these profiles were written, in order, to a shelf that told this at the start
pub record Writes (cell : List ℕ → Cell) (profiles : List Profile)
    (troubles troubles_now : List Trouble) (log log_now : Option (List Change)) : Type 0 where
  pub calls : List Write
  pub are : AreWrites calls
  pub of_profiles : map profile_to_write calls ≡ profiles
  pub failed : troubles_now ≡ troubles ++ flat_map write_troubles calls
  pub did : log_now ≡ done log (flat_map (write_changes cell) calls)

-- What a publication that was made did to the shelf, and which of its calls failed: the names that
-- may be there and that no profile wants went, in byte order, and then the profiles were written,
-- in
-- the order of the list.
pub record Logged (p : Publisher) (profiles : List Profile) (troubles : List Trouble) (cell : List ℕ
    → Cell) (log log_now : Option (List Change)) : Type 0 where
  pub gone : List (List ℕ)
  pub sorted : IsSorted (slice_cmp nat_cmp) gone
  pub exact : (n : List ℕ) → list_any (λ m. bytes_eq m n) gone
      ≡ (goes (wants_of profiles) n && is_some (get bytes_eq p.own n))
  pub removal_failures : List Trouble
  pub between : Option (List Change)
  pub removes : Removes gone [] removal_failures log between
  pub writes : Writes cell profiles removal_failures troubles between log_now

-- .. and one of which too many names were to go did nothing
abbrev pub LoggedBy : Publisher → List Profile → Publication → (List ℕ → Cell)
    → Option (List Change) → Option (List Change) → Type 0
LoggedBy p profiles (Done troubles) cell log log_now = Logged p profiles troubles cell log log_now
LoggedBy p profiles (TooManyRemovals removals) cell log log_now = log_now ≡ log

-- what a name that was to hold these bytes adds
abbrev pub put_by : Option Call → List ℕ → List ℕ → Cell → List Change
put_by failed name bytes c = if is_some failed || holds bytes c then [] else Put name ∷ []

abbrev pub LogsPut : List ℕ → List ℕ → Option Call → Option (List Change) → Option (List Change)
    → Option (List ℕ) → Type 0
LogsPut name bytes failed log log_now content =
    log_now ≡ done log (put_by failed name bytes (Some content))

-- A name was to hold these bytes. Where memory was there it holds them, or a call failed, and the
-- log tells what was put; where it was wanting, the name alone is open. No name was removed.
pub record BringsBytes {E : Type 0} (name bytes : List ℕ) (before now : ℕ)
    (old new : List ℕ → Cell) (changes changes_now : Option (List Change))
    (result : Result (Option Call) E) : Type 0 where
  pub ok : IfOk result (λ failed. Brings name bytes failed before now old new)
  pub unsettles : OnErr result (AllBut old name new)
  pub later : before ≤ now
  pub removals : removals_in changes_now ≡ removals_in changes
  pub log : IfOk result (λ failed. IfSome (old name)
      (LogsPut name bytes failed changes changes_now))
