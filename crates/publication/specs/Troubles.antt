-- Calls of a publication that failed, and what it leaves.
use Rattle.std.specs.Prelude.{ℕ, Bool, true, false, List, [], ◌∷◌, ◌++◌, ◌||◌, ◌&&◌, not, is_some, if◌then◌else◌, bytes_eq, codes}
use Rattle.std.specs.List.{list_any}
use Rattle.publication.specs.declared.trouble.Trouble.{Trouble}
use Rattle.publication.specs.declared.trouble.Which.{Which}
use Rattle.publication.specs.declared.trouble.Which.TheVariants.{Json, Dep}
use Rattle.publication.specs.declared.trouble.Call.{Call}
use Rattle.publication.specs.declared.trouble.Call.TheVariants.{Remove, Read, Put}
use Rattle.publication.specs.OwnNames.{is_own, json_name, dep_name}
use Rattle.publication.specs.declared.want.Want.{Want}
use Rattle.publication.specs.Wants.{wanted, goes}
use Rattle.publication.specs.Stands.{Stand, Has, Unspecified}

abbrev pub name_of : Which → List ℕ → List ℕ
name_of Json object = json_name object
name_of Dep object = dep_name object

-- the name that was called
abbrev pub called : Trouble → List ℕ
called t = name_of t.which t.object

abbrev pub is_read : Call → Bool
is_read Remove = false
is_read Read = true
is_read Put = false

abbrev pub is_removal : Call → Bool
is_removal Remove = true
is_removal Read = false
is_removal Put = false

-- the call on an object's first file failed, and so its second one was passed over
abbrev pub skips : Which → Call → Bool
skips Json Remove = false
skips Json Read = true
skips Json Put = true
skips Dep call = false

-- a put or a removal failed: the name is open
abbrev pub unsettles : List ℕ → Trouble → Bool
unsettles n t = not (is_read t.call) && bytes_eq (called t) n

-- the name was passed over
abbrev pub passes : List ℕ → Trouble → Bool
passes n t = skips t.which t.call && bytes_eq (dep_name t.object) n

-- its read failed, or it was passed over: the name is as it was
abbrev pub keeps : List ℕ → Trouble → Bool
keeps n t = (is_read t.call && bytes_eq (called t) n) || passes n t

-- What stands after a publication in which these calls failed: every wanted name has its bytes, no
-- other own name is there, and all others are as they were.
abbrev pub published : List Want → List Trouble → (List ℕ → Stand) → List ℕ → Stand
published ws troubles before n =
    if not (is_own n) || list_any (keeps n) troubles then before n
    else if list_any (unsettles n) troubles then Unspecified
    else Has (wanted ws n)

-- a call that a publication of these wants makes
abbrev pub fits_call : List Want → Call → List ℕ → Bool
fits_call ws Remove n = goes ws n
fits_call ws Read n = is_some (wanted ws n)
fits_call ws Put n = is_some (wanted ws n)

abbrev pub fits : List Want → Trouble → Bool
fits ws t = fits_call ws t.call (called t)

abbrev pub fits_removal : List Want → Trouble → Bool
fits_removal ws t = is_removal t.call && goes ws (called t)

abbrev pub fault_line : List ℕ → List ℕ
fault_line object = codes "shelf fault " ++ object ++ codes "\n"

-- a line for an object at its first trouble
abbrev pub line_once : List Trouble → Trouble → List ℕ
line_once before t = if list_any (λ (u : Trouble). bytes_eq u.object t.object) before then []
    else fault_line t.object

abbrev pub lines_after : List Trouble → List Trouble → List ℕ
lines_after before [] = []
lines_after before (t ∷ ts) = line_once before t ++ lines_after (before ++ t ∷ []) ts

abbrev pub trouble_lines : List Trouble → List ℕ
trouble_lines troubles = lines_after [] troubles
