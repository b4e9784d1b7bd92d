-- Ends that come before the session's own.
use Rattle.std.specs.Prelude.{◌≡◌, ℕ, List, bytes_eq, Option, Some, None, IfSome, ◌⊎◌}
use Rattle.outside.specs.Cells.{Cell, AreSame}
use Rattle.publication.specs.Leavings.{Leaves}
use Rattle.publication.specs.OwnNames.{is_file_of}
use Rattle.publication.specs.Stands.{Stand, Stands}
use Rattle.site_build.specs.declared.ends.Device.{Device}
use Rattle.site_build.specs.declared.ends.Device.TheVariants as D
use Rattle.site_build.specs.declared.ends.End.{End}
use Rattle.site_build.specs.declared.ends.End.TheVariants as E

-- the device whose call failed; want of memory is anyone's
abbrev pub device_of : End → Option Device
device_of E.Source = Some D.Source
device_of E.Shelf = Some D.Shelf
device_of (E.Publishing m) = Some D.Shelf
device_of E.Out = Some D.Out
device_of E.Memory = None

-- a call of this device failed
abbrev pub IsFailureOf : Device → End → Type 0
IsFailureOf device e = device_of e ≡ Some device

-- Whose call can end so.
pub data Caller : Type 0 where
  OfSource : Caller
  OfShelf : Caller
  OfName : Caller
  OfSink : Caller

abbrev pub caller_of : End → Option Caller
caller_of E.Source = Some OfSource
caller_of E.Shelf = Some OfShelf
caller_of (E.Publishing m) = Some OfName
caller_of E.Out = Some OfSink
caller_of E.Memory = None

-- an end of a call on the source, on the shelf as a whole, on a name of it, or on the sink
abbrev pub IsEndOf : Caller → End → Type 0
IsEndOf caller e = IfSome (caller_of e) (λ c. c ≡ caller)

-- an end of a round, which calls names of the shelf and the sink
abbrev pub IsRoundEnd : End → Type 0
IsRoundEnd e = IfSome (caller_of e) (λ c. (c ≡ OfName) ⊎ (c ≡ OfSink))

-- What stands on the shelf after an end. Before a publication it is as it was; where a name's call
-- failed, the files of that object are open; where the text could not be written, the publication
-- was done; where memory was wanting, one name is open.
abbrev pub Stopped : End → (List ℕ → Stand) → (List ℕ → Cell) → (List ℕ → Cell) → Type 0
Stopped E.Source shelf old new = AreSame old new
Stopped E.Shelf shelf old new = AreSame old new
Stopped (E.Publishing m) shelf old new = Leaves (is_file_of m) shelf old new
Stopped E.Out shelf old new = Stands shelf old new
Stopped E.Memory shelf old new = (m : List ℕ) × Leaves (bytes_eq m) shelf old new
