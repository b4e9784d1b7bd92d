-- What is refused.
use Rattle.std.specs.Prelude.{Bool, true, false, Result, Ok, Err, ⊤}
use Rattle.sqlite.specs.declared.error.Error.{Error}
use Rattle.sqlite.specs.declared.error.Error.TheVariants.{SqliteFailure}
use Rattle.sqlite.specs.declared.error.ErrorCode.TheVariants.{OutOfMemory}
use Rattle.sqlite_keeper.specs.declared.refusal.Refusal.{Refusal}
use Rattle.sqlite_keeper.specs.declared.refusal.Refusal.TheVariants.{OtherTables, Database}
use Rattle.outside.specs.declared.error.StoreError.{StoreError}
use Rattle.outside.specs.declared.error.StoreError.TheVariants.{Failed, Memory}

-- what an error of the database is to the caller: want of memory, or else a fault
abbrev pub store_error_of : Error → StoreError
store_error_of (SqliteFailure OutOfMemory) = Memory
store_error_of _ = Failed

-- why a call on the rows did not do what it is for
abbrev pub refusal_of : Result Bool Error → Refusal
refusal_of (Ok done) = OtherTables
refusal_of (Err e) = Database e

-- a call on the rows that did not do what it is for
abbrev pub IsRefusal : Result Bool Error → Type 0
IsRefusal (Ok true) = ⊥
IsRefusal (Ok false) = ⊤
IsRefusal (Err e) = ⊤
