-- The statuses of a call.
use Rattle.std.specs.Prelude.{ℕ}
use Rattle.session.specs.declared.Ended.{Ended}
use Rattle.session.specs.declared.Ended.TheVariants as ended
use Rattle.call_status.specs.declared.status.Status.{Status}
use Rattle.call_status.specs.declared.status.Status.TheVariants as S

-- the exit status of the program
abbrev pub exit_code_of : Status → ℕ
exit_code_of S.Clean = 0
exit_code_of S.SomeFaults = 1
exit_code_of S.Usage = 2
exit_code_of S.SourceFault = 3
exit_code_of S.ShelfFault = 4
exit_code_of S.KeeperFault = 5
exit_code_of S.LinesFault = 6
exit_code_of S.OutFault = 7
exit_code_of S.Memory = 8
exit_code_of S.NumbersSpent = 9
exit_code_of S.TooManyLines = 10
exit_code_of S.TooMuch = 11
exit_code_of S.BadRows = 12
exit_code_of (S.TooManyRemovals removals) = 13

-- of a session that came to its end
abbrev pub status_after : Ended → Status
status_after ended.Clean = S.Clean
status_after ended.SomeFaults = S.SomeFaults
status_after ended.NumbersSpent = S.NumbersSpent
status_after ended.TooMuch = S.TooMuch
status_after (ended.TooManyRemovals removals) = S.TooManyRemovals removals
