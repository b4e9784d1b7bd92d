-- What the system says of a file that is not there.
use Rattle.std.specs.Prelude.{Bool, true, false}
use Rattle.std.specs.declared.io.ErrorKind.{ErrorKind}
use Rattle.std.specs.declared.io.ErrorKind.TheVariants.{NotFound, NotADirectory, IsADirectory}

-- none has the name, one of the folders on the way is a file, or a folder has the name
abbrev pub says_absent : ErrorKind → Bool
says_absent NotFound = true
says_absent NotADirectory = true
says_absent IsADirectory = true
says_absent kind = false
