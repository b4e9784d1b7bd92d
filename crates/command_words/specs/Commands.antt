-- What the words ask for.
use Rattle.std.specs.Prelude.{ℕ, ◌==◌, Bool, false, List, [], ◌∷◌, Option, Some, None, is_some, option_map, ◌&&◌, ◌||◌, if◌then◌else◌, nat_le, nat_lt, length, map, bytes_eq, codes}
use Rattle.std.specs.List.{list_all, slice_split}
use Rattle.load_path.specs.FileNames.{is_file_name}
use Rattle.numbers.specs.Numbers.{number_of}
use Rattle.command_words.specs.TheCommand.{given_of}
use Rattle.command_words.specs.declared.commands.Command.{Command}
use Rattle.command_words.specs.declared.commands.Command.TheVariants.{Build, Watch, Demo, Format}
use Rattle.command_words.specs.declared.commands.Demonstration.{Demonstration}
use Rattle.command_words.specs.declared.commands.Limits.{Limits}
use Rattle.command_words.specs.declared.commands.Pair.{Pair}
use Rattle.command_words.specs.declared.commands.Work.{Work}
use Rattle.load_path.specs.declared.limits.TheConstants.{MAX_PARTS, MAX_ITERATIONS, DEFAULT_ITERATIONS, MAX_RECURSION, DEFAULT_RECURSION}
use Rattle.command_words.specs.declared.limits.TheConstants.{MAX_MOST_REMOVED, MAX_MACHINES, MAX_START}
use Rattle.command_words.specs.declared.words.Words.{Words}

-- a number in decimal digits without a leading zero, from low to high
abbrev pub within : ℕ → ℕ → Option ℕ → Option ℕ
within low high None = None
within low high (Some n) = if nat_le low n && nat_le n high then Some n else None

abbrev pub number_within : ℕ → ℕ → List ℕ → Option ℕ
number_within low high text = within low high (number_of text)

-- the value of an option that is a number: from 1 to a limit, where it is given
abbrev pub limit_of : ℕ → ℕ → Option (List ℕ) → Option ℕ
limit_of high default None = Some default
limit_of high default (Some text) = number_within 1 high text

-- a part of LIST is `.`, which means the empty directory, or a file name
abbrev pub is_dot : List ℕ → Bool
is_dot part = bytes_eq part (codes ".")

abbrev pub is_part : List ℕ → Bool
is_part part = is_dot part || is_file_name part

abbrev pub directory_of : List ℕ → List ℕ
directory_of part = if is_dot part then [] else part

-- LIST is 1 to 100 parts joined by `:`
abbrev pub parts_of : List ℕ → List (List ℕ)
parts_of text = slice_split (λ c. c == 58) text

abbrev pub are_parts : List (List ℕ) → Bool
are_parts parts = nat_le (length parts) MAX_PARTS && list_all is_part parts

abbrev pub directories_among : List (List ℕ) → Option (List (List ℕ))
directories_among parts = if are_parts parts then Some (map directory_of parts) else None

-- the empty directory alone, unless given
abbrev pub directories_of : Option (List ℕ) → Option (List (List ℕ))
directories_of None = Some ([] ∷ [])
directories_of (Some text) = directories_among (parts_of text)

-- SOURCE and OUT are not empty
abbrev pub filled : Option (List ℕ) → Option (List ℕ)
filled None = None
filled (Some text) = if nat_lt 0 (length text) then Some text else None

-- the bound of an option that may be left out: without it there is none
abbrev pub bound_given : Option ℕ → Option (Option ℕ)
bound_given None = None
bound_given (Some n) = Some (Some n)

abbrev pub bound_of : ℕ → Option (List ℕ) → Option (Option ℕ)
bound_of high None = Some None
bound_of high (Some text) = bound_given (number_within 0 high text)

abbrev pub iterations_of : Words → Option ℕ
iterations_of w = limit_of MAX_ITERATIONS DEFAULT_ITERATIONS w.iteration

abbrev pub recursion_of : Words → Option ℕ
recursion_of w = limit_of MAX_RECURSION DEFAULT_RECURSION w.recursion

abbrev pub limits_with : Option ℕ → Option ℕ → Option (Option ℕ) → Option Limits
limits_with None recursion most = None
limits_with (Some iterations) None most = None
limits_with (Some iterations) (Some recursion) None = None
limits_with (Some iterations) (Some recursion) (Some most) = Some (record {
  iterations = iterations;
  recursion = recursion;
  most_removed = most;
})

-- how far a build may go
abbrev pub limits_given : Words → Option Limits
limits_given w =
    limits_with (iterations_of w) (recursion_of w) (bound_of MAX_MOST_REMOVED w.most_removed)

-- FILE is not empty, and there is none without its option
abbrev pub state_given : Option (List ℕ) → Option (Option (List ℕ))
state_given None = Some None
state_given (Some file) = if nat_lt 0 (length file) then Some (Some file) else None

abbrev pub work_with : Option (List ℕ) → Option (List ℕ) → Option (List (List ℕ)) → Option Limits
    → Option (Option (List ℕ)) → Option Work
work_with None out directories limits state = None
work_with (Some source) None directories limits state = None
work_with (Some source) (Some out) None limits state = None
work_with (Some source) (Some out) (Some directories) None state = None
work_with (Some source) (Some out) (Some directories) (Some limits) None = None
work_with (Some source) (Some out) (Some directories) (Some limits) (Some state) = Some (record {
  source = source;
  out = out;
  directories = directories;
  iterations = limits.iterations;
  recursion = limits.recursion;
  most_removed = limits.most_removed;
  state = state;
})

-- what `build` and `watch` work on
abbrev pub work_of : Words → Option Work
work_of w =
    work_with (filled w.source) (filled w.out) (directories_of w.include) (limits_given w)
    (state_given w.state)

-- a word that is a number, from low to high
abbrev pub number_given : ℕ → ℕ → Option (List ℕ) → Option ℕ
number_given low high None = None
number_given low high (Some text) = number_within low high text

abbrev pub demonstration_with : Option ℕ → Option ℕ → Option ℕ → Option ℕ → Option Demonstration
demonstration_with None start iterations recursion = None
demonstration_with (Some count) None iterations recursion = None
demonstration_with (Some count) (Some start) None recursion = None
demonstration_with (Some count) (Some start) (Some iterations) None = None
demonstration_with (Some count) (Some start) (Some iterations) (Some recursion) =
    Some (record {
      count = count;
      start = start;
      iterations = iterations;
      recursion = recursion;
    })

-- what `demo` works on: SOURCE is the count of its machines, OUT its start number, and it has no
-- directories, no shelf and no file that keeps rows
abbrev pub demonstration_of : Words → Option Demonstration
demonstration_of w =
    if is_some w.include || is_some w.most_removed || is_some w.state then None
    else demonstration_with (number_given 1 MAX_MACHINES w.source)
    (number_given 0 MAX_START w.out) (iterations_of w) (recursion_of w)

-- an option is given
abbrev pub has_option : Words → Bool
has_option w = is_some w.include || is_some w.iteration || is_some w.recursion
    || is_some w.most_removed || is_some w.state

abbrev pub pair_with : Option (List ℕ) → Option (List ℕ) → Option Pair
pair_with None out = None
pair_with (Some source) None = None
pair_with (Some source) (Some out) = Some (record { source = source; out = out })

-- what `format` works on: two folders, and it takes no option
abbrev pub pair_of : Words → Option Pair
pair_of w = if has_option w then None else pair_with (filled w.source) (filled w.out)

abbrev pub is_word : List ℕ → Option (List ℕ) → Bool
is_word word None = false
is_word word (Some given) = bytes_eq given word

-- the command, by MODE
abbrev pub command_by : Words → Option Command
command_by w =
    if is_word (codes "build") w.mode then option_map Build (work_of w)
    else if is_word (codes "watch") w.mode then option_map Watch (work_of w)
    else if is_word (codes "demo") w.mode then option_map Demo (demonstration_of w)
    else if is_word (codes "format") w.mode then option_map Format (pair_of w)
    else None

abbrev pub command_in : Option Words → Option Command
command_in None = None
command_in (Some w) = command_by w

-- the command that the words are, or None where they are none
unfoldable pub command_of : List (List ℕ) → Option Command
command_of words = command_in (given_of words)
