-- What is wrong with words that are no command.
use Rattle.std.specs.Prelude.{ℕ, Bool, ◌&&◌, ◌||◌, List, [], ◌∷◌, Option, Some, None, if◌then◌else◌, nat_eq, length, bytes_eq, codes}
use Rattle.end_notes.specs.Scan.{wrong_option, names_state, has_state, places_in}
use Rattle.end_notes.specs.declared.wrong.Wrong.{Wrong}
use Rattle.end_notes.specs.declared.wrong.Wrong.TheVariants.{BadOption, StateWithoutFile, Missing, Extra, BadMode, Empty, TakesNoOption, TakesNoState, Otherwise}
use Rattle.end_notes.specs.declared.wrong.Place.TheVariants.{Mode, Source, Out}

abbrev pub is_mode : List ℕ → Bool
is_mode word = bytes_eq word (codes "build") || bytes_eq word (codes "watch")
    || bytes_eq word (codes "demo") || bytes_eq word (codes "format")

-- `format` was given an option, or `demo` was given `--state`
abbrev pub wrong_options : List (List ℕ) → List ℕ → Wrong
wrong_options words mode =
    if bytes_eq mode (codes "format") then TakesNoOption
    else (if bytes_eq mode (codes "demo") && has_state words then TakesNoState
    else Otherwise)

-- SOURCE or OUT is empty, or an option is not for MODE
abbrev pub wrong_pair : List (List ℕ) → List ℕ → List ℕ → List ℕ → Wrong
wrong_pair words mode source out =
    if nat_eq (length source) 0 then Empty Source
    else (if nat_eq (length out) 0 then Empty Out
    else wrong_options words mode)

-- behind MODE the places are too few, or one too many
abbrev pub wrong_behind : List (List ℕ) → List ℕ → List (List ℕ) → Wrong
wrong_behind words mode [] = Missing Source
wrong_behind words mode (source ∷ []) = Missing Out
wrong_behind words mode (source ∷ out ∷ []) = wrong_pair words mode source out
wrong_behind words mode (source ∷ out ∷ extra ∷ places) = Extra extra

abbrev pub wrong_places : List (List ℕ) → List (List ℕ) → Wrong
wrong_places words [] = Missing Mode
wrong_places words (mode ∷ places) =
    if is_mode mode then wrong_behind words mode places else BadMode mode

-- a word that is no option, or `--state` without its FILE
abbrev pub wrong_word : List ℕ → Wrong
wrong_word word = if names_state word then StateWithoutFile else BadOption word

abbrev pub wrong_by : Option (List ℕ) → List (List ℕ) → Wrong
wrong_by (Some word) words = wrong_word word
wrong_by None words = wrong_places words (places_in words)

-- options come first
abbrev pub wrong_of : List (List ℕ) → Wrong
wrong_of words = wrong_by (wrong_option words) words
