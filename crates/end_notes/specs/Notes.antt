-- The texts of ends that came early.
use Rattle.std.specs.Prelude.{ℕ, List, ◌++◌, codes, decimal}
use Rattle.end_notes.specs.declared.notes.TheConstants.{USAGE}
use Rattle.end_notes.specs.declared.wrong.Place.{Place}
use Rattle.end_notes.specs.declared.wrong.Place.TheVariants.{Mode, Source, Out}
use Rattle.end_notes.specs.declared.wrong.Wrong.{Wrong}
use Rattle.end_notes.specs.declared.wrong.Wrong.TheVariants.{BadOption, StateWithoutFile, Missing, Extra, BadMode, Empty, TakesNoOption, TakesNoState, NotUtf8, Otherwise}

abbrev pub place_name : Place → List ℕ
place_name Mode = codes "MODE"
place_name Source = codes "SOURCE"
place_name Out = codes "OUT"

abbrev pub wrong_text : Wrong → List ℕ
wrong_text (BadOption word) = codes "no such option, or not with this value: " ++ word
wrong_text StateWithoutFile = codes "FILE of --state is missing or empty"
wrong_text (Missing place) = place_name place ++ codes " is missing"
wrong_text (Extra word) = codes "one word too many: " ++ word
wrong_text (BadMode word) = codes "no such MODE: " ++ word
wrong_text (Empty place) = place_name place ++ codes " is empty"
wrong_text TakesNoOption = codes "format takes no option"
wrong_text TakesNoState = codes "demo takes no --state"
wrong_text NotUtf8 = codes "a word is not UTF-8"
wrong_text Otherwise = codes "the words are no command"

-- the word that is wrong, and the usage
abbrev pub usage_of : Wrong → List ℕ
usage_of wrong = codes "error: " ++ wrong_text wrong ++ codes "\n" ++ USAGE.now

-- `error: PATH: REASON`
abbrev pub trouble_of : List ℕ → List ℕ → List ℕ
trouble_of path reason = codes "error: " ++ path ++ codes ": " ++ reason ++ codes "\n"

-- so many files of a folder would have gone, more than the bound
abbrev pub removals_of : List ℕ → ℕ → ℕ → List ℕ
removals_of folder removals most = codes "error: " ++ folder ++ codes ": " ++ decimal removals
    ++ codes " files would have gone, more than the " ++ decimal most
    ++ codes " that --most-removed allows; nothing was changed\n"

-- the rows of a file are none that a build has kept: it may be removed, and its log with it
abbrev pub bad_rows_of : List ℕ → List ℕ
bad_rows_of file = codes "error: " ++ file
    ++ codes ": it holds rows that no build has kept; remove it and " ++ file
    ++ codes "-wal: the next build then begins anew, and loses time alone\n"
