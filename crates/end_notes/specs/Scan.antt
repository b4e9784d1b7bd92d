-- The words of a command, one by one. Behind the word `--` each word is a place.
use Rattle.std.specs.Prelude.{ℕ, ◌==◌, Bool, false, ◌&&◌, ◌||◌, not, eqb, is_some, List, [], ◌∷◌, take, Option, Some, None, if◌then◌else◌, bytes_eq, codes}
use Rattle.std.specs.List.{starts_with}
use Rattle.command_words.specs.Commands.{command_of}
use Rattle.end_notes.specs.declared.scan.Next.{Next}
use Rattle.end_notes.specs.declared.scan.Next.TheVariants.{Free, Value}

abbrev pub is_end : List ℕ → Bool
is_end word = bytes_eq word (codes "--")

-- a word that begins with `-`, but for `-` alone
abbrev pub is_dashed : List ℕ → Bool
is_dashed [] = false
is_dashed (c ∷ []) = false
is_dashed (c ∷ d ∷ cs) = c == 45

-- `build s o` with these words behind it is a command
abbrev pub fits : List (List ℕ) → Bool
fits words = is_some (command_of (codes "build" ∷ codes "s" ∷ codes "o" ∷ words))

-- the first word is an option that has its value in itself, or in the next word
abbrev pub stands_alone : List (List ℕ) → Bool
stands_alone words = fits (take 1 words)

abbrev pub takes_next : List (List ℕ) → Bool
takes_next words = fits (take 2 words)

-- the first word that looks like an option and is none, by itself or with the next word
abbrev pub wrong_option : List (List ℕ) → Option (List ℕ)
wrong_option [] = None
wrong_option (word ∷ words) =
    if is_end word then None
    else (if is_dashed word && not (stands_alone (word ∷ words))
    && not (takes_next (word ∷ words)) then Some word
    else wrong_option words)

-- a word that is `--state`, by itself or with its FILE
abbrev pub names_state : List ℕ → Bool
names_state word = bytes_eq word (codes "--state") || starts_with eqb word (codes "--state=")

-- `--state` is among the options
abbrev pub has_state : List (List ℕ) → Bool
has_state [] = false
has_state (word ∷ words) =
    if is_end word then false else (names_state word || has_state words)

-- behind an option: its value, or a word of its own
abbrev pub behind_option : List (List ℕ) → Next
behind_option words = if stands_alone words then Free else Value

-- the words that are places
abbrev pub places_from : Next → List (List ℕ) → List (List ℕ)
places_from next [] = []
places_from Value (word ∷ words) = places_from Free words
places_from Free (word ∷ words) =
    if is_end word then words
    else (if is_dashed word then places_from (behind_option (word ∷ words)) words
    else word ∷ places_from Free words)

abbrev pub places_in : List (List ℕ) → List (List ℕ)
places_in words = places_from Free words
