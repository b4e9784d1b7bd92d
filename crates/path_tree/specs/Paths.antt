-- What path a text gives, and the text of a path in canonical form.
use Rattle.std.specs.Prelude.{ℕ, ◌+◌, Bool, true, false, List, [], ◌∷◌, ◌++◌, length, take, drop, map, nat_lt, slice_index, ◌==◌, ◌&&◌, ◌||◌, not, if◌then◌else◌, Option, Some, None, option_map, Result, Ok, Err, decimal}
use Rattle.std.specs.List.{onto_first, join_with_byte}
use Rattle.base.specs.Characters.{close_brace, colon, open_brace, slash}
use Rattle.base.specs.declared.limits.TheConstants.{MAX_PATH_BYTES}
use Rattle.path_tree.specs.Grammar.{is_key, is_name, is_index, number_of}
use Rattle.path_tree.specs.Escape.{escape}
use Rattle.path_tree.specs.declared.path.Term.{Term}
use Rattle.path_tree.specs.declared.path.Term.TheVariants as term
use Rattle.path_tree.specs.declared.path.Anchor.{Anchor}
use Rattle.path_tree.specs.declared.path.Anchor.TheVariants as anchor
use Rattle.path_tree.specs.declared.path.Path.{Path}
use Rattle.path_tree.specs.declared.path.PathError.{PathError}
use Rattle.path_tree.specs.declared.path.PathError.TheVariants.{Empty, TooLong, BadTerm}

-- whether a reader that has passed the byte c stands inside braces
abbrev pub inside_after : Bool → ℕ → Bool
inside_after inside c =
    if c == open_brace then true else (if c == close_brace then false else inside)

-- the pieces of a text between the slashes that stand outside of braces
abbrev pub pieces_from : Bool → List ℕ → List (List ℕ)
pieces_from inside [] = [] ∷ []
pieces_from inside (c ∷ cs) =
    if (c == slash) && not inside then ([] ∷ pieces_from false cs)
    else onto_first c (pieces_from (inside_after inside c) cs)

abbrev pub pieces : List ℕ → List (List ℕ)
pieces text = pieces_from false text

-- the position of the first byte that is a or b
abbrev pub first_of : ℕ → ℕ → List ℕ → Option ℕ
first_of a b [] = None
first_of a b (c ∷ cs) =
    if (c == a) || (c == b) then Some 0 else option_map (λ i. i + 1) (first_of a b cs)

-- what stands before the first brace, where that closes and stands last
abbrev pub before_brace : List ℕ → Option ℕ → Option (List ℕ)
before_brace cs None = None
before_brace cs (Some i) =
    if (slice_index cs i == close_brace) && (i + 1 == length cs) then Some (take i cs) else None

-- the text between two braces, without braces inside
abbrev pub in_braces : List ℕ → Option (List ℕ)
in_braces [] = None
in_braces (c ∷ cs) =
    if c == open_brace then before_brace cs (first_of open_brace close_brace cs) else None

abbrev pub key_term : List ℕ → Option Term
key_term bytes = if is_key bytes then Some (term.Key bytes) else None

-- a text in braces stands for its escaped key
abbrev pub braced_term : Option (List ℕ) → Option Term
braced_term None = None
braced_term (Some text) = key_term (escape text)

-- a key, an index or a text in braces
abbrev pub term_of : List ℕ → Option Term
term_of piece =
    if is_key piece then Some (term.Key piece)
    else (if is_index piece then Some (term.Index (number_of piece))
    else braced_term (in_braces piece))

abbrev pub terms_after : Option Term → ℕ → Result (List Term) PathError
    → Result (List Term) PathError
terms_after None position rest = Err (BadTerm position)
terms_after (Some m) position (Ok ms) = Ok (m ∷ ms)
terms_after (Some m) position (Err e) = Err e

-- the terms of pieces, the first of which begins at this byte of the text
abbrev pub terms_at : ℕ → List (List ℕ) → Result (List Term) PathError
terms_at position [] = Ok []
terms_at position (piece ∷ more) =
    terms_after (term_of piece) position (terms_at (position + length piece + 1) more)

abbrev pub path_with : Anchor → Result (List Term) PathError → Result Path PathError
path_with a (Ok ms) = Ok (record { anchor = a; terms = ms })
path_with a (Err e) = Err e

-- what follows the slash of an absolute path: nothing, or terms
abbrev pub terms_below : ℕ → List ℕ → Result (List Term) PathError
terms_below position [] = Ok []
terms_below position (c ∷ cs) = terms_at position (pieces (c ∷ cs))

-- an absolute path that begins at this byte of the text
abbrev pub absolute_at : Anchor → ℕ → List ℕ → Result Path PathError
absolute_at a position [] = Err (BadTerm position)
absolute_at a position (c ∷ cs) =
    if c == slash then path_with a (terms_below (position + 1) cs) else Err (BadTerm position)

abbrev pub relative : List ℕ → Result Path PathError
relative text = path_with anchor.Relative (terms_at 0 (pieces text))

-- a name, and behind the colon at i an absolute path
abbrev pub external : List ℕ → ℕ → Result Path PathError
external text i =
    if is_name (take i text)
    then absolute_at (anchor.External (take i text)) (i + 1) (drop (i + 1) text)
    else Err (BadTerm 0)

-- external where the first colon or opening brace, at i, is a colon
abbrev pub relative_or_external : List ℕ → Option ℕ → Result Path PathError
relative_or_external text None = relative text
relative_or_external text (Some i) =
    if slice_index text i == colon then external text i else relative text

-- the path of a text, or its first fault
abbrev pub path_of : List ℕ → Result Path PathError
path_of [] = Err Empty
path_of (c ∷ cs) =
    if nat_lt MAX_PATH_BYTES (length (c ∷ cs)) then Err TooLong
    else (if c == slash then absolute_at anchor.Absolute 0 (c ∷ cs)
    else relative_or_external (c ∷ cs) (first_of colon open_brace (c ∷ cs)))

-- a key as it is, an index in decimal
abbrev pub term_text : Term → List ℕ
term_text (term.Key k) = k
term_text (term.Index i) = decimal i

abbrev pub terms_text : List Term → List ℕ
terms_text ms = join_with_byte slash (map term_text ms)

-- behind / or a name with :/, or as it is
abbrev pub anchored : Anchor → List ℕ → List ℕ
anchored anchor.Absolute text = slash ∷ text
anchored anchor.Relative text = text
anchored (anchor.External name) text = name ++ (colon ∷ slash ∷ text)

-- a path in canonical form
abbrev pub path_text : Path → List ℕ
path_text p = anchored p.anchor (terms_text p.terms)
