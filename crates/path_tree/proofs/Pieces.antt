-- The pieces of a path, one after the other.
use Rattle.std.proofs.Common.{◌≡◌, ℕ, suc, ◌+◌, ◌<◌, ◌≤◌, Bool, true, false, cond, List, [], ◌∷◌, ◌++◌, length, take, drop, ◌==◌, ◌&&◌, not, Option, Some, None, Result, Ok, Err, refl, ap, append_assoc, arith, add-one}
use Rattle.std.specs.List.{onto_first}
use Rattle.base.specs.Characters.{slash}
use Rattle.path_tree.specs.Paths.{pieces, pieces_from, inside_after, term_of, terms_after, terms_at}
use Rattle.path_tree.specs.Reading.{optional_pieces, piece_length}
use Rattle.path_tree.specs.declared.path.Term.{Term}
use Rattle.path_tree.specs.declared.path.PathError.{PathError}

module _ (c : ℕ) (cs : List ℕ) where
  cut_at : (t : Bool) (n : ℕ) (ps : List (List ℕ))
      → (n < length cs → ps ≡ take n cs ∷ pieces_from false (drop (n + 1) cs))
      → cond t 0 (n + 1) < suc (length cs) → cond t ([] ∷ pieces_from false cs) (onto_first c ps)
      ≡ take (cond t 0 (n + 1)) (c ∷ cs) ∷ pieces_from false (drop (cond t 0 (n + 1) + 1) (c ∷ cs))
  cut_at true n ps ih h = refl
  cut_at false n ps ih h = rw (ih (omega arith), add-one, add-one) refl

  uncut_at : (t : Bool) (n : ℕ) (ps : List (List ℕ)) → (length cs ≤ n → ps ≡ cs ∷ [])
      → suc (length cs) ≤ cond t 0 (n + 1) → cond t ([] ∷ pieces_from false cs) (onto_first c ps)
      ≡ (c ∷ cs) ∷ []
  uncut_at true n ps ih h = absurd (omega arith)
  uncut_at false n ps ih h = rw (ih (omega arith)) refl

pub cut : (inside : Bool) (text : List ℕ) → piece_length inside text < length text
    → pieces_from inside text ≡ take (piece_length inside text) text ∷ pieces_from false
    (drop (piece_length inside text + 1) text)
cut inside [] h = absurd (omega arith)
cut inside (c ∷ cs) h = cut_at c cs ((c == slash) && not inside)
    (piece_length (inside_after inside c) cs) (pieces_from (inside_after inside c) cs)
    (cut (inside_after inside c) cs) h

pub uncut : (inside : Bool) (text : List ℕ) → length text ≤ piece_length inside text
    → pieces_from inside text ≡ text ∷ []
uncut inside [] h = refl
uncut inside (c ∷ cs) h =
    uncut_at c cs ((c == slash) && not inside) (piece_length (inside_after inside c) cs)
    (pieces_from (inside_after inside c) cs) (uncut (inside_after inside c) cs) h

-- terms that were read, and those of the rest
abbrev pub behind : List Term → Result (List Term) PathError → Result (List Term) PathError
behind ms (Ok ns) = Ok (ms ++ ns)
behind ms (Err e) = Err e

abbrev pub text_length : Option (List ℕ) → ℕ
text_length None = 0
text_length (Some text) = length text + 1

-- a term that was read joins those before it
pub behind_one : (ms all : List Term) (m : Term) (position : ℕ) (piece text : List ℕ)
    (more : Option (List ℕ)) → all ≡ ms ++ m ∷ [] → pieces text ≡ piece ∷ optional_pieces more
    → term_of piece ≡ Some m
    → behind all (terms_at (position + (length piece + 1)) (optional_pieces more))
    ≡ behind ms (terms_at position (pieces text))
behind_one ms all m position piece text more made parts read =
    let next : position + (length piece + 1) ≡ position + length piece + 1 = omega arith in
    rw (made, parts, read, next)
    (one (terms_at (position + length piece + 1) (optional_pieces more)))
  where
    one : (r : Result (List Term) PathError) → behind (ms ++ m ∷ []) r
        ≡ behind ms (terms_after (Some m) position r)
    one (Ok ns) = ap Ok (append_assoc ms (m ∷ []) ns)
    one (Err e) = refl
