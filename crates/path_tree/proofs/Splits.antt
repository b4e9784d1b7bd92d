-- The first of two bytes, and a text that is split at it.
use Rattle.std.proofs.Common.{◌≡◌, ℕ, ◌+◌, ◌-◌, Bool, true, false, cond, List, [], ◌∷◌, length, take, drop, ◌==◌, ◌||◌, ◌&&◌, Option, Some, None, option_map, refl, ap, sym, ◌∙◌, arith, add-one}
use Rattle.std.specs.List.{slice_split, onto_first, list_all}
use Rattle.std.proofs.lemmas.Grind.{common_steps}
use Rattle.base.specs.Characters.{slash}
use Rattle.path_tree.specs.Paths.{first_of}
use Rattle.path_tree.specs.Grammar.{is_segment}

-- i positions later
abbrev pub later : ℕ → Option ℕ → Option ℕ
later i None = None
later i (Some j) = Some (j + i)

-- a text is split at the first position of the byte
abbrev pub split_by : List ℕ → Option ℕ → List (List ℕ)
split_by text None = text ∷ []
split_by text (Some i) = take i text ∷ slice_split (λ c. c == slash) (drop (i + 1) text)

onto : (c : ℕ) (cs : List ℕ) (o : Option ℕ) → onto_first c (split_by cs o)
    ≡ split_by (c ∷ cs) (option_map (λ i. i + 1) o)
onto c cs None = refl
onto c cs (Some i) = rw (add-one, add-one) refl

step : (c : ℕ) (cs : List ℕ) (t : Bool) (o : Option ℕ)
    → cond t ([] ∷ slice_split (λ d. d == slash) cs) (onto_first c (split_by cs o))
    ≡ split_by (c ∷ cs) (cond (t || t) (Some 0) (option_map (λ i. i + 1) o))
step c cs true o = refl
step c cs false o = onto c cs o

pub split_first : (cs : List ℕ) → slice_split (λ c. c == slash) cs
    ≡ split_by cs (first_of slash slash cs)
split_first [] = refl
split_first (c ∷ cs) = ap (λ ps. cond (c == slash) ([] ∷ slice_split (λ d. d == slash) cs)
    (onto_first c ps)) (split_first cs) ∙ step c cs (c == slash) (first_of slash slash cs)

-- all segments, by the first slash
pub segments_none : (cs : List ℕ) → None ≡ first_of slash slash cs → is_segment cs
    ≡ list_all is_segment (slice_split (λ c. c == slash) cs)
segments_none cs h = sym (ap (list_all is_segment) (split_first cs ∙ ap (split_by cs) (sym h))
    ∙ and_true (is_segment cs))
  where
    and_true : (b : Bool) → (b && true) ≡ b
    and_true true = refl
    and_true false = refl

pub segments_some : (cs : List ℕ) (i : ℕ) → Some i ≡ first_of slash slash cs → (a b : Bool) → a
    ≡ is_segment (take i cs) → b ≡ list_all is_segment
    (slice_split (λ c. c == slash) (take (length cs - (i + 1)) (drop (i + 1) cs))) → (a && b)
    ≡ list_all is_segment (slice_split (λ c. c == slash) cs)
segments_some cs i h a b is_a is_b =
    let rest : take (length cs - (i + 1)) (drop (i + 1) cs) ≡ drop (i + 1) cs =
    grind (arith, common_steps) in
    sym (ap (list_all is_segment) (split_first cs ∙ ap (split_by cs) (sym h))
    ∙ rw (is_a, is_b, rest) refl)
