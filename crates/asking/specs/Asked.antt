-- A run as questions and answers: it ends, or asks a key that its list of pairs lacks. Pairs stand
-- newest first.
use Rattle.std.specs.Prelude.{◌≡◌, ℕ, zero, suc, List, [], ◌∷◌}

-- what a run gives: its end, or the next question
pub data Answer (K R : Type 0) : Type 0 where
  Ends : (result : R) → Answer K R
  Asks : (key : K) → Answer K R

-- a run from these answers on asks these keys, is told these contents, and ends so
abbrev pub RunsTo : {K C R : Type 0} → (List (K × C) → Answer K R) → List (K × C) → List (K × C) → R
    → Type 0
RunsTo build asked [] r = build asked ≡ Ends r
RunsTo build asked (q ∷ qs) r = (build asked ≡ Asks q.0) × RunsTo build (q ∷ asked) qs r

-- the answers so far are those that a run has asked for, each with any content
abbrev pub AreAsked : {K C R : Type 0} → (List (K × C) → Answer K R) → List (K × C) → Type 0
AreAsked build [] = Unit {0}
AreAsked build (q ∷ asked) = AreAsked build asked × (build asked ≡ Asks q.0)

-- what is told of a key: its number and content, or that an object has to be built first
pub data Word (C : Type 0) : Type 0 where
  Needs : (object : List ℕ) → Word C
  Tells : (number : ℕ) (content : C) → Word C
  deriving IsSet as Word-set

-- a run over words: it ends, having asked these keys with these numbers, or stops at an object that
-- it has to wait for
pub data Ran (K R : Type 0) : Type 0 where
  Finished : (items : List (K × ℕ)) (r : R) → Ran K R
  Stops : (object : List ℕ) → Ran K R
  Lost : Ran K R

abbrev pub read_on : {K R : Type 0} → K × ℕ → Ran K R → Ran K R
read_on q (Finished items r) = Finished (q ∷ items) r
read_on q (Stops p) = Stops p
read_on q Lost = Lost

abbrev pub with_word : {K C R : Type 0} → K → Word C → (C → Ran K R) → Ran K R
with_word k (Needs p) go = Stops p
with_word k (Tells n c) go = read_on (k, n) (go c)

abbrev pub run_next : {K R : Type 0} → Answer K R → (K → Ran K R) → Ran K R
run_next (Ends r) ask = Finished [] r
run_next (Asks k) ask = ask k

-- a run that is told these words, through at most n questions
abbrev pub ran : {K C R : Type 0} → (List (K × C) → Answer K R) → (K → Word C) → ℕ → List (K × C)
    → Ran K R
ran build tells zero asked = Lost
ran build tells (suc n) asked =
    run_next (build asked) (λ k. with_word k (tells k) (λ c. ran build tells n ((k, c) ∷ asked)))

abbrev pub word_told : {C T : Type 0} → Word C → T → (C → T) → T
word_told (Needs p) here go = here
word_told (Tells n c) here go = go c

abbrev pub next_told : {K R T : Type 0} → Answer K R → T → (K → T) → T
next_told (Ends r) here go = here
next_told (Asks k) here go = go k

-- what such a run was told when it ended or stopped
abbrev pub told_in : {K C R : Type 0} → (List (K × C) → Answer K R) → (K → Word C) → ℕ
    → List (K × C) → List (K × C)
told_in build tells zero asked = asked
told_in build tells (suc n) asked = next_told (build asked) asked
    (λ k. word_told (tells k) asked (λ c. told_in build tells n ((k, c) ∷ asked)))
