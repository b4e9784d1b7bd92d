-- Runs that are told lists of pairs or words, and what is said of them.
use Rattle.std.specs.Prelude.{◌≡◌, ℕ, ◌+◌, ◌-◌, ◌≤◌, List, [], ◌∷◌, ◌++◌, Option, Some, None, Bool, true, false, cond, map, length}
use Rattle.asking.specs.declared.limits.TheConstants.{MAX_WORK}
use Rattle.path_tree.specs.Plain.{Plain}
use Rattle.questions.specs.declared.key.Key.{Key}
use Rattle.pan_ast.specs.declared.fault.Fault.{Fault}
use Rattle.questions.specs.Laws.{is_circular}
use Rattle.questions.specs.Contents.{Content, Answers, answer_in, is_circular_answer}
use Rattle.questions.specs.Run.{Meter, Outcome, Done, Returned, Failed, Asks as Questions, Run}
use Rattle.asking.specs.Asked.{AreAsked, Answer, Ends, Asks, Word, Tells, Needs, Ran, Finished, Stops, Lost, ran, told_in}

-- the keys of pairs, in the order asked
abbrev pub keys_of : List (Key × Content) → List Key
keys_of [] = []
keys_of (q ∷ qs) = keys_of qs ++ q.0 ∷ []

abbrev pub meter_of : {S X : Type 0} → Outcome S X → Meter
meter_of (Done x s m) = m
meter_of (Returned t s m) = m
meter_of (Failed f m) = m
meter_of (Questions k m) = m

-- the answers to some keys alone
unfoldable pub only : (Key → Bool) → Answers → Answers
only keys o k = cond (keys k) (o k) None

-- how many keys of a list are beyond some keys
unfoldable pub beyond : (Key → Bool) → List Key → ℕ
beyond keys [] = 0
beyond keys (k ∷ ks) = cond (keys k) 0 1 + beyond keys ks

-- This holds, told the answers to any keys among which are all that are asked by then; and what was
-- asked before stays so.
abbrev pub ToldEnough : Answers → List Key → List Key → (Answers → Type 0) → Type 0
ToldEnough answers before after Holds = (keys : Key → Bool)
    → (beyond keys before ≤ beyond keys after)
    × (beyond keys after ≡ 0 → Holds (only keys answers))

-- an outcome that leaves no more work than this
abbrev pub LeavesAtMost : {S X : Type 0} → ℕ → Outcome S X → Type 0
LeavesAtMost n z = (meter_of z).left ≤ n

-- what a run ends in: by its value and last state, by what it returned, or by its fault
pub record Ending (S X R : Type 0) : Type 0 where
  pub done : X → S → R
  pub returned : Plain → S → R
  pub failed : Fault → R

-- an outcome as an answer
abbrev pub answer_by : {S X R : Type 0} → Ending S X R → Outcome S X → Answer Key R
answer_by f (Done x s m) = Ends (f.done x s)
answer_by f (Returned t s m) = Ends (f.returned t s)
answer_by f (Failed d m) = Ends (f.failed d)
answer_by f (Questions k m) = Asks k

-- the work of one part
abbrev pub whole : Meter
whole = record { left = MAX_WORK; asked = [] }

-- as many keys no run asks, since each costs a step
unfoldable pub more_than_asked : ℕ
more_than_asked = MAX_WORK + 1

abbrev pub work_of : {S X : Type 0} → Outcome S X → ℕ
work_of z = MAX_WORK - (meter_of z).left

-- what words tell of keys
abbrev pub content_of : Word Content → Option Content
content_of (Tells n c) = Some c
content_of (Needs p) = None

abbrev pub answers_of : (Key → Word Content) → Answers
answers_of tells k = content_of (tells k)

abbrev pub number_of : Word Content → ℕ
number_of (Tells n c) = n
number_of (Needs p) = 0

-- a key with the number that the words give it
abbrev pub numbered : (Key → Word Content) → Key → Key × ℕ
numbered tells k = (k, number_of (tells k))

abbrev pub stopped : {R : Type 0} → Word Content → Ran Key R
stopped (Needs p) = Stops p
stopped (Tells n c) = Lost

-- an outcome as a run over words: its end with the keys that it asked and their numbers, or the
-- object that it waits for
abbrev pub ran_by : {S X R : Type 0} → (Key → Word Content) → Ending S X R → Outcome S X → Ran Key R
ran_by tells f (Done x s m) = Finished (map (numbered tells) m.asked) (f.done x s)
ran_by tells f (Returned t s m) = Finished (map (numbered tells) m.asked) (f.returned t s)
ran_by tells f (Failed d m) = Finished (map (numbered tells) m.asked) (f.failed d)
ran_by tells f (Questions k m) = stopped (tells k)

-- no pair tells of an object whose chain of reads never ends
abbrev pub IsPlainList : List (Key × Content) → Type 0
IsPlainList [] = Unit {0}
IsPlainList (q ∷ qs) = (is_circular_answer q.0 q.1 ≡ false) × IsPlainList qs

-- The laws of a run as questions and answers. may: the keys that it may ask; is_circular: whether
-- an end is the fault of a circular object.
pub record RunLaws {R : Type 0} (may : Key → Type 0) (is_circular : R → Bool)
    (run : List (Key × Content) → Answer Key R) (work : List (Key × Content) → ℕ) : Type 0 where
  -- a key that is asked is not in the list
  pub unknown : (qs : List (Key × Content)) (k : Key) → run qs ≡ Asks k → answer_in qs k ≡ None
  pub key : (qs : List (Key × Content)) (k : Key) → run qs ≡ Asks k → may k
  -- the work is bounded; a run that ends by asking uses at most that of the run with an answer;
  -- each key costs
  pub bounded : (qs : List (Key × Content)) → work qs ≤ MAX_WORK
  pub grows : (qs : List (Key × Content)) (k : Key) (c : Content) → run qs ≡ Asks k
      → work qs ≤ work ((k, c) ∷ qs)
  pub paid : (qs : List (Key × Content)) → AreAsked run qs → length qs ≤ work qs
  -- an answer Circular ends the run with the fault of a circular object, and without one there is
  -- no such fault
  pub circular : (qs : List (Key × Content)) (k : Key) (c : Content) → run qs ≡ Asks k
      → is_circular_answer k c ≡ true → (r : R) × (run ((k, c) ∷ qs) ≡ Ends r)
      × (is_circular r ≡ true)
  pub plain : (qs : List (Key × Content)) (r : R) → IsPlainList qs → run qs ≡ Ends r
      → is_circular r ≡ false

-- how an end is the fault of a circular object
pub record IsEnd {S X R : Type 0} (end : Ending S X R) (is_circular_end : R → Bool) : Type 0 where
  pub done : (x : X) (s : S) → is_circular_end (end.done x s) ≡ false
  pub returned : (t : Plain) (s : S) → is_circular_end (end.returned t s) ≡ false
  pub failed : (f : Fault) → is_circular_end (end.failed f) ≡ is_circular f.code

-- A run over words is the run that is told what they tell. No run asks as many as 2,000,001 keys.
abbrev pub IsRanBy : {S X R : Type 0} → Ending S X R → Run S X → S → Type 0
IsRanBy f r s = (tells : Key → Word Content) → ran (λ qs. answer_by f (r (answer_in qs) s whole))
    tells more_than_asked [] ≡ ran_by tells f (r (answers_of tells) s whole)

-- and it uses the work of the run that is told the pairs that it was told
abbrev pub IsWorkOf : {S X R : Type 0} → Ending S X R → Run S X → S → Type 0
IsWorkOf f r s = (tells : Key → Word Content) → work_of (r (answers_of tells) s whole)
    ≡ work_of (r (answer_in (told_in (λ qs. answer_by f (r (answer_in qs) s whole)) tells
    more_than_asked [])) s whole)
