-- No run asks as many keys as it has work.
use Rattle.std.proofs.Common.{ℕ, ◌+◌, ◌≤◌, ◌<◌, List, [], ◌∷◌, Bool, length, arith}
use Rattle.questions.specs.declared.key.Key.{Key}
use Rattle.questions.specs.Contents.{Content}
use Rattle.asking.specs.Asked.{AreAsked, Answer, RunsTo}
use Rattle.questions.specs.Told.{RunLaws, more_than_asked}

module _ {R : Type 0} (may : Key → Type 0) (is_circular_end : R → Bool)
    (run : List (Key × Content) → Answer Key R) (work : List (Key × Content) → ℕ)
    (laws : RunLaws may is_circular_end run work) where
  short_from : (asked qs : List (Key × Content)) (r : R) → AreAsked run asked
      → RunsTo run asked qs r → length qs + length asked ≤ 2000000
  short_from asked [] r trail runs = let a = laws.paid asked trail in let b = laws.bounded asked in
      omega arith
  short_from asked (q ∷ qs) r trail runs = let next =
      short_from (q ∷ asked) qs r (trail, runs.0) runs.1 in omega arith

  -- a run that ends asked fewer keys
  pub short : (qs : List (Key × Content)) (r : R) → RunsTo run [] qs r → length qs < more_than_asked
  unfolding more_than_asked
  short qs r runs = let all = short_from [] qs r tt runs in omega arith
