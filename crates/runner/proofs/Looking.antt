-- A run that goes through files, a step for each, asks for them in order.
use Rattle.std.proofs.Common.{◌≡◌, ◌≤◌, ◌<◌, ◌-◌, ℕ, Bool, true, false, List, [], ◌∷◌, length, cond, Option, Some, None, refl, ap, ◌∙◌, arith}
use Rattle.std.specs.Prelude.{bytes_eq}
use Rattle.load_path.specs.Candidates.{candidates}
use Rattle.asking.specs.declared.limits.TheConstants.{MAX_WORK}
use Rattle.questions.specs.declared.key.Key.{Key}
use Rattle.questions.specs.declared.key.Key.TheVariants.{File}
use Rattle.questions.specs.Contents.{Content, Missing, Answers, answer_in}
use Rattle.questions.specs.KeyLaws.{key_refl}
use Rattle.questions.specs.Run.{Meter, Outcome, Asks, noted}
use Rattle.questions.specs.Told.{Ending, answer_by, whole}
use Rattle.runner.specs.Looking.{Looks}
use Rattle.runner.proofs.Candidates.{IsNoneOf, AreOnce, candidates_once, candidates_within}

abbrev pub AreMissing : Answers → List (List ℕ) → Type 0
AreMissing o [] = Unit {0}
AreMissing o (n ∷ names) = (o (File n) ≡ Some Missing) × AreMissing o names

abbrev AreNew : Answers → List (List ℕ) → Type 0
AreNew o [] = Unit {0}
AreNew o (n ∷ names) = (o (File n) ≡ None) × AreNew o names

-- a step is paid, and the file is asked
abbrev pub spent : List ℕ → Meter → Meter
spent n m = noted (File n) (record { left = m.left - 1; asked = m.asked })

missing_with : (b : Bool) (c : Option Content) → c ≡ Some Missing → cond b (Some Missing) c
    ≡ Some Missing
missing_with true c e = refl
missing_with false c e = e

missing_on : (n : List ℕ) (asked : List (Key × Content)) (names : List (List ℕ))
    → AreMissing (answer_in asked) names → AreMissing (answer_in ((File n, Missing) ∷ asked)) names
missing_on n asked [] h = tt
missing_on n asked (x ∷ names) h =
    (missing_with (bytes_eq n x) (answer_in asked (File x)) h.0, missing_on n asked names h.1)

missing_here : (n : List ℕ) (asked : List (Key × Content))
    → answer_in ((File n, Missing) ∷ asked) (File n) ≡ Some Missing
missing_here n asked = ap (λ b. cond b (Some Missing) (answer_in asked (File n)))
    (key_refl (File n))

new_on : (n : List ℕ) (asked : List (Key × Content)) (names : List (List ℕ)) → IsNoneOf n names
    → AreNew (answer_in asked) names → AreNew (answer_in ((File n, Missing) ∷ asked)) names
new_on n asked [] other h = tt
new_on n asked (x ∷ names) other h = (
  ap (λ b. cond b (Some Missing) (answer_in asked (File x))) other.0
      ∙ h.0,
  new_on n asked names other.1 h.1,
)

new_first : (names : List (List ℕ)) → AreNew (answer_in []) names
new_first [] = tt
new_first (n ∷ names) = (refl, new_first names)

-- go: what a run makes of these files
pub record GoesThrough {S X : Type 0} (go : List (List ℕ) → Answers → Meter → Outcome S X) : Type
    0 where
  pub asks : (n : List ℕ) (names : List (List ℕ)) (o : Answers) (m : Meter) → 0 < m.left
      → o (File n) ≡ None → (k : Meter) × (go (n ∷ names) o m ≡ Asks (File n) k)
  pub passes : (n : List ℕ) (names : List (List ℕ)) (o : Answers) (m : Meter) → 0 < m.left
      → o (File n) ≡ Some Missing → go (n ∷ names) o m ≡ go names o (spent n m)

module _ {S X R : Type 0} (go : List (List ℕ) → Answers → Meter → Outcome S X)
    (through : GoesThrough go) (end : Ending S X R) where
  looks_on : (all names past : List (List ℕ)) (asked : List (Key × Content)) (m : Meter)
      → ((o : Answers) → AreMissing o past → go all o whole ≡ go names o m)
      → AreMissing (answer_in asked) past → AreNew (answer_in asked) names → AreOnce names
      → length names ≤ m.left → Looks (λ qs. answer_by end (go all (answer_in qs) whole)) names
      asked
  looks_on all [] past asked m same missing new once room = tt
  looks_on all (n ∷ names) past asked m same missing new once room = (
    ap (answer_by end) (same (answer_in asked) missing
        ∙ (through.asks n names (answer_in asked) m (omega (arith, room)) new.0).1),
    looks_on all names (n ∷ past) ((File n, Missing) ∷ asked) (spent n m)
        (λ o h. same o h.1 ∙ through.passes n names o m (omega (arith, room)) h.0)
        (missing_here n asked, missing_on n asked past missing)
        (new_on n asked names once.0 new.1)
        once.1
        (omega (arith, room)),
  )

  pub looks_through : (name suffix : List ℕ) (dirs : List (List ℕ)) → length dirs ≤ MAX_WORK
      → Looks (λ qs. answer_by end (go (candidates name suffix [] dirs) (answer_in qs) whole))
      (candidates name suffix [] dirs) []
  looks_through name suffix dirs within =
      let names = candidates name suffix [] dirs in
      let fits = candidates_within name suffix dirs in
      looks_on names names [] [] whole (λ o h. refl) tt (new_first names)
      (candidates_once name suffix [] dirs) (omega (arith, within, fits))
