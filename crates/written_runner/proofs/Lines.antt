-- The lines of a text from a byte on.
use Rattle.std.proofs.Common.{◌≡◌, ◌+◌, ◌<◌, ◌≤◌, ℕ, suc, List, [], ◌∷◌, length, drop, get_or, refl, sym, ap, ◌∙◌, arith, drop-cons, length-drop}
use Rattle.written_runner.specs.declared.action.Action.{Action}
use Rattle.written_runner.specs.Written.{actions, acted, all_acted}
use Rattle.pan_ast.specs.declared.place.Place.{Place}
use Rattle.path_tree.specs.Plain.{Plain}
use Rattle.questions.specs.Contents.{Answers}
use Rattle.questions.specs.Run.{Meter, Done, then}
use Rattle.written_runner.specs.declared.used.Came.{Came}
use Rattle.written_runner.specs.declared.used.Came.TheVariants as came
use Rattle.written_runner.specs.Meaning.{outcome_of}

no_more : (act : ℕ → ℕ → Action) (bs : List ℕ) → length bs ≤ 2 → actions act bs ≡ []
no_more act [] e = refl
no_more act (a ∷ []) e = refl
no_more act (a ∷ b ∷ []) e = refl
no_more act (a ∷ b ∷ c ∷ rest) e = absurd (omega (arith, e))

pub lines_over : (act : ℕ → ℕ → Action) (bs : List ℕ) (i : ℕ) → length bs ≤ i + 2
    → actions act (drop i bs) ≡ []
lines_over act bs i e = no_more act (drop i bs) (omega (arith, length-drop i bs, e))

pub lines_next : (act : ℕ → ℕ → Action) (bs : List ℕ) (i : ℕ) → i + 2 < length bs
    → actions act (drop i bs) ≡ act (get_or bs (i + 1) 0) (get_or bs (i + 2) 0) ∷ actions act
    (drop (i + 3) bs)
lines_next act bs i lt =
    let a : i < length bs = omega (arith, lt) in
    let b : i + 1 < length bs = omega (arith, lt) in
    let one : suc i ≡ i + 1 = omega arith in
    let two : suc (i + 1) ≡ i + 2 = omega arith in
    let three : suc (i + 2) ≡ i + 3 = omega arith in
    let first = drop-cons bs i 0 a ∙ ap (λ k. get_or bs i 0 ∷ drop k bs) one in
    let second = drop-cons bs (i + 1) 0 b ∙ ap (λ k. get_or bs (i + 1) 0 ∷ drop k bs) two in
    let third = drop-cons bs (i + 2) 0 lt ∙ ap (λ k. get_or bs (i + 2) 0 ∷ drop k bs) three in
    ap (actions act) (first ∙ ap (λ xs. get_or bs i 0 ∷ xs)
    (second ∙ ap (λ xs. get_or bs (i + 1) 0 ∷ xs) third))

module _ (p : Place) (own : List ℕ) (a : Action) (later : List Action) (o : Answers) (v v' : Plain)
    (m m' : Meter) where
  -- a line that is done, and the lines behind it
  pub done_line : Done tt v' m' ≡ acted p own a o v m → all_acted p own (a ∷ later) o v m
      ≡ all_acted p own later o v' m'
  done_line e = sym (ap (λ z. then z (λ _. all_acted p own later o)) e)

  -- a line at which the run ends or stops
  pub last_line : (x : Came) → (x ≡ came.Done → ⊥) → outcome_of x v' m' ≡ acted p own a o v m
      → outcome_of x v' m' ≡ all_acted p own (a ∷ later) o v m
  last_line came.Done other e = absurd (other refl)
  last_line (came.Failed f) other e = ap (λ z. then z (λ _. all_acted p own later o)) e
  last_line (came.Waits q) other e = ap (λ z. then z (λ _. all_acted p own later o)) e
