-- The number of an object's tree.
use Rattle.std.proofs.Common.{◌≡◌, ◌||◌, ◌<◌, ℕ, List, Bool, true, false, cond, Option, Some, None, Ok, Err, refl, sym, ap, ◌∙◌}
use Rattle.std.proofs.Math.Logic.{∥∥₁_elim}
use Rattle.std.proofs.Props.{props}
use Rattle.std.specs.Prelude.{option_map}
use Rattle.path_tree.specs.Plain.{Plain}
use Rattle.questions.specs.declared.key.Key.{Key}
use Rattle.runner.specs.Ends.{Verdict}
use Rattle.engine_laws.specs.Names.{Name}
use Rattle.engine_laws.specs.Engine.{is_among}
use Rattle.engine_machine.specs.Machine.{Kept}
use Rattle.engine_turns.specs.declared.core_data.Core.{Core}
use Rattle.rebuild.specs.Answers.{Seen, profile, fault, pending, no_object, is_pending, by_verdict, by_check, by_result, by_last, answer_at}
use Rattle.rebuild.specs.Engines.{Meanings, EngineSituation, situation_of, value_of, IsTrue}

-- what has a profile has a result, which is its tree
has_last : {T : Type 0} (x : EngineSituation T) (p : Name) (tree : Plain)
    → profile tree ≡ answer_at x p → (n : ℕ) × (x.state.last p ≡ Some (n, Ok tree))
has_last x p tree e =
    at (is_among p x.picture.objects) (is_pending x p) (x.state.last p) refl (x.state.checked p) e
  where
    tree_of : {t : Plain} → profile tree ≡ profile t → tree ≡ t
    tree_of e = cc

    by : (n : ℕ) (t : Plain) (c : Option (List (Key × ℕ) × Verdict)) → profile tree ≡ by_check t c
        → tree ≡ t
    by n t None e = absurd (let clash : profile tree ≡ pending = e in cc)
    by n t (Some c) e = judged c.1 e
      where
        judged : (v : Verdict) → profile tree ≡ by_verdict t v → tree ≡ t
        judged None e = tree_of e
        judged (Some f) e = absurd (let clash : profile tree ≡ fault f = e in cc)

    at : (among waits : Bool) (l : Option (ℕ × Kept)) → x.state.last p ≡ l
        → (c : Option (List (Key × ℕ) × Verdict))
        → profile tree ≡ cond among (cond waits pending (by_last l c)) no_object
        → (n : ℕ) × (x.state.last p ≡ Some (n, Ok tree))
    at false waits l is c e = absurd (let clash : profile tree ≡ no_object = e in cc)
    at true true l is c e = absurd (let clash : profile tree ≡ pending = e in cc)
    at true false None is c e = absurd (let clash : profile tree ≡ pending = e in cc)
    at true false (Some (n, Ok t)) is c e =
        (n, is ∙ ap (λ u. Some (n, Ok u)) (sym (by n t c e)))
    at true false (Some (n, Err f)) is c e = absurd (let clash : profile tree ≡ fault f = e in cc)

-- .. under the number that it has
pub numbered : {T : Type 0} (x : EngineSituation T) (p : Name) (tree : Plain) (number : ℕ)
    → profile tree ≡ answer_at x p
    → Some number ≡ option_map (λ (l : ℕ × Kept). l.0) (x.state.last p)
    → x.state.last p ≡ Some (number, Ok tree)
numbered x p tree number e is =
    let h = has_last x p tree e in
    let both : ◌≡◌ {A = Option ℕ} (Some number) (Some h.0) =
    is ∙ ap (option_map (λ (l : ℕ × Kept). l.0)) h.1 in
    let same : number ≡ h.0 = cc in
    h.1 ∙ ap (λ n. Some (n, Ok tree)) (sym same)

-- a number that a result has was drawn
pub number_low : {T : Type 0} (M : Meanings T) (core : Core T) → ∥ IsTrue M (value_of core) ∥₁
    → (p : Name) (number : ℕ) (k : Kept) → (situation_of core).state.last p ≡ Some (number, k)
    → number < (situation_of core).state.counter
number_low M core known p number k last =
    ∥∥₁_elim known (hlevel props) (λ (t : IsTrue M (value_of core)). t.results_low p number k last)
