-- What a run asks stands among the keys that it is said to ask.
use Rattle.std.proofs.Common.{◌≡◌, ◌<◌, ◌+◌, ◌-◌, ℕ, zero, suc, length, List, [], ◌∷◌, refl, sym, ap, ◌∙◌, inl, inr, subst, arith}
use Rattle.asking.specs.Asked.{Answer, Ends, Asks, Ran, Finished, ran, run_next, with_word, read_on}
use Rattle.questions.specs.declared.key.Key.{Key}
use Rattle.questions.specs.Contents.{Content}
use Rattle.engine_laws.specs.Runner.{IsTrail}
use Rattle.impact_laws.specs.Alike.{IsAsked}
use Rattle.touched_laws.specs.Edits.{Has}
use Rattle.engine_session.specs.Looking.{presence, told, asked_in}

module _ {X : Type 0} (ask : List (Key × Content) → Answer Key X) (tell : Key → Content) (limit : ℕ)
    (room : 0 < limit) (soon : (asked : List (Key × Content)) (k : Key) → IsTrail ask tell asked
    → ask asked ≡ Asks k → length asked + 1 < limit) where
  abbrev run : ℕ → List (Key × Content) → Ran Key X
  run n asked = ran ask (told tell) n asked

  abbrev item : Key → Key × ℕ
  item k = (k, presence (tell k))

  on_ends : (n : ℕ) (asked : List (Key × Content)) (r : X) → ask asked ≡ Ends r → run (suc n) asked
      ≡ Finished [] r
  on_ends n asked r e = ap
      (λ a. run_next a (λ k. with_word k (told tell k) (λ c. run n ((k, c) ∷ asked)))) e

  on_asks : (n : ℕ) (asked : List (Key × Content)) (k : Key) → ask asked ≡ Asks k
      → run (suc n) asked ≡ read_on (item k) (run n ((k, tell k) ∷ asked))
  on_asks n asked k e = ap
      (λ a. run_next a (λ k. with_word k (told tell k) (λ c. run n ((k, c) ∷ asked)))) e

  record Ended (n : ℕ) (asked : List (Key × Content)) : Type 0 where
    items : List (Key × ℕ)
    end : X
    is : run n asked ≡ Finished items end

  ends_at : (n : ℕ) (asked : List (Key × Content)) → n + length asked ≡ limit
      → IsTrail ask tell asked → Ended n asked
  ends_at zero [] e trail = absurd (omega (arith, room, e))
  ends_at zero (q ∷ asked) e trail =
      absurd (let lt = soon asked q.0 trail.0 trail.1 in omega (arith, lt, e))
  ends_at (suc n) asked e trail = at (λ a. ends_at n a) (ask asked) refl
    where
      at : ((more : List (Key × Content)) → n + length more
          ≡ limit → IsTrail ask tell more → Ended n more) → (a : Answer Key X) → ask asked
          ≡ a → Ended (suc n) asked
      at ih (Ends r) is = record { items = []; end = r; is = on_ends n asked r is }
      at ih (Asks k) is =
          let later = ih ((k, tell k) ∷ asked) (omega (arith, e)) (trail, is, refl) in
          record {
            items = item k ∷ later.items;
            end = later.end;
            is =
                on_asks n asked k is ∙ ap (read_on (item k)) later.is;
          }

  record Whole (its : List (Key × ℕ)) (end : X) : Type 0 where
    all : List (Key × ℕ)
    is : run limit [] ≡ Finished all end
    holds : (q : Key × ℕ) → Has q its → Has q all

  -- what is read from a point of the trail on is read by the whole run
  walk : (asked : List (Key × Content)) → IsTrail ask tell asked → (n : ℕ) → n + length asked
      ≡ limit → (its : List (Key × ℕ)) (end : X) → run n asked ≡ Finished its end → Whole its end
  walk [] trail n e its end is =
      let same : n ≡ limit = omega (arith, e) in
      record { all = its; is = ap (λ l. run l []) (sym same) ∙ is; holds = λ q h. h }
  walk (q ∷ asked) trail n e its end is =
      let here : run (suc n) asked ≡ Finished (item q.0 ∷ its) end =
      on_asks n asked q.0 trail.1 ∙ ap (λ c. read_on (item q.0) (run n ((q.0, c) ∷ asked)))
      (sym trail.2) ∙ ap (read_on (item q.0)) is in
      let whole = walk asked trail.0 (suc n) (omega (arith, e)) (item q.0 ∷ its) end here in
      record { all = whole.all; is = whole.is; holds = λ p h. whole.holds p (inr h) }

  pub asked_has : (k : Key) → IsAsked ask tell k → Has (item k) (asked_in (run limit []))
  asked_has k a =
      let lt = soon a.0 k a.1 a.2 in
      let rest = limit - (length a.0 + 1) in
      let later = ends_at rest ((k, tell k) ∷ a.0) (omega (arith, lt)) (a.1, a.2, refl) in
      let here : run (suc rest) a.0 ≡ Finished (item k ∷ later.items) later.end =
      on_asks rest a.0 k a.2 ∙ ap (read_on (item k)) later.is in
      let whole = walk a.0 a.1 (suc rest) (omega (arith, lt)) (item k ∷ later.items) later.end here
      in
      subst (λ r. Has (item k) (asked_in r)) (sym whole.is) (whole.holds (item k) (inl refl))
