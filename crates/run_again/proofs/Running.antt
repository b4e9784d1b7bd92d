-- A run that is told true contents, under any numbers, goes as one from scratch.
use Rattle.std.proofs.Common.{◌≡◌, ◌⊎◌, ℕ, zero, suc, List, ◌∷◌, Option, Some, None, refl, sym, ap, ◌∙◌, subst, inl, inr}
use Rattle.asking.specs.Asked.{Answer, Ends, Asks, Word, Needs, Tells, Ran, Finished, Stops, Lost, ran, read_on, with_word, run_next, told_in, next_told, word_told}
use Rattle.engine_laws.specs.Bounded.{told_end, go_on}

-- the content that a word tells
abbrev pub content_of : {C : Type 0} → Word C → Option C
content_of (Needs p) = None
content_of (Tells n c) = Some c

content_same : {C : Type 0} (c d : C) → ◌≡◌ {A = Option C} (Some c) (Some d) → c ≡ d
content_same c d e = cc

module _ {K C X : Type 0} (ask : List (K × C) → Answer K X) where
  -- what it comes to is this end
  abbrev pub EndsAs : X → Ran K X → Type 0
  EndsAs end (Finished items r) = r ≡ end
  EndsAs end (Stops p) = ⊥
  EndsAs end Lost = Unit {0}

  -- .. or one that some answers lead to
  abbrev pub EndsBy : Ran K X → Type 0
  EndsBy (Finished items r) = (asked : List (K × C)) × (ask asked ≡ Ends r)
  EndsBy (Stops p) = Unit {0}
  EndsBy Lost = Unit {0}

  read_as : (end : X) (q : K × ℕ) (x : Ran K X) → EndsAs end x → EndsAs end (read_on q x)
  read_as end q (Finished items r) h = h
  read_as end q (Stops p) h = h
  read_as end q Lost h = h

  read_by : (q : K × ℕ) (x : Ran K X) → EndsBy x → EndsBy (read_on q x)
  read_by q (Finished items r) h = h
  read_by q (Stops p) h = h
  read_by q Lost h = h

  pub ends_by : (tells : K → Word C) (n : ℕ) (asked : List (K × C)) → EndsBy (ran ask tells n asked)
  ends_by tells zero asked = tt
  ends_by tells (suc n) asked = at (λ a. ends_by tells n a) (ask asked) refl
    where
      word : ((a : List (K × C)) → EndsBy (ran ask tells n a)) → (k : K) (y : Word C)
          → EndsBy (with_word k y (λ c. ran ask tells n ((k, c) ∷ asked)))
      word later k (Needs p) = tt
      word later k (Tells m c) = read_by (k, m) (ran ask tells n ((k, c) ∷ asked))
          (later ((k, c) ∷ asked))

      at : ((a : List (K × C)) → EndsBy (ran ask tells n a)) → (a : Answer K X) → ask asked ≡ a
          → EndsBy (run_next a (λ k. with_word k (tells k) (λ c. ran ask tells n ((k, c) ∷ asked))))
      at later (Ends r) e = (asked, e)
      at later (Asks k) e = word later k (tells k)

  -- an end from scratch is the one of a run that is never over, or one that some answers lead to
  pub scratch_by : (none : X) (tell : K → C) (n : ℕ) (asked : List (K × C))
      → (told_end none ask tell n asked ≡ none)
      ⊎ ((a : List (K × C)) × (ask a ≡ Ends (told_end none ask tell n asked)))
  scratch_by none tell zero asked = inl refl
  scratch_by none tell (suc n) asked = at (λ a. scratch_by none tell n a) (ask asked) refl
    where
      at : ((a : List (K × C)) → (told_end none ask tell n a ≡ none)
          ⊎ ((b : List (K × C)) × (ask b ≡ Ends (told_end none ask tell n a)))) → (a : Answer K X)
          → ask asked ≡ a → (go_on a (λ k. told_end none ask tell n ((k, tell k) ∷ asked)) ≡ none)
          ⊎ ((b : List (K × C)) × (ask b ≡ Ends
          (go_on a (λ k. told_end none ask tell n ((k, tell k) ∷ asked)))))
      at later (Ends r) e = inr (asked, e)
      at later (Asks k) e = later ((k, tell k) ∷ asked)

  module _ (tell : K → C) (tells : K → Word C)
      (is_true : (k : K) → content_of (tells k) ≡ Some (tell k)) where
    pub ends_as : (none : X) (n : ℕ) (asked : List (K × C))
        → EndsAs (told_end none ask tell n asked) (ran ask tells n asked)
    ends_as none zero asked = tt
    ends_as none (suc n) asked = at (λ a. ends_as none n a) (ask asked)
      where
        word : ((a : List (K × C)) → EndsAs (told_end none ask tell n a) (ran ask tells n a))
            → (k : K) (y : Word C) → content_of y ≡ Some (tell k)
            → EndsAs (told_end none ask tell n ((k, tell k) ∷ asked))
            (with_word k y (λ c. ran ask tells n ((k, c) ∷ asked)))
        word later k (Needs p) e = absurd (let clash : ◌≡◌ {A = Option C} None
            (Some (tell k)) = e in cc)
        word later k (Tells m c) e =
            let P : C → Type 0 = λ d. EndsAs (told_end none ask tell n ((k, tell k) ∷ asked))
            (read_on (k, m) (ran ask tells n ((k, d) ∷ asked))) in
            let here : P (tell k) = read_as (told_end none ask tell n ((k, tell k) ∷ asked)) (k, m)
            (ran ask tells n ((k, tell k) ∷ asked)) (later ((k, tell k) ∷ asked)) in
            subst P (sym (content_same c (tell k) e)) here

        at : ((a : List (K × C)) → EndsAs (told_end none ask tell n a) (ran ask tells n a))
            → (a : Answer K X) → EndsAs (go_on a
            (λ k. told_end none ask tell n ((k, tell k) ∷ asked)))
            (run_next a (λ k. with_word k (tells k) (λ c. ran ask tells n ((k, c) ∷ asked))))
        at later (Ends r) = refl
        at later (Asks k) = word later k (tells k) (is_true k)

    -- and it is told the same
    pub told_same : (n : ℕ) (asked : List (K × C))
        → told_in ask tells n asked ≡ told_in ask (λ k. Tells 0 (tell k)) n asked
    told_same zero asked = refl
    told_same (suc n) asked = at (λ a. told_same n a) (ask asked)
      where
        word : ((a : List (K × C)) → told_in ask tells n a ≡ told_in ask
            (λ k. Tells 0 (tell k)) n a) → (k : K) (y : Word C) → content_of y ≡ Some (tell k)
            → word_told y asked (λ c. told_in ask tells n ((k, c) ∷ asked)) ≡ told_in ask
            (λ k. Tells 0 (tell k)) n ((k, tell k) ∷ asked)
        word later k (Needs p) e = absurd (let clash : ◌≡◌ {A = Option C} None
            (Some (tell k)) = e in cc)
        word later k (Tells m c) e = ap (λ d. told_in ask tells n ((k, d) ∷ asked))
            (content_same c (tell k) e) ∙ later ((k, tell k) ∷ asked)

        at : ((a : List (K × C)) → told_in ask tells n a ≡ told_in ask (λ k. Tells 0 (tell k)) n a)
            → (a : Answer K X) → next_told a asked
            (λ k. word_told (tells k) asked (λ c. told_in ask tells n ((k, c) ∷ asked))) ≡ next_told
            a asked (λ k. word_told (Tells 0 (tell k)) asked
            (λ c. told_in ask (λ j. Tells 0 (tell j)) n ((k, c) ∷ asked)))
        at later (Ends r) = refl
        at later (Asks k) = word later k (tells k) (is_true k)
