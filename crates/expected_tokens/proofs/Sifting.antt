-- One more at the end of what is sifted; and what stands before a token.
use Rattle.std.proofs.Common.{◌≡◌, ℕ, suc, ◌+◌, take, arith, Bool, true, false, cond, List, [], ◌∷◌, ◌++◌, refl, sym, ap, subst, ◌∙◌, if◌then◌else◌}
use Rattle.std.specs.List.{before_first, position_or_len}
use Rattle.pan_ast.specs.declared.place.Place.{Place}
use Rattle.pan_grammar.specs.Grammar.{Tokens}
use Rattle.expected_tokens.specs.declared.candidate.Candidate.{Candidate}
use Rattle.expected_tokens.specs.Following.{CouldFollow, IsSifted, none_left, kept, sifted_out}

module _ {A : Type 0} {P : A → Type 0} where
  pub sifted_more : {xs ys : List A} (x : A) → IsSifted P xs ys → P x
      → IsSifted P (xs ++ x ∷ []) (ys ++ x ∷ [])
  sifted_more x none_left p = kept p none_left
  sifted_more x (kept q s) p = kept q (sifted_more x s p)
  sifted_more x (sifted_out q s) p = sifted_out q (sifted_more x s p)

  pub sifted_less : {xs ys : List A} (x : A) → IsSifted P xs ys → (P x → ⊥)
      → IsSifted P (xs ++ x ∷ []) ys
  sifted_less x none_left p = sifted_out p none_left
  sifted_less x (kept q s) p = kept q (sifted_less x s p)
  sifted_less x (sifted_out q s) p = sifted_out q (sifted_less x s p)

-- one step of a loop over candidates
pub sifted_on : (old now : Tokens) (p : Place) (xs : List Candidate) (i : ℕ) {x : Candidate}
    {found new : List Candidate} → old ≡ now → ((among : List Candidate)
    → IsSifted (CouldFollow old p) among found
    → IsSifted (CouldFollow old p) (among ++ x ∷ []) new)
    → IsSifted (CouldFollow now p) (take i xs) found
    → take (i + 1) xs ≡ take i xs ++ x ∷ [] → IsSifted (CouldFollow now p) (take (i + 1) xs) new
sifted_on old now p xs i {x = x} {found = found} {new = new} same more sifted step =
    subst (λ (ys : List Candidate). IsSifted (CouldFollow now p) ys new) (sym step)
    (subst (λ (ts : Tokens). (among : List Candidate) → IsSifted (CouldFollow ts p) among found
    → IsSifted (CouldFollow ts p) (among ++ x ∷ []) new) same more (take i xs) sifted)

-- what stands before the first of which a test holds begins what stands before any such
abbrev pub Begins : {A : Type 0} → (A → Bool) → List A → A → List A → Type 0
Begins test xs k on = (more : List _) × (xs ≡ before_first test (xs ++ k ∷ on) ++ more)

take_on : {A : Type 0} (n : ℕ) (x : A) (xs : List A) → take (1 + n) (x ∷ xs) ≡ x ∷ take n xs
take_on n x xs = let e : 1 + n ≡ suc n = omega arith in rw e refl

begins_on : {A : Type 0} (test : A → Bool) (x : A) (xs : List A) (k : A) (on : List A) (b : Bool)
    → test x ≡ b → Begins test xs k on → Begins test (x ∷ xs) k on
begins_on test x xs k on true e rest = (x ∷ xs, rw e refl)
begins_on test x xs k on false e rest =
    let n = position_or_len test (xs ++ k ∷ on) in (
      rest.0,
      rw e (ap (λ ys. x ∷ ys) rest.1
          ∙ ap (λ ys. ys ++ rest.0) (sym (take_on n x (xs ++ k ∷ on)))),
    )

pub before_begins : {A : Type 0} (test : A → Bool) (xs : List A) (k : A) (on : List A)
    → test k ≡ true → Begins test xs k on
before_begins test [] k on holds = ([], rw holds refl)
before_begins test (x ∷ xs) k on holds =
    begins_on test x xs k on (test x) refl (before_begins test xs k on holds)
