-- Runs that more work changes in no way, but that the work is spent.
use Rattle.std.proofs.Common.{◌≡◌, ◌∙◌, ap, sym, subst, refl, ℕ, ◌-◌, ◌≤◌, ◌<◌, ◌⊎◌, inl, inr, Option, Some, None, Bool, true, false, cond, nat_eq, arith}
use Rattle.std.proofs.lemmas.Bool.Decides.{nat_tests}
use Rattle.path_tree.specs.Plain.{Plain}
use Rattle.pan_ast.specs.declared.place.Place.{Place}
use Rattle.pan_ast.specs.declared.fault.Fault.{Fault}
use Rattle.pan_ast.specs.declared.fault.Code.TheVariants.{WorkSpent}
use Rattle.questions.specs.declared.key.Key.{Key}
use Rattle.questions.specs.Contents.{Content, Answers}
use Rattle.questions.specs.Run.{Meter, noted, Outcome, Done, Returned, Failed, Asks, Run, then, ◌>>=◌, give, fail_with, return_with, now, become, step, stepped, answered, ask, ended, scoped, beside, still}

-- how a run ends that begins with this much left, beside the same run from as much or more: alike,
-- unless the work is spent
abbrev pub Alike : {S X : Type 0} → ℕ → Outcome S X → Outcome S X → Type 0
Alike left (Done x s m) z = (n : Meter) × (z ≡ Done x s n) × (m.left ≤ n.left) × (m.left ≤ left)
Alike left (Returned t s m) z =
    (n : Meter) × (z ≡ Returned t s n) × (m.left ≤ n.left) × (m.left ≤ left)
Alike left (Failed f m) z = (f.code ≡ WorkSpent) ⊎ ((n : Meter) × (z ≡ Failed f n))
Alike left (Asks k m) z = (n : Meter) × (z ≡ Asks k n)

pub record Steady {S X : Type 0} (r : Run S X) : Type 0 where
  pub alike : (o : Answers) (s : S) (m n : Meter) → m.left ≤ n.left
      → Alike m.left (r o s m) (r o s n)

-- outcomes

alike_from : {S X : Type 0} → (k left : ℕ) (z w : Outcome S X) → k ≤ left → Alike k z w
    → Alike left z w
alike_from k left (Done x s m) w l h = let a = h.3 in (h.0, h.1, h.2, omega arith)
alike_from k left (Returned t s m) w l h = let a = h.3 in (h.0, h.1, h.2, omega arith)
alike_from k left (Failed f m) w l h = h
alike_from k left (Asks q m) w l h = h

failed_as : {S X T Y : Type 0} → (g : Outcome S X → Outcome T Y) (f : Fault) (z : Outcome S X)
    → ((n : Meter) → g (Failed f n) ≡ Failed f n) → (f.code ≡ WorkSpent)
    ⊎ ((n : Meter) × (z ≡ Failed f n)) → (f.code ≡ WorkSpent) ⊎ ((n : Meter) × (g z ≡ Failed f n))
failed_as g f z k (inl e) = inl e
failed_as g f z k (inr h) = inr (h.0, ap g h.1 ∙ k h.0)

alike_then : {S X Y : Type 0} → (left : ℕ) (z w : Outcome S X) (f : X → S → Meter → Outcome S Y)
    → ((x : X) (s : S) (m n : Meter) → m.left ≤ n.left → Alike m.left (f x s m) (f x s n))
    → Alike left z w → Alike left (then z f) (then w f)
alike_then left (Done x s m) w f k h =
    subst (λ v. Alike left (f x s m) (then v f)) (sym h.1)
    (alike_from m.left left (f x s m) (f x s h.0) h.3 (k x s m h.0 h.2))
alike_then left (Returned t s m) w f k h = (h.0, ap (λ v. then v f) h.1, h.2, h.3)
alike_then left (Failed d m) w f k h = failed_as (λ v. then v f) d w (λ n. refl) h
alike_then left (Asks q m) w f k h = (h.0, ap (λ v. then v f) h.1)

none_left : (n : ℕ) → nat_eq n 0 ≡ true → n ≡ 0
none_left n e = grind (arith, nat_tests)

some_left : (n : ℕ) → nat_eq n 0 ≡ false → 0 < n
some_left n e = grind (arith, nat_tests)

alike_stepped : {S : Type 0} → (p : Place) (s : S) (b c : Bool) (m n : Meter) → nat_eq m.left 0 ≡ b
    → nat_eq n.left 0 ≡ c → m.left ≤ n.left → Alike m.left (stepped b p s m) (stepped c p s n)
alike_stepped p s true c m n d e l = inl refl
alike_stepped p s false true m n d e l =
    let some = some_left m.left d in
    let none = none_left n.left e in
    absurd (omega arith)
alike_stepped p s false false m n d e l =
    (record { left = n.left - 1; asked = n.asked }, refl, omega arith, omega arith)

alike_answered : {S : Type 0} → (a : Option Content) (k : Key) (s : S) (m n : Meter)
    → m.left ≤ n.left → Alike m.left (answered a k s m) (answered a k s n)
alike_answered None k s m n l = (n, refl)
alike_answered (Some c) k s m n l = (noted k n, refl, l, omega arith)

alike_ended : {S T : Type 0} → (out : T → S) (left : ℕ) (z w : Outcome T Plain) → Alike left z w
    → Alike left (ended out z) (ended out w)
alike_ended out left (Done t s m) w h = (h.0, ap (ended out) h.1, h.2, h.3)
alike_ended out left (Returned t s m) w h = (h.0, ap (ended out) h.1, h.2, h.3)
alike_ended out left (Failed f m) w h = failed_as (ended out) f w (λ n. refl) h
alike_ended out left (Asks k m) w h = (h.0, ap (ended out) h.1)

alike_beside : {S X : Type 0} → (s : S) (left : ℕ) (z w : Outcome (Unit {0}) X) → Alike left z w
    → Alike left (beside s z) (beside s w)
alike_beside s left (Done x t m) w h = (h.0, ap (beside s) h.1, h.2, h.3)
alike_beside s left (Returned u t m) w h = (h.0, ap (beside s) h.1, h.2, h.3)
alike_beside s left (Failed f m) w h = failed_as (beside s) f w (λ n. refl) h
alike_beside s left (Asks k m) w h = (h.0, ap (beside s) h.1)

-- runs, by the ways in which they are made

module _ {S : Type 0} where
  pub steady_give : {X : Type 0} → (x : X) → Steady {S = S} (give x)
  steady_give x = record { alike = λ o s m n l. (n, refl, l, omega arith) }

  pub steady_return : {X : Type 0} → (t : Plain) → Steady {S = S} {X = X} (return_with t)
  steady_return t = record { alike = λ o s m n l. (n, refl, l, omega arith) }

  pub steady_fail : {X : Type 0} → (f : Fault) → Steady {S = S} {X = X} (fail_with f)
  steady_fail f = record { alike = λ o s m n l. inr (n, refl) }

  pub steady_now : Steady {S = S} now
  steady_now = record { alike = λ o s m n l. (n, refl, l, omega arith) }

  pub steady_become : (t : S) → Steady {S = S} (become t)
  steady_become t = record { alike = λ o s m n l. (n, refl, l, omega arith) }

  pub steady_cond : {X : Type 0} → (b : Bool) (r r' : Run S X) → Steady r → Steady r'
      → Steady (cond b r r')
  steady_cond true r r' h k = h
  steady_cond false r r' h k = k

  pub steady_bind : {X Y : Type 0} → (r : Run S X) (f : X → Run S Y) → Steady r
      → ((x : X) → Steady (f x)) → Steady (r >>= f)
  steady_bind r f a b = record {
    alike = λ o s m n l. alike_then m.left (r o s m) (r o s n) (λ x. f x o)
        (λ x t p q k. (b x).alike o t p q k) (a.alike o s m n l);
  }

  pub steady_step : (p : Place) → Steady {S = S} (step p)
  steady_step p = record {
    alike =
        λ o s m n l. alike_stepped p s (nat_eq m.left 0) (nat_eq n.left 0) m n refl refl l;
  }

  pub steady_ask : (k : Key) → Steady {S = S} (ask k)
  steady_ask k = record { alike = λ o s m n l. alike_answered (o k) k s m n l }

pub steady_scoped : {S T : Type 0} → (inner : S → T) (outer : S → T → S) (r : Run T Plain)
    → Steady r → Steady (scoped inner outer r)
steady_scoped inner outer r a = record {
  alike = λ o s m n l. alike_ended (outer s) m.left (r o (inner s) m) (r o (inner s) n)
      (a.alike o (inner s) m n l);
}

pub steady_still : {S X : Type 0} → (r : Run (Unit {0}) X) → Steady r → Steady {S = S} (still r)
steady_still r a = record {
  alike = λ o s m n l. alike_beside s m.left (r o tt m) (r o tt n) (a.alike o tt m n l);
}
