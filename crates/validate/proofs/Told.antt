-- What a run tells of a claim: that it holds where the run is done without a refusal, and that the
-- run is so done where it holds, unless the work is spent.
use Rattle.std.proofs.Common.{◌≡◌, ℕ, ◌≤◌, ◌-◌, Bool, true, false, nat_eq, Option, Some, None, Result, Ok, Err, refl, sym, subst, arith}
use Rattle.path_tree.specs.declared.path.Term.{Term}
use Rattle.pan_ast.specs.declared.fault.Code.TheVariants.{WorkSpent}
use Rattle.pan_ast.specs.declared.place.Place.{Place}
use Rattle.questions.specs.Contents.{Answers}
use Rattle.questions.specs.Run.{Meter, Outcome, Done, Returned, Failed, Asks, then, stepped}
use Rattle.dml_meaning.specs.Run.{Look}
use Rattle.validate.specs.declared.refusal.Misfit.{Misfit}
use Rattle.validate.specs.Check.{◌>>=◌, visit}
use Rattle.validate.specs.Conforms.{EndsWith}
use Rattle.validate.specs.Refusals.{Refusal, Checks, fine, unless_refused, reading, require, or_refuse, inside, below, at_link, behind}
use Rattle.validate.specs.Steady.{Agrees}

-- of runs that refuse nothing

abbrev pub ToldLook : ℕ → Type 0 → Outcome (Unit {0}) (Unit {0}) → Type 0
ToldLook n P (Done x s m) = P × (m.left ≤ n)
ToldLook n P (Returned t s m) = P → ⊥
ToldLook n P (Failed f m) = P → f.code ≡ WorkSpent
ToldLook n P (Asks k m) = P → ⊥

-- and of those that may

abbrev pub Told : ℕ → Type 0 → Outcome (Unit {0}) (Result (Unit {0}) Refusal) → Type 0
Told n P (Done (Ok x) s m) = P × (m.left ≤ n)
Told n P (Done (Err r) s m) = P → ⊥
Told n P (Returned t s m) = P → ⊥
Told n P (Failed f m) = P → f.code ≡ WorkSpent
Told n P (Asks k m) = P → ⊥

pub look_map : (n : ℕ) (P Q : Type 0) (z : Outcome (Unit {0}) (Unit {0})) → (P → Q) → (Q → P)
    → ToldLook n P z → ToldLook n Q z
look_map n P Q (Done x s m) f g h = (f h.0, h.1)
look_map n P Q (Returned t s m) f g h = λ q. h (g q)
look_map n P Q (Failed d m) f g h = λ q. h (g q)
look_map n P Q (Asks k m) f g h = λ q. h (g q)

look_lower : (n k : ℕ) (P : Type 0) (z : Outcome (Unit {0}) (Unit {0})) → k ≤ n → ToldLook k P z
    → ToldLook n P z
look_lower n k P (Done x s m) l h = let a = h.1 in (h.0, omega arith)
look_lower n k P (Returned t s m) l h = h
look_lower n k P (Failed d m) l h = h
look_lower n k P (Asks q m) l h = h

pub told_map : (n : ℕ) (P Q : Type 0) (z : Outcome (Unit {0}) (Result (Unit {0}) Refusal)) → (P → Q)
    → (Q → P) → Told n P z → Told n Q z
told_map n P Q (Done (Ok x) s m) f g h = (f h.0, h.1)
told_map n P Q (Done (Err r) s m) f g h = λ q. h (g q)
told_map n P Q (Returned t s m) f g h = λ q. h (g q)
told_map n P Q (Failed d m) f g h = λ q. h (g q)
told_map n P Q (Asks k m) f g h = λ q. h (g q)

told_lower : (n k : ℕ) (P : Type 0) (z : Outcome (Unit {0}) (Result (Unit {0}) Refusal)) → k ≤ n
    → Told k P z → Told n P z
told_lower n k P (Done (Ok x) s m) l h = let a = h.1 in (h.0, omega arith)
told_lower n k P (Done (Err r) s m) l h = h
told_lower n k P (Returned t s m) l h = h
told_lower n k P (Failed d m) l h = h
told_lower n k P (Asks q m) l h = h

-- a run ends with one value
pub one_end : {X : Type 0} → (x y : X) (z : Outcome (Unit {0}) X) → EndsWith x z → EndsWith y z → x
    ≡ y
one_end x y z h k = let a : z ≡ Done x tt h.meter = h.is in let b : z ≡ Done y tt k.meter = k.is in
    cc

none_some : {X : Type 0} → (x : X) → None ≡ Some x → ⊥
none_some x e = cc

same_some : {X : Type 0} → (x y : X) → Some x ≡ Some y → x ≡ y
same_some x y e = cc

-- n: the most work that a run begins with; o: what it is told
module _ (n : ℕ) (o : Answers) where
  abbrev pub TellsLook : Look (Unit {0}) → Type 0 → Type 0
  TellsLook r P = (m : Meter) → m.left ≤ n → ToldLook m.left P (r o tt m)

  abbrev pub Tells : Checks (Unit {0}) → Type 0 → Type 0
  Tells r P = (m : Meter) → m.left ≤ n → Told m.left P (r o tt m)

  -- one run after another

  pub look_then : (left : ℕ) (P Q : Type 0) (z : Outcome (Unit {0}) (Unit {0}))
      (s : Look (Unit {0})) → left ≤ n → ToldLook left P z → (P → TellsLook s Q)
      → ToldLook left (P × Q) (then z (λ _. s o))
  look_then left P Q (Done x t m) s l h k =
      let b : m.left ≤ left = h.1 in
      look_map left Q (P × Q) (s o tt m) (λ q. (h.0, q)) (λ w. w.1)
      (look_lower left m.left Q (s o tt m) b (k h.0 m (omega arith)))
  look_then left P Q (Returned t u m) s l h k = λ w. h w.0
  look_then left P Q (Failed d m) s l h k = λ w. h w.0
  look_then left P Q (Asks q m) s l h k = λ w. h w.0

  told_then : (left : ℕ) (P Q : Type 0) (z : Outcome (Unit {0}) (Result (Unit {0}) Refusal))
      (s : Checks (Unit {0})) → left ≤ n → Told left P z → (P → Tells s Q)
      → Told left (P × Q) (then z (λ x. unless_refused (λ _. s) x o))
  told_then left P Q (Done (Ok x) t m) s l h k =
      let b : m.left ≤ left = h.1 in
      told_map left Q (P × Q) (s o tt m) (λ q. (h.0, q)) (λ w. w.1)
      (told_lower left m.left Q (s o tt m) b (k h.0 m (omega arith)))
  told_then left P Q (Done (Err r) t m) s l h k = λ w. h w.0
  told_then left P Q (Returned t u m) s l h k = λ w. h w.0
  told_then left P Q (Failed d m) s l h k = λ w. h w.0
  told_then left P Q (Asks q m) s l h k = λ w. h w.0

  pub tells_then : (P Q : Type 0) (r s : Checks (Unit {0})) → Tells r P → (P → Tells s Q)
      → Tells (r >>= (λ _. s)) (P × Q)
  tells_then P Q r s h k m l = told_then m.left P Q (r o tt m) s l (h m l) k

  pub tells_map : (P Q : Type 0) (r : Checks (Unit {0})) → (P → Q) → (Q → P) → Tells r P → Tells r Q
  tells_map P Q r f g h m l = told_map m.left P Q (r o tt m) f g (h m l)

  pub tells_fine : Tells (fine tt) (Unit {0})
  tells_fine m l = (tt, omega arith)

  pub tells_require : (c : Misfit) (b : Bool) → Tells (require c b) (b ≡ true)
  tells_require c true m l = (refl, omega arith)
  tells_require c false m l = λ e. absurd (cc)

  -- a visit, and what follows it

  told_visited : (left : ℕ) (P : Type 0) (p : Place) (b : Bool) (m : Meter) (s : Checks (Unit {0}))
      → m.left ≤ left → left ≤ n → Tells s P → Told left P (then (stepped b p tt m) (λ _. s o))
  told_visited left P p true m s l k h = λ _. refl
  told_visited left P p false m s l k h =
      told_lower left (m.left - 1) P (s o tt (record { left = m.left - 1; asked = m.asked }))
      (omega arith) (h (record { left = m.left - 1; asked = m.asked }) (omega arith))

  pub tells_visit : (P : Type 0) (p : Place) (s : Checks (Unit {0})) → Tells s P
      → Tells (reading (visit p) (λ _. s)) P
  unfolding visit
  tells_visit P p s h m l = told_visited m.left P p (nat_eq m.left 0) m s (omega arith) l h

  -- parts, told from the whole

  told_inside : (left : ℕ) (P : Type 0) (t : Term)
      (z : Outcome (Unit {0}) (Result (Unit {0}) Refusal)) → Told left P z
      → Told left P (then z (λ x u m. Done (inside t x) u m))
  told_inside left P t (Done (Ok x) s m) h = h
  told_inside left P t (Done (Err r) s m) h = h
  told_inside left P t (Returned v s m) h = h
  told_inside left P t (Failed d m) h = h
  told_inside left P t (Asks k m) h = h

  pub tells_below : (P : Type 0) (t : Term) (r : Checks (Unit {0})) → Tells r P
      → Tells (below t r) P
  tells_below P t r h m l = told_inside m.left P t (r o tt m) (h m l)

  told_link : (left : ℕ) (P : Type 0) (z : Outcome (Unit {0}) (Result (Unit {0}) Refusal))
      → Told left P z → Told left P (then z (λ x u m. Done (at_link x) u m))
  told_link left P (Done (Ok x) s m) h = h
  told_link left P (Done (Err r) s m) h = h
  told_link left P (Returned v s m) h = h
  told_link left P (Failed d m) h = h
  told_link left P (Asks k m) h = h

  pub tells_behind : (P : Type 0) (r : Checks (Unit {0})) → Tells r P → Tells (behind r) P
  tells_behind P r h m l = told_link m.left P (r o tt m) (h m l)

  -- what is read with less work is what the whole run reads

  told_read : {X : Type 0} → (left : ℕ) (z w : Outcome (Unit {0}) X) (f : X → Checks (Unit {0}))
      (Q : X → Type 0) → left ≤ n → Agrees left z w → ((x : X) → EndsWith x w → Tells (f x) (Q x))
      → Told left ((x : X) × EndsWith x w × Q x) (then z (λ x. f x o))
  told_read left (Done x s m) w f Q l h k =
      let b : m.left ≤ left = h.1 in
      told_map left (Q x) _ (f x o tt m) (λ q. (x, h.0, q))
      (λ y. subst Q (one_end y.0 x w y.1 h.0) y.2) (told_lower left m.left (Q x) (f x o tt m) b
      (k x h.0 m (omega arith)))
  told_read left (Returned t s m) w f Q l h k = λ y. h y.0 y.1
  told_read left (Failed d m) w f Q l h k = λ y. h y.0 y.1
  told_read left (Asks q m) w f Q l h k = λ y. h y.0 y.1

  pub tells_read : {X : Type 0} → (r : Look X) (w : Outcome (Unit {0}) X)
      (f : X → Checks (Unit {0})) (Q : X → Type 0)
      → ((m : Meter) → m.left ≤ n → Agrees m.left (r o tt m) w)
      → ((x : X) → EndsWith x w → Tells (f x) (Q x))
      → Tells (reading r f) ((x : X) × EndsWith x w × Q x)
  tells_read r w f Q h k m l = told_read m.left (r o tt m) w f Q l (h m l) k

  pub look_read : {X : Type 0} → (left : ℕ) (z w : Outcome (Unit {0}) X) (f : X → Look (Unit {0}))
      (Q : X → Type 0) → left ≤ n → Agrees left z w
      → ((x : X) → EndsWith x w → TellsLook (f x) (Q x))
      → ToldLook left ((x : X) × EndsWith x w × Q x) (then z (λ x. f x o))
  look_read left (Done x s m) w f Q l h k =
      let b : m.left ≤ left = h.1 in
      look_map left (Q x) _ (f x o tt m) (λ q. (x, h.0, q))
      (λ y. subst Q (one_end y.0 x w y.1 h.0) y.2) (look_lower left m.left (Q x) (f x o tt m) b
      (k x h.0 m (omega arith)))
  look_read left (Returned t s m) w f Q l h k = λ y. h y.0 y.1
  look_read left (Failed d m) w f Q l h k = λ y. h y.0 y.1
  look_read left (Asks q m) w f Q l h k = λ y. h y.0 y.1

  -- a value that was found, or none
  pub tells_found : {X : Type 0} → (c : Misfit) (x : Option X) (f : X → Checks (Unit {0}))
      (P : X → Type 0) → ((y : X) → x ≡ Some y → Tells (f y) (P y))
      → Tells (or_refuse c x >>= f) ((y : X) × (x ≡ Some y) × P y)
  tells_found c None f P h m l = λ y. absurd (none_some y.0 y.1)
  tells_found c (Some x) f P h m l =
      told_map m.left (P x) _ (f x o tt m) (λ q. (x, refl, q))
      (λ y. subst P (sym (same_some x y.0 y.1)) y.2) (h x refl m l)
