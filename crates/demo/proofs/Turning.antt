-- What so many builds make of a session.
use Rattle.std.proofs.Common.{◌≡◌, ℕ, zero, suc, List, [], ◌∷◌, ◌++◌, take, drop, length, Option, Some, None, refl, sym, ap, ◌∙◌, arith, append_assoc, append-nil}
use Rattle.std.specs.Prelude.{option_map}
use Rattle.std.proofs.lemmas.List.{take-append-drop}
use Rattle.outside.specs.Contents.{AppendsPart}
use Rattle.publication.specs.declared.answer.Publication.TheVariants as publication
use Rattle.session.specs.Machines.{Machine}
use Rattle.session.specs.Sessions.{NotSaved, State, Next, GoesOn, Quits, SpendsNumbers, IsTooMuch, build_round, next, state_in, reported, built}
use Rattle.engine_session.specs.Compiler.{Compiled}
use Rattle.engine_session.specs.Standing.{Here, IsBelow, IsRising}
use Rattle.engine_session.proofs.Counting.{turns_rise, below_same}
use Rattle.engine_session.proofs.Scanning.{scan_rises}
use Rattle.demo.specs.Demo.{shortened, builds}
use Rattle.demo.specs.Reports.{last_line}

pub below_on : {E : Type 0} (s t u : State E) → IsBelow s t → IsBelow t u → IsBelow s u
below_on s t u a b = record {
  in_runs = let x = a.in_runs in let y = b.in_runs in
      omega (arith, x, y);
  in_steps = let x = a.in_steps in let y = b.in_steps in
      omega (arith, x, y);
}

pub shortened_below : {E : Type 0} (text : List ℕ) (continue : State E → Next E) → IsRising continue
    → (n : Next E) → IsBelow (state_in n) (state_in (shortened text continue n))
shortened_below text continue rising (GoesOn t) = let h =
    rising (record t { text = text ++ last_line t.text }) in
    record { in_runs = h.in_runs; in_steps = h.in_steps }
shortened_below text continue rising (Quits t) =
    record { in_runs = omega arith; in_steps = omega arith }
shortened_below text continue rising (SpendsNumbers t) =
    record { in_runs = omega arith; in_steps = omega arith }
shortened_below text continue rising (IsTooMuch t) =
    record { in_runs = omega arith; in_steps = omega arith }

-- what is written goes on from here
abbrev pub Grows : {E : Type 0} → List ℕ → Next E → Type 0
Grows text n = (more : List ℕ) × ((state_in n).text ≡ text ++ more)

shortened_grows : {E : Type 0} (text : List ℕ) (continue : State E → Next E)
    → ((t : State E) → Grows t.text (continue t)) → (n : Next E)
    → Grows text (shortened text continue n)
shortened_grows text continue go (GoesOn t) = let h =
    go (record t { text = text ++ last_line t.text }) in
    (last_line t.text ++ h.0, h.1 ∙ append_assoc text (last_line t.text) h.0)
shortened_grows text continue go (Quits t) = ([], sym (append-nil text))
shortened_grows text continue go (SpendsNumbers t) = ([], sym (append-nil text))
shortened_grows text continue go (IsTooMuch t) = ([], sym (append-nil text))

pub grows : {E : Type 0} (machine : Machine E) (k : ℕ) (s : State E)
    → Grows s.text (builds machine k s)
grows machine zero s = ([], sym (append-nil s.text))
grows machine (suc k) s =
    shortened_grows s.text (builds machine k) (grows machine k)
    (next machine build_round (record s { text = [] }))

module _ {T : Type 0} (machine : Machine (Compiled T)) where
  abbrev pub at_end : Here T → Next (Compiled T)
  at_end t = GoesOn (reported machine (publication.Done []) NotSaved t)

  pub end_rises : IsRising at_end
  end_rises t = record { in_runs = omega arith; in_steps = omega arith }

  pub build_rises : IsRising (built machine (publication.Done []) NotSaved)
  build_rises t = turns_rise machine at_end end_rises (machine.turns_left t.engine) t

  round_rises : (s : Here T) → IsBelow s (state_in (next machine build_round s))
  round_rises s = scan_rises machine (built machine (publication.Done []) NotSaved) build_rises s

  pub builds_rise : (k : ℕ) → IsRising (builds machine k)
  builds_rise zero s = below_same s
  builds_rise (suc k) s =
      let x = next machine build_round (record s { text = [] }) in
      let a = round_rises (record s { text = [] }) in
      let b = shortened_below s.text (builds machine k) (builds_rise k) x in
      record {
        in_runs = let x = a.in_runs in let y = b.in_runs in omega (arith, x, y);
        in_steps = let x = a.in_steps in let y = b.in_steps in omega (arith, x, y);
      }

-- texts that were written
take_front : (p q : List ℕ) → take (length p) (p ++ q) ≡ p
take_front [] q = refl
take_front (x ∷ p) q = ap (λ t. x ∷ t) (take_front p q)

pub part_by : (held_old held_new : Option (List ℕ)) (text p q : List ℕ) → held_new
    ≡ option_map (λ h. h ++ p) held_old → text ≡ p ++ q → AppendsPart held_old text held_new
part_by held_old held_new text p q e is = (
  length p,
  e ∙ ap (λ t. option_map (λ h. h ++ t) held_old)
      (sym (ap (take (length p)) is ∙ take_front p q)),
)

pub text_by : (held mid now : Option (List ℕ)) (before text : List ℕ) → mid
    ≡ option_map (λ h. h ++ before) held → now ≡ option_map (λ h. h ++ text) mid → now
    ≡ option_map (λ h. h ++ (before ++ text)) held
text_by None mid now before text e f = f ∙ ap (option_map (λ h. h ++ text)) e
text_by (Some b) mid now before text e f =
    f ∙ ap (option_map (λ h. h ++ text)) e ∙ ap (λ t. Some t) (append_assoc b before text)

pub part_on : (a line more : List ℕ) (n : ℕ) → (a ++ line) ++ more ≡ (a ++ take n line)
    ++ (drop n line ++ more)
part_on a line more n = ap (λ l. (a ++ l) ++ more) (sym (take-append-drop n line))
    ∙ ap (λ t. t ++ more) (sym (append_assoc a (take n line) (drop n line)))
    ∙ append_assoc (a ++ take n line) (drop n line) more

pub nothing_written : (held : Option (List ℕ)) → held ≡ option_map (λ h. h ++ []) held
nothing_written None = refl
nothing_written (Some b) = ap (λ t. Some t) (sym (append-nil b))
