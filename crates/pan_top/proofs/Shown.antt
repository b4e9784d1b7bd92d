-- A demo, and the line of its end.
use Rattle.std.proofs.Common.{◌≡◌, ℕ, Bool, true, false, List, [], ◌++◌, length, take, drop, Option, inl, inr, refl, sym, ap, subst, ◌∙◌, append_assoc, append-nil, ◌∷◌}
use Rattle.std.specs.Prelude.{option_map}
use Rattle.engine_session.specs.Standing.{Counts, HasSpentAtMost, SpendsAs}
use Rattle.engine_session.proofs.Counting.{at_most}
use Rattle.demo.specs.Demo.{Ends, Breaks}
use Rattle.demo.proofs.Turning.{part_by, text_by}
use Rattle.outside.specs.Contents.{Appends, AppendsPart}
use Rattle.session.specs.Sessions.{Next, GoesOn, Quits, SpendsNumbers, IsTooMuch, State, state_in, end_of, end_line, ended_by}
use Rattle.session.specs.declared.Ended.{Ended}
use Rattle.session.specs.declared.Ended.TheVariants as ended
use Rattle.pan_top.specs.Demos.{Shows}
use Rattle.call_status.specs.Statuses.{status_after}
use Rattle.pan_top.specs.Statuses.{IsCut, Says}
use Rattle.call_status.specs.declared.status.Status.{Status}

front : (a b : List ℕ) → take (length a) (a ++ b) ≡ a
front [] b = refl
front (x ∷ xs) b = ap (λ l. x ∷ l) (front xs b)

-- a first part of a text, and of the text with a line behind it
longer : (a b : List ℕ) (n : ℕ) → (m : ℕ) × (take n a ≡ take m (a ++ b))
longer a b n = (
  length (take n a),
  sym (ap (take (length (take n a)))
      (ap (λ l. l ++ b) (sym (Rattle.std.proofs.lemmas.List.take-append-drop n a))
      ∙ append_assoc (take n a) (drop n a) b) ∙ front (take n a) (drop n a ++ b)),
)

pub part_longer : (old new : Option (List ℕ)) (text line : List ℕ) → AppendsPart old text new
    → AppendsPart old (text ++ line) new
part_longer old new text line part = let m = longer text line part.0 in
    (m.0, part.1 ∙ ap (λ t. option_map (λ held. held ++ t) old) m.1)

pub part_behind : (old mid new : Option (List ℕ)) (text line : List ℕ) → Appends old text mid
    → AppendsPart mid line new → AppendsPart old (text ++ line) new
part_behind old mid new text line whole part =
    part_by old new (text ++ line) (text ++ take part.0 line) (drop part.0 line)
    (text_by old mid new text (take part.0 line) whole part.1)
    (ap (λ l. text ++ l) (sym (Rattle.std.proofs.lemmas.List.take-append-drop part.0 line))
    ∙ sym (append_assoc text (take part.0 line) (drop part.0 line)))

spends_most : {E : Type 0} (how : Ended) (s : State E) (before now : Counts)
    → SpendsAs how s before now → HasSpentAtMost s before now
spends_most ended.Clean s before now spent = at_most s before now spent
spends_most ended.SomeFaults s before now spent = at_most s before now spent
spends_most ended.NumbersSpent s before now spent = spent
spends_most ended.TooMuch s before now spent = spent
spends_most (ended.TooManyRemovals removals) s before now spent = at_most s before now spent

module _ {E : Type 0} (x : Next E) (how : Ended) (before now : Counts) (old mid : Option (List ℕ))
    (ends : Ends x how before now old mid) where
  spent_is : SpendsAs (end_of x) (state_in x) before now
  spent_is = subst (λ h. SpendsAs h (state_in x) before now) ends.ended ends.spent

  -- its last builds were made, and nothing is to be said behind them
  pub shown_plain : (status : Status) → status ≡ status_after how → end_line how ≡ []
      → Shows x status old mid before now
  shown_plain status is none = inl (
    is ∙ ap status_after ends.ended,
    subst (λ line. Appends old ((state_in x).text ++ line) mid) (sym none ∙ ap end_line ends.ended)
        (subst (λ text. Appends old text mid) (sym (append-nil (state_in x).text)) ends.text),
    spent_is,
  )

  -- a line is said behind them
  pub shown_said : (status : Status) (new : Option (List ℕ))
      → Says (status_after how) (end_line how) status mid new → Shows x status old new before now
  shown_said status new (inl whole) = inl (
    whole.0 ∙ ap status_after ends.ended,
    subst (λ h. Appends old ((state_in x).text ++ end_line h) new) ends.ended
        (text_by old mid new (state_in x).text (end_line how) ends.text whole.1),
    spent_is,
  )
  shown_said status new (inr part) = inr (
    part.0,
    subst (λ h. AppendsPart old ((state_in x).text ++ end_line h) new) ends.ended
        (part_behind old mid new (state_in x).text (end_line how) ends.text part.1),
    spends_most (end_of x) (state_in x) before now spent_is,
  )

-- it was broken off
pub shown_part : {E : Type 0} (x : Next E) (status : Status) (old new : Option (List ℕ))
    (before now : Counts) → IsCut status → Breaks x before now old new
    → Shows x status old new before now
shown_part x status old new before now cut b =
    inr (cut, part_longer old new (state_in x).text (end_line (end_of x)) b.text, b.spent)

-- no demo ends so
pub never_many : {E : Type 0} (x : Next E) (removals : ℕ) → ended.TooManyRemovals removals
    ≡ end_of x → ⊥
never_many (GoesOn t) removals is = by t.has_faults is
  where
    by : (b : Bool) → ended.TooManyRemovals removals ≡ ended_by b → ⊥
    by true is = cc
    by false is = cc
never_many (Quits t) removals is = by t.has_faults is
  where
    by : (b : Bool) → ended.TooManyRemovals removals ≡ ended_by b → ⊥
    by true is = cc
    by false is = cc
never_many (SpendsNumbers t) removals is = cc
never_many (IsTooMuch t) removals is = cc
