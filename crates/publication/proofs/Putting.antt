-- Files that are put one after the other.
use Rattle.std.proofs.Common.{◌≡◌, ℕ, Bool, true, false, List, ◌∷◌, None, is_some, not, ◌⊎◌, inl, inr, sym, ap, ◌∙◌}
use Rattle.std.specs.Prelude.{bytes_eq}
use Rattle.outside.specs.Cells.{Cell, AllBut}
use Rattle.outside.specs.declared.shelf.Change.{Change}
use Rattle.publication.specs.declared.want.Want.{Want}
use Rattle.publication.specs.declared.puts.PutError.{PutError}
use Rattle.publication.specs.declared.puts.PutError.TheVariants.{Failed, Memory}
use Rattle.publication.specs.Halves.{Underway}
use Rattle.publication.specs.Puts.{are_apart, placed, PutsLeave, PutsLeft, IsPutAt, IsPutOf}
use Rattle.publication.specs.Wants.{wanted}
use Rattle.publication.proofs.Planning.{Pending, first_wanted}
use Rattle.publication.proofs.Proper.{and_left, and_right, not_some}

pub apart_rest : (w : Want) (ws : List Want) → are_apart (w ∷ ws) ≡ true → are_apart ws ≡ true
apart_rest w ws h = and_right (not (is_some (wanted ws w.name))) (are_apart ws) h

pub apart_once : (w : Want) (ws : List Want) → are_apart (w ∷ ws) ≡ true → wanted ws w.name ≡ None
apart_once w ws h =
    not_some (wanted ws w.name) (and_left (not (is_some (wanted ws w.name))) (are_apart ws) h)

left_at : (is_open : List ℕ → Bool) (left : List ℕ → Cell → Cell) (ws : List Want)
    (start now new : List ℕ → Cell) (name : List ℕ)
    → Underway left (λ n. placed ws n (start n)) start now → AllBut now name new
    → ((n : List ℕ) → is_open n ≡ false → bytes_eq name n ≡ false) → PutsLeave is_open ws start new
left_at is_open left ws start now new name u opens covers = record {
  each = λ n closed. elim (u.stands n)
      as (λ _. (new n ≡ start n) ⊎ (new n ≡ placed ws n (start n))) [
        | inl s ↦ inl (opens n (covers n closed) ∙ s)
        | inr t ↦ inr (opens n (covers n closed) ∙ t)
      ];
}

-- a call that failed on a name leaves the puts under way, but for that name
pub puts_early : (e : PutError) (left : List ℕ → Cell → Cell) (ws : List Want)
    (start now new : List ℕ → Cell) (name : List ℕ)
    → Underway left (λ n. placed ws n (start n)) start now → AllBut now name new → IsPutAt name e
    → PutsLeft e ws start new
puts_early (Failed m) left ws start now new name u opens at =
    left_at (bytes_eq m) left ws start now new name u opens
    (λ n closed. ap (λ k. bytes_eq k n) (sym at) ∙ closed)
puts_early Memory left ws start now new name u opens at =
    (name, left_at (bytes_eq name) left ws start now new name u opens (λ n closed. closed))

-- the name of a want that is still pending is wanted
pub put_among : (e : PutError) (ws rest : List Want) (w : Want) (made : List Change)
    → Pending ws (w ∷ rest) made → IsPutAt w.name e → IsPutOf ws e
put_among (Failed m) ws rest w made pending at =
    ap (λ n. is_some (wanted ws n)) at
    ∙ ap is_some (pending.same w.name (ap is_some (first_wanted w rest)) ∙ first_wanted w rest)
put_among Memory ws rest w made pending at = tt
