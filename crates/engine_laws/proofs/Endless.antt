-- An object is circular exactly where its chain of reads never ends.
use Rattle.std.proofs.Common.{◌≡◌, ℕ, zero, suc, ◌+◌, ◌<◌, List, [], ◌∷◌, true, false, Some, length, refl, sym, ap, ◌∙◌, subst, ⊎_elim, arith}
use Rattle.engine_laws.specs.Names.{Name}
use Rattle.engine_laws.specs.Runner.{Runner, Picture, Laws, IsTrail}
use Rattle.asking.specs.Asked.{Answer, Ends, Asks}
use Rattle.engine_laws.specs.Bounded.{go_on, answered, content_at, bounded, built, content, Reads}
use Rattle.engine_laws.specs.Circles.{IsCircular, AsksCircle, CircleLaws, ReadsWithoutEnd, EndsAtOwnRead, AreCircles, HasCircles}
use Rattle.engine_laws.proofs.Levels.{true_or_false, not_both}
use Rattle.engine_laws.proofs.Truth.{fixed, fine_built, circle}

module _ {K C R : Type 0} (run : Runner K C R) (w : Picture K C) (laws : Laws run w)
    (circles : CircleLaws run w) where
  all_levels : (o : Name) → IsCircular run w o → (n : ℕ) → run.is_circular (bounded run w n o)
      ≡ true
  all_levels o circ n =
      ⊎_elim
      (λ (c : run.is_circular (bounded run w n o) ≡ true). c)
      (λ (fine : run.is_circular (bounded run w n o) ≡ false). absurd
      (not_both run w laws _ circ (ap run.is_circular (fine_built run w laws n o fine) ∙ fine)))
      (true_or_false (run.is_circular (bounded run w n o)))

  -- a circular object has one content
  told_circular : (k : K) (p : Name) → w.target k ≡ Some p → IsCircular run w p → content run w k
      ≡ run.circular k
  told_circular k p of circ =
      ap (content_at run w (built run w) k) of ∙ laws.circular_seen k (built run w p) circ

  -- behind the read of a circular object nothing is asked
  asks_no_more : (o : Name) (asked : List (K × C)) → IsTrail (run.build o) (content run w) asked
      → AsksCircle run w asked → (k : K) → run.build o asked ≡ Asks k → ⊥
  asks_no_more o [] trail c k e = c
  asks_no_more o (q ∷ asked) trail c k e =
      ⊎_elim
      (λ (here : (p : Name) × (w.target q.0 ≡ Some p) × IsCircular run w p).
      let s = laws.circular_ends o asked q.0 here.0 trail.1 here.1 in
      let told : run.build o (q ∷ asked) ≡ Ends s.0 =
      ap (λ c. run.build o ((q.0, c) ∷ asked)) (trail.2
      ∙ told_circular q.0 here.0 here.1 here.2) ∙ s.1 in
      let clash : ◌≡◌ {A = Answer K R} (Ends s.0) (Asks k) = sym told ∙ e in cc)
      (λ (before : AsksCircle run w asked). asks_no_more o asked trail.0 before q.0 trail.1)
      c

  -- a true run that has read a circular object ends at that read
  own_read : (o : Name) (asked : List (K × C)) → IsTrail (run.build o) (content run w) asked
      → run.build o asked ≡ Ends (built run w o) → AsksCircle run w asked → EndsAtOwnRead run w o
  own_read o [] trail e c = absurd c
  own_read o (q ∷ asked) trail e c =
      ⊎_elim
      (λ (here : (p : Name) × (w.target q.0 ≡ Some p) × IsCircular run w p).
      record {
        object = here.0;
        read = record { asked = asked; key = q.0; trail = trail.0; asks = trail.1; of = here.1 };
        circular = here.2;
        ends = ap (λ c. run.build o ((q.0, c) ∷ asked))
            (sym (trail.2 ∙ told_circular q.0 here.0 here.1 here.2)) ∙ e;
      })
      (λ (before : AsksCircle run w asked). absurd (asks_no_more o asked trail.0 before q.0
      trail.1))
      c

  ends_at : (o : Name) → IsCircular run w o → (n : ℕ) (asked : List (K × C)) → n + length asked
      ≡ run.limit → IsTrail (run.build o) (content run w) asked → built run w o
      ≡ answered run (content run w) o n asked → EndsAtOwnRead run w o
  ends_at o circ zero asked sum trail is = absurd (too_many asked (omega (arith, sum)) trail)
    where
      at_first : (a : Answer K R) → run.build o [] ≡ a → 0 < run.limit
      at_first (Ends r) e = laws.short o [] r e
      at_first (Asks k) e = let soon = circles.soon o [] k tt e in omega (arith, soon)

      too_many : (asked : List (K × C)) → length asked ≡ run.limit
          → IsTrail (run.build o) (content run w) asked → ⊥
      too_many [] sum trail = let room = at_first (run.build o []) refl in omega (arith, sum, room)
      too_many (q ∷ asked) sum trail = let soon = circles.soon o asked q.0 trail.0 trail.1 in
          omega (arith, sum, soon)
  ends_at o circ (suc n) asked sum trail is =
      at (λ a. ends_at o circ n a) (run.build o asked) refl is
    where
      at : ((asked' : List (K × C)) → n + length asked'
          ≡ run.limit → IsTrail (run.build o) (content run w) asked' → built run w o
          ≡ answered run (content run w) o n asked' → EndsAtOwnRead run w o) → (a : Answer K R)
          → run.build o asked ≡ a → built run w o ≡ go_on a
          (λ k. answered run (content run w) o n ((k, content run w k) ∷ asked))
          → EndsAtOwnRead run w o
      at ih (Ends r) e same = own_read o asked trail (e ∙ ap Ends (sym same))
          (circles.cause o asked r trail e (ap run.is_circular (sym same) ∙ circ))
      at ih (Asks k) e same = ih ((k, content run w k) ∷ asked) (omega (arith, sum))
          (trail, e, refl) same

  own_end : (o : Name) → IsCircular run w o → EndsAtOwnRead run w o
  own_end o circ = ends_at o circ run.limit [] (omega arith) tt (fixed run w laws o)

  -- a circular object
  record Circle : Type 0 where
    name : Name
    circular : IsCircular run w name

  next : Circle → Circle
  next c = let e = own_end c.name c.circular in record { name = e.object; circular = e.circular }

  behind : Circle → ℕ → Circle
  behind c zero = c
  behind c (suc n) = next (behind c n)

  never_ends : (o : Name) → IsCircular run w o → ReadsWithoutEnd run w o
  unfolding behind next
  never_ends o circ =
      let c : Circle = record { name = o; circular = circ } in
      record {
        chain = λ n. (behind c n).name;
        begins = refl;
        each = λ n. (own_end (behind c n).name (behind c n).circular).read;
      }

  is_circle : (o : Name) → ReadsWithoutEnd run w o → IsCircular run w o
  is_circle o h =
      circle run w laws (λ x. (n : ℕ) × (h.chain n ≡ x))
      (record {
        next = λ x i. h.chain (suc i.0);
        demand = λ x i. subst (λ y. Reads run w y (h.chain (suc i.0))) i.1 (h.each i.0);
        stays_in = λ x i. (suc i.0, refl);
      })
      o (0, h.begins)

  are_circles : AreCircles run w
  are_circles = record {
    levels = λ o. (all_levels o, λ all. all (length w.objects + 1));
    endless = λ o. (never_ends o, is_circle o);
    own = own_end;
  }

module _ {K C R : Type 0} (run : Runner K C R) (w : Picture K C) where
  pub has_circles : HasCircles run w
  has_circles laws circles = are_circles run w laws circles
