-- Circular objects: those whose chain of reads never ends.
use Rattle.std.specs.Prelude.{◌≡◌, ◌↔◌, ℕ, suc, ◌+◌, ◌<◌, ◌⊎◌, List, [], ◌∷◌, true, Some, length}
use Rattle.engine_laws.specs.Names.{Name}
use Rattle.engine_laws.specs.Runner.{Runner, Picture, Laws, IsTrail}
use Rattle.asking.specs.Asked.{Ends, Asks}
use Rattle.engine_laws.specs.Bounded.{bounded, built, content, Reads}

module _ {K C R : Type 0} (run : Runner K C R) (w : Picture K C) where
  abbrev pub IsCircular : Name → Type 0
  IsCircular o = run.is_circular (built run w o) ≡ true

  -- one of these keys asks for a circular object
  abbrev pub AsksCircle : List (K × C) → Type 0
  AsksCircle [] = ⊥
  AsksCircle (q ∷ asked) =
      ((p : Name) × (w.target q.0 ≡ Some p) × IsCircular p) ⊎ AsksCircle asked

  -- a build that is told the true contents ends soon, and as circular only where it has asked for a
  -- circular object
  pub record CircleLaws : Type 0 where
    pub soon : (o : Name) (asked : List (K × C)) (k : K)
        → IsTrail (run.build o) (content run w) asked
        → run.build o asked ≡ Asks k → length asked + 1 < run.limit
    pub cause : (o : Name) (asked : List (K × C)) (r : R)
        → IsTrail (run.build o) (content run w) asked → run.build o asked ≡ Ends r
        → run.is_circular r ≡ true → AsksCircle asked

  -- o reads an object, which reads one, and so on without end
  pub record ReadsWithoutEnd (o : Name) : Type 0 where
    pub chain : ℕ → Name
    pub begins : chain 0 ≡ o
    pub each : (n : ℕ) → Reads run w (chain n) (chain (suc n))

  -- what o's own build gives at its own read of another circular object
  pub record EndsAtOwnRead (o : Name) : Type 0 where
    pub object : Name
    pub read : Reads run w o object
    pub circular : IsCircular object
    pub ends : run.build o ((read.key, run.circular read.key) ∷ read.asked) ≡ Ends (built run w o)

  pub record AreCircles : Type 0 where
    -- circular from scratch, exactly where it is so however far a chain of reads is followed
    pub levels : (o : Name)
        → IsCircular o ↔ ((n : ℕ) → run.is_circular (bounded run w n o) ≡ true)
    pub endless : (o : Name) → IsCircular o ↔ ReadsWithoutEnd o
    pub own : (o : Name) → IsCircular o → EndsAtOwnRead o

  -- that is so for each lawful runner
  abbrev pub HasCircles : Type 0
  HasCircles = Laws run w → CircleLaws → AreCircles
