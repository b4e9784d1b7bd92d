-- Where nothing is unsettled each word that the engine tells is true.
use Rattle.std.proofs.Common.{◌≡◌, List, [], ◌∷◌, Bool, true, false, Some, refl, sym, ap, ◌∙◌}
use Rattle.asking.specs.Asked.{Word, Needs, Tells, Asks}
use Rattle.engine_laws.specs.Names.{Name}
use Rattle.engine_laws.specs.Runner.{Runner, Picture, Laws, IsIn}
use Rattle.engine_laws.specs.Bounded.{content}
use Rattle.engine_laws.specs.Engine.{Keeping, Judge, Situation, tells}
use Rattle.engine_laws.specs.Reached.{IsReached}
use Rattle.engine_laws.proofs.Events.{Holds}
use Rattle.engine_laws.proofs.Facts.{Now}
use Rattle.engine_laws.proofs.Reached.{reached_holds}
use Rattle.engine_laws.proofs.Turn.{IsChain, quiet}
use Rattle.engine_laws.proofs.Walk.{IsTrueWord}
use Rattle.run_again.proofs.Running.{content_of}

-- no part is on the chain
chain_empty : {K C R : Type 0} (run : Runner K C R) (w : Picture K C) (laws : Laws run w)
    (unsettled : Name → Bool) → ((p : Name) → IsIn p w.objects → unsettled p ≡ false)
    → (chain : List Name) → IsChain run w laws unsettled chain → chain ≡ []
chain_empty run w laws unsettled all [] c = refl
chain_empty run w laws unsettled all (o ∷ rest) c = absurd
    (let clash : true ≡ false = sym c.1 ∙ all o c.0 in cc)

module _ {K C R S F : Type 0} (run : Runner K C R) (kp : Keeping K C R S) (jd : Judge K C R F) where
  pub true_words : (x : Situation K C R S F) → IsReached run kp jd x
      → ((p : Name) → IsIn p x.picture.objects → x.state.open_build p ≡ false) → (k : K)
      → content_of (tells run kp x.picture x.state k) ≡ Some (content run x.picture k)
  true_words x reached all k =
      let empty = chain_empty run x.picture h.laws x.state.open_build all x.state.chain h.inv.chain
      in
      let honest = quiet run kp jd x.picture h.laws h.klaws {X = R}
      (λ asked. Asks k) x.state h.inv.stands h.inv.facts empty all in
      at (tells run kp x.picture x.state k) (honest.on [] k tt refl)
    where
      h : Holds run kp jd x
      h = reached_holds run kp jd x reached

      at : (y : Word C) → IsTrueWord x.picture (content run x.picture) h.inv.stands x.state.counter
          (λ p. ⊥) (Now run kp x.picture h.laws h.klaws x.state.number x.state.table x.state.last
          x.state.open_build) k y → content_of y ≡ Some (content run x.picture k)
      at (Needs p) t = absurd t.1
      at (Tells n c) t = ap Some t.0
