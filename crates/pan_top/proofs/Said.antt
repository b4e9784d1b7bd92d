-- Lines of ends.
use Rattle.std.proofs.Common.{◌≡◌, ◌⊎◌, ℕ, List, Option, inl, inr, refl, subst}
use Rattle.site_build.specs.Ends.{IsEndOf, OfSink}
use Rattle.site_build.specs.declared.ends.End.{End}
use Rattle.site_build.specs.declared.ends.End.TheVariants as E
use Rattle.pan_top.specs.Statuses.{IsCut, Says, status_of}
use Rattle.call_status.specs.declared.status.Status.{Status}

-- a write that failed, or lacked memory
pub sink_cut : (e : End) → IsEndOf OfSink e → IsCut (status_of e)
sink_cut E.Source kind = cc
sink_cut E.Shelf kind = cc
sink_cut (E.Publishing m) kind = cc
sink_cut E.Out kind = inl refl
sink_cut E.Memory kind = inr refl

-- a line that was said, behind what was written before
pub said : (own status : Status) (line : List ℕ) (old mid new : Option (List ℕ)) → mid ≡ old
    → Says own line status mid new → Says own line status old new
said own status line old mid new same says = subst (λ h. Says own line status h new) same says

-- its status
pub own_or_cut : (own status : Status) (line : List ℕ) (old new : Option (List ℕ))
    → Says own line status old new → (status ≡ own) ⊎ IsCut status
own_or_cut own status line old new (inl whole) = inl whole.0
own_or_cut own status line old new (inr part) = inr part.0
