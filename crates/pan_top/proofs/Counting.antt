-- Counts of faults, by how a call ended.
use Rattle.std.proofs.Common.{◌≡◌, ℕ, refl, subst, arith}
use Rattle.std.specs.Prelude.{Err}
use Rattle.outside.specs.Causes.{Caused, Counted}
use Rattle.session.specs.declared.Ended.{Ended}
use Rattle.session.specs.declared.Ended.TheVariants as ended
use Rattle.site_build.specs.Ends.{IsFailureOf}
use Rattle.site_build.specs.declared.ends.Device.TheVariants as D
use Rattle.site_build.specs.declared.ends.End.{End}
use Rattle.site_build.specs.declared.ends.End.TheVariants as E
use Rattle.call_status.specs.Statuses.{status_after}
use Rattle.pan_top.specs.Statuses.{status_of}
use Rattle.call_status.specs.declared.status.Status.TheVariants as S

-- no call failed
pub counted_same : (failed : Type 0) (before now : ℕ) → now ≡ before → (failed → ⊥)
    → Counted failed before now
counted_same failed before now same never =
    record {
      later = omega (arith, same);
      rose = λ is. absurd (never is);
      once =
          omega (arith, same);
      kept = λ other. same;
    }

-- the calls ended by this failure
pub counted_of : {T E : Type 0} {is_failure : E → Type 0} (e : E) (before now : ℕ)
    → Caused {T = T} {E = E} is_failure before now (Err e) → Counted (is_failure e) before now
counted_of e before now c = record { later = c.later; rose = c.rose; once = c.once; kept = c.kept }

-- the same failure, said otherwise
pub counted_by : (failed said : Type 0) (before now : ℕ) → (failed → said) → (said → failed)
    → Counted failed before now → Counted said before now
counted_by failed said before now to from c =
    record {
      later = c.later;
      rose = λ is. c.rose (from is);
      once = c.once;
      kept =
          λ other. c.kept (λ is. other (to is));
    }

-- behind calls that did not fail
pub counted_on : (failed : Type 0) (before mid now : ℕ) → mid ≡ before → Counted failed mid now
    → Counted failed before now
counted_on failed before mid now same c = subst (λ n. Counted failed n now) same c

pub counted_behind : (first failed : Type 0) (before mid now : ℕ) → (first → ⊥)
    → Counted first before mid → Counted failed mid now → Counted failed before now
counted_behind first failed before mid now never c d =
    counted_on failed before mid now (c.kept never) d

-- the sink's failure has the status of its own
pub out_device : (e : End) → status_of e ≡ S.OutFault → IsFailureOf D.Out e
out_device E.Source is = cc
out_device E.Shelf is = cc
out_device (E.Publishing m) is = cc
out_device E.Out is = refl
out_device E.Memory is = cc

pub out_status : (e : End) → IsFailureOf D.Out e → status_of e ≡ S.OutFault
out_status E.Source is = cc
out_status E.Shelf is = cc
out_status (E.Publishing m) is = cc
out_status E.Out is = refl
out_status E.Memory is = cc

-- an end that is no failure of the sink
pub not_out : (e other : End) → e ≡ other → (status_of other ≡ S.OutFault → ⊥) → IsFailureOf D.Out e
    → ⊥
not_out e other is apart out = apart (out_status other (subst (IsFailureOf D.Out) is out))

pub not_out_after : (how : Ended) → status_after how ≡ S.OutFault → ⊥
not_out_after ended.Clean is = cc
not_out_after ended.SomeFaults is = cc
not_out_after ended.NumbersSpent is = cc
not_out_after ended.TooMuch is = cc
not_out_after (ended.TooManyRemovals removals) is = cc
