-- Which device a failure is counted by.
use Rattle.std.proofs.Common.{◌≡◌, ℕ, Some, inl, inr, refl, sym, subst, arith}
use Rattle.std.specs.Prelude.{Result, Ok, Err, IfErr}
use Rattle.outside.specs.Causes.{Caused, Counted}
use Rattle.session.specs.declared.Ended.{Ended}
use Rattle.site_build.specs.Ends.{IsEndOf, IsFailureOf, OfName, OfSource}
use Rattle.site_build.specs.declared.ends.Device.{Device}
use Rattle.site_build.specs.declared.ends.Device.TheVariants as D
use Rattle.site_build.specs.declared.ends.End as build
use Rattle.site_build.specs.declared.ends.End.TheVariants as E
use Rattle.kept_build.specs.Ends.{IsFailure, IsRoundEnd}
use Rattle.kept_build.specs.declared.ends.End.{End}
use Rattle.kept_build.specs.declared.ends.End.TheVariants as K

-- a failure of a build is one of a build with a keeper
pub failure_on : {T : Type 0} (device : Device) (before now : ℕ) (r : Result Ended End)
    (e : build.End) → r ≡ Err (K.Build e) → Caused {T = T} (IsFailureOf device) before now (Err e)
    → Caused (IsFailure device) before now r
failure_on device before now r e is c =
    subst (Caused (IsFailure device) before now) (sym is)
    (record { later = c.later; rose = c.rose; once = c.once; kept = c.kept; done = tt })

not_out : (e : build.End) → IsEndOf OfName e → IsFailure D.Out (K.Build e) → ⊥
not_out E.Source kind is = cc
not_out E.Shelf kind is = cc
not_out (E.Publishing m) kind is = cc
not_out E.Out kind is = cc
not_out E.Memory kind is = cc

-- what ends a publication is no failure of the text
pub uncaused_out : (r : Result Ended End) (n : ℕ) (e : build.End) → r ≡ Err (K.Build e)
    → IsEndOf OfName e → Caused (IsFailure D.Out) n n r
uncaused_out r n e is kind =
    subst (Caused (IsFailure D.Out) n n) (sym is)
    (record {
      later = omega arith;
      rose = λ failure. absurd (not_out e kind failure);
      once = omega arith;
      kept = λ other. refl;
      done = tt;
    })

-- the calls ended by this failure
pub counted_of : {T E : Type 0} {is_failure : E → Type 0} (e : E) (before now : ℕ)
    → Caused {T = T} {E = E} is_failure before now (Err e) → Counted (is_failure e) before now
counted_of e before now c = record { later = c.later; rose = c.rose; once = c.once; kept = c.kept }

-- no call failed
pub unfailed : {failed : Type 0} (n : ℕ) → (failed → ⊥) → Counted failed n n
unfailed n never =
    record {
      later = omega arith;
      rose = λ is. absurd (never is);
      once = omega arith;
      kept =
          λ other. refl;
    }

-- a scan calls no device but the source
pub not_failed : (device : Device) (e : build.End) → IsEndOf OfSource e → (device ≡ D.Source → ⊥)
    → IsFailureOf device e → ⊥
not_failed device E.Source kind other is = other (some_same device is)
  where
    some_same : (device : Device) → Some D.Source ≡ Some device → device ≡ D.Source
    some_same D.Source same = refl
    some_same D.Shelf same = cc
    some_same D.Out same = cc
not_failed device E.Shelf kind other is = cc
not_failed device (E.Publishing m) kind other is = cc
not_failed device E.Out kind other is = cc
not_failed device E.Memory kind other is = cc

-- a round calls no source
not_source : (e : End) → IsRoundEnd e → IsFailure D.Source e → ⊥
not_source (K.Build E.Source) (inl kind) is = cc
not_source (K.Build E.Source) (inr kind) is = cc
not_source (K.Build E.Shelf) kind is = cc
not_source (K.Build (E.Publishing m)) kind is = cc
not_source (K.Build E.Out) kind is = cc
not_source (K.Build E.Memory) kind is = cc
not_source K.Keeper kind is = is
not_source K.Saving kind is = is
not_source K.BadRows kind is = is

pub uncaused_source : {T : Type 0} (r : Result T End) (before now : ℕ) → now ≡ before
    → IfErr r IsRoundEnd → Caused (IsFailure D.Source) before now r
uncaused_source (Ok x) before now same kind =
    record {
      later = omega (arith, same);
      rose = tt;
      once = omega (arith, same);
      kept = tt;
      done =
          same;
    }
uncaused_source (Err e) before now same kind =
    record {
      later = omega (arith, same);
      rose = λ is. absurd (not_source e kind is);
      once = omega
          (arith, same);
      kept = λ other. same;
      done = tt;
    }
