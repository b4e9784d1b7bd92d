-- Names go one after the other.
use Rattle.std.proofs.Common.{◌≡◌, ◌≤◌, ◌+◌, ℕ, Bool, true, false, List, [], ◌∷◌, ◌++◌, Option, Some, None, is_some, IfSome, not, if◌then◌else◌, ◌||◌, ◌&&◌, ◌⊎◌, inl, inr, refl, sym, ap, ◌∙◌, subst, length, arith}
use Rattle.std.specs.Prelude.{bytes_eq}
use Rattle.std.specs.List.{list_any, list_all}
use Rattle.std.proofs.lemmas.List.{length-append}
use Rattle.std.proofs.lemmas.List.Folds.{list_any-append, list_all-append}
use Rattle.std.proofs.lemmas.Slice.Eq.{bytes_eq-Decides}
use Rattle.outside.specs.Causes.{Rose}
use Rattle.outside.specs.Cells.{Cell, with_content}
use Rattle.publication.specs.declared.trouble.Trouble.{Trouble}
use Rattle.publication.specs.declared.trouble.Which.{Which}
use Rattle.publication.specs.declared.trouble.Which.TheVariants.{Json, Dep}
use Rattle.publication.specs.declared.trouble.Call.{Call}
use Rattle.publication.specs.declared.trouble.Call.TheVariants.{Remove, Read, Put}
use Rattle.publication.specs.OwnNames.{is_own}
use Rattle.publication.specs.declared.want.Want.{Want}
use Rattle.publication.specs.Wants.{wanted, goes}
use Rattle.publication.specs.Stands.{Meets, Has, Unspecified, untouched}
use Rattle.publication.specs.Troubles.{called, keeps, unsettles, fits_removal, is_removal, published}
use Rattle.publication.specs.Published.{AtMost, Clearing, Came, Sweeps, one_or_none}
use Rattle.publication.proofs.Proper.{and_left, and_right}
use Rattle.publication.proofs.Tells.{meets_tells, given_alike}

no_keep : (which : Which) (call : Call) (object n : List ℕ) → is_removal call ≡ true
    → keeps n (record { object = object; which = which; call = call }) ≡ false
no_keep Json Remove object n is = refl
no_keep Dep Remove object n is = refl
no_keep which Read object n is = cc
no_keep which Put object n is = cc

-- a removal passes nothing over
pub removals_keep : (ws : List Want) (ts : List Trouble) (n : List ℕ)
    → list_all (fits_removal ws) ts ≡ true → list_any (keeps n) ts ≡ false
removals_keep ws [] n all = refl
removals_keep ws (t ∷ ts) n all =
    let first : fits_removal ws t ≡ true =
    and_left (fits_removal ws t) (list_all (fits_removal ws) ts) all in
    let kept : keeps n t ≡ false =
    no_keep t.which t.call t.object n (and_left (is_removal t.call) (goes ws (called t)) first)
    in
    rw kept (removals_keep ws ts n (and_right (fits_removal ws t) (list_all (fits_removal ws) ts)
    all))

pub goes_own : (ws : List Want) (n : List ℕ) → goes ws n ≡ true → is_own n ≡ true
goes_own ws n is = and_left (is_own n) (not (is_some (wanted ws n))) is

none_of : (o : Option (List ℕ)) → not (is_some o) ≡ true → o ≡ None
none_of None h = refl
none_of (Some x) h = cc

goes_none : (ws : List Want) (n : List ℕ) → goes ws n ≡ true → wanted ws n ≡ None
goes_none ws n is = none_of (wanted ws n) (and_right (is_own n) (not (is_some (wanted ws n))) is)

-- what stands under a name that no profile wants
pub unwanted : (ws : List Want) (ts : List Trouble) (n : List ℕ) → goes ws n ≡ true
    → list_all (fits_removal ws) ts ≡ true → published ws ts untouched n
    ≡ (if list_any (unsettles n) ts then Unspecified else Has None)
unwanted ws ts n is all = rw (goes_own ws n is, removals_keep ws ts n all, goes_none ws n is) refl

or_false : (b : Bool) → (b || false) ≡ b
or_false true = refl
or_false false = refl

or_true : (b : Bool) → (b || true) ≡ true
or_true true = refl
or_true false = refl

opens_removed : (t : Trouble) (m n : List ℕ) → (called t ≡ m) × (t.call ≡ Remove) → unsettles n t
    ≡ bytes_eq m n
opens_removed t m n on = rw (on.1, on.0) refl

pub any_opens : (ts : List Trouble) (trouble : Option Trouble) (m n : List ℕ)
    → IfSome trouble (λ t. (called t ≡ m) × (t.call ≡ Remove))
    → list_any (unsettles n) (ts ++ one_or_none trouble)
    ≡ (list_any (unsettles n) ts || (is_some trouble && bytes_eq m n))
any_opens ts None m n on = list_any-append (unsettles n) ts []
any_opens ts (Some t) m n on =
    list_any-append (unsettles n) ts (t ∷ []) ∙ ap (λ b. list_any (unsettles n) ts || b)
    (ap (λ b. b || false) (opens_removed t m n on) ∙ or_false (bytes_eq m n))

pub fit_removal : (ws : List Want) (trouble : Option Trouble) (m : List ℕ) → goes ws m ≡ true
    → IfSome trouble (λ t. (called t ≡ m) × (t.call ≡ Remove))
    → list_all (fits_removal ws) (one_or_none trouble) ≡ true
fit_removal ws None m going on = refl
fit_removal ws (Some t) m going on = rw (on.1, on.0, going) refl

counted : (o : Option Trouble) (done : Bool) (ts : List Trouble) (before count later : ℕ)
    → is_some o ≡ not done → count ≤ later → (done ≡ false → Rose count later)
    → AtMost (length ts) before count → AtMost (length (ts ++ one_or_none o)) before later
counted None done ts before count later is on rose had =
    rw (length-append ts []) (omega (arith, on, had))
counted (Some t) true ts before count later is on rose had = cc
counted (Some t) false ts before count later is on rose had =
    rw (length-append ts (t ∷ [])) (omega (arith, on, had, rose refl))

no_more : (o : Option Trouble) (done : Bool) (ts : List Trouble) (before count later : ℕ)
    → is_some o ≡ not done → later ≤ count + (if done then 0 else 1) → count ≤ before + length ts
    → later ≤ before + length (ts ++ one_or_none o)
no_more None true ts before count later is on had =
    rw (length-append ts []) (omega (arith, on, had))
no_more None false ts before count later is on had = cc
no_more (Some t) true ts before count later is on had = cc
no_more (Some t) false ts before count later is on had =
    rw (length-append ts (t ∷ [])) (omega (arith, on, had))

module _ (ws : List Want) (m : List ℕ) (rest : List (List ℕ)) (ts new_ts : List Trouble)
    (before count later : ℕ) (start now new : List ℕ → Cell) where
  other_by : (n : List ℕ) (b : Bool) → goes ws m ≡ true → goes ws n ≡ false → bytes_eq m n ≡ b → b
      ≡ false
  other_by n true going stays is = let f : true ≡ false =
      sym going ∙ ap (goes ws) ((bytes_eq-Decides m n).0 is) ∙ stays in cc
  other_by n false going stays is = refl

  tells_so_far : Clearing ws (m ∷ rest) ts before count start now → (n : List ℕ) → goes ws n ≡ true
      → is_some (now n) ≡ is_some (start n)
  tells_so_far c n is = elim (c.going n is) as (λ _. is_some (now n) ≡ is_some (start n)) [
    | inl same ↦ ap is_some same
    | inr meets ↦ meets_tells (published ws ts untouched n) (start n)
        (now n) meets
  ]

  went : (any : Bool) (n : List ℕ) → is_some (now n) ≡ is_some (start n) → new n
      ≡ with_content None (now n) → Meets (if any then Unspecified else Has None) (start n) (new n)
  went true n tells is = ap is_some is ∙ meets_tells (Has None) (now n) (with_content None (now n))
      refl ∙ tells
  went false n tells is = is ∙ given_alike None (now n) (start n) tells

  -- what stands under the name itself
  at_it : (n : List ℕ) → bytes_eq m n ≡ true → goes ws n ≡ true
      → Clearing ws (m ∷ rest) ts before count start now → (done : Bool)
      → Came m None done count later now new → (trouble : Option Trouble) → is_some trouble
      ≡ not done → IfSome trouble (λ t. (called t ≡ m) × (t.call ≡ Remove))
      → Meets (if list_any (unsettles n) (ts ++ one_or_none trouble) then Unspecified else Has None)
      (start n) (new n)
  at_it n is going c done came (Some t) some on =
      rw (any_opens ts (Some t) m n on, is, or_true (list_any (unsettles n) ts))
      (came.tells n ∙ tells_so_far c n going)
  at_it n is going c true came None some on =
      rw (any_opens ts None m n on) (went (list_any (unsettles n) ts || false) n
      (tells_so_far c n going) (rw is at (came.gives refl n)))
  at_it n is going c false came None some on = cc

  same_any : (trouble : Option Trouble) (n : List ℕ) → bytes_eq m n ≡ false
      → IfSome trouble (λ t. (called t ≡ m) × (t.call ≡ Remove))
      → list_any (unsettles n) (ts ++ one_or_none trouble) ≡ list_any (unsettles n) ts
  same_any None n is on = any_opens ts None m n on ∙ or_false (list_any (unsettles n) ts)
  same_any (Some t) n is on =
      any_opens ts (Some t) m n on ∙ rw is (or_false (list_any (unsettles n) ts))

  removals_on : Clearing ws (m ∷ rest) ts before count start now → goes ws m ≡ true
      → (trouble : Option Trouble) → IfSome trouble (λ t. (called t ≡ m) × (t.call ≡ Remove))
      → list_all (fits_removal ws) (ts ++ one_or_none trouble) ≡ true
  removals_on c going trouble on =
      rw (list_all-append (fits_removal ws) ts (one_or_none trouble), c.removals)
      (fit_removal ws trouble m going on)

  gone_by : (n : List ℕ) (b : Bool) → bytes_eq m n ≡ b → goes ws m ≡ true
      → Clearing ws (m ∷ rest) ts before count start now
      → (s : Sweeps m ts new_ts count later now new) → goes ws n ≡ true
      → list_any (λ k. bytes_eq k n) rest ≡ false → Meets
      (published ws (ts ++ one_or_none s.trouble) untouched n) (start n) (new n)
  gone_by n true is going c s gone clear =
      rw (unwanted ws (ts ++ one_or_none s.trouble) n gone (removals_on c going s.trouble s.on))
      (at_it n is gone c s.done s.came s.trouble s.is s.on)
  gone_by n false is going c s gone clear =
      let was : Meets (if list_any (unsettles n) ts then Unspecified else Has None) (start n)
      (now n) = rw (unwanted ws ts n gone c.removals) at (c.gone n gone (rw is clear)) in
      rw (
        unwanted ws (ts ++ one_or_none s.trouble) n gone (removals_on c going s.trouble s.on),
        same_any s.trouble n is s.on,
        s.came.unsettles n is,
      ) was

  going_by : (n : List ℕ) (b : Bool) → bytes_eq m n ≡ b → goes ws m ≡ true
      → Clearing ws (m ∷ rest) ts before count start now
      → (s : Sweeps m ts new_ts count later now new) → goes ws n ≡ true → (new n ≡ start n)
      ⊎ Meets (published ws (ts ++ one_or_none s.trouble) untouched n) (start n) (new n)
  going_by n true is going c s gone =
      inr (rw (unwanted ws (ts ++ one_or_none s.trouble) n gone
      (removals_on c going s.trouble s.on)) (at_it n is gone c s.done s.came s.trouble s.is s.on))
  going_by n false is going c s gone =
      elim (c.going n gone) as (λ _. (new n ≡ start n)
      ⊎ Meets (published ws (ts ++ one_or_none s.trouble) untouched n) (start n) (new n)) [
        | inl same ↦ inl (s.came.unsettles n is ∙ same)
        | inr meets ↦
            let was : Meets (if list_any (unsettles n) ts then Unspecified else Has None) (start n)
            (now n) = rw (unwanted ws ts n gone c.removals) at meets in
            inr (rw (
              unwanted ws (ts ++ one_or_none s.trouble) n gone
                  (removals_on c going s.trouble s.on),
              same_any s.trouble n is s.on,
              s.came.unsettles n
                  is,
            ) was)
      ]

  -- one more name went, or is open
  pub sweep_step : goes ws m ≡ true → Clearing ws (m ∷ rest) ts before count start now
      → Sweeps m ts new_ts count later now new → Clearing ws rest new_ts before later start new
  sweep_step going c s = subst (λ list. Clearing ws rest list before later start new)
      (sym s.troubles) (record {
        removals = removals_on c going s.trouble s.on;
        causes = counted s.trouble s.done ts before count later s.is s.came.later s.came.rose
            c.causes;
        most = no_more s.trouble s.done ts before count later s.is s.came.most c.most;
        kept = λ n stays. s.came.unsettles n (other_by n (bytes_eq m n) going stays refl)
            ∙ c.kept n stays;
        gone = λ n gone clear. gone_by n (bytes_eq m n) refl going c s gone clear;
        going = λ n gone. going_by n (bytes_eq m n) refl going c s gone;
      })
