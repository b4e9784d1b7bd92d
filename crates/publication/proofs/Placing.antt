-- Profiles get their bytes one after the other.
use Rattle.std.proofs.Common.{◌≡◌, ◌≤◌, ◌+◌, ℕ, Bool, true, false, List, [], ◌∷◌, ◌++◌, Option, Some, None, is_some, IfSome, if◌then◌else◌, ◌||◌, refl, sym, ap, ◌∙◌, subst, length, arith}
use Rattle.std.specs.Prelude.{bytes_eq}
use Rattle.std.specs.List.{list_any, list_all}
use Rattle.std.proofs.lemmas.List.{length-append}
use Rattle.std.proofs.lemmas.List.Folds.{list_any-append, list_all-append}
use Rattle.std.proofs.lemmas.Slice.Eq.{bytes_eq-Decides}
use Rattle.outside.specs.Causes.{Rose}
use Rattle.outside.specs.Cells.{Cell}
use Rattle.publication.specs.declared.profile.Profile.{Profile}
use Rattle.publication.specs.declared.trouble.Trouble.{Trouble}
use Rattle.publication.specs.declared.trouble.Which.{Which}
use Rattle.publication.specs.declared.trouble.Which.TheVariants.{Json, Dep}
use Rattle.publication.specs.declared.trouble.Call.{Call}
use Rattle.publication.specs.declared.trouble.Call.TheVariants.{Remove, Read, Put}
use Rattle.publication.specs.OwnNames.{is_own, json_name, dep_name}
use Rattle.publication.specs.declared.want.Want.{Want}
use Rattle.publication.specs.Wants.{json_want, dep_want, wants_of, wanted, proper}
use Rattle.publication.specs.Stands.{Stand, Meets, AtStart, untouched}
use Rattle.publication.specs.Troubles.{keeps, unsettles, fits, is_removal, published}
use Rattle.publication.specs.Published.{AtMost, Placing, BringsProfile, failures, placed, one_or_none}
use Rattle.publication.proofs.Proper.{first_alone, proper_own, proper_rest}

-- a trouble of an object says nothing of names that are not its files'
off_by : (which : Which) (call : Call) (object n : List ℕ) → bytes_eq (json_name object) n ≡ false
    → bytes_eq (dep_name object) n ≡ false → let t : Trouble =
    record { object = object; which = which; call = call } in
    (keeps n t ≡ false) × (unsettles n t ≡ false)
off_by Json Remove object n ej ed = (refl, rw ej refl)
off_by Json Read object n ej ed = (rw (ej, ed) refl, refl)
off_by Json Put object n ej ed = (rw ed refl, rw ej refl)
off_by Dep Remove object n ej ed = (refl, rw ed refl)
off_by Dep Read object n ej ed = (rw ed refl, refl)
off_by Dep Put object n ej ed = (refl, rw ed refl)

abbrev On : Profile → Option Trouble → Type 0
On p trouble = IfSome trouble (λ t. (t.object ≡ p.name) × (is_removal t.call ≡ false))

pub off : (p : Profile) (trouble : Option Trouble) (n : List ℕ) → On p trouble
    → bytes_eq (json_name p.name) n ≡ false → bytes_eq (dep_name p.name) n ≡ false
    → (list_any (keeps n) (one_or_none trouble) ≡ false)
    × (list_any (unsettles n) (one_or_none trouble) ≡ false)
off p None n on ej ed = (refl, refl)
off p (Some t) n on ej ed =
    let o = off_by t.which t.call t.object n (rw on.0 ej) (rw on.0 ed) in
    (rw (o.0) refl, rw (o.1) refl)

-- troubles so far and one more or none
pub any_more : (test : Trouble → Bool) (ts : List Trouble) (trouble : Option Trouble)
    → list_any test ts ≡ false → list_any test (ts ++ one_or_none trouble)
    ≡ list_any test (one_or_none trouble)
any_more test ts trouble none = rw (list_any-append test ts (one_or_none trouble), none) refl

pub any_same : (test : Trouble → Bool) (ts : List Trouble) (trouble : Option Trouble)
    → list_any test (one_or_none trouble) ≡ false → list_any test (ts ++ one_or_none trouble)
    ≡ list_any test ts
any_same test ts trouble none =
    list_any-append test ts (one_or_none trouble) ∙ ap (λ b. list_any test ts || b) none
    ∙ or_false (list_any test ts)
  where
    or_false : (b : Bool) → (b || false) ≡ b
    or_false true = refl
    or_false false = refl

-- what stands under a file of the object is what its wants alone leave
pub here : (ws : List Want) (p : Profile) (ts : List Trouble) (trouble : Option Trouble)
    (n : List ℕ) → is_own n ≡ true → is_some (wanted (wants_of (p ∷ [])) n) ≡ true
    → list_any (keeps n) ts ≡ false → list_any (unsettles n) ts ≡ false → wanted ws n
    ≡ wanted (wants_of (p ∷ [])) n → published ws (ts ++ one_or_none trouble) untouched n
    ≡ placed (wants_of (p ∷ [])) (one_or_none trouble) n
here ws p ts trouble n own some kept opened same =
    rw (
      own,
      some,
      any_more (keeps n) ts trouble kept,
      any_more (unsettles n) ts trouble opened,
      same,
    ) refl

-- and under another name what stood there
elsewhere : (ws : List Want) (p : Profile) (ts : List Trouble) (trouble : Option Trouble)
    (n : List ℕ) → On p trouble → bytes_eq (json_name p.name) n ≡ false
    → bytes_eq (dep_name p.name) n ≡ false → published ws (ts ++ one_or_none trouble) untouched n
    ≡ published ws ts untouched n
elsewhere ws p ts trouble n on ej ed =
    let o = off p trouble n on ej ed in
    rw (any_same (keeps n) ts trouble o.0, any_same (unsettles n) ts trouble o.1) refl

module _ (ws : List Want) (p : Profile) (ps : List Profile) (ts : List Trouble)
    (trouble : Option Trouble) (before count later : ℕ) (start now new : List ℕ → Cell) where
  abbrev All : List Want
  All = json_want p ∷ dep_want p ∷ wants_of ps

  pub own_by : (n : List ℕ) → proper All ≡ true → is_some (wanted (wants_of (p ∷ [])) n) ≡ true
      → (j d : Bool) → bytes_eq (json_name p.name) n ≡ j → bytes_eq (dep_name p.name) n ≡ d
      → is_own n ≡ true
  own_by n ok some true d ej ed =
      sym (ap is_own ((bytes_eq-Decides (json_name p.name) n).0 ej))
      ∙ proper_own (json_want p) (dep_want p ∷ wants_of ps) ok
  own_by n ok some false true ej ed =
      sym (ap is_own ((bytes_eq-Decides (dep_name p.name) n).0 ed))
      ∙ proper_own (dep_want p) (wants_of ps) (proper_rest (json_want p) (dep_want p ∷ wants_of ps)
      ok)
  own_by n ok some false false ej ed = let no : false ≡ true = rw (ej, ed) at some in cc

  -- the wants of the rest are none of this profile's
  later_by : (n : List ℕ) (j d : Bool) → proper All ≡ true → is_some (wanted (wants_of ps) n) ≡ true
      → bytes_eq (json_name p.name) n ≡ j → bytes_eq (dep_name p.name) n ≡ d → (j ≡ false)
      × (d ≡ false)
  later_by n true d ok some ej ed =
      let none : wanted (dep_want p ∷ wants_of ps) n ≡ None =
      first_alone (json_want p) (dep_want p ∷ wants_of ps) n ok ej in
      absurd (clash d ed none)
    where
      clash : (d : Bool) → bytes_eq (dep_name p.name) n ≡ d → wanted (dep_want p ∷ wants_of ps) n
          ≡ None → ⊥
      clash true e none = let no : Some p.dep ≡ None = rw e at none in cc
      clash false e none = let no : wanted (wants_of ps) n ≡ None = rw e at none in
          let f : true ≡ false = sym some ∙ ap is_some no in cc
  later_by n false true ok some ej ed =
      let none : wanted (wants_of ps) n ≡ None =
      first_alone (dep_want p) (wants_of ps) n (proper_rest (json_want p)
      (dep_want p ∷ wants_of ps) ok) ed in
      let f : true ≡ false = sym some ∙ ap is_some none in cc
  later_by n false false ok some ej ed = (refl, refl)

  pub beside : (n : List ℕ) → proper All ≡ true → is_some (wanted (wants_of ps) n) ≡ true
      → (bytes_eq (json_name p.name) n ≡ false) × (bytes_eq (dep_name p.name) n ≡ false)
  beside n ok some = later_by n (bytes_eq (json_name p.name) n) (bytes_eq (dep_name p.name) n) ok
      some refl refl

  pub wanted_beside : (n : List ℕ) → bytes_eq (json_name p.name) n ≡ false
      → bytes_eq (dep_name p.name) n ≡ false → wanted All n ≡ wanted (wants_of ps) n
  wanted_beside n ej ed = rw (ej, ed) refl

  -- a file of this profile is wanted here, and by no later one
  pub wanted_here : (n : List ℕ) (j d : Bool) → proper All ≡ true
      → is_some (wanted (wants_of (p ∷ [])) n) ≡ true → bytes_eq (json_name p.name) n ≡ j
      → bytes_eq (dep_name p.name) n ≡ d → (wanted All n ≡ wanted (wants_of (p ∷ [])) n)
      × (wanted (wants_of ps) n ≡ None)
  wanted_here n true d ok some ej ed =
      (rw ej refl, none_by d ed (first_alone (json_want p) (dep_want p ∷ wants_of ps) n ok ej))
    where
      none_by : (d : Bool) → bytes_eq (dep_name p.name) n ≡ d → wanted (dep_want p ∷ wants_of ps) n
          ≡ None → wanted (wants_of ps) n ≡ None
      none_by true e none = let no : Some p.dep ≡ None = rw e at none in cc
      none_by false e none = rw e at none
  wanted_here n false true ok some ej ed = (
    rw (ej, ed) refl,
    first_alone (dep_want p) (wants_of ps) n
        (proper_rest (json_want p) (dep_want p ∷ wants_of ps) ok) ed,
  )
  wanted_here n false false ok some ej ed = let no : false ≡ true = rw (ej, ed) at some in cc

  abbrev Rest : List ℕ → Stand → Stand
  Rest n stand = if is_some (wanted (wants_of ps) n) then AtStart else stand

  file : (n : List ℕ) {j d : Bool} → proper All ≡ true → Placing ws All ts before count start now
      → BringsProfile p trouble count later now new → is_some (wanted (wants_of (p ∷ [])) n) ≡ true
      → bytes_eq (json_name p.name) n ≡ j → bytes_eq (dep_name p.name) n ≡ d
      → Meets (Rest n (published ws (ts ++ one_or_none trouble) untouched n)) (start n) (new n)
  file n {j} {d} ok placing brings some ej ed =
      let w = wanted_here n j d ok some ej ed in
      let pending : is_some (wanted All n) ≡ true = rw w.0 some in
      let f = placing.fresh n pending in
      let was : now n ≡ start n = rw pending at (placing.stands n) in
      let stand : Meets (placed (wants_of (p ∷ [])) (one_or_none trouble) n) (start n) (new n) =
      subst (λ c. Meets (placed (wants_of (p ∷ [])) (one_or_none trouble) n) c (new n)) was
      (brings.stands n) in
      rw (
        w.1,
        here ws p ts trouble n (own_by n ok some j d ej ed) some f.0 f.1
            (placing.same n pending ∙ w.0),
      ) stand

  stands_by : (n : List ℕ) (j d : Bool) → proper All ≡ true
      → Placing ws All ts before count start now → BringsProfile p trouble count later now new
      → bytes_eq (json_name p.name) n ≡ j → bytes_eq (dep_name p.name) n ≡ d
      → Meets (Rest n (published ws (ts ++ one_or_none trouble) untouched n)) (start n) (new n)
  stands_by n true d ok placing brings ej ed =
      let some : is_some (wanted (wants_of (p ∷ [])) n) ≡ true = rw ej refl in
      file n ok placing brings some ej ed
  stands_by n false true ok placing brings ej ed =
      let some : is_some (wanted (wants_of (p ∷ [])) n) ≡ true = rw (ej, ed) refl in
      file n ok placing brings some ej ed
  stands_by n false false ok placing brings ej ed =
      let same : new n ≡ now n = rw (ej, ed) at (brings.stands n) in
      let was : Meets (Rest n (published ws ts untouched n)) (start n) (now n) =
      rw (wanted_beside n ej ed) at (placing.stands n) in
      rw (elsewhere ws p ts trouble n brings.on ej ed, same) was

  fit_by : proper All ≡ true → Placing ws All ts before count start now → (t : Trouble)
      → (t.object ≡ p.name) × (is_removal t.call ≡ false) → fits ws t ≡ true
  fit_by ok placing t on = fit_at t.which t.call t.object on.0 on.1
    where
      name_wanted : (n : List ℕ) → is_some (wanted All n) ≡ true → is_some (wanted ws n) ≡ true
      name_wanted n some = ap is_some (placing.same n some) ∙ some

      json_wanted : is_some (wanted ws (json_name p.name)) ≡ true
      json_wanted = name_wanted (json_name p.name) (rw
          ((bytes_eq-Decides (json_name p.name) (json_name p.name)).1 refl) refl)

      dep_by : (j : Bool) → bytes_eq (json_name p.name) (dep_name p.name) ≡ j
          → is_some (wanted All (dep_name p.name)) ≡ true
      dep_by true e = rw e refl
      dep_by false e = rw (e, (bytes_eq-Decides (dep_name p.name) (dep_name p.name)).1 refl) refl

      dep_wanted : is_some (wanted ws (dep_name p.name)) ≡ true
      dep_wanted = name_wanted (dep_name p.name) (dep_by
          (bytes_eq (json_name p.name) (dep_name p.name)) refl)

      fit_at : (which : Which) (call : Call) (object : List ℕ) → object ≡ p.name → is_removal call
          ≡ false → fits ws (record { object = object; which = which; call = call }) ≡ true
      fit_at which Remove object e kind = cc
      fit_at Json Read object e kind = rw e json_wanted
      fit_at Json Put object e kind = rw e json_wanted
      fit_at Dep Read object e kind = rw e dep_wanted
      fit_at Dep Put object e kind = rw e dep_wanted

  fits_one : (o : Option Trouble) → IfSome o (λ t. fits ws t ≡ true)
      → list_all (fits ws) (one_or_none o) ≡ true
  fits_one None f = refl
  fits_one (Some t) f = rw f refl

  all_fit : (o : Option Trouble) → proper All ≡ true → Placing ws All ts before count start now
      → On p o → IfSome o (λ t. fits ws t ≡ true)
  all_fit None ok placing on = tt
  all_fit (Some t) ok placing on = fit_by ok placing t on

  counted : (o : Option Trouble) → count ≤ later → (is_some o ≡ true → Rose count later)
      → AtMost (length ts) before count → AtMost (length (ts ++ one_or_none o)) before later
  counted None on rose had = rw (length-append ts []) (omega (arith, on, had))
  counted (Some t) on rose had = rw (length-append ts (t ∷ [])) (omega (arith, on, had, rose refl))

  no_more : (o : Option Trouble) → later ≤ count + failures o → count ≤ before + length ts
      → later ≤ before + length (ts ++ one_or_none o)
  no_more None on had = rw (length-append ts []) (omega (arith, on, had))
  no_more (Some t) on had = rw (length-append ts (t ∷ [])) (omega (arith, on, had))

  -- one more profile got its bytes
  pub place_step : proper All ≡ true → Placing ws All ts before count start now
      → BringsProfile p trouble count later now new
      → Placing ws (wants_of ps) (ts ++ one_or_none trouble) before later start new
  place_step ok placing brings = record {
    fit = rw (list_all-append (fits ws) ts (one_or_none trouble), placing.fit)
        (fits_one trouble (all_fit trouble ok placing brings.on));
    causes = counted trouble brings.later brings.rose placing.causes;
    most = no_more trouble brings.most placing.most;
    stands = λ n. stands_by n (bytes_eq (json_name p.name) n) (bytes_eq (dep_name p.name) n) ok
        placing brings refl refl;
    fresh = λ n some. let b = beside n ok some in let o = off p trouble n brings.on b.0 b.1 in
        let f = placing.fresh n (ap is_some (wanted_beside n b.0 b.1) ∙ some) in
        (any_same (keeps n) ts trouble o.0 ∙ f.0, any_same (unsettles n) ts trouble o.1 ∙ f.1);
    same = λ n some. let b = beside n ok some in let w = wanted_beside n b.0 b.1 in
        placing.same n (ap is_some w ∙ some) ∙ w;
  }
