-- The two files of an object.
use Rattle.std.proofs.Common.{◌≡◌, ◌≤◌, ◌+◌, ℕ, Bool, true, false, List, [], ◌∷◌, Option, Some, None, is_some, IfSome, ◌⊎◌, inl, inr, refl, sym, ap, ap₂, ◌∙◌, subst, arith}
use Rattle.std.specs.Prelude.{bytes_eq, option_map}
use Rattle.outside.specs.Causes.{Rose}
use Rattle.outside.specs.Cells.{Cell, with_content, Sets, AllBut}
use Rattle.publication.specs.declared.profile.Profile.{Profile}
use Rattle.publication.specs.declared.trouble.Trouble.{Trouble}
use Rattle.publication.specs.declared.trouble.Which.{Which}
use Rattle.publication.specs.declared.trouble.Which.TheVariants.{Json, Dep}
use Rattle.publication.specs.declared.trouble.Call.{Call}
use Rattle.publication.specs.declared.trouble.Call.TheVariants.{Remove, Read, Put}
use Rattle.publication.specs.OwnNames.{json_name, dep_name}
use Rattle.publication.specs.Wants.{wants_of, proper}
use Rattle.publication.specs.Stands.{Meets}
use Rattle.publication.specs.Troubles.{is_removal}
use Rattle.publication.specs.Published.{Left, BringsFile, BringsProfile, Partly, IsOn, call_of, failures, placed, one_or_none}
use Rattle.publication.proofs.Proper.{two_names}

abbrev at_json : Profile → Call → Trouble
at_json p call = record { object = p.name; which = Json; call = call }

abbrev at_dep : Profile → Call → Trouble
at_dep p call = record { object = p.name; which = Dep; call = call }

is_it : (p : Profile) (which : Which) (t : Trouble) → IsOn p.name which t → t
    ≡ record { object = p.name; which = which; call = t.call }
is_it p which t on = ap₂ (λ o w. record { object = o; which = w; call = t.call }) on.0 on.1

json_by : (p : Profile) (call : Call) (n : List ℕ) (j d : Bool) (old new : List ℕ → Cell)
    → bytes_eq (json_name p.name) n ≡ j → bytes_eq (dep_name p.name) n ≡ d → (j ≡ true → d ≡ false)
    → Left (json_name p.name) p.json (Some call) old new
    → Meets (placed (wants_of (p ∷ [])) (at_json p call ∷ []) n) (old n) (new n)
json_by p Remove n j d old new ej ed apart left = absurd left
json_by p Read n true d old new ej ed apart left = rw ej (left n)
json_by p Read n false true old new ej ed apart left = rw (ej, ed) (left n)
json_by p Read n false false old new ej ed apart left = rw (ej, ed) (left n)
json_by p Put n true d old new ej ed apart left = rw (ej, ed, apart refl) (left.1 n)
json_by p Put n false true old new ej ed apart left = rw (ej, ed) (left.0 n ej)
json_by p Put n false false old new ej ed apart left = rw (ej, ed) (left.0 n ej)

dep_by : (p : Profile) (failed : Option Call) (n : List ℕ) (j d : Bool)
    (old mid new : List ℕ → Cell) → bytes_eq (json_name p.name) n ≡ j → bytes_eq (dep_name p.name) n
    ≡ d → (j ≡ true → d ≡ false) → Sets old (json_name p.name) (Some p.json) mid
    → Left (dep_name p.name) p.dep failed mid new
    → Meets (placed (wants_of (p ∷ [])) (one_or_none (option_map (at_dep p) failed)) n) (old n)
    (new n)
dep_by p None n true d old mid new ej ed apart json dep =
    rw ej ((rw (ed, apart refl) at (dep n)) ∙ (rw ej at (json n)))
dep_by p None n false true old mid new ej ed apart json dep =
    rw (ej, ed) ((rw ed at (dep n)) ∙ ap (with_content (Some p.dep)) (rw ej at (json n)))
dep_by p None n false false old mid new ej ed apart json dep =
    rw (ej, ed) ((rw ed at (dep n)) ∙ (rw ej at (json n)))
dep_by p (Some Remove) n j d old mid new ej ed apart json dep = absurd dep
dep_by p (Some Read) n true d old mid new ej ed apart json dep =
    rw (ej, ed, apart refl) (dep n ∙ (rw ej at (json n)))
dep_by p (Some Read) n false true old mid new ej ed apart json dep =
    rw (ej, ed) (dep n ∙ (rw ej at (json n)))
dep_by p (Some Read) n false false old mid new ej ed apart json dep =
    rw (ej, ed) (dep n ∙ (rw ej at (json n)))
dep_by p (Some Put) n true d old mid new ej ed apart json dep =
    rw (ej, ed, apart refl) (dep.0 n (ed ∙ apart refl) ∙ (rw ej at (json n)))
dep_by p (Some Put) n false true old mid new ej ed apart json dep =
    rw (ej, ed) (dep.1 n ∙ ap is_some (rw ej at (json n)))
dep_by p (Some Put) n false false old mid new ej ed apart json dep =
    rw (ej, ed) (dep.0 n ed ∙ (rw ej at (json n)))

no_removal : (name bytes : List ℕ) (call : Call) (old new : List ℕ → Cell)
    → Left name bytes (Some call) old new → is_removal call ≡ false
no_removal name bytes Remove old new left = absurd left
no_removal name bytes Read old new left = refl
no_removal name bytes Put old new left = refl

-- a call on the first file failed
pub json_failed : (p : Profile) (t : Trouble) (before now : ℕ) (old new : List ℕ → Cell)
    → proper (wants_of (p ∷ [])) ≡ true → BringsFile p.name Json p.json (Some t) before now old new
    → BringsProfile p (Some t) before now old new
json_failed p t before now old new ok file = record {
  later = file.brings.later;
  rose = file.brings.rose;
  most = file.brings.most;
  on = (file.on.0, no_removal (json_name p.name) p.json t.call old new file.brings.left);
  stands = λ n. subst (λ (u : Trouble). Meets (placed (wants_of (p ∷ [])) (u ∷ []) n) (old n)
      (new n)) (sym (is_it p Json t file.on)) (json_by p t.call n (bytes_eq (json_name p.name) n)
      (bytes_eq (dep_name p.name) n) old new refl refl (two_names p [] n ok) file.brings.left);
}

the_rest : (p : Profile) (trouble : Option Trouble) → IfSome trouble (IsOn p.name Dep) → trouble
    ≡ option_map (at_dep p) (option_map call_of trouble)
the_rest p None on = refl
the_rest p (Some t) on = ap (λ u. Some u) (is_it p Dep t on)

on_by : (p : Profile) (trouble : Option Trouble) (old new : List ℕ → Cell)
    → IfSome trouble (IsOn p.name Dep) → Left (dep_name p.name) p.dep (option_map call_of trouble)
    old new → IfSome trouble (λ t. (t.object ≡ p.name) × (is_removal t.call ≡ false))
on_by p None old new on left = tt
on_by p (Some t) old new on left = (on.0, no_removal (dep_name p.name) p.dep t.call old new left)

rose_by : (trouble : Option Trouble) (before mid now : ℕ) → before ≤ mid
    → (is_some (option_map call_of trouble) ≡ true → Rose mid now) → is_some trouble ≡ true
    → Rose before now
rose_by None before mid now later rose is = cc
rose_by (Some t) before mid now later rose is = omega (arith, later, rose refl)

most_by : (trouble : Option Trouble) (before mid now : ℕ) → mid ≤ before + 0
    → now ≤ mid + failures (option_map call_of trouble) → now ≤ before + failures trouble
most_by None before mid now first second = omega (arith, first, second)
most_by (Some t) before mid now first second = omega (arith, first, second)

-- the first file has its bytes, and then the second was to get its own
pub json_done : (p : Profile) (trouble : Option Trouble) (before mid_count now : ℕ)
    (old mid new : List ℕ → Cell) → proper (wants_of (p ∷ [])) ≡ true
    → BringsFile p.name Json p.json None before mid_count old mid
    → BringsFile p.name Dep p.dep trouble mid_count now mid new
    → BringsProfile p trouble before now old new
json_done p trouble before mid_count now old mid new ok json dep = record {
  later = omega (arith, json.brings.later, dep.brings.later);
  rose = rose_by trouble before mid_count now json.brings.later dep.brings.rose;
  most = most_by trouble before mid_count now json.brings.most dep.brings.most;
  on = on_by p trouble mid new dep.on dep.brings.left;
  stands = λ n. subst (λ (u : Option Trouble). Meets (placed (wants_of (p ∷ [])) (one_or_none u) n)
      (old n) (new n)) (sym (the_rest p trouble dep.on))
      (dep_by p (option_map call_of trouble) n (bytes_eq (json_name p.name) n)
      (bytes_eq (dep_name p.name) n) old mid new refl refl (two_names p [] n ok) json.brings.left
      dep.brings.left);
}

partly_by : (p : Profile) (n : List ℕ) (j : Bool) (old mid new : List ℕ → Cell)
    → bytes_eq (json_name p.name) n ≡ j → Sets old (json_name p.name) (Some p.json) mid → new n
    ≡ mid n → (new n ≡ old n) ⊎ Meets (placed (wants_of (p ∷ [])) [] n) (old n) (new n)
partly_by p n true old mid new ej json same = inr (rw ej (same ∙ (rw ej at (json n))))
partly_by p n false old mid new ej json same = inl (same ∙ (rw ej at (json n)))

pub partly : (p : Profile) (old mid new : List ℕ → Cell)
    → Sets old (json_name p.name) (Some p.json) mid → AllBut mid (dep_name p.name) new
    → Partly p old new
partly p old mid new json dep =
    record {
      which = Dep;
      others =
          λ n closed. partly_by p n (bytes_eq (json_name p.name) n) old mid new refl json
          (dep n closed);
    }
