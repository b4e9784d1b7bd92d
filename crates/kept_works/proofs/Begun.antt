-- An engine that begins with what was kept.
use Rattle.std.proofs.Common.{◌≡◌, ◌&&◌, ℕ, Bool, true, false, not, cond, nat_eq, nat_lt, List, [], ◌∷◌, Some, is_some, map, if◌then◌else◌, refl, sym, ap, ap₂, ◌∙◌, subst, arith}
use Rattle.std.specs.Prelude.{bytes_eq}
use Rattle.std.specs.List.{list_all}
use Rattle.std.proofs.lemmas.Bool.{eqb-true, ltb-true, ne_eqb}
use Rattle.load_path.specs.Pictures.{content_in, has_short_content, are_short}
use Rattle.object_names.proofs.Places.{bytes_same}
use Rattle.pan_ast.specs.declared.work.Limits.{Limits}
use Rattle.kept_state.specs.declared.kept.KeptFile.{KeptFile}
use Rattle.kept_state.specs.Stored.{Stored}
use Rattle.engine_machine.proofs.Truths.{both}
use Rattle.engine_turns.specs.declared.core_data.Core.{Core}
use Rattle.engine_turns.specs.declared.rows.FileRow.{FileRow}
use Rattle.engine_turns.specs.Places.{file_number_in}
use Rattle.engine_turns.specs.States.{pictured}
use Rattle.engine_rows.specs.Restoring.{file_row, has_number, is_short, is_fit, IsRestored}
use Rattle.engine_rows.proofs.Restores.{fits_is}
use Rattle.engine_session.specs.Compiler.{nothing}
use Rattle.engine_session.specs.Standing.{compiled_in, AreNumbers, IsIn}
use Rattle.kept_works.specs.Kept.{resumed, are_same_dirs, are_same_limits, is_under, fits, begun_with}

pub same_dirs : (a b : List (List ℕ)) → are_same_dirs a b ≡ true → a ≡ b
same_dirs [] [] e = refl
same_dirs [] (y ∷ b) e = cc
same_dirs (x ∷ a) [] e = cc
same_dirs (x ∷ a) (y ∷ b) e =
    let two = both (bytes_eq x y) (are_same_dirs a b) e in
    ap₂ (λ z c. z ∷ c) (bytes_same x y two.0) (same_dirs a b two.1)

pub same_limits : (a b : Limits) → are_same_limits a b ≡ true → a ≡ b
same_limits a b e =
    let two = both (nat_eq a.max_iteration b.max_iteration)
    (nat_eq a.max_recursion b.max_recursion) e in
    λ i. record {
      max_iteration = eqb-true a.max_iteration b.max_iteration two.0 i;
      max_recursion = eqb-true a.max_recursion b.max_recursion two.1 i;
    }

positive : (n : ℕ) → nat_lt 0 n ≡ true → nat_eq n 0 ≡ false
positive n e = ne_eqb n 0 (λ none. let more = ltb-true 0 n e in omega (arith, none, more))

-- files that have numbers
pub numbers_are : (fs : List KeptFile) → list_all has_number fs ≡ true
    → AreNumbers (map file_row fs)
numbers_are [] all f = refl
numbers_are (k ∷ fs) all f =
    let two = both (has_number k) (list_all has_number fs) all in
    at (bytes_eq k.name f) (positive k.number two.0) (numbers_are fs two.1 f)
  where
    rows : List FileRow
    rows = map file_row fs

    at : (b : Bool) → nat_eq k.number 0 ≡ false
        → nat_eq (file_number_in rows f) 0 ≡ not (is_some (content_in (pictured rows) f))
        → nat_eq (cond b k.number (file_number_in rows f)) 0
        ≡ not (is_some (if b then Some k.content else content_in (pictured rows) f))
    at true own later = own
    at false own later = later

are_short_files : (fs : List KeptFile)
    → are_short (pictured (map file_row fs)) ≡ list_all is_short fs
are_short_files [] = refl
are_short_files (k ∷ fs) = ap (λ b. has_short_content k.content && b) (are_short_files fs)

module _ {T : Type 0} (s : Stored) (core : Core T) (is : IsRestored s core) where
  files_are : core.files.items ≡ map file_row s.files
  files_are = ap (λ v. v.files) is.value

  pub kept_numbers : is_fit s ≡ true → AreNumbers core.files.items
  kept_numbers fit = subst AreNumbers (sym files_are) (numbers_are s.files (fits_is s fit).numbered)

  pub kept_short : is_fit s ≡ true → are_short (pictured core.files.items) ≡ true
  kept_short fit =
      ap (λ files. are_short (pictured files)) files_are
      ∙ are_short_files s.files
      ∙ (fits_is s fit).short

module _ (dirs : List (List ℕ)) (limits : Limits) (s : Stored) where
  pub it_fits : is_under dirs limits s ≡ true → is_fit s ≡ true → fits dirs limits s ≡ true
  it_fits under fit = ap (λ b. b && is_fit s) under ∙ fit

  pub not_fit : is_fit s ≡ false → fits dirs limits s ≡ false
  not_fit off = at (is_under dirs limits s)
    where
      at : (b : Bool) → b && is_fit s ≡ false
      at true = off
      at false = refl

  module _ {T : Type 0} (core : Core T) where
    pub anew : fits dirs limits s ≡ false → IsIn dirs limits core nothing
        → IsIn dirs limits core (begun_with dirs limits (Some s))
    anew off =
        subst (IsIn dirs limits core) (sym (ap (λ b. if b then resumed s else nothing) off))

    pub resumes : is_under dirs limits s ≡ true → is_fit s ≡ true → IsRestored s core
        → IsIn dirs limits core (begun_with dirs limits (Some s))
    resumes under fit is =
        let two = both (are_same_dirs s.dirs dirs) (are_same_limits s.limits limits) under in
        let all : compiled_in core ≡ resumed s = λ i. record {
          files = pictured (is.value i).files;
          situation = (is.value i).situation;
        } in
        record {
          dirs_are = ap (λ v. v.dirs) is.value ∙ same_dirs s.dirs dirs two.0;
          limits_are = ap (λ v. v.limits) is.value ∙ same_limits s.limits limits two.1;
          is = all ∙ sym (ap (λ b. if b then resumed s else nothing) (it_fits under fit));
        }
