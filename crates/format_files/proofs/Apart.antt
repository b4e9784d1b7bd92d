-- The names of a picture rise, so no layout has the name of another.
use Rattle.std.proofs.Common.{◌≡◌, ℕ, Bool, true, false, List, [], ◌∷◌, ◌++◌, None, Result, Ok, Err, refl, ◌∙◌}
use Rattle.std.specs.Prelude.{bytes_eq, ◌&&◌, if◌then◌else◌}
use Rattle.format_files.specs.Layouts.{is_template, layout_of, want_in, layouts}
use Rattle.load_path.proofs.Order.{above_differs, below_chain}
use Rattle.load_path.specs.Pictures.{begins_above, is_below, is_rising}
use Rattle.load_path.specs.declared.picture.PictureFile.{PictureFile}
use Rattle.pan_format.specs.Formatted.{Refusal}
use Rattle.publication.specs.Puts.{are_apart}
use Rattle.publication.specs.Wants.{wanted}
use Rattle.publication.specs.declared.want.Want.{Want}

first_true : (a b : Bool) → a && b ≡ true → a ≡ true
first_true true b is = refl
first_true false b is = cc

second_true : (a b : Bool) → a && b ≡ true → b ≡ true
second_true true b is = is
second_true false b is = cc

begins_on : (n : List ℕ) (f : PictureFile) (fs : List PictureFile) → is_below n f.name ≡ true
    → begins_above f.name fs ≡ true → begins_above n fs ≡ true
begins_on n f [] p q = refl
begins_on n f (g ∷ gs) p q = below_chain n f.name g.name p q

-- a name that is not the file's is not wanted by it
skipped : (name n : List ℕ) (laid : Result (List ℕ) Refusal) (template : Bool) (ws : List Want)
    → bytes_eq name n ≡ false → wanted ((if template then want_in name laid else []) ++ ws) n ≡
    wanted ws n
skipped name n (Ok text) true ws other = rw other refl
skipped name n (Err refused) true ws other = refl
skipped name n laid false ws other = refl

-- a name below all of the files is not wanted
unwanted : (n : List ℕ) (fs : List PictureFile) → begins_above n fs ≡ true → is_rising fs ≡ true
    → wanted (layouts fs) n ≡ None
unwanted n [] p q = refl
unwanted n (f ∷ fs) p q = skipped f.name n (layout_of f) (is_template f) (layouts fs)
    (above_differs f.name n p) ∙ unwanted n fs (begins_on n f fs p (first_true _ _ q))
    (second_true _ _ q)

apart_by : (name : List ℕ) (laid : Result (List ℕ) Refusal) (template : Bool) (ws : List Want)
    → wanted ws name ≡ None → are_apart ws ≡ true
    → are_apart ((if template then want_in name laid else []) ++ ws) ≡ true
apart_by name (Ok text) true ws none apart = rw (none, apart) refl
apart_by name (Err refused) true ws none apart = apart
apart_by name laid false ws none apart = apart

pub layouts_apart : (fs : List PictureFile) → is_rising fs ≡ true → are_apart (layouts fs) ≡ true
layouts_apart [] q = refl
layouts_apart (f ∷ fs) q = apart_by f.name (layout_of f) (is_template f) (layouts fs)
    (unwanted f.name fs (first_true _ _ q) (second_true _ _ q))
    (layouts_apart fs (second_true _ _ q))
