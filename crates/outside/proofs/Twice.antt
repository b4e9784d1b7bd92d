-- Names that stand twice.
use Rattle.std.proofs.Common.{◌≡◌, ℕ, suc, zero, Bool, true, false, List, [], ◌∷◌, drop, ◌&&◌, ◌||◌, refl}
use Rattle.std.specs.Prelude.{not, bytes_eq, cond}
use Rattle.outside.specs.declared.source.MemFile.{MemFile}
use Rattle.outside.specs.Pictures.{are_distinct, has_name}

second_true : (a b : Bool) → a && b ≡ true → b ≡ true
second_true true b is = is
second_true false b is = cc

-- a part of distinct names is distinct
pub distinct_from : (i : ℕ) (fs : List MemFile) → are_distinct fs ≡ true → are_distinct (drop i fs)
    ≡ true
distinct_from zero fs is = is
distinct_from (suc i) [] is = is
distinct_from (suc i) (f ∷ fs) is = distinct_from i fs (second_true _ _ is)

not_true : (b : Bool) → (b ≡ true → ⊥) → false ≡ b
not_true true h = absurd (h refl)
not_true false h = refl

clash : (b : Bool) → b ≡ true → not b ≡ true → ⊥
clash true is other = cc
clash false is other = cc

first_true : (a b : Bool) → a && b ≡ true → a ≡ true
first_true true b is = refl
first_true false b is = cc

-- a name that stands among those behind it
pub stands_twice : (i : ℕ) (f : MemFile) (fs rest : List MemFile) → drop i fs ≡ f ∷ rest
    → has_name f.name rest ≡ true → false ≡ are_distinct fs
stands_twice i f fs rest is twice =
    not_true (are_distinct fs) (λ distinct. clash (has_name f.name rest) twice
    (first_true _ _ (rw is at (distinct_from i fs distinct))))

pub stands_once : (i : ℕ) (f : MemFile) (fs rest : List MemFile) → drop i fs ≡ f ∷ rest
    → has_name f.name rest ≡ false → are_distinct rest ≡ true → are_distinct (drop i fs) ≡ true
stands_once i f fs rest is once distinct = rw (is, once, distinct) refl

pub named_by : (i : ℕ) (f : MemFile) (fs rest : List MemFile) (n : List ℕ) (b : Bool) → drop i fs
    ≡ f ∷ rest → b ≡ has_name n rest → cond (bytes_eq f.name n) true b ≡ has_name n (drop i fs)
named_by i f fs rest n b is before =
    rw (is, before) (either (bytes_eq f.name n) (has_name n rest)) where
      either : (x y : Bool) → cond x true y ≡ (x || y)
      either true y = refl
      either false y = refl

pub held : (a b : Bool) → a ≡ not b → a ≡ false → b ≡ true
held a true is other = refl
held a false is other = cc

pub not_held : (a b : Bool) → a ≡ not b → a ≡ true → b ≡ false
not_held a true is other = cc
not_held a false is other = refl
