-- The last line, as it is looked for from the front.
use Rattle.std.proofs.Common.{◌≡◌, ℕ, Bool, true, false, List, [], ◌∷◌, nat_eq, if◌then◌else◌, refl}
use Rattle.demo.specs.Reports.{has_lines, last_line}

-- the last line of what is left, or this one where no other follows
abbrev pub line_from : List ℕ → List ℕ → List ℕ
line_from line rest = if has_lines rest then last_line rest else line

pub begins : (text : List ℕ) → line_from text text ≡ last_line text
begins [] = refl
begins (b ∷ bs) = by (has_lines (b ∷ bs))
  where
    by : (x : Bool) → (if x then (if x then last_line bs else b ∷ bs) else b ∷ bs)
        ≡ (if x then last_line bs else b ∷ bs)
    by true = refl
    by false = refl

-- a line feed, and more behind it
pub at_end : (line : List ℕ) (c : ℕ) (cs : List ℕ) → line_from (c ∷ cs) (c ∷ cs)
    ≡ line_from line (10 ∷ c ∷ cs)
at_end line c cs = begins (c ∷ cs)

passes : (line : List ℕ) (b c : ℕ) (cs : List ℕ) (e : Bool) → nat_eq b 10 ≡ e → e ≡ false
    → line_from line (c ∷ cs) ≡ line_from line (b ∷ c ∷ cs)
passes line b c cs true is e = cc
passes line b c cs false is e = rw is (by (has_lines (c ∷ cs)))
  where
    by : (x : Bool) → (if x then last_line (c ∷ cs) else line)
        ≡ (if x then (if x then last_line (c ∷ cs) else b ∷ c ∷ cs) else line)
    by true = refl
    by false = refl

-- another byte, or the last one
pub goes_by : (line : List ℕ) (b : ℕ) (bs : List ℕ) → nat_eq b 10 ≡ false → line_from line bs
    ≡ line_from line (b ∷ bs)
goes_by line b [] e = refl
goes_by line b (c ∷ cs) e = passes line b c cs false e refl
