-- Worked rows.
use Rattle.std.proofs.Common.{◌≡◌, ℕ, List, [], ◌∷◌, true, refl}
use Rattle.std.specs.Prelude.{codes}
use Rattle.stored_rows.specs.declared.row.StoredRow.{StoredRow}
use Rattle.row_changes.specs.Differing.{gone_from, set_from, is_nothing}

abbrev row : List ℕ → List ℕ → StoredRow
row name bytes = record { name = name; bytes = bytes }

abbrev last : List StoredRow
last = row (codes "a") (1 ∷ []) ∷ row (codes "b") (2 ∷ []) ∷ row (codes "d") [] ∷ []

abbrev wanted : List StoredRow
wanted = row (codes "b") (3 ∷ []) ∷ row (codes "c") (4 ∷ []) ∷ row (codes "d") [] ∷ []

-- a is not wanted
a_is_gone : gone_from last wanted ≡ codes "a" ∷ []
a_is_gone = refl

-- b has other bytes, c is new, and d is as it was
b_and_c_are_set : set_from last wanted ≡ row (codes "b") (3 ∷ []) ∷ row (codes "c") (4 ∷ []) ∷ []
b_and_c_are_set = refl

-- the other way round c is gone, and a and b are set
c_is_gone : gone_from wanted last ≡ codes "c" ∷ []
c_is_gone = refl

-- from no rows all are set, and to no rows all are gone
all_are_set : set_from [] last ≡ last
all_are_set = refl

all_are_gone : gone_from last [] ≡ codes "a" ∷ codes "b" ∷ codes "d" ∷ []
all_are_gone = refl

-- rows differ from themselves in nothing
nothing_differs : is_nothing (gone_from last last) (set_from last last) ≡ true
nothing_differs = refl
