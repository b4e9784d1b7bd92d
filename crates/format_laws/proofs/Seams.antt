-- What is written as one text from the left is read part by part.
use Rattle.std.proofs.Common.{ℕ, List, ◌++◌}
use Rattle.format_laws.proofs.Reading.{Follows, Reads}
use Rattle.format_laws.proofs.Fronts.{joins}

pub seam3 : {file : List ℕ} {P : Follows} (a b c t : List ℕ) → Reads file (a ++ (b ++ (c ++ t))) P
    → Reads file (a ++ b ++ c ++ t) P
seam3 a b c t r = joins (a ++ b) c t (joins a b (c ++ t) r)

pub seam4 : {file : List ℕ} {P : Follows} (a b c d t : List ℕ)
    → Reads file (a ++ (b ++ (c ++ (d ++ t)))) P → Reads file (a ++ b ++ c ++ d ++ t) P
seam4 a b c d t r = joins (a ++ b ++ c) d t (seam3 a b c (d ++ t) r)

pub seam5 : {file : List ℕ} {P : Follows} (a b c d e t : List ℕ)
    → Reads file (a ++ (b ++ (c ++ (d ++ (e ++ t))))) P → Reads file (a ++ b ++ c ++ d ++ e ++ t) P
seam5 a b c d e t r = joins (a ++ b ++ c ++ d) e t (seam4 a b c d (e ++ t) r)

pub seam6 : {file : List ℕ} {P : Follows} (a b c d e f t : List ℕ)
    → Reads file (a ++ (b ++ (c ++ (d ++ (e ++ (f ++ t)))))) P
    → Reads file (a ++ b ++ c ++ d ++ e ++ f ++ t) P
seam6 a b c d e f t r = joins (a ++ b ++ c ++ d ++ e) f t (seam5 a b c d e (f ++ t) r)

pub seam7 : {file : List ℕ} {P : Follows} (a b c d e f g t : List ℕ)
    → Reads file (a ++ (b ++ (c ++ (d ++ (e ++ (f ++ (g ++ t))))))) P
    → Reads file (a ++ b ++ c ++ d ++ e ++ f ++ g ++ t) P
seam7 a b c d e f g t r = joins (a ++ b ++ c ++ d ++ e ++ f) g t (seam6 a b c d e f (g ++ t) r)
