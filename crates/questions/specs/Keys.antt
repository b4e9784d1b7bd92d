-- When two keys are one, what they ask for, and what a hash reads of them.
use Rattle.std.specs.Prelude.{ℕ, List, [], ◌∷◌, ◌++◌, Option, Some, None, Bool, true, false, ◌&&◌, ◌==◌}
use Rattle.std.specs.Hash as fed
use Rattle.std.specs.Hash.{HashWrites}
use Rattle.std.specs.Str.{bytes_eq}
use Rattle.path_tree.specs.declared.path.Term.{Term}
use Rattle.path_tree.specs.declared.path.Term.TheVariants as term
use Rattle.questions.specs.declared.key.Key.{Key}
use Rattle.questions.specs.declared.key.Key.TheVariants.{File, Under}

abbrev pub term_eq : Term → Term → Bool
term_eq (term.Key a) (term.Key b) = bytes_eq a b
term_eq (term.Index i) (term.Index j) = i == j
term_eq (term.Key a) (term.Index j) = false
term_eq (term.Index i) (term.Key b) = false

abbrev pub terms_eq : List Term → List Term → Bool
terms_eq [] [] = true
terms_eq (x ∷ xs) (y ∷ ys) = term_eq x y && terms_eq xs ys
terms_eq [] (y ∷ ys) = false
terms_eq (x ∷ xs) [] = false

abbrev pub key_eq : Key → Key → Bool
key_eq (File a) (File b) = bytes_eq a b
key_eq (Under p xs) (Under q ys) = bytes_eq p q && terms_eq xs ys
key_eq (File a) (Under q ys) = false
key_eq (Under p xs) (File b) = false

abbrev pub file_of : Key → Option (List ℕ)
file_of (File name) = Some name
file_of (Under object terms) = None

abbrev pub object_of : Key → Option (List ℕ)
object_of (File name) = None
object_of (Under object terms) = Some object

-- what is fed to a hash
abbrev pub term_fed : Term → HashWrites
term_fed (term.Key k) = fed.str k
term_fed (term.Index i) = fed.u32 i

abbrev pub terms_fed : List Term → HashWrites
terms_fed [] = []
terms_fed (t ∷ ts) = term_fed t ++ terms_fed ts

abbrev pub key_fed : Key → HashWrites
key_fed (File name) = fed.str name
key_fed (Under object terms) = fed.str object ++ terms_fed terms
