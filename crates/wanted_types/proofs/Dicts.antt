-- The fields of a dict as words.
use Rattle.std.proofs.Common.{◌≡◌, ℕ, List, [], ◌∷◌, ◌++◌, true, false, nat_eq, length, codes, refl, arith}
use Rattle.wanted_types.specs.Words.{dict_words, fields_words, names}

pub dict_with : (keys : List (List ℕ)) → nat_eq (length keys) 0 ≡ false
    → dict_words keys ≡ codes "a dict with " ++ names keys
dict_with [] e = absurd cc
dict_with (key ∷ keys) e = refl

pub dict_without : (keys : List (List ℕ)) → nat_eq (length keys) 0 ≡ true
    → dict_words keys ≡ codes "a dict"
dict_without [] e = refl
dict_without (key ∷ keys) e =
    absurd (let none : length (key ∷ keys) ≡ 0 = search arith in omega arith)

pub fields_with : (keys : List (List ℕ)) → nat_eq (length keys) 0 ≡ false
    → fields_words keys ≡ codes "one of the fields " ++ names keys
fields_with [] e = absurd cc
fields_with (key ∷ keys) e = refl

pub fields_without : (keys : List (List ℕ)) → nat_eq (length keys) 0 ≡ true
    → fields_words keys ≡ codes "a dict without keys"
fields_without [] e = refl
fields_without (key ∷ keys) e =
    absurd (let none : length (key ∷ keys) ≡ 0 = search arith in omega arith)
