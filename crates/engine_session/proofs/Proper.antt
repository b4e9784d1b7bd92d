-- What the answers of objects want is proper: each name is the program's own, and none is there
-- twice.
use Rattle.std.proofs.Common.{◌≡◌, ℕ, ◌-◌, Bool, true, false, List, [], ◌∷◌, ◌++◌, None, nat_eq, length, drop, map, ◌||◌, refl, sym, ap, ◌∙◌, arith}
use Rattle.std.specs.Prelude.{bytes_eq, codes}
use Rattle.std.specs.List.{ends_with}
use Rattle.std.proofs.lemmas.List.{append_cancel_right, length-append}
use Rattle.object_names.specs.Objects.{stands_in, begins_above, are_rising}
use Rattle.object_names.proofs.Places.{first_true, second_true, bytes_same, bytes_refl}
use Rattle.publication.specs.OwnNames.{is_own}
use Rattle.publication.specs.Wants.{wanted, proper, wants_of}
use Rattle.publication.specs.declared.profile.Profile as published
use Rattle.session.specs.Sessions.{profile_of, profiles_of}
use Rattle.session.specs.declared.Answer.{Answer}
use Rattle.session.specs.declared.Outcome.{Outcome}
use Rattle.session.specs.declared.Outcome.TheVariants.{Profile, Fault}
use Rattle.engine_session.specs.Compiler.{answer_name}
use Rattle.engine_session.proofs.Lists.{apart}

-- names with suffixes
drop_all : (n s : List ℕ) → drop (length n) (n ++ s) ≡ s
drop_all [] s = refl
drop_all (c ∷ cs) s = drop_all cs s

ends : (n s : List ℕ) → bytes_eq s s ≡ true → ends_with nat_eq (n ++ s) s ≡ true
ends n s same =
    let back : length (n ++ s) - length s ≡ length n = omega (arith, length-append n s) in
    rw (back, drop_all n s) same

or_left : (a b : Bool) → a ≡ true → (a || b) ≡ true
or_left true b h = refl
or_left false b h = cc

or_right : (a b : Bool) → b ≡ true → (a || b) ≡ true
or_right true b h = refl
or_right false b h = h

own_json : (n : List ℕ) → is_own (n ++ codes ".json") ≡ true
own_json n = or_left (ends_with nat_eq (n ++ codes ".json") (codes ".json"))
    (ends_with nat_eq (n ++ codes ".json") (codes ".dep")) (ends n (codes ".json") refl)

own_dep : (n : List ℕ) → is_own (n ++ codes ".dep") ≡ true
own_dep n = or_right (ends_with nat_eq (n ++ codes ".dep") (codes ".json"))
    (ends_with nat_eq (n ++ codes ".dep") (codes ".dep")) (ends n (codes ".dep") refl)

-- what a list ends with
abbrev last : List ℕ → ℕ → ℕ
last [] d = d
last (x ∷ xs) d = last xs x

last_of : (a cs : List ℕ) (c d : ℕ) → last (a ++ c ∷ cs) d ≡ last cs c
last_of [] cs c d = refl
last_of (x ∷ xs) cs c d = last_of xs cs c x

differ_by : (a b : List ℕ) (r : Bool) → (a ≡ b → true ≡ false) → bytes_eq a b ≡ r → r ≡ false
differ_by a b true not_same is = not_same (bytes_same a b is)
differ_by a b false not_same is = refl

json_dep : (a b : List ℕ) → bytes_eq (a ++ codes ".json") (b ++ codes ".dep") ≡ false
json_dep a b = differ_by (a ++ codes ".json") (b ++ codes ".dep")
    (bytes_eq (a ++ codes ".json") (b ++ codes ".dep"))
    (λ same. let e : 110 ≡ 112 =
    sym (last_of a (codes "json") 46 0) ∙ ap (λ xs. last xs 0) same
    ∙ last_of b (codes "dep") 46 0 in absurd (omega (arith, e))) refl

dep_json : (a b : List ℕ) → bytes_eq (a ++ codes ".dep") (b ++ codes ".json") ≡ false
dep_json a b = differ_by (a ++ codes ".dep") (b ++ codes ".json")
    (bytes_eq (a ++ codes ".dep") (b ++ codes ".json"))
    (λ same. let e : 112 ≡ 110 =
    sym (last_of a (codes "dep") 46 0) ∙ ap (λ xs. last xs 0) same
    ∙ last_of b (codes "json") 46 0 in absurd (omega (arith, e))) refl

other_name : (a b s : List ℕ) → bytes_eq a b ≡ false → bytes_eq (a ++ s) (b ++ s) ≡ false
other_name a b s other =
    differ_by (a ++ s) (b ++ s) (bytes_eq (a ++ s) (b ++ s))
    (λ same. sym (ap (bytes_eq a) (sym (append_cancel_right a b s same)) ∙ bytes_refl a) ∙ other)
    refl

either_false : (a b : Bool) → a || b ≡ false → (a ≡ false) × (b ≡ false)
either_false true b e = absurd (let clash : true ≡ false = e in cc)
either_false false b e = (refl, e)

past : (o : Outcome) (name m : List ℕ) (rest : List published.Profile)
    → bytes_eq (name ++ codes ".json") m ≡ false → bytes_eq (name ++ codes ".dep") m ≡ false
    → wanted (wants_of rest) m ≡ None → wanted (wants_of (profile_of name o rest)) m ≡ None
past (Profile json dep) name m rest x y h = rw (x, y) h
past (Fault line) name m rest x y h = h

no_json : (answers : List Answer) (n : List ℕ) → stands_in n (map answer_name answers) ≡ false
    → wanted (wants_of (profiles_of answers)) (n ++ codes ".json") ≡ None
no_json [] n none = refl
no_json (a ∷ answers) n none =
    let two = either_false (bytes_eq a.name n) (stands_in n (map answer_name answers)) none in
    past a.outcome a.name (n ++ codes ".json") (profiles_of answers)
    (other_name a.name n (codes ".json") two.0) (dep_json a.name n) (no_json answers n two.1)

no_dep : (answers : List Answer) (n : List ℕ) → stands_in n (map answer_name answers) ≡ false
    → wanted (wants_of (profiles_of answers)) (n ++ codes ".dep") ≡ None
no_dep [] n none = refl
no_dep (a ∷ answers) n none =
    let two = either_false (bytes_eq a.name n) (stands_in n (map answer_name answers)) none in
    past a.outcome a.name (n ++ codes ".dep") (profiles_of answers) (json_dep a.name n)
    (other_name a.name n (codes ".dep") two.0) (no_dep answers n two.1)

one_more : (o : Outcome) (name : List ℕ) (rest : List published.Profile)
    → wanted (wants_of rest) (name ++ codes ".json") ≡ None
    → wanted (wants_of rest) (name ++ codes ".dep") ≡ None → proper (wants_of rest) ≡ true
    → proper (wants_of (profile_of name o rest)) ≡ true
one_more (Profile json dep) name rest x y ok =
    rw (own_json name, dep_json name name, x, own_dep name, y, ok) refl
one_more (Fault line) name rest x y ok = ok

pub wants_proper : (answers : List Answer) → are_rising (map answer_name answers) ≡ true
    → proper (wants_of (profiles_of answers)) ≡ true
wants_proper [] rising = refl
wants_proper (a ∷ answers) rising =
    let none = apart a.name (map answer_name answers)
    (first_true (begins_above a.name (map answer_name answers))
    (are_rising (map answer_name answers)) rising)
    (second_true (begins_above a.name (map answer_name answers))
    (are_rising (map answer_name answers)) rising) in
    one_more a.outcome a.name (profiles_of answers) (no_json answers a.name none)
    (no_dep answers a.name none) (wants_proper answers
    (second_true (begins_above a.name (map answer_name answers))
    (are_rising (map answer_name answers)) rising))
