-- How a format is walked.
use Rattle.std.proofs.Common.{◌≡◌, ℕ, zero, suc, ◌<◌, ◌==◌, Bool, true, false, List, [], ◌∷◌, ◌++◌, length, drop, get_or, append_assoc, Option, Some, None, Err, refl, sym, ap, ◌∙◌, arith}
use Rattle.std.specs.Prelude.{◌≢◌, IfSome, Result, option_and_then}
use Rattle.std.proofs.lemmas.Bool.{cond-false, cond-true, eqb-true}
use Rattle.base.specs.Answers.{given}
use Rattle.path_tree.specs.Plain.{Plain}
use Rattle.path_tree.specs.Refusals.{refusal}
use Rattle.path_tree.specs.Values.{text_value}
use Rattle.path_tree.specs.declared.refused.Refused.{Refused}
use Rattle.path_tree.specs.declared.refused.Refused.TheVariants.{TypeClash, Overflow, ZeroDivisor, BadArgument, BadPattern, BadIndex, TooLarge, Memory}
use Rattle.builtins_text.specs.Formats.{before, begins, form_length, form_of, formatted, formatted_after, percent_sign, with_next, written}
use Rattle.builtins_text.specs.declared.forms.Form.{Form}
use Rattle.builtins_text.proofs.Parting.{differs}

-- bytes that are passed over
passed : (n : ℕ) (cs : List ℕ) (vs : List Plain) → formatted_after n cs vs
    ≡ formatted (drop n cs) vs
passed zero cs vs = refl
passed (suc n) [] [] = refl
passed (suc n) [] (v ∷ vs) = refl
passed (suc n) (c ∷ cs) vs = passed n cs vs

-- a form takes the next value
pub next_written : (behind rest : List ℕ) (form : Form) (values : List Plain) (v : Plain)
    (vs : List Plain) (t : List ℕ) →
    begins percent_sign behind ≡ false → form_of behind ≡ Some form → rest
    ≡ drop (form_length behind) behind → values ≡ v ∷ vs →
    written form v ≡ Some t
    → formatted (percent_sign ∷ behind) values ≡ before t (formatted rest vs)
next_written behind rest form values v vs t no_percent is_form is_rest is_values is_text =
    let more : List Plain → Option (List ℕ) = formatted_after (form_length behind) behind in
    cond-false (begins percent_sign behind) (before (percent_sign ∷ [])
    (formatted_after 1 behind values)) (with_next (form_of behind) more values) no_percent
    ∙ (ap (λ o. with_next o more values) is_form
    ∙ (ap (with_next (Some form) more) is_values
    ∙ (ap (λ o. option_and_then (λ x. before x (more vs)) o) is_text
    ∙ ap (before t) (passed (form_length behind) behind vs
    ∙ ap (λ r. formatted r vs) (sym is_rest)))))

-- `%` again is one `%`
pub percent_written : (behind rest : List ℕ) (values : List Plain) →
    begins percent_sign behind ≡ true → behind ≡ percent_sign ∷ rest
    → formatted (percent_sign ∷ behind) values
    ≡ before (percent_sign ∷ []) (formatted rest values)
percent_written behind rest values is_percent is_rest =
    cond-true (begins percent_sign behind) (before (percent_sign ∷ [])
    (formatted_after 1 behind values))
    (with_next (form_of behind) (formatted_after (form_length behind) behind) values) is_percent
    ∙ ap (λ b. before (percent_sign ∷ []) (formatted_after 1 b values)) is_rest

before_nothing : (o : Option (List ℕ)) → o ≡ before [] o
before_nothing None = refl
before_nothing (Some x) = refl

pub before_both : (a b : List ℕ) (o : Option (List ℕ)) → before a (before b o) ≡ before (a ++ b) o
before_both a b None = refl
before_both a b (Some x) = ap Some (sym (append_assoc a b x))

abbrev pub HasNone : List ℕ → Type 0
HasNone xs = (i : ℕ) → i < length xs → get_or xs i 0 ≢ percent_sign

head_differs : (x : ℕ) (xs : List ℕ) → HasNone (x ∷ xs) → (x == percent_sign) ≡ false
head_differs x xs h = differs x percent_sign (h zero (omega arith))

tail_none : (x : ℕ) (xs : List ℕ) → HasNone (x ∷ xs) → HasNone xs
tail_none x xs h i lt = h (suc i) (omega (arith, lt))

-- bytes before a `%` stand for themselves
pub run_before : (xs ys : List ℕ) (vs : List Plain) → HasNone xs
    → formatted (xs ++ (percent_sign ∷ ys)) vs ≡ before xs (formatted (percent_sign ∷ ys) vs)
run_before [] ys vs h = before_nothing (formatted (percent_sign ∷ ys) vs)
run_before (x ∷ xs) ys vs h =
    let other : (x == percent_sign) ≡ false = head_differs x xs h in
    rw other (ap (before (x ∷ [])) (run_before xs ys vs (tail_none x xs h))
    ∙ before_both (x ∷ []) xs (formatted (percent_sign ∷ ys) vs))

pub run_alone : (xs : List ℕ) → HasNone xs → formatted xs [] ≡ Some xs
run_alone [] h = refl
run_alone (x ∷ xs) h = let other : (x == percent_sign) ≡ false = head_differs x xs h in
    rw other (ap (before (x ∷ [])) (run_alone xs (tail_none x xs h)))

pub run_and_values : (xs : List ℕ) (v : Plain) (vs : List Plain) → HasNone xs
    → formatted xs (v ∷ vs) ≡ None
run_and_values [] v vs h = refl
run_and_values (x ∷ xs) v vs h = let other : (x == percent_sign) ≡ false = head_differs x xs h in
    rw other (ap (before (x ∷ [])) (run_and_values xs v vs (tail_none x xs h)))

-- a refusal that the definition gives too
pub refused_alike : (e : Refused) (wanted : Result Plain Refused)
    → (e ≢ Memory → (e ≡ BadArgument) × (wanted ≡ Err BadArgument))
    → IfSome (refusal e) (λ f. wanted ≡ Err f)
refused_alike Memory wanted h = tt
refused_alike BadArgument wanted h = (h (λ x. cc)).1
refused_alike TypeClash wanted h = absurd (let x = (h (λ x. cc)).0 in cc)
refused_alike Overflow wanted h = absurd (let x = (h (λ x. cc)).0 in cc)
refused_alike ZeroDivisor wanted h = absurd (let x = (h (λ x. cc)).0 in cc)
refused_alike BadPattern wanted h = absurd (let x = (h (λ x. cc)).0 in cc)
refused_alike BadIndex wanted h = absurd (let x = (h (λ x. cc)).0 in cc)
refused_alike TooLarge wanted h = absurd (let x = (h (λ x. cc)).0 in cc)

-- what comes of a text: it, or a refusal where there is none
abbrev pub given_text : Option (List ℕ) → Result Plain Refused
given_text o = given BadArgument o text_value

-- a text so far, and what is still to be written
pub step_done : (text all : List ℕ) (values : List Plain) (made plain behind rest written : List ℕ)
    (now next : List Plain) →
    before made (formatted all now) ≡ formatted text values → all ≡ plain ++ (percent_sign ∷ behind)
    → HasNone plain →
    formatted (percent_sign ∷ behind) now ≡ before written (formatted rest next)
    → before ((made ++ plain) ++ written) (formatted rest next) ≡ formatted text values
step_done text all values made plain behind rest written now next so_far is_all none is_next =
    sym (before_both (made ++ plain) written (formatted rest next))
    ∙ (ap (before (made ++ plain)) (sym is_next)
    ∙ (sym (before_both made plain (formatted (percent_sign ∷ behind) now))
    ∙ (ap (before made) (sym (ap (λ t. formatted t now) is_all ∙ run_before plain behind now none))
    ∙ so_far)))

pub step_refused : (text all : List ℕ) (values : List Plain) (made plain behind : List ℕ)
    (now : List Plain) →
    before made (formatted all now) ≡ formatted text values → all ≡ plain ++ (percent_sign ∷ behind)
    → HasNone plain →
    formatted (percent_sign ∷ behind) now ≡ None → given_text (formatted text values)
    ≡ Err BadArgument
step_refused text all values made plain behind now so_far is_all none is_none =
    ap given_text (sym so_far ∙ ap (before made) (ap (λ t. formatted t now) is_all
    ∙ run_before plain behind now none ∙ ap (before plain) is_none))

pub end_refused : (text all : List ℕ) (values : List Plain) (made : List ℕ) (now : List Plain) →
    before made (formatted all now) ≡ formatted text values → HasNone all → (now ≡ [] → ⊥)
    → given_text (formatted text values) ≡ Err BadArgument
end_refused text all values made [] so_far none some = absurd (some refl)
end_refused text all values made (v ∷ vs) so_far none some =
    ap given_text (sym so_far ∙ ap (before made) (run_and_values all v vs none))

pub end_done : (text all : List ℕ) (values : List Plain) (made : List ℕ) (now : List Plain) →
    before made (formatted all now) ≡ formatted text values → HasNone all → now ≡ []
    → given_text (formatted text values) ≡ text_value (made ++ all)
end_done text all values made now so_far none is_empty =
    ap given_text (sym so_far ∙ ap (before made) (ap (formatted all) is_empty ∙ run_alone all none))

pub some_left : (xs : List Plain) (b : Bool) → b ≡ (length xs == 0) → b ≡ false → xs ≡ [] → ⊥
some_left xs b is isnt empty =
    let yes : b ≡ true = is ∙ ap (λ ys. length ys == 0) empty in
    absurd cc

pub none_left : (xs : List Plain) (b : Bool) → b ≡ (length xs == 0) → b ≡ true → xs ≡ []
none_left [] b is_test holds = refl
none_left (x ∷ xs) b is_test holds =
    let zero_long : length (x ∷ xs) ≡ 0 = eqb-true (length (x ∷ xs)) 0 (sym is_test ∙ holds) in
    absurd (omega (arith, zero_long))
