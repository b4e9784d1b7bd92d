-- A publication, step by step.
use Rattle.std.proofs.Common.{◌≡◌, ℕ, Bool, true, false, List, [], ◌∷◌, Option, Some, None, is_some, IfSome, not, if◌then◌else◌, ◌&&◌, ◌||◌, ◌⊎◌, inl, inr, refl, sym, ap, subst, ◌∙◌}
use Rattle.std.specs.Prelude.{Result, Ok, Err, OnOk, IfErr}
use Rattle.std.specs.Str.{bytes_eq}
use Rattle.std.specs.List.{list_any}
use Rattle.std.specs.List.Sorted.{IsPermutation}
use Rattle.std.proofs.lemmas.List.Sorted.{list_any-IsPermutation}
use Rattle.std.specs.Prelude.{cond}
use Rattle.std.proofs.lemmas.Slice.Eq.{bytes_eq-Decides}
use Rattle.outside.specs.Cells.{Cell, with_content, AllBut, Sets}
use Rattle.publication.specs.declared.want.Want.{Want}
use Rattle.publication.specs.declared.until_failure.PublishError.{PublishError}
use Rattle.publication.specs.declared.until_failure.PublishError.TheVariants.{Failed, Memory}
use Rattle.publication.specs.OwnNames.{is_own, is_file_of}
use Rattle.publication.specs.Wants.{wanted, proper, goes}
use Rattle.publication.specs.Halves.{brought, swept, cleared, put_where, placed, LeavesAs, LeftAs, Underway}
use Rattle.publication.specs.Leavings.{Leaves, Left, IsEndAt}
use Rattle.publication.specs.Listings.{IsAbsentUnless, Lists}
use Rattle.publication.specs.Stands.{Meets, untouched}
use Rattle.publication.specs.Troubles.{published}
use Rattle.publication.proofs.Proper.{proper_own, proper_rest}
use Rattle.publication.proofs.Tells.{apart}

-- A step that is a part of what is left leads on, and each name stands as at the start or as in the
-- end.
pub going_on : (left rest step : List ℕ → Cell → Cell) (target start now new : List ℕ → Cell)
    → ((n : List ℕ) (c : Cell) → rest n (step n c) ≡ left n c)
    → ((n : List ℕ) (c : Cell) → (step n c ≡ c) ⊎ (step n c ≡ left n c))
    → Underway left target start now → ((n : List ℕ) → new n ≡ step n (now n))
    → Underway rest target start new
going_on left rest step target start now new leads either u made = record {
  leads = λ n. ap (λ c. rest n c) (made n) ∙ leads n (now n) ∙ u.leads n;
  stands = λ n. elim (either n (now n)) as (λ _. (new n ≡ start n) ⊎ (new n ≡ target n)) [
    | inl same ↦ elim (u.stands n) as (λ _. (new n ≡ start n) ⊎ (new n ≡ target n))
        [ inl s ↦ inl (made n ∙ same ∙ s) | inr t ↦ inr (made n ∙ same ∙ t) ]
    | inr done ↦ inr (made n ∙ done ∙ u.leads n)
  ];
}

pub at_start : (left : List ℕ → Cell → Cell) (start : List ℕ → Cell)
    → ((n : List ℕ) → Underway left (λ m. left m (start m)) start start)
at_start left start n = record { leads = λ m. refl; stands = λ m. inl refl }

-- a call that failed on a name leaves the run under way, but for names that are open
left_at : (is_open : List ℕ → Bool) (left will : List ℕ → Cell → Cell)
    (start now new : List ℕ → Cell) (name : List ℕ)
    → ((n : List ℕ) (c : Cell) → is_own n ≡ false → will n c ≡ c) → is_own name ≡ true
    → Underway left (λ n. will n (start n)) start now → AllBut now name new
    → ((n : List ℕ) → is_open n ≡ false → bytes_eq name n ≡ false) → LeavesAs is_open will start new
left_at is_open left will start now new name keeps own u opens covers = record {
  others = λ n other. opens n (apart name n own other)
      ∙ (elim (u.stands n) as (λ _. now n ≡ start n)
      [ inl s ↦ s | inr t ↦ t ∙ keeps n (start n) other ]);
  own = λ n closed. elim (u.stands n) as (λ _. (new n ≡ start n) ⊎ (new n ≡ will n (start n)))
      [ inl s ↦ inl (opens n (covers n closed) ∙ s) | inr t ↦ inr (opens n (covers n closed) ∙ t) ];
}

covers_by : (m name n : List ℕ) (b : Bool) → is_file_of m name ≡ true → is_file_of m n ≡ false
    → bytes_eq name n ≡ b → b ≡ false
covers_by m name n false file closed is = refl
covers_by m name n true file closed is = let e : name ≡ n = (bytes_eq-Decides name n).0 is in
    let f : true ≡ false = sym file ∙ ap (is_file_of m) e ∙ closed in cc

pub left_early : (e : PublishError) (left will : List ℕ → Cell → Cell)
    (start now new : List ℕ → Cell) (name : List ℕ)
    → ((n : List ℕ) (c : Cell) → is_own n ≡ false → will n c ≡ c) → is_own name ≡ true
    → Underway left (λ n. will n (start n)) start now → AllBut now name new → IsEndAt name e
    → LeftAs e will start new
left_early (Failed m) left will start now new name keeps own u opens at =
    left_at (is_file_of m) left will start now new name keeps own u opens
    (λ n closed. covers_by m name n (bytes_eq name n) at closed refl)
left_early Memory left will start now new name keeps own u opens at = (
  name,
  left_at (bytes_eq name) left will start now new name keeps own u opens
      (λ n closed. closed),
)

-- what holds of what is left behind, whatever names are open, holds after an end
pub stopped_by : (e : PublishError) (left will : List ℕ → Cell → Cell)
    (now start new : List ℕ → Cell)
    → ((is_open : List ℕ → Bool) → LeavesAs is_open left now new → LeavesAs is_open will start new)
    → LeftAs e left now new → LeftAs e will start new
stopped_by (Failed m) left will now start new go stopped = go (is_file_of m) stopped
stopped_by Memory left will now start new go stopped =
    (stopped.0, go (bytes_eq stopped.0) stopped.1)

-- the set of wanted names grows with each want
pub names_step : (b held : Bool) (bytes : List ℕ) (rest : Option (List ℕ))
    → (cond b true held || is_some rest) ≡ (held || is_some (if b then Some bytes else rest))
names_step true true bytes rest = refl
names_step true false bytes rest = refl
names_step false held bytes rest = refl

-- the set of names grows with each
pub set_step : (b held rest : Bool) → (cond b true held || rest) ≡ (held || (b || rest))
set_step true true rest = refl
set_step true false rest = refl
set_step false held rest = refl

-- clearing
sweep_twice : (b a g : Bool) (c : Cell) → (if a
    && g then with_content None (if b && g then with_content None c else c) else
    (if b && g then with_content None c else c)) ≡ (if (b || a)
    && g then with_content None c else c)
sweep_twice true true true None = refl
sweep_twice true true true (Some x) = refl
sweep_twice true true false c = refl
sweep_twice true false true c = refl
sweep_twice true false false c = refl
sweep_twice false true true c = refl
sweep_twice false true false c = refl
sweep_twice false false true c = refl
sweep_twice false false false c = refl

sweep_either : (b a g : Bool) (c : Cell) → ((if b && g then with_content None c else c) ≡ c)
    ⊎ ((if b && g then with_content None c else c)
    ≡ (if (b || a) && g then with_content None c else c))
sweep_either true a true c = inr refl
sweep_either true a false c = inl refl
sweep_either false a g c = inl refl

-- only the name itself goes
swept_by : (m n : List ℕ) (ws : List Want) (c : Cell) (b g : Bool) → bytes_eq m n ≡ b → goes ws m
    ≡ g → (if g then (if b then with_content None c else c) else c)
    ≡ (if b && goes ws n then with_content None c else c)
swept_by m n ws c true true is gone =
    rw (sym (ap (goes ws) ((bytes_eq-Decides m n).0 is)) ∙ gone) refl
swept_by m n ws c true false is gone =
    rw (sym (ap (goes ws) ((bytes_eq-Decides m n).0 is)) ∙ gone) refl
swept_by m n ws c false true is gone = refl
swept_by m n ws c false false is gone = refl

pub clear_step : (m : List ℕ) (ms : List (List ℕ)) (ws : List Want)
    (target start now new : List ℕ → Cell) → Underway (cleared (m ∷ ms) ws) target start now
    → ((n : List ℕ) → new n ≡ swept m ws n (now n)) → Underway (cleared ms ws) target start new
clear_step m ms ws target start now new u made =
    going_on (cleared (m ∷ ms) ws) (cleared ms ws)
    (λ n c. if bytes_eq m n && goes ws n then with_content None c else c) target start now new
    (λ n c. sweep_twice (bytes_eq m n) (list_any (λ k. bytes_eq k n) ms) (goes ws n) c)
    (λ n c. sweep_either (bytes_eq m n) (list_any (λ k. bytes_eq k n) ms) (goes ws n) c) u
    (λ n. made n ∙ swept_by m n ws (now n) (bytes_eq m n) (goes ws m) refl refl)

keeps_by : (a own g : Bool) (c : Cell) → own ≡ false
    → (if a && (own && g) then with_content None c else c) ≡ c
keeps_by a true g c other = cc
keeps_by true false g c other = refl
keeps_by false false g c other = refl

pub cleared_keeps : (names : List (List ℕ)) (ws : List Want) (n : List ℕ) (c : Cell) → is_own n
    ≡ false → cleared names ws n c ≡ c
cleared_keeps names ws n c other =
    keeps_by (list_any (λ k. bytes_eq k n) names) (is_own n) (not (is_some (wanted ws n))) c other

absent_in : (listed : Bool) (c : Cell) → IfSome c (λ content. is_some content ≡ listed)
    → IsAbsentUnless listed c
absent_in listed None lists none = tt
absent_in listed (Some None) lists none = refl
absent_in listed (Some (Some b)) lists none = let f : true ≡ false = lists ∙ none in cc

absent_still : (gone : Bool) (c : Cell) → IfSome c (λ content. content ≡ None)
    → IfSome (if gone then with_content None c else c) (λ content. content ≡ None)
absent_still true None absent = tt
absent_still true (Some content) absent = refl
absent_still false c absent = absent

-- what is not among the names is absent also when they were cleared
pub cleared_absent : (names : List (List ℕ)) (ws : List Want) (may_stand : List ℕ → Bool)
    (old new : List ℕ → Cell) → Lists names old
    → ((n : List ℕ) → may_stand n ≡ list_any (λ m. bytes_eq m n) names)
    → ((n : List ℕ) → new n ≡ cleared names ws n (old n)) → (n : List ℕ)
    → IsAbsentUnless (may_stand n) (new n)
cleared_absent names ws may_stand old new lists set clear n none =
    subst (λ c. IfSome c (λ content. content ≡ None)) (sym (clear n))
    (absent_still (list_any (λ m. bytes_eq m n) names && goes ws n) (old n)
    (absent_in (list_any (λ m. bytes_eq m n) names) (old n) (lists n) (sym (set n) ∙ none)))

-- placing
place_twice : (b : Bool) (bytes : List ℕ) (rest : Option (List ℕ)) (c : Cell)
    → (b ≡ true → rest ≡ None) → put_where rest (if b then with_content (Some bytes) c else c)
    ≡ put_where (if b then Some bytes else rest) c
place_twice true bytes rest c none = rw (none refl) refl
place_twice false bytes rest c none = refl

place_either : (b : Bool) (bytes : List ℕ) (rest : Option (List ℕ)) (c : Cell)
    → ((if b then with_content (Some bytes) c else c) ≡ c)
    ⊎ ((if b then with_content (Some bytes) c else c)
    ≡ put_where (if b then Some bytes else rest) c)
place_either true bytes rest c = inr refl
place_either false bytes rest c = inl refl

pub place_step : (w : Want) (ws : List Want) (target start now new : List ℕ → Cell)
    → wanted ws w.name ≡ None → Underway (placed (w ∷ ws)) target start now
    → Sets now w.name (Some w.bytes) new → Underway (placed ws) target start new
place_step w ws target start now new ok u made =
    going_on (placed (w ∷ ws)) (placed ws) (λ n c. if bytes_eq w.name n then with_content
    (Some w.bytes) c else c) target start now new
    (λ n c. place_twice (bytes_eq w.name n) w.bytes (wanted ws n) c
    (λ same. ap (wanted ws) (sym ((bytes_eq-Decides w.name n).0 same)) ∙ ok))
    (λ n c. place_either (bytes_eq w.name n) w.bytes (wanted ws n) c) u made

pub wanted_own : (ws : List Want) (n : List ℕ) → proper ws ≡ true → is_own n ≡ false → wanted ws n
    ≡ None
wanted_own [] n ok other = refl
wanted_own (w ∷ ws) n ok other =
    rw (apart w.name n (proper_own w ws ok) other) (wanted_own ws n (proper_rest w ws ok) other)

pub placed_keeps : (ws : List Want) → proper ws ≡ true → (n : List ℕ) (c : Cell) → is_own n ≡ false
    → placed ws n c ≡ c
placed_keeps ws ok n c other = rw (wanted_own ws n ok other) refl

-- the two halves together
both_by : (own : Bool) (want : Option (List ℕ)) (known : Bool) (c : Cell)
    → (own ≡ false → want ≡ None) → IfSome c (λ content. is_some content ≡ known)
    → put_where want (if known && (own && not (is_some want)) then with_content None c else c)
    ≡ (if own then with_content want c else c)
both_by false want true c none knows = rw (none refl) refl
both_by false want false c none knows = rw (none refl) refl
both_by true None true c none knows = refl
both_by true None false None none knows = refl
both_by true None false (Some None) none knows = refl
both_by true None false (Some (Some b)) none knows = cc
both_by true (Some b) true c none knows = refl
both_by true (Some b) false c none knows = refl

pub brought_both : (names : List (List ℕ)) (ws : List Want) (n : List ℕ) (c : Cell) → proper ws
    ≡ true → IfSome c (λ content. is_some content ≡ list_any (λ m. bytes_eq m n) names)
    → placed ws n (cleared names ws n c) ≡ brought ws n c
brought_both names ws n c ok knows =
    both_by (is_own n) (wanted ws n) (list_any (λ m. bytes_eq m n) names) c
    (λ other. wanted_own ws n ok other) knows

either_by : (a own : Bool) (want : Option (List ℕ)) (c : Cell)
    → ((if a && (own && not (is_some want)) then with_content None c else c) ≡ c)
    ⊎ ((if a && (own && not (is_some want)) then with_content None c else c)
    ≡ (if own then with_content want c else c))
either_by false own want c = inl refl
either_by true false want c = inl refl
either_by true true None c = inr refl
either_by true true (Some b) c = inl refl

pub cleared_either : (names : List (List ℕ)) (ws : List Want) (n : List ℕ) (c : Cell)
    → (cleared names ws n c ≡ c) ⊎ (cleared names ws n c ≡ brought ws n c)
cleared_either names ws n c =
    either_by (list_any (λ m. bytes_eq m n) names) (is_own n) (wanted ws n) c

pub clearing_ended : (is_open : List ℕ → Bool) (names : List (List ℕ)) (ws : List Want)
    (old new : List ℕ → Cell) → LeavesAs is_open (cleared names ws) old new
    → LeavesAs is_open (brought ws) old new
clearing_ended is_open names ws old new l = record {
  others = l.others;
  own = λ n closed. elim (l.own n closed) as (λ _. (new n ≡ old n) ⊎ (new n ≡ brought ws n (old n))) [
    | inl s ↦ inl s
    | inr t ↦ elim (cleared_either names ws n (old n)) as
        (λ _. (new n ≡ old n) ⊎ (new n ≡ brought ws n (old n)))
        [ inl s ↦ inl (t ∙ s) | inr d ↦ inr (t ∙ d) ]
  ];
}

pub placing_ended : (is_open : List ℕ → Bool) (names : List (List ℕ)) (ws : List Want)
    (old mid new : List ℕ → Cell) → proper ws ≡ true
    → ((n : List ℕ) → IfSome (old n) (λ content. is_some content
    ≡ list_any (λ m. bytes_eq m n) names)) → ((n : List ℕ) → mid n ≡ cleared names ws n (old n))
    → LeavesAs is_open (placed ws) mid new → LeavesAs is_open (brought ws) old new
placing_ended is_open names ws old mid new ok knows clear l = record {
  others = λ n other. l.others n other ∙ clear n ∙ cleared_keeps names ws n (old n) other;
  own = λ n closed. elim (l.own n closed) as (λ _. (new n ≡ old n) ⊎ (new n ≡ brought ws n (old n))) [
    | inl s ↦ elim (cleared_either names ws n (old n)) as
        (λ _. (new n ≡ old n) ⊎ (new n ≡ brought ws n (old n)))
        [ inl e ↦ inl (s ∙ clear n ∙ e) | inr d ↦ inr (s ∙ clear n ∙ d) ]
    | inr t ↦ inr (t ∙ ap (placed ws n) (clear n) ∙ brought_both names ws n (old n) ok (knows n))
  ];
}

pub published_ok : (names : List (List ℕ)) (ws : List Want) (old next new : List ℕ → Cell)
    → proper ws ≡ true → Lists names old → ((n : List ℕ) → next n ≡ cleared names ws n (old n))
    → ((n : List ℕ) → new n ≡ placed ws n (next n)) → (n : List ℕ) → new n ≡ brought ws n (old n)
published_ok names ws old next new ok knows clear place n =
    place n ∙ ap (placed ws n) (clear n) ∙ brought_both names ws n (old n) ok (knows n)

-- a list of names in another order is a list of the same names
pub lists_again : (items names : List (List ℕ)) (cell : List ℕ → Cell) → IsPermutation items names
    → Lists items cell → Lists names cell
lists_again items names cell moved lists n =
    subst (λ b. IfSome (cell n) (λ content. is_some content ≡ b))
    (list_any-IsPermutation (λ m. bytes_eq m n) items names moved) (lists n)

-- what two facts say of an error together
pub if_err_both : {T E : Type 0} (P Q R : E → Type 0) (r : Result T E) → IfErr r P → IfErr r Q
    → ((e : E) → P e → Q e → R e) → IfErr r R
if_err_both P Q R (Ok x) p q both = tt
if_err_both P Q R (Err e) p q both = both e p q

-- a whole publication, by stands
stands_by : (ws : List Want) (n : List ℕ) (c d : Cell) (own : Bool) → is_own n ≡ own → d
    ≡ (if own then with_content (wanted ws n) c else c) → Meets (published ws [] untouched n) c d
stands_by ws n c d true is made = rw is made
stands_by ws n c d false is made = rw is made

pub brought_stands : (ws : List Want) (n : List ℕ) (c d : Cell) → d ≡ brought ws n c
    → Meets (published ws [] untouched n) c d
brought_stands ws n c d made = stands_by ws n c d (is_own n) refl made

leaves_stands : (is_open : List ℕ → Bool) (ws : List Want) (old new : List ℕ → Cell)
    → LeavesAs is_open (brought ws) old new → Leaves is_open (published ws [] untouched) old new
leaves_stands is_open ws old new l = record {
  others = l.others;
  own = λ n closed. elim (l.own n closed) as (λ _. (new n ≡ old n)
      ⊎ Meets (published ws [] untouched n) (old n) (new n))
      [ inl s ↦ inl s | inr t ↦ inr (brought_stands ws n (old n) (new n) t) ];
}

pub left_stands : (e : PublishError) (ws : List Want) (old new : List ℕ → Cell)
    → LeftAs e (brought ws) old new → Left e (published ws [] untouched) old new
left_stands (Failed m) ws old new l = leaves_stands (is_file_of m) ws old new l
left_stands Memory ws old new l = (l.0, leaves_stands (bytes_eq l.0) ws old new l.1)

-- what either half left behind
pub cleared_left : {T : Type 0} (r : Result T PublishError) (names : List (List ℕ)) (ws : List Want)
    (old new : List ℕ → Cell) → IfErr r (λ e. LeftAs e (cleared names ws) old new)
    → IfErr r (λ e. LeftAs e (brought ws) old new)
cleared_left (Ok x) names ws old new l = tt
cleared_left (Err e) names ws old new l =
    stopped_by e (cleared names ws) (brought ws) old old new
    (λ is_open k. clearing_ended is_open names ws old new k) l

pub placed_left : {T : Type 0} (r : Result T PublishError) (names : List (List ℕ)) (ws : List Want)
    (old mid new : List ℕ → Cell) → proper ws ≡ true → Lists names old
    → ((n : List ℕ) → mid n ≡ cleared names ws n (old n))
    → IfErr r (λ e. LeftAs e (placed ws) mid new) → IfErr r (λ e. LeftAs e (brought ws) old new)
placed_left (Ok x) names ws old mid new ok lists clear l = tt
placed_left (Err e) names ws old mid new ok lists clear l =
    stopped_by e (placed ws) (brought ws) mid old new
    (λ is_open k. placing_ended is_open names ws old mid new ok lists clear k) l

-- a whole publication, by stands
pub all_stands : {T : Type 0} (r : Result T PublishError) (ws vs : List Want)
    (old new : List ℕ → Cell) → vs ≡ ws → OnOk r ((n : List ℕ) → new n ≡ brought vs n (old n))
    → OnOk r ((n : List ℕ) → Meets (published ws [] untouched n) (old n) (new n))
all_stands (Ok x) ws vs old new same made =
    λ n. brought_stands ws n (old n) (new n) (made n ∙ ap (λ us. brought us n (old n)) same)
all_stands (Err e) ws vs old new same made = tt

pub part_stands : {T : Type 0} (r : Result T PublishError) (ws vs : List Want)
    (old new : List ℕ → Cell) → vs ≡ ws → IfErr r (λ e. LeftAs e (brought vs) old new)
    → IfErr r (λ e. Left e (published ws [] untouched) old new)
part_stands (Ok x) ws vs old new same l = tt
part_stands (Err e) ws vs old new same l =
    left_stands e ws old new (subst (λ us. LeftAs e (brought us) old new) same l)

-- nothing was done
pub none_stands : (ws : List Want) (old new : List ℕ → Cell) → ((n : List ℕ) → new n ≡ old n)
    → Left Memory (published ws [] untouched) old new
none_stands ws old new same =
    ([], record { others = λ n other. same n; own = λ n closed. inl (same n) })
