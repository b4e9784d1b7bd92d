-- Fresh rows, one after another, become the rows of a Take.
use Rattle.std.proofs.Common.{◌≡◌, ◌<◌, ◌||◌, ℕ, zero, suc, List, [], ◌∷◌, Bool, true, false, not, cond, Option, Some, None, length, get_or, slice_set, drop, refl, sym, ap, ◌∙◌, arith}
use Rattle.engine_laws.specs.Names.{Name, equal}
use Rattle.engine_laws.proofs.Names.{equal-true, equal-is}
use Rattle.engine_laws.specs.Engine.{is_among}
use Rattle.engine_turns.specs.declared.rows.Row.{Row}
use Rattle.engine_turns.specs.Places.{row_place, row_in}
use Rattle.engine_turns.proofs.Once.{are_once}
use Rattle.rebuild.specs.Taking.{new_row}
use Rattle.rebuild.specs.Renewing.{reopened, kept_or, taken_row, taken_rows, IsRenewed, renewed}
use Rattle.engine_machine.proofs.Truths.{both}
use Rattle.engine_turns.proofs.ByName.{IsAt, placed, no_place, row_named}
use Rattle.engine_turns.proofs.Readies.{names_set}

pub renewed_count : {T : Type 0} → (s : Bool) (i : ℕ) (objects : List Name) (old : List (Row T))
    → length (renewed s i objects old) ≡ length objects
renewed_count s zero [] old = refl
renewed_count s zero (o ∷ objects) old = ap suc (renewed_count s zero objects old)
renewed_count s (suc i) [] old = refl
renewed_count s (suc i) (o ∷ objects) old = ap suc (renewed_count s i objects old)

pub renewed_at : {T : Type 0} → (s : Bool) (i : ℕ) (objects : List Name) (old : List (Row T))
    (e : Row T) (d : Name) → i < length objects → get_or (renewed s i objects old) i e
    ≡ new_row (get_or objects i d)
renewed_at s i [] old e d lt = absurd (omega (arith, lt))
renewed_at s zero (o ∷ objects) old e d lt = refl
renewed_at s (suc i) (o ∷ objects) old e d lt = renewed_at s i objects old e d (omega (arith, lt))

pub renewed_next : {T : Type 0} → (s : Bool) (i : ℕ) (objects : List Name) (old : List (Row T))
    (d : Name) → i < length objects → slice_set (renewed s i objects old) i
    (taken_row s (get_or objects i d) (row_in (get_or objects i d) old))
    ≡ renewed s (suc i) objects old
renewed_next s i [] old d lt = absurd (omega (arith, lt))
renewed_next s zero (o ∷ objects) old d lt = refl
renewed_next s (suc i) (o ∷ objects) old d lt =
    ap (λ rows. taken_row s o (row_in o old) ∷ rows)
    (renewed_next s i objects old d (omega (arith, lt)))

pub renewed_end : {T : Type 0} → (s : Bool) (objects : List Name) (old : List (Row T))
    → renewed s (length objects) objects old ≡ taken_rows s old objects
renewed_end s [] old = refl
renewed_end s (o ∷ objects) old =
    ap (λ rows. taken_row s o (row_in o old) ∷ rows) (renewed_end s objects old)

kept_taken : {T : Type 0} → (s : Bool) (p : Name) (x : Option (Row T)) → kept_or s (new_row p) x
    ≡ taken_row s p x
kept_taken s p None = refl
kept_taken s p (Some r) = refl

among_here : (i : ℕ) (objects : List Name) (d : Name) → i < length objects → drop i objects
    ≡ get_or objects i d ∷ drop (suc i) objects
among_here i [] d lt = absurd (omega (arith, lt))
among_here zero (o ∷ objects) d lt = refl
among_here (suc i) (o ∷ objects) d lt = among_here i objects d (omega (arith, lt))

once_drop : (i : ℕ) (objects : List Name) → are_once objects ≡ true → are_once (drop i objects)
    ≡ true
once_drop zero objects e = e
once_drop (suc i) [] e = e
once_drop (suc i) (o ∷ objects) e =
    once_drop i objects (both (not (is_among o objects)) (are_once objects) e).1

not_true : (b : Bool) → not b ≡ true → b ≡ false
not_true true e = absurd (let clash : false ≡ true = e in cc)
not_true false e = refl

-- what is kept of the objects to come is as it was
abbrev pub Untouched : {T : Type 0} → ℕ → List Name → List (Row T) → List (Row T) → Type 0
Untouched i objects now old =
    (q : Name) → is_among q (drop i objects) ≡ true → row_in q now ≡ row_in q old

pub next_taken : {T : Type 0} → (s : Bool) (i : ℕ) (objects : List Name) (d : Name)
    (old now now' fresh fresh' : List (Row T)) (e : Row T) → i < length objects → fresh
    ≡ renewed s i objects old → Untouched i objects now old → IsRenewed s i fresh now fresh' now'
    → fresh' ≡ renewed s (suc i) objects old
next_taken s i objects d old now now' fresh fresh' e lt is un r =
    r.taken e
    ∙ ap (λ f. slice_set f i (kept_or s (get_or f i e) (row_in (get_or f i e).name now))) is
    ∙ ap (λ x. slice_set (renewed s i objects old) i (kept_or s x (row_in x.name now)))
    (renewed_at s i objects old e d lt)
    ∙ ap (λ x. slice_set (renewed s i objects old) i (kept_or s (new_row (get_or objects i d)) x))
    (un (get_or objects i d) here)
    ∙ ap (slice_set (renewed s i objects old) i) (kept_taken s (get_or objects i d)
    (row_in (get_or objects i d) old))
    ∙ renewed_next s i objects old d lt
  where
    here : is_among (get_or objects i d) (drop i objects) ≡ true
    here = ap (is_among (get_or objects i d)) (among_here i objects d lt)
        ∙ ap (λ b. b || is_among (get_or objects i d) (drop (suc i) objects))
        (equal-is (get_or objects i d) (get_or objects i d) refl)

pub next_untouched : {T : Type 0} → (s : Bool) (i : ℕ) (objects : List Name) (d : Name)
    (old now now' fresh fresh' : List (Row T)) (e : Row T) → i < length objects → are_once objects
    ≡ true → fresh ≡ renewed s i objects old → Untouched i objects now old
    → IsRenewed s i fresh now fresh' now' → Untouched (suc i) objects now' old
next_untouched s i objects d old now now' fresh fresh' e lt once is un r q among =
    r.others e q (ap (λ x. equal q x.name) at_i ∙ off)
    ∙ un q (ap (is_among q) (among_here i objects d lt) ∙ later (equal (get_or objects i d) q))
  where
    at_i : get_or fresh i e ≡ new_row (get_or objects i d)
    at_i = ap (λ f. get_or f i e) is ∙ renewed_at s i objects old e d lt

    later : (b : Bool) → b || is_among q (drop (suc i) objects) ≡ true
    later true = refl
    later false = among

    out : is_among (get_or objects i d) (drop (suc i) objects) ≡ false
    out = not_true _ (both (not (is_among (get_or objects i d) (drop (suc i) objects)))
        (are_once (drop (suc i) objects)) (ap are_once (sym (among_here i objects d lt))
        ∙ once_drop i objects once)).0

    off : equal q (get_or objects i d) ≡ false
    off = at (equal q (get_or objects i d)) refl
      where
        at : (b : Bool) → equal q (get_or objects i d) ≡ b → b ≡ false
        at true same = absurd (let clash : true ≡ false =
            sym among ∙ ap (λ n. is_among n (drop (suc i) objects))
            (equal-true q (get_or objects i d) same) ∙ out in cc)
        at false same = refl

any_default : {T : Type 0} → (rows : List (Row T)) (i : ℕ) (d e : Row T) → i < length rows
    → get_or rows i d ≡ get_or rows i e
any_default [] i d e lt = absurd (omega (arith, lt))
any_default (x ∷ rows) zero d e lt = refl
any_default (x ∷ rows) (suc i) d e lt = any_default rows i d e (omega (arith, lt))

set_same : {T : Type 0} → (rows : List (Row T)) (i : ℕ) (e : Row T) → i < length rows → rows
    ≡ slice_set rows i (get_or rows i e)
set_same [] i e lt = absurd (omega (arith, lt))
set_same (x ∷ rows) zero e lt = refl
set_same (x ∷ rows) (suc i) e lt = ap (λ rs. x ∷ rs) (set_same rows i e (omega (arith, lt)))

-- the fresh row changes places with the old one
pub renewed_found : {T : Type 0} → (s : Bool) (at : ℕ) (fresh old : List (Row T))
    → at < length fresh → (r : Row T) → r ≡ get_or fresh at r → (place : ℕ) → row_place r.name 0 old
    ≡ Some place → (x : Row T) → x ≡ get_or old place x → (r2 : Row T) → r2 ≡ get_or fresh at r2
    → (f o : Row T) → f ≡ reopened s x → o ≡ r2 → IsRenewed s at fresh old (slice_set fresh at f)
    (slice_set old place o)
renewed_found {T} s at fresh old lt r is place found x is_x r2 is2 f o f_is o_is =
    record {
      taken = taken;
      others = others;
      named =
          names_set old place o x a.within (o_named ∙ sym
          (row_named r.name old (get_or old place x) (a.here x)));
    }
  where
    a : IsAt r.name old place
    a = placed r.name old place found

    named : (e : Row T) → (get_or fresh at e).name ≡ r.name
    named e = ap (λ z. z.name) (any_default fresh at e r lt ∙ sym is)

    taken : (e : Row T) → slice_set fresh at f ≡ slice_set fresh at
        (kept_or s (get_or fresh at e) (row_in (get_or fresh at e).name old))
    taken e =
        ap (slice_set fresh at) (f_is ∙ ap (reopened s) is_x)
        ∙ sym (ap (λ n. slice_set fresh at (kept_or s (get_or fresh at e) (row_in n old))) (named e)
        ∙ ap (λ y. slice_set fresh at (kept_or s (get_or fresh at e) y)) (a.here x))

    o_named : o.name ≡ r.name
    o_named = ap (λ z. z.name) (o_is ∙ is2 ∙ any_default fresh at r2 r lt ∙ sym is)

    others : (e : Row T) (q : Name) → equal q (get_or fresh at e).name ≡ false
        → row_in q (slice_set old place o) ≡ row_in q old
    others e q off = a.set o o_named q ∙ ap (λ b. cond b (Some o) (row_in q old))
        (ap (equal q) (sym (named e)) ∙ off)

-- nothing was kept
pub renewed_none : {T : Type 0} → (s : Bool) (at : ℕ) (fresh old : List (Row T)) → at < length fresh
    → (r : Row T) → r ≡ get_or fresh at r → row_place r.name 0 old ≡ None
    → IsRenewed s at fresh old fresh old
renewed_none {T} s at fresh old lt r is none =
    record { taken = taken; others = λ e q off. refl; named = refl }
  where
    named : (e : Row T) → (get_or fresh at e).name ≡ r.name
    named e = ap (λ z. z.name) (any_default fresh at e r lt ∙ sym is)

    taken : (e : Row T) → fresh ≡ slice_set fresh at
        (kept_or s (get_or fresh at e) (row_in (get_or fresh at e).name old))
    taken e =
        set_same fresh at e lt
        ∙ sym (ap (λ n. slice_set fresh at (kept_or s (get_or fresh at e) (row_in n old))) (named e)
        ∙ ap (λ y. slice_set fresh at (kept_or s (get_or fresh at e) y)) (no_place r.name old none))

-- any row
pub first_row_of : {T : Type 0} → Row T
first_row_of = new_row []
