-- How a publication begins, goes on from removing to putting, and ends.
use Rattle.std.proofs.Common.{◌≡◌, ◌≤◌, ℕ, Bool, true, false, List, [], ◌∷◌, Option, Some, None, is_some, IfSome, not, if◌then◌else◌, ◌&&◌, ◌⊎◌, inl, inr, refl, sym, ap, ◌∙◌, subst, length, arith, append-nil}
use Rattle.std.specs.Prelude.{bytes_eq}
use Rattle.std.specs.List.{list_any, list_all}
use Rattle.std.specs.HashMap.{get}
use Rattle.std.proofs.lemmas.Slice.Eq.{bytes_eq-Decides}
use Rattle.outside.specs.Cells.{Cell, with_content, AllBut}
use Rattle.publication.specs.declared.profile.Profile.{Profile}
use Rattle.publication.specs.declared.answer.Publication.TheVariants.{Done}
use Rattle.publication.specs.declared.trouble.Trouble.{Trouble}
use Rattle.publication.specs.declared.trouble.Which.{Which}
use Rattle.publication.specs.declared.trouble.Which.TheVariants.{Json, Dep}
use Rattle.publication.specs.declared.trouble.Call.{Call}
use Rattle.publication.specs.declared.trouble.Call.TheVariants.{Remove, Read, Put}
use Rattle.publication.specs.declared.publisher.Known.{Known}
use Rattle.publication.specs.declared.publisher.Publisher.{Publisher}
use Rattle.publication.specs.OwnNames.{is_own, json_name, dep_name}
use Rattle.publication.specs.declared.want.Want.{Want}
use Rattle.publication.specs.Wants.{json_want, dep_want, wants_of, wanted, proper, goes}
use Rattle.publication.specs.Stands.{Meets, AtStart, untouched}
use Rattle.publication.specs.Troubles.{called, keeps, unsettles, fits, fits_removal, fits_call, is_removal, name_of, published}
use Rattle.publication.specs.Published.{AtMost, Clearing, Placing, Interrupted, Published, Partly, Knows, Covers, Allows, placed}
use Rattle.publication.proofs.Proper.{and_left, and_right, proper_own, proper_rest}
use Rattle.publication.proofs.Tells.{apart, foreign}
use Rattle.publication.proofs.Placing.{here, own_by, wanted_here}
use Rattle.publication.proofs.Clearing.{removals_keep, unwanted}

not_goes : (ws : List Want) (n : List ℕ) → is_own n ≡ false → goes ws n ≡ false
not_goes ws n other = rw other refl

fit_one : (ws : List Want) (call : Call) (n : List ℕ) → (is_removal call && goes ws n) ≡ true
    → fits_call ws call n ≡ true
fit_one ws Remove n is = is
fit_one ws Read n is = cc
fit_one ws Put n is = cc

removals_fit : (ws : List Want) (ts : List Trouble) → list_all (fits_removal ws) ts ≡ true
    → list_all (fits ws) ts ≡ true
removals_fit ws [] all = refl
removals_fit ws (t ∷ ts) all =
    rw (fit_one ws t.call (called t) (and_left (fits_removal ws t) (list_all (fits_removal ws) ts)
    all)) (removals_fit ws ts (and_right (fits_removal ws t) (list_all (fits_removal ws) ts) all))

more : (ts : List Trouble) (before count later : ℕ) → count ≤ later
    → AtMost (length ts) before count → AtMost (length ts) before later
more ts before count later on had = omega (arith, on, had)

-- a removal ended for want of memory
pub clearing_ended : (ws : List Want) (rest : List (List ℕ)) (ts : List Trouble)
    (before count later : ℕ) (start now new : List ℕ → Cell) (m : List ℕ) → is_own m ≡ true
    → Clearing ws rest ts before count start now → AllBut now m new → count ≤ later
    → Interrupted ws before later start new
clearing_ended ws rest ts before count later start now new m own c opened on = record {
  troubles = ts;
  fit = removals_fit ws ts c.removals;
  causes = more ts before count later on c.causes;
  open_name = m;
  others = λ n other. opened n (apart m n own other) ∙ c.kept n (not_goes ws n other);
  own = λ n closed. by n (goes ws n) refl closed;
}
  where
    by : (n : List ℕ) (g : Bool) → goes ws n ≡ g → bytes_eq m n ≡ false → (new n ≡ start n)
        ⊎ Meets (published ws ts untouched n) (start n) (new n)
    by n false g closed = inl (opened n closed ∙ c.kept n g)
    by n true g closed = elim (c.going n g) as (λ _. (new n ≡ start n)
        ⊎ Meets (published ws ts untouched n) (start n) (new n))
        [ inl same ↦ inl (opened n closed ∙ same) | inr meets ↦ inr (rw (opened n closed) meets) ]

-- a name under way stands as at the start or as after the publication
under_way : (ws rest : List Want) (ts : List Trouble) (before count : ℕ) (start now : List ℕ → Cell)
    (n : List ℕ) → Placing ws rest ts before count start now → (now n ≡ start n)
    ⊎ Meets (published ws ts untouched n) (start n) (now n)
under_way ws rest ts before count start now n p = by (is_some (wanted rest n)) (p.stands n)
  where
    by : (b : Bool) → Meets (if b then AtStart else published ws ts untouched n) (start n) (now n)
        → (now n ≡ start n) ⊎ Meets (published ws ts untouched n) (start n) (now n)
    by true m = inl m
    by false m = inr m

foreign_under_way : (ws rest : List Want) (ts : List Trouble) (before count : ℕ)
    (start now : List ℕ → Cell) (n : List ℕ) → is_own n ≡ false
    → Placing ws rest ts before count start now → now n ≡ start n
foreign_under_way ws rest ts before count start now n other p =
    elim (under_way ws rest ts before count start now n p) as (λ _. now n ≡ start n)
    [ inl same ↦ same | inr meets ↦ rw (foreign ws ts n other) at meets ]

-- memory was wanting between two calls
pub placing_ended : (ws rest : List Want) (ts : List Trouble) (before count : ℕ)
    (start now : List ℕ → Cell) → Placing ws rest ts before count start now
    → Interrupted ws before count start now
placing_ended ws rest ts before count start now p = record {
  troubles = ts;
  fit = p.fit;
  causes = p.causes;
  open_name = [];
  others = λ n other. foreign_under_way ws rest ts before count start now n other p;
  own = λ n closed. under_way ws rest ts before count start now n p;
}

own_name : (p : Profile) (ps : List Profile) (which : Which)
    → proper (json_want p ∷ dep_want p ∷ wants_of ps) ≡ true → is_own (name_of which p.name) ≡ true
own_name p ps Json ok = proper_own (json_want p) (dep_want p ∷ wants_of ps) ok
own_name p ps Dep ok = proper_own (dep_want p) (wants_of ps)
    (proper_rest (json_want p) (dep_want p ∷ wants_of ps) ok)

module _ (ws : List Want) (p : Profile) (ps : List Profile) (ts : List Trouble)
    (before count later : ℕ) (start now new : List ℕ → Cell) where
  abbrev Ws : List Want
  Ws = json_want p ∷ dep_want p ∷ wants_of ps

  so_far : Placing ws Ws ts before count start now → (n : List ℕ) → new n ≡ now n
      → (new n ≡ start n) ⊎ Meets (published ws ts untouched n) (start n) (new n)
  so_far placing n same = elim (under_way ws Ws ts before count start now n placing) as
      (λ _. (new n ≡ start n) ⊎ Meets (published ws ts untouched n) (start n) (new n))
      [ inl s ↦ inl (same ∙ s) | inr m ↦ inr (rw same m) ]

  put_by : (n : List ℕ) (b : Bool) → is_some (wanted (wants_of (p ∷ [])) n) ≡ b → proper Ws ≡ true
      → Placing ws Ws ts before count start now → Meets (placed (wants_of (p ∷ [])) [] n) (now n)
      (new n) → (new n ≡ start n) ⊎ Meets (published ws ts untouched n) (start n) (new n)
  put_by n false none ok placing meets = so_far placing n (rw none at meets)
  put_by n true some ok placing meets =
      let w = wanted_here ws p ps ts None before count later start now new n
      (bytes_eq (json_name p.name) n) (bytes_eq (dep_name p.name) n) ok some refl refl in
      let pending : is_some (wanted Ws n) ≡ true = rw w.0 some in
      let f = placing.fresh n pending in
      let was : now n ≡ start n = rw pending at (placing.stands n) in
      let own = own_by ws p ps ts None before count later start now new n ok some
      (bytes_eq (json_name p.name) n) (bytes_eq (dep_name p.name) n) refl refl in
      let same : published ws ts untouched n ≡ placed (wants_of (p ∷ [])) [] n =
      ap (λ list. published ws list untouched n) (sym (append-nil ts))
      ∙ here ws p ts None n own some f.0 f.1 (placing.same n pending ∙ w.0) in
      inr (rw same (subst (λ c. Meets (placed (wants_of (p ∷ [])) [] n) c (new n)) was meets))

  -- memory was wanting at an object's files
  pub partly_ended : proper Ws ≡ true → Placing ws Ws ts before count start now → Partly p now new
      → count ≤ later → Interrupted ws before later start new
  partly_ended ok placing left on = record {
    troubles = ts;
    fit = placing.fit;
    causes = more ts before count later on placing.causes;
    open_name = name_of left.which p.name;
    others = λ n other. elim
        (by n (apart (name_of left.which p.name) n (own_name p ps left.which ok) other)) as
        (λ _. new n ≡ start n) [
          | inl same ↦ same
          | inr meets ↦ rw (foreign ws ts n other) at meets
        ];
    own = λ n closed. by n closed;
  }
    where
      by : (n : List ℕ) → bytes_eq (name_of left.which p.name) n ≡ false → (new n ≡ start n)
          ⊎ Meets (published ws ts untouched n) (start n) (new n)
      by n closed = elim (left.others n closed) as (λ _. (new n ≡ start n)
          ⊎ Meets (published ws ts untouched n) (start n) (new n)) [
            | inl same ↦ so_far placing n same
            | inr meets ↦ put_by n
                (is_some (wanted (wants_of (p ∷ [])) n)) refl ok placing meets
          ]

-- the removals are done
other_by : (ws : List Want) (m n : List ℕ) (b : Bool) → goes ws m ≡ true → goes ws n ≡ false
    → bytes_eq m n ≡ b → b ≡ false
other_by ws m n true going stays is = let f : true ≡ false =
    sym going ∙ ap (goes ws) ((bytes_eq-Decides m n).0 is) ∙ stays in cc
other_by ws m n false going stays is = refl

removals_open : (ws : List Want) (ts : List Trouble) (n : List ℕ) → list_all (fits_removal ws) ts
    ≡ true → goes ws n ≡ false → list_any (unsettles n) ts ≡ false
removals_open ws [] n all stays = refl
removals_open ws (t ∷ ts) n all stays =
    let first : fits_removal ws t ≡ true =
    and_left (fits_removal ws t) (list_all (fits_removal ws) ts) all in
    let apart : bytes_eq (called t) n ≡ false =
    other_by ws (called t) n (bytes_eq (called t) n)
    (and_right (is_removal t.call) (goes ws (called t)) first) stays refl in
    rw (apart, and_no (not (Rattle.publication.specs.Troubles.is_read t.call)))
    (removals_open ws ts n (and_right (fits_removal ws t) (list_all (fits_removal ws) ts) all)
    stays)
  where
    and_no : (b : Bool) → (b && false) ≡ false
    and_no true = refl
    and_no false = refl

stays_by : (ws : List Want) (n : List ℕ) (own : Bool) → is_own n ≡ own → is_some (wanted ws n)
    ≡ true → goes ws n ≡ false
stays_by ws n true own some = rw (own, some) refl
stays_by ws n false own some = rw own refl

pub placing_begins : (ws : List Want) (ts : List Trouble) (before count : ℕ)
    (start now : List ℕ → Cell) → Clearing ws [] ts before count start now
    → Placing ws ws ts before count start now
placing_begins ws ts before count start now c = record {
  fit = removals_fit ws ts c.removals;
  causes = c.causes;
  most = c.most;
  stands = λ n. by n (is_some (wanted ws n)) (is_own n) refl refl;
  fresh = λ n some. (
    removals_keep ws ts n c.removals,
    removals_open ws ts n c.removals
        (stays_by ws n (is_own n) refl some),
  );
  same = λ n some. refl;
}
  where
    by : (n : List ℕ) (some own : Bool) → is_some (wanted ws n) ≡ some → is_own n ≡ own
        → Meets (if some then AtStart else published ws ts untouched n) (start n) (now n)
    by n true own some is = c.kept n (stays_by ws n own is some)
    by n false true some is = c.gone n (rw (is, some) refl) refl
    by n false false some is = rw (foreign ws ts n is) (c.kept n (not_goes ws n is))

absent_at : (c : Cell) (k : Option Known) → k ≡ None → IfSome c (Allows k) → c ≡ with_content None c
absent_at None k none allows = refl
absent_at (Some content) None none allows = ap (λ d. Some d) allows
absent_at (Some content) (Some x) none allows = cc

-- nothing was done yet
pub clearing_begins : (ws : List Want) (names : List (List ℕ)) (p : Publisher) (count : ℕ)
    (start : List ℕ → Cell) → Covers names ws p → Knows p start
    → Clearing ws names [] count count start start
clearing_begins ws names p count start covers knows = record {
  removals = refl;
  causes = omega arith;
  most = omega arith;
  kept = λ n stays. refl;
  gone = λ n going absent. rw (unwanted ws [] n going refl)
      (absent_at (start n) (get bytes_eq p.own n) (covers n going absent)
      (knows n (and_left (is_own n) (not (is_some (wanted ws n))) going)));
  going = λ n going. inl refl;
}

pub placing_done : (ws : List Want) (ts : List Trouble) (before count : ℕ)
    (start now : List ℕ → Cell) → Placing ws [] ts before count start now
    → Published ws (Done ts) before count start now
placing_done ws ts before count start now p =
    record { fit = p.fit; causes = p.causes; most = p.most; stands = λ n. p.stands n }
