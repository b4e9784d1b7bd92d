-- Which names may be there, while names go and profiles get their bytes.
use Rattle.std.proofs.Common.{◌≡◌, ℕ, Bool, true, false, List, [], ◌∷◌, ◌++◌, Option, Some, None, is_some, IfSome, if◌then◌else◌, ◌&&◌, ◌||◌, not, refl, sym, ap, ◌∙◌, subst}
use Rattle.std.specs.Prelude.{bytes_eq, Result, Ok, Err, IfOk, OnOk}
use Rattle.std.specs.List.{list_any, list_all, IsDistinct}
use Rattle.std.specs.HashMap.{get}
use Rattle.std.proofs.lemmas.List.Folds.{list_all-append}
use Rattle.std.proofs.lemmas.Slice.Eq.{bytes_eq-Decides}
use Rattle.outside.specs.Cells.{Cell}
use Rattle.publication.specs.declared.profile.Profile.{Profile}
use Rattle.publication.specs.declared.publisher.Known.{Known}
use Rattle.publication.specs.declared.publisher.Known.TheVariants.{Unread, Holds}
use Rattle.publication.specs.declared.publisher.Publisher.{Publisher}
use Rattle.publication.specs.declared.trouble.Trouble.{Trouble}
use Rattle.publication.specs.declared.trouble.Which.{Which}
use Rattle.publication.specs.declared.trouble.Which.TheVariants.{Json, Dep}
use Rattle.publication.specs.declared.trouble.Call.{Call}
use Rattle.publication.specs.declared.trouble.Call.TheVariants.{Remove, Read, Put}
use Rattle.publication.specs.declared.want.Want.{Want}
use Rattle.publication.specs.Bounds.{stays}
use Rattle.publication.specs.OwnNames.{is_own, json_name, dep_name}
use Rattle.publication.specs.Wants.{json_want, dep_want, wants_of, wanted, proper, goes}
use Rattle.publication.specs.Troubles.{called, is_removal, passes, skips, unsettles, fits_removal}
use Rattle.publication.specs.Published.{BringsFile, Holding, IsOn, MayBring, Drops, Dropping, Bringing, may_stand_in, one_or_none}
use Rattle.publication.proofs.Clearing.{any_opens, fit_removal}
use Rattle.publication.proofs.Placing.{any_more, any_same, beside, off, wanted_beside, wanted_here}
use Rattle.publication.proofs.Proper.{and_left, and_right, two_names}
use Rattle.publication.proofs.Once.{behind, not_among}

and_false : (b : Bool) → (b && false) ≡ false
and_false true = refl
and_false false = refl

and_true : (b : Bool) → (b && true) ≡ b
and_true true = refl
and_true false = refl

or_false : (b : Bool) → (b || false) ≡ b
or_false true = refl
or_false false = refl

or_true : (b : Bool) → (b || true) ≡ true
or_true true = refl
or_true false = refl

-- One name.

holding_some : (bytes : List ℕ) (k : Option Known) → Holding bytes k → is_some k ≡ true
holding_some bytes None holding = absurd holding
holding_some bytes (Some Unread) holding = absurd holding
holding_some bytes (Some (Holds b)) holding = refl

known_by : (p : Publisher) (name bytes n : List ℕ) (b : Bool) → bytes_eq name n ≡ b
    → Holding bytes (get bytes_eq p.own name) → may_stand_in p n ≡ (b || may_stand_in p n)
known_by p name bytes n true is holding =
    ap (may_stand_in p) (sym ((bytes_eq-Decides name n).0 is))
    ∙ holding_some bytes (get bytes_eq p.own name) holding
known_by p name bytes n false is holding = refl

-- a name that is known to hold bytes may be there
pub known_there : (p : Publisher) (name bytes : List ℕ) → Holding bytes (get bytes_eq p.own name)
    → (n : List ℕ) → may_stand_in p n ≡ (bytes_eq name n || may_stand_in p n)
known_there p name bytes holding n = known_by p name bytes n (bytes_eq name n) refl holding

-- The two files of a profile.

first_by : (j d passed known : Bool) (json dep : List ℕ) → (j ≡ true → d ≡ false) → passed ≡ d
    → (j || known) ≡ ((is_some (if j then Some json else if d then Some dep else None)
    && not (passed || false)) || known)
first_by true true passed known json dep apart is = let e = apart refl in cc
first_by true false true known json dep apart is = cc
first_by true false false known json dep apart is = refl
first_by false true true known json dep apart is = refl
first_by false true false known json dep apart is = cc
first_by false false passed known json dep apart is = refl

skipped : (t : Trouble) (object n : List ℕ) → t.object ≡ object → is_removal t.call ≡ false
    → t.which ≡ Json → passes n t ≡ bytes_eq (dep_name object) n
skipped t object n of kind is = rw (is, of) (by t.call kind)
  where
    by : (call : Call) → is_removal call ≡ false → (skips Json call && bytes_eq (dep_name object) n)
        ≡ bytes_eq (dep_name object) n
    by Remove kind = cc
    by Read kind = refl
    by Put kind = refl

pub first_keys : (p : Profile) (t : Trouble) (known now : List ℕ → Bool)
    → proper (wants_of (p ∷ [])) ≡ true → IsOn p.name Json t → is_removal t.call ≡ false
    → ((n : List ℕ) → now n ≡ (bytes_eq (json_name p.name) n || known n))
    → MayBring p (Some t) known now
first_keys p t known now ok on kind keys n =
    keys n ∙ first_by (bytes_eq (json_name p.name) n) (bytes_eq (dep_name p.name) n) (passes n t)
    (known n) p.json p.dep (two_names p [] n ok) (skipped t p.name n on.0 kind on.1)

second_by : (j d known mid now : Bool) (json dep : List ℕ) → mid ≡ (j || known) → now ≡ (d || mid)
    → now ≡ ((is_some (if j then Some json else if d then Some dep else None) && true) || known)
second_by true true known mid now json dep first second = second
second_by true false known mid now json dep first second = second ∙ first
second_by false true known mid now json dep first second = second
second_by false false known mid now json dep first second = second ∙ first

not_passed : (trouble : Option Trouble) (object n : List ℕ) → IfSome trouble (IsOn object Dep)
    → list_any (passes n) (one_or_none trouble) ≡ false
not_passed None object n on = refl
not_passed (Some t) object n on = rw on.1 refl

pub second_keys : (p : Profile) (trouble : Option Trouble) (known mid now : List ℕ → Bool)
    → IfSome trouble (IsOn p.name Dep) → ((n : List ℕ) → mid n
    ≡ (bytes_eq (json_name p.name) n || known n))
    → ((n : List ℕ) → now n ≡ (bytes_eq (dep_name p.name) n || mid n))
    → MayBring p trouble known now
second_keys p trouble known mid now on first second n =
    rw (not_passed trouble p.name n on) (second_by (bytes_eq (json_name p.name) n)
    (bytes_eq (dep_name p.name) n) (known n) (mid n) (now n) p.json p.dep (first n) (second n))

pub keys_result : {E : Type 0} (p : Profile) (r : Result (Option Trouble) E)
    (known mid now : List ℕ → Bool) (dep : List ℕ) (before count : ℕ) (old new : List ℕ → Cell)
    → ((n : List ℕ) → mid n ≡ (bytes_eq (json_name p.name) n || known n))
    → IfOk r (λ trouble. BringsFile p.name Dep dep trouble before count old new)
    → OnOk r ((n : List ℕ) → now n ≡ (bytes_eq (dep_name p.name) n || mid n))
    → IfOk r (λ trouble. MayBring p trouble known now)
keys_result p (Ok trouble) known mid now dep before count old new first file second =
    second_keys p trouble known mid now file.on first second
keys_result p (Err e) known mid now dep before count old new first file second = tt

-- Names go one after the other.

pub drop_begins : (ws : List Want) (gone : List (List ℕ)) (start : List ℕ → Bool)
    → ((n : List ℕ) → goes ws n ≡ true → list_any (λ m. bytes_eq m n) gone ≡ false → start n
    ≡ false) → ((n : List ℕ) → list_any (λ m. bytes_eq m n) gone ≡ true → start n ≡ true)
    → IsDistinct bytes_eq gone → Dropping ws gone [] start start
drop_begins ws gone start covers known once = record {
  removals = refl;
  keys = λ n. by n (list_any (λ m. bytes_eq m n) gone) (goes ws n) refl refl;
  fresh = λ n among. refl;
  starts = known;
  once = once;
}
  where
    by : (n : List ℕ) (a g : Bool) → list_any (λ m. bytes_eq m n) gone ≡ a → goes ws n ≡ g → start n
        ≡ (if a || not g then start n else (start n && false))
    by n true g is going = refl
    by n false true is going = covers n going is ∙ sym (and_false (start n))
    by n false false is going = refl

module _ (ws : List Want) (m : List ℕ) (rest : List (List ℕ)) (ts new_ts : List Trouble)
    (start known now : List ℕ → Bool) where
  abbrev Among : List ℕ → Bool
  Among n = list_any (λ k. bytes_eq k n) rest

  keys_by : (n : List ℕ) (b : Bool) → bytes_eq m n ≡ b → goes ws m ≡ true
      → Dropping ws (m ∷ rest) ts start known → (d : Drops m ts new_ts known now) → now n
      ≡ (if Among n || not (goes ws n) then start n else
      (start n && list_any (unsettles n) (ts ++ one_or_none d.trouble)))
  keys_by n true is going p d =
      let same : m ≡ n = (bytes_eq-Decides m n).0 is in
      let alone : Among n ≡ false = ap Among (sym same) ∙ not_among m rest p.once in
      let goes_n : goes ws n ≡ true = ap (goes ws) (sym same) ∙ going in
      let here : list_any (λ k. bytes_eq k n) (m ∷ rest) ≡ true = rw is refl in
      let began : start n ≡ true = p.starts n here in
      let none : list_any (unsettles n) ts ≡ false = p.fresh n here in
      let gone : now n ≡ is_some d.trouble = rw is at (d.keys n) in
      rw (alone, goes_n, began, any_opens ts d.trouble m n d.on, none, is)
      (gone ∙ sym (and_true (is_some d.trouble)))
  keys_by n false is going p d =
      let as_before : now n ≡ known n = rw is at (d.keys n) in
      let stood : known n ≡ (if Among n || not (goes ws n) then start n else
      (start n && list_any (unsettles n) ts)) = rw is at (p.keys n) in
      let opens : list_any (unsettles n) (ts ++ one_or_none d.trouble) ≡ list_any (unsettles n) ts =
      any_opens ts d.trouble m n d.on
      ∙ rw is (ap (λ b. list_any (unsettles n) ts || b) (and_false (is_some d.trouble))
      ∙ or_false (list_any (unsettles n) ts)) in
      rw opens (as_before ∙ stood)

  other_by : (n : List ℕ) (b : Bool) → bytes_eq m n ≡ b → Among n ≡ true
      → IsDistinct bytes_eq (m ∷ rest) → b ≡ false
  other_by n false is among once = refl
  other_by n true is among once = let f : true ≡ false =
      sym among ∙ ap Among (sym ((bytes_eq-Decides m n).0 is)) ∙ not_among m rest once in cc

  pub drop_step : goes ws m ≡ true → Dropping ws (m ∷ rest) ts start known
      → Drops m ts new_ts known now → Dropping ws rest new_ts start now
  drop_step going p d = subst (λ list. Dropping ws rest list start now) (sym d.troubles) (record {
    removals = rw (list_all-append (fits_removal ws) ts (one_or_none d.trouble), p.removals)
        (fit_removal ws d.trouble m going d.on);
    keys = λ n. keys_by n (bytes_eq m n) refl going p d;
    fresh = λ n among.
        let other : bytes_eq m n ≡ false = other_by n (bytes_eq m n) refl among p.once in
        let there : list_any (λ k. bytes_eq k n) (m ∷ rest) ≡ true = rw other among in
        any_opens ts d.trouble m n d.on ∙ rw (p.fresh n there, other)
        (and_false (is_some d.trouble));
    starts = λ n among. p.starts n (ap (λ b. bytes_eq m n || b) among ∙ or_true (bytes_eq m n));
    once = (behind m rest p.once).1;
  })

-- Profiles get their bytes one after the other.

no_pass : (ws : List Want) (t : Trouble) (n : List ℕ) → fits_removal ws t ≡ true → passes n t
    ≡ false
no_pass ws t n fits = by t.which t.call (and_left (is_removal t.call) (goes ws (called t)) fits)
  where
    by : (which : Which) (call : Call) → is_removal call ≡ true
        → (skips which call && bytes_eq (dep_name t.object) n) ≡ false
    by Json Remove is = refl
    by Dep Remove is = refl
    by which Read is = cc
    by which Put is = cc

removals_pass : (ws : List Want) (ts : List Trouble) (n : List ℕ) → list_all (fits_removal ws) ts
    ≡ true → list_any (passes n) ts ≡ false
removals_pass ws [] n all = refl
removals_pass ws (t ∷ ts) n all =
    let first : passes n t ≡ false =
    no_pass ws t n (and_left (fits_removal ws t) (list_all (fits_removal ws) ts) all) in
    rw first (removals_pass ws ts n (and_right (fits_removal ws t) (list_all (fits_removal ws) ts)
    all))

begins_by : (own w s u x : Bool) → (if not (own && not w) then s else (s && u))
    ≡ (if w then s else (if w then (s || not x) else (s && (not own || u))))
begins_by true true s u x = refl
begins_by true false s u x = refl
begins_by false true s u x = refl
begins_by false false s u x = sym (and_true s)

pub bring_begins : (ws : List Want) (ts : List Trouble) (start known : List ℕ → Bool)
    → Dropping ws [] ts start known → Bringing ws ws ts start known
bring_begins ws ts start known p = record {
  keys = λ n. p.keys n ∙ begins_by (is_own n) (is_some (wanted ws n)) (start n)
      (list_any (unsettles n) ts) (list_any (passes n) ts);
  fresh = λ n some. removals_pass ws ts n p.removals;
  same = λ n some. some;
}

off_pass : (p : Profile) (trouble : Option Trouble) (n : List ℕ)
    → IfSome trouble (λ t. (t.object ≡ p.name) × (is_removal t.call ≡ false))
    → bytes_eq (dep_name p.name) n ≡ false → list_any (passes n) (one_or_none trouble) ≡ false
off_pass p None n on ed = refl
off_pass p (Some t) n on ed =
    rw (on.0, ed) (or_false (skips t.which t.call && false) ∙ and_false (skips t.which t.call))

file_by : (w x s k : Bool) → w ≡ true → k ≡ s → ((w && not x) || k) ≡ (s || not x)
file_by false x s k is same = cc
file_by true x s k is same = rw same (turned x s)
  where
    turned : (x s : Bool) → (not x || s) ≡ (s || not x)
    turned true true = refl
    turned true false = refl
    turned false true = refl
    turned false false = refl

module _ (ws : List Want) (p : Profile) (ps : List Profile) (ts : List Trouble)
    (trouble : Option Trouble) (start known now : List ℕ → Bool) where
  abbrev All : List Want
  All = json_want p ∷ dep_want p ∷ wants_of ps

  abbrev On : Type 0
  On = IfSome trouble (λ t. (t.object ≡ p.name) × (is_removal t.call ≡ false))

  abbrev After : List ℕ → Bool
  After n = if is_some (wanted (wants_of ps) n) then start n else stays ws
      (ts ++ one_or_none trouble) start n

  abbrev none : List ℕ → Cell
  none n = None

  at_file : (n : List ℕ) {j d : Bool} → proper All ≡ true → Bringing ws All ts start known
      → MayBring p trouble known now → is_some (wanted (wants_of (p ∷ [])) n) ≡ true
      → bytes_eq (json_name p.name) n ≡ j → bytes_eq (dep_name p.name) n ≡ d → now n ≡ After n
  at_file n {j} {d} ok b brings some ej ed =
      let w = wanted_here ws p ps ts trouble 0 0 0 none none none n j d ok some ej ed in
      let pending : is_some (wanted All n) ≡ true = rw w.0 some in
      let was : known n ≡ start n = rw pending at (b.keys n) in
      let there : is_some (wanted ws n) ≡ true = b.same n pending in
      rw (w.1, there, any_more (passes n) ts trouble (b.fresh n pending))
      (brings n ∙ file_by (is_some (wanted (wants_of (p ∷ [])) n))
      (list_any (passes n) (one_or_none trouble)) (start n) (known n) some was)

  at_by : (n : List ℕ) (j d : Bool) → proper All ≡ true → Bringing ws All ts start known → On
      → MayBring p trouble known now → bytes_eq (json_name p.name) n ≡ j
      → bytes_eq (dep_name p.name) n ≡ d → now n ≡ After n
  at_by n true d ok b on brings ej ed =
      let some : is_some (wanted (wants_of (p ∷ [])) n) ≡ true = rw ej refl in
      at_file n ok b brings some ej ed
  at_by n false true ok b on brings ej ed =
      let some : is_some (wanted (wants_of (p ∷ [])) n) ≡ true = rw (ej, ed) refl in
      at_file n ok b brings some ej ed
  at_by n false false ok b on brings ej ed =
      let same : now n ≡ known n = rw (ej, ed) at (brings n) in
      let stood : known n ≡ (if is_some (wanted (wants_of ps) n) then start n else stays ws ts start
      n) = rw (wanted_beside ws p ps ts trouble 0 0 0 none none none n ej ed) at (b.keys n) in
      rw (
        any_same (passes n) ts trouble (off_pass p trouble n on ed),
        any_same (unsettles n) ts
            trouble (off p trouble n on ej ed).1,
      ) (same ∙ stood)

  pub bring_step : proper All ≡ true → Bringing ws All ts start known → On
      → MayBring p trouble known now → Bringing ws (wants_of ps) (ts ++ one_or_none trouble) start
      now
  bring_step ok b on brings = record {
    keys = λ n. at_by n (bytes_eq (json_name p.name) n) (bytes_eq (dep_name p.name) n) ok b on
        brings refl refl;
    fresh = λ n some.
        let e = beside ws p ps ts trouble 0 0 0 none none none n ok some in
        any_same (passes n) ts trouble (off_pass p trouble n on e.1)
        ∙ b.fresh n (ap is_some (wanted_beside ws p ps ts trouble 0 0 0 none none none n e.0
        e.1) ∙ some);
    same = λ n some.
        let e = beside ws p ps ts trouble 0 0 0 none none none n ok some in
        b.same n (ap is_some (wanted_beside ws p ps ts trouble 0 0 0 none none none n e.0 e.1)
        ∙ some);
  }
