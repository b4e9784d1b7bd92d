-- The check gives no fault exactly where the object is sound.
use Rattle.std.proofs.Common.{◌≡◌, ℕ, ◌+◌, Bool, true, false, cond, List, [], ◌∷◌, Option, Some, None, option_map, Result, Ok, Err, refl, subst, arith}
use Rattle.std.specs.List.{AllByRecursion}
use Rattle.path_tree.specs.Plain.{Plain, dict, list, text, long, boolean, undef, null, Items, no_items, item, Fields as Values, no_fields, field}
use Rattle.path_tree.specs.Find.{get, boolean_of}
use Rattle.path_tree.specs.declared.path.Term.{Term}
use Rattle.pan_ast.specs.declared.place.Place.{Place}
use Rattle.pan_ast.specs.declared.fault.Code.TheVariants.{FalseValid}
use Rattle.questions.specs.Contents.{Answers}
use Rattle.questions.specs.Run.{Outcome, Done, Returned, Failed, Asks, then, ◌>>=◌, give, fail_about}
use Rattle.dml_meaning.specs.Run.{Look}
use Rattle.type_defs.specs.Bindings.{Bound, Valid}
use Rattle.validate.specs.Check.{check, truth}
use Rattle.validate.specs.Checked.{first_undef, undef_in_items, undef_in_fields, or_else, undef_run, placed, bound_run, bounds_run, valid_run, valids_run, checked, absolute}
use Rattle.validate.specs.Conforms.{Conforms, EndsWith, Whole, alone, Evaluates}
use Rattle.validate.specs.Means.{Means}
use Rattle.validate.specs.Refusals.{Refusal}
use Rattle.validate.specs.Sound.{HasNoUndef, ItemsHaveNoUndef, FieldsHaveNoUndef, IsMet, IsTrueOf, IsSound, IsSpent, ChecksSoundness}
use Rattle.validate.specs.Steady.{IsSteady}
use Rattle.validate.proofs.Told.{Told, ToldLook, TellsLook, look_map, look_then, look_read}
use Rattle.validate.proofs.Conforming.{tells_check, true_value}

none_first : {X Y : Type 0} → (x : Option X) (f : X → Y) (p : Option Y) → or_else (option_map f x) p
    ≡ None → (x ≡ None) × (p ≡ None)
none_first None f p e = (refl, e)
none_first (Some x) f p e = absurd (cc)

both_none : {X Y : Type 0} → (x : Option X) (f : X → Y) (p : Option Y) → x ≡ None → p ≡ None
    → or_else (option_map f x) p ≡ None
both_none None f p e h = h
both_none (Some x) f p e h = absurd (cc)

mutual
  no_undef : (t : Plain) → first_undef t ≡ None → HasNoUndef t
  no_undef (dict fs) e = fields_no_undef fs e
  no_undef (list ts) e = items_no_undef 0 ts e
  no_undef (text bs) e = tt
  no_undef (long z) e = tt
  no_undef (boolean b) e = tt
  no_undef undef e = absurd (cc)
  no_undef null e = tt

  items_no_undef : (i : ℕ) (ts : Items) → undef_in_items i ts ≡ None → ItemsHaveNoUndef ts
  items_no_undef i no_items e = tt
  items_no_undef i (item t ts) e = let h =
      none_first (first_undef t) _ (undef_in_items (i + 1) ts) e in
      (no_undef t h.0, items_no_undef (i + 1) ts h.1)

  fields_no_undef : (fs : Values) → undef_in_fields fs ≡ None → FieldsHaveNoUndef fs
  fields_no_undef no_fields e = tt
  fields_no_undef (field k t fs) e = let h = none_first (first_undef t) _ (undef_in_fields fs) e in
      (no_undef t h.0, fields_no_undef fs h.1)

mutual
  finds_none : (t : Plain) → HasNoUndef t → first_undef t ≡ None
  finds_none (dict fs) h = fields_find_none fs h
  finds_none (list ts) h = items_find_none 0 ts h
  finds_none (text bs) h = refl
  finds_none (long z) h = refl
  finds_none (boolean b) h = refl
  finds_none undef h = absurd h
  finds_none null h = refl

  items_find_none : (i : ℕ) (ts : Items) → ItemsHaveNoUndef ts → undef_in_items i ts ≡ None
  items_find_none i no_items h = refl
  items_find_none i (item t ts) h =
      both_none (first_undef t) _ (undef_in_items (i + 1) ts) (finds_none t h.0)
      (items_find_none (i + 1) ts h.1)

  fields_find_none : (fs : Values) → FieldsHaveNoUndef fs → undef_in_fields fs ≡ None
  fields_find_none no_fields h = refl
  fields_find_none (field k t fs) h =
      both_none (first_undef t) _ (undef_in_fields fs) (finds_none t h.0) (fields_find_none fs h.1)

told_placed : (n : ℕ) (P : Type 0) (p : Place) (ms : List Term) (o : Answers)
    (z : Outcome (Unit {0}) (Result (Unit {0}) Refusal)) → Told n P z
    → ToldLook n P (then z (λ x. placed p ms x o))
told_placed n P p ms o (Done (Ok x) s m) h = h
told_placed n P p ms o (Done (Err r) s m) h = λ q. absurd (h q)
told_placed n P p ms o (Returned t s m) h = h
told_placed n P p ms o (Failed d m) h = h
told_placed n P p ms o (Asks k m) h = h

module _ (n : ℕ) (o : Answers) where
  tells_undef : (header : Place) (x : Option (List Term))
      → TellsLook n o (undef_run header x) (x ≡ None)
  tells_undef header None m l = (refl, omega arith)
  tells_undef header (Some ms) m l = λ e. absurd (cc)

  tells_holds : (p : Place) (d : List ℕ) (x : Option Bool)
      → TellsLook n o (truth p x >>= (λ holds. cond holds (give tt) (fail_about FalseValid p d)))
      (x ≡ Some true)
  tells_holds p d None m l = λ e. absurd (cc)
  tells_holds p d (Some true) m l = (refl, omega arith)
  tells_holds p d (Some false) m l = λ e. absurd (cc)

  tells_both : (P Q : Type 0) (r s : Look (Unit {0})) → TellsLook n o r P → (P → TellsLook n o s Q)
      → TellsLook n o (r >>= (λ _. s)) (P × Q)
  tells_both P Q r s h k m l = look_then n o m.left P Q (r o tt m) s l (h m l) k

  tells_same : (P Q : Type 0) (r : Look (Unit {0})) → (P → Q) → (Q → P) → TellsLook n o r P
      → TellsLook n o r Q
  tells_same P Q r f g h m l = look_map m.left P Q (r o tt m) f g (h m l)

  tells_end : TellsLook n o (give tt) (Unit {0})
  tells_end m l = (tt, omega arith)

module _ (e : Means) (w : Whole) (h : IsSteady e w) where
  tells_bound : (b : Bound) (x : Option Plain) → TellsLook w.work w.answers (bound_run e b x)
      ((v : Plain) × (x ≡ Some v) × Conforms e w b.resolved v)
  unfolding bound_run
  tells_bound b None m l = λ y. absurd (let f = y.1 in cc)
  tells_bound b (Some v) m l =
      look_map m.left (Conforms e w b.resolved v) _ (bound_run e b (Some v) w.answers tt m)
      (λ q. (v, refl, q)) (λ y. let f = y.1 in let same : y.0 ≡ v = cc in
      subst (Conforms e w b.resolved) same y.2)
      (told_placed m.left (Conforms e w b.resolved v) b.place b.terms w.answers
      (check e b.place b.resolved v w.answers tt m)
      (tells_check e w h b.place b.resolved v m l))

  tells_bounds : (root : Plain) (bs : List Bound)
      → TellsLook w.work w.answers (bounds_run e root bs) (AllByRecursion (IsMet e w root) bs)
  unfolding bounds_run
  tells_bounds root [] = tells_end w.work w.answers
  tells_bounds root (b ∷ bs) =
      tells_both w.work w.answers (IsMet e w root b) (AllByRecursion (IsMet e w root) bs)
      (bound_run e b (get b.terms root)) (bounds_run e root bs)
      (tells_same w.work w.answers _ (IsMet e w root b) (bound_run e b (get b.terms root))
      (λ y. record { value = y.0; there = y.1; conforms = y.2 })
      (λ x. (x.value, x.there, x.conforms)) (tells_bound b (get b.terms root)))
      (λ _. tells_bounds root bs)

  tells_valid : (s : Valid) (x : Option Plain) → TellsLook w.work w.answers (valid_run e s x)
      ((v : Plain) × (x ≡ Some v) × Evaluates e w s.template s.body v (boolean true))
  unfolding valid_run
  tells_valid s None m l = λ y. absurd (let f = y.1 in cc)
  tells_valid s (Some v) m l =
      look_map m.left _ _ (valid_run e s (Some v) w.answers tt m)
      (λ y. (v, refl, subst (λ t. Evaluates e w s.template s.body v t) (true_value y.0 y.2) y.1))
      (λ y. let f = y.1 in let same : y.0 ≡ v = cc in (
        boolean true,
        subst (λ u. Evaluates e w s.template s.body u (boolean true)) same y.2,
        refl,
      ))
      (look_read w.work w.answers m.left (e.dml s.template s.body v w.answers tt m)
      (alone w (e.dml s.template s.body v)) (λ t. truth s.place (boolean_of t) >>=
      (λ holds. cond holds (give tt) (fail_about FalseValid s.place (absolute s.terms))))
      (λ t. boolean_of t ≡ Some true) l (h.values s.template s.body v m l)
      (λ t _. tells_holds w.work w.answers s.place (absolute s.terms) (boolean_of t)))

  tells_valids : (root : Plain) (ss : List Valid)
      → TellsLook w.work w.answers (valids_run e root ss) (AllByRecursion (IsTrueOf e w root) ss)
  unfolding valids_run
  tells_valids root [] = tells_end w.work w.answers
  tells_valids root (s ∷ ss) =
      tells_both w.work w.answers (IsTrueOf e w root s) (AllByRecursion (IsTrueOf e w root) ss)
      (valid_run e s (get s.terms root)) (valids_run e root ss)
      (tells_same w.work w.answers _ (IsTrueOf e w root s) (valid_run e s (get s.terms root))
      (λ y. record { value = y.0; there = y.1; holds = y.2 }) (λ x. (x.value, x.there, x.holds))
      (tells_valid s (get s.terms root)))
      (λ _. tells_valids root ss)

  tells_checked : (header : Place) (root : Plain) (bs : List Bound) (ss : List Valid)
      → TellsLook w.work w.answers (checked e header root bs ss) (IsSound e w root bs ss)
  unfolding checked
  tells_checked header root bs ss =
      tells_same w.work w.answers _ (IsSound e w root bs ss) (checked e header root bs ss)
      (λ y. record { no_undef = no_undef root y.0; met = y.1.0; true_of = y.1.1 })
      (λ x. (finds_none root x.no_undef, (x.met, x.true_of)))
      (tells_both w.work w.answers (first_undef root ≡ None) _ (undef_run header (first_undef root))
      (bounds_run e root bs >>= (λ _. valids_run e root ss))
      (tells_undef w.work w.answers header (first_undef root))
      (λ _. tells_both w.work w.answers _ _ (bounds_run e root bs) (valids_run e root ss)
      (tells_bounds root bs) (λ _. tells_valids root ss)))

told_done : (n : ℕ) (P : Type 0) (z : Outcome (Unit {0}) (Unit {0})) → ToldLook n P z
    → EndsWith tt z → P × (IsSpent z → ⊥)
told_done n P (Done x s m) h d = (h.0, λ s. s)
told_done n P (Returned t s m) h d = let is = d.is in absurd (cc)
told_done n P (Failed f m) h d = let is = d.is in absurd (cc)
told_done n P (Asks k m) h d = let is = d.is in absurd (cc)

told_holds : (n : ℕ) (P : Type 0) (z : Outcome (Unit {0}) (Unit {0})) → ToldLook n P z → P
    × (IsSpent z → ⊥) → EndsWith tt z
told_holds n P (Done x s m) h w = record { meter = m; is = refl }
told_holds n P (Returned t s m) h w = absurd (h w.0)
told_holds n P (Failed f m) h w = absurd (w.1 (h w.0))
told_holds n P (Asks k m) h w = absurd (h w.0)

pub checks_soundness : ChecksSoundness
checks_soundness e w h header root bs ss m l =
    let told = tells_checked e w h header root bs ss m l in (
      told_done m.left (IsSound e w root bs ss) (checked e header root bs ss w.answers tt m) told,
      told_holds m.left (IsSound e w root bs ss) (checked e header root bs ss w.answers tt m)
          told,
    )
