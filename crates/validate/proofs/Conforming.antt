-- The check of a value tells whether it conforms.
use Rattle.std.proofs.Common.{◌≡◌, ℕ, ◌+◌, pos, Bool, true, false, cond, List, Option, Some, None, refl, sym, ◌∙◌, ap, subst}
use Rattle.path_tree.specs.Plain.{Plain, dict, list, text, long, boolean, undef, null, Items, no_items, item, Fields as Values, no_fields, field}
use Rattle.path_tree.specs.Find.{item_count, field_count, find_field, kind_of, text_of, boolean_of}
use Rattle.path_tree.specs.declared.path.Path.{Path}
use Rattle.path_tree.specs.declared.path.Term.TheVariants as term
use Rattle.pan_ast.specs.declared.place.Place.{Place}
use Rattle.pan_ast.specs.Syntax.{Item}
use Rattle.questions.specs.Contents.{Answers}
use Rattle.questions.specs.Run.{Outcome, Done, Returned, Failed, Asks, Meter, then}
use Rattle.dml_meaning.specs.Lookups.{Looked, NoObject, Nothing, There}
use Rattle.dml_meaning.specs.Run.{Look}
use Rattle.type_defs.specs.Resolved.{Resolved, Known, Shape, OfBase, Named, Ranged, ListOf, DictOf, Link, Record, Choice, Fields, none, more}
use Rattle.validate.specs.declared.refusal.Misfit.TheVariants.{WrongType, OutOfRange, MissingField, FalseTest}
use Rattle.validate.specs.Check.{◌>>=◌, truth, condition_run, target_run, items_run, values_run, field_run, has_key, other_key, no_other, check, shape_run, fields_run}
use Rattle.validate.specs.Conforms.{EndsWith, Whole, alone, Evaluates, Sees, Meets, AllItems, AllValues, HasOnly, HasField, IsListOf, IsDictOf, IsLinkTo, IsRecord, IsOneOf, Conforms, Fits, HasFields}
use Rattle.validate.specs.Kinds.{is_of, is_within, is_in, is_among, link_path, items_in, fields_in}
use Rattle.validate.specs.Means.{Means, found_run, value_there}
use Rattle.validate.specs.Refusals.{Checks, fine, refuse, reading, require, or_refuse, below, behind, unless_refused}
use Rattle.validate.specs.Steady.{IsSteady}
use Rattle.validate.proofs.Told.{Told, Tells, told_map, tells_map, tells_then, tells_fine, tells_require, tells_visit, tells_below, tells_behind, tells_read, tells_found}

pub true_value : (t : Plain) → boolean_of t ≡ Some true → t ≡ boolean true
true_value (boolean b) e = let same : b ≡ true = cc in ap boolean same
true_value (dict fs) e = cc
true_value (list ts) e = cc
true_value (text bs) e = cc
true_value (long z) e = cc
true_value undef e = cc
true_value null e = cc

list_in : (v : Plain) (ts : Items) → items_in v ≡ Some ts → v ≡ list ts
list_in (list us) ts e = let same : us ≡ ts = cc in ap list same
list_in (dict fs) ts e = cc
list_in (text bs) ts e = cc
list_in (long z) ts e = cc
list_in (boolean b) ts e = cc
list_in undef ts e = cc
list_in null ts e = cc

dict_in : (v : Plain) (fs : Values) → fields_in v ≡ Some fs → v ≡ dict fs
dict_in (dict gs) fs e = let same : gs ≡ fs = cc in ap dict same
dict_in (list ts) fs e = cc
dict_in (text bs) fs e = cc
dict_in (long z) fs e = cc
dict_in (boolean b) fs e = cc
dict_in undef fs e = cc
dict_in null fs e = cc

text_in : (v : Plain) (bs : List ℕ) → text_of v ≡ Some bs → v ≡ text bs
text_in (text cs) bs e = let same : cs ≡ bs = cc in ap text same
text_in (list ts) bs e = cc
text_in (dict fs) bs e = cc
text_in (long z) bs e = cc
text_in (boolean b) bs e = cc
text_in undef bs e = cc
text_in null bs e = cc

-- the run that reads, then refuses nothing: one run after another is one
then_then : {X Y Z : Type 0} → (z : Outcome (Unit {0}) X)
    (f : X → Unit {0} → Meter → Outcome (Unit {0}) Y)
    (g : Y → Unit {0} → Meter → Outcome (Unit {0}) Z) → then (then z f) g
    ≡ then z (λ x s m. then (f x s m) g)
then_then (Done x s m) f g = refl
then_then (Returned t s m) f g = refl
then_then (Failed d m) f g = refl
then_then (Asks k m) f g = refl

-- n: the most work that a run begins with; o: what it is told
module _ (n : ℕ) (o : Answers) where
  -- each item: where the run of one tells of P
  tells_items : (f : Plain → Checks (Unit {0})) (P : Plain → Type 0)
      → ((v : Plain) → Tells n o (f v) (P v)) → (i : ℕ) (ts : Items)
      → Tells n o (items_run f i ts) (AllItems P ts)
  unfolding items_run
  tells_items f P h i no_items = tells_fine n o
  tells_items f P h i (item t ts) =
      tells_then n o (P t) (AllItems P ts) (below (term.Index i) (f t)) (items_run f (i + 1) ts)
      (tells_below n o (P t) (term.Index i) (f t) (h t)) (λ _. tells_items f P h (i + 1) ts)

  tells_values : (f : Plain → Checks (Unit {0})) (P : Plain → Type 0)
      → ((v : Plain) → Tells n o (f v) (P v)) → (fs : Values)
      → Tells n o (values_run f fs) (AllValues P fs)
  unfolding values_run
  tells_values f P h no_fields = tells_fine n o
  tells_values f P h (field k t fs) =
      tells_then n o (P t) (AllValues P fs) (below (term.Key k) (f t)) (values_run f fs)
      (tells_below n o (P t) (term.Key k) (f t) (h t)) (λ _. tells_values f P h fs)

  tells_absent : (k : List ℕ) (required : Bool)
      → Tells n o (cond required (below (term.Key k) (refuse MissingField)) (fine tt))
      (required ≡ false)
  tells_absent k true m l = λ e. absurd (cc)
  tells_absent k false m l =
      tells_map n o (Unit {0}) _ (fine tt) (λ _. refl) (λ _. tt) (tells_fine n o) m l

  tells_field : (f : Plain → Checks (Unit {0})) (P : Plain → Type 0)
      → ((v : Plain) → Tells n o (f v) (P v)) → (k : List ℕ) (required : Bool) (x : Option Plain)
      → Tells n o (field_run k required f x) (HasField required P x)
  unfolding field_run
  tells_field f P h k required None = tells_absent k required
  tells_field f P h k required (Some v) = tells_below n o (P v) (term.Key k) (f v) (h v)

  tells_true : (p : Place) (x : Option Bool) → Tells n o (reading (truth p x) (require FalseTest))
      (x ≡ Some true)
  tells_true p None m l = λ e. absurd (cc)
  tells_true p (Some b) m l =
      tells_map n o (b ≡ true) _ (require FalseTest b) (λ e. ap Some e) (λ e. cc)
      (tells_require n o FalseTest b) m l

  tells_key : (b : Bool) (k : List ℕ) (x : Option (List ℕ)) (R : Type 0) → Tells n o (no_other x) R
      → Tells n o (no_other (cond b x (Some k))) ((b ≡ true) × R)
  tells_key true k x R h m l =
      told_map m.left R _ (no_other x o tt m) (λ r. (refl, r)) (λ y. y.1) (h m l)
  tells_key false k x R h m l = λ y. absurd (let e = y.0 in cc)

  tells_only : (fs : Fields) (gs : Values) → Tells n o (no_other (other_key fs gs)) (HasOnly fs gs)
  tells_only fs no_fields = tells_fine n o
  tells_only fs (field k t gs) =
      tells_key (has_key k fs) k (other_key fs gs) (HasOnly fs gs) (tells_only fs gs)

  tells_closed : (extensible : Bool) (s : Checks (Unit {0})) (P : Type 0) → Tells n o s P
      → Tells n o (cond extensible (fine tt) s) (extensible ≡ false → P)
  tells_closed true s P h m l =
      told_map m.left (Unit {0}) _ (fine tt o tt m) (λ _ e. absurd (cc)) (λ _. tt)
      (tells_fine n o m l)
  tells_closed false s P h m l = told_map m.left P _ (s o tt m) (λ p _. p) (λ f. f refl) (h m l)

  -- what a look finds: a value for which the run tells of P
  tells_seen : (looked : Looked) (f : Plain → Checks (Unit {0})) (P : Plain → Type 0)
      → ((v : Plain) → Tells n o (f v) (P v)) → Tells n o
      (or_refuse WrongType (value_there looked) >>= f) ((v : Plain) × (looked ≡ There v) × P v)
  tells_seen (NoObject name) f P h m l = λ y. absurd (let e = y.1 in cc)
  tells_seen Nothing f P h m l = λ y. absurd (let e = y.1 in cc)
  tells_seen (There v) f P h m l =
      told_map m.left (P v) _ (f v o tt m) (λ q. (v, refl, q))
      (λ y. let e = y.1 in let same : y.0 ≡ v = cc in subst P same y.2) (h v m l)

module _ (e : Means) (w : Whole) (h : IsSteady e w) where
  tells_condition : (p : Place) (c : Option Item) (template : List ℕ) (v : Plain)
      → Tells w.work w.answers (condition_run e p c template v) (Meets e w c template v)
  unfolding condition_run
  tells_condition p None template v = tells_fine w.work w.answers
  tells_condition p (Some i) template v =
      tells_map w.work w.answers _ (Evaluates e w template i v (boolean true))
      (condition_run e p (Some i) template v)
      (λ y. subst (λ t. Evaluates e w template i v t) (true_value y.0 y.2) y.1)
      (λ g. (boolean true, g, refl))
      (tells_read w.work w.answers (e.dml template i v) (alone w (e.dml template i v))
      (λ t. reading (truth p (boolean_of t)) (require FalseTest))
      (λ t. boolean_of t ≡ Some true) (h.values template i v)
      (λ t _. tells_true w.work w.answers p (boolean_of t)))

  tells_target : (p : Place) (x : Option Path) (f : Plain → Checks (Unit {0})) (P : Plain → Type 0)
      → ((v : Plain) → Tells w.work w.answers (f v) (P v))
      → Tells w.work w.answers (target_run e p x >>= f)
      ((path : Path) × (x ≡ Some path) × (v : Plain) × Sees e w path v × P v)
  unfolding target_run found_run
  tells_target p None f P k m l = λ y. absurd (let d = y.1 in cc)
  tells_target p (Some path) f P k m l =
      let look : Look Looked = e.look p path in
      let o : Answers = w.answers in
      let on : Looked → Checks (Unit {0}) = λ x. or_refuse WrongType (value_there x) >>= f in
      let same : (target_run e p (Some path) >>= f) o tt m ≡ reading look on o tt m =
      ap (λ z. then z (λ x. unless_refused f x o)) (then_then (look o tt m) _ _)
      ∙ then_then (look o tt m) _ _ in
      subst (Told m.left _) (sym same) (tells_map w.work o _ _ (reading look on)
      (λ y. (
        path,
        refl,
        y.2.0,
        (λ q. subst (λ x. EndsWith x (alone w (e.look q path))) y.2.1
            (h.anywhere p q path y.0 y.1)),
        y.2.2,
      ))
      (λ y. let here = y.1 in let at : y.0 ≡ path = cc in
      (There y.2, subst (λ q. Sees e w q y.2) at y.3 p, (y.2, refl, y.4)))
      (tells_read w.work o look (alone w look) on (λ x. (v : Plain) × (x ≡ There v) × P v)
      (h.looks p path) (λ x _. tells_seen w.work o x f P k)) m l)

  mutual
    pub tells_check : (p : Place) (t : Resolved) (v : Plain)
        → Tells w.work w.answers (check e p t v) (Conforms e w t v)
    tells_check p (Known s c template d) v =
        tells_visit w.work w.answers (Fits e w s v × Meets e w c template v) p
        (shape_run e p s v >>= (λ _. condition_run e p c template v))
        (tells_then w.work w.answers (Fits e w s v) (Meets e w c template v) (shape_run e p s v)
        (condition_run e p c template v) (tells_shape p s v)
        (λ _. tells_condition p c template v))

    tells_shape : (p : Place) (s : Shape) (v : Plain)
        → Tells w.work w.answers (shape_run e p s v) (Fits e w s v)
    tells_shape p (OfBase b) v = tells_require w.work w.answers WrongType (is_of b (kind_of v))
    tells_shape p (Named t) v = tells_check p t v
    tells_shape p (Ranged t r) v =
        tells_then w.work w.answers (Conforms e w t v) (is_in r v ≡ true) (check e p t v)
        (require OutOfRange (is_in r v)) (tells_check p t v)
        (λ _. tells_require w.work w.answers OutOfRange (is_in r v))
    tells_shape p (ListOf t r) v =
        tells_map w.work w.answers _ (IsListOf (Conforms e w t) r v) (shape_run e p (ListOf t r) v)
        (λ y. record { items = y.0; is = list_in v y.0 y.1; count = y.2.0; each = y.2.1 })
        (λ x. (x.items, ap items_in x.is, (x.count, x.each)))
        (tells_found w.work w.answers WrongType (items_in v)
        (λ ts. require OutOfRange (is_within r (pos (item_count ts))) >>=
        (λ _. items_run (check e p t) 0 ts)) (λ ts. (is_within r (pos (item_count ts)) ≡ true)
        × AllItems (Conforms e w t) ts)
        (λ ts _. tells_then w.work w.answers (is_within r (pos (item_count ts)) ≡ true)
        (AllItems (Conforms e w t) ts) (require OutOfRange (is_within r (pos (item_count ts))))
        (items_run (check e p t) 0 ts) (tells_require w.work w.answers OutOfRange
        (is_within r (pos (item_count ts)))) (λ _. tells_items w.work w.answers (check e p t)
        (Conforms e w t) (tells_check p t) 0 ts)))
    tells_shape p (DictOf t r) v =
        tells_map w.work w.answers _ (IsDictOf (Conforms e w t) r v) (shape_run e p (DictOf t r) v)
        (λ y. record { fields = y.0; is = dict_in v y.0 y.1; count = y.2.0; each = y.2.1 })
        (λ x. (x.fields, ap fields_in x.is, (x.count, x.each)))
        (tells_found w.work w.answers WrongType (fields_in v)
        (λ fs. require OutOfRange (is_within r (pos (field_count fs))) >>=
        (λ _. values_run (check e p t) fs)) (λ fs. (is_within r (pos (field_count fs)) ≡ true)
        × AllValues (Conforms e w t) fs)
        (λ fs _. tells_then w.work w.answers (is_within r (pos (field_count fs)) ≡ true)
        (AllValues (Conforms e w t) fs) (require OutOfRange
        (is_within r (pos (field_count fs)))) (values_run (check e p t) fs)
        (tells_require w.work w.answers OutOfRange (is_within r (pos (field_count fs))))
        (λ _. tells_values w.work w.answers (check e p t) (Conforms e w t) (tells_check p t)
        fs)))
    tells_shape p (Link t) v =
        tells_map w.work w.answers _ (IsLinkTo e w (Conforms e w t) v) (shape_run e p (Link t) v)
        (λ y. record { path = y.0; is = y.1; target = y.2; there = y.3; fits = y.4 })
        (λ x. (x.path, x.is, x.target, x.there, x.fits))
        (tells_target p (link_path v) (λ x. behind (check e p t x)) (Conforms e w t)
        (λ x. tells_behind w.work w.answers (Conforms e w t x) (check e p t x)
        (tells_check p t x)))
    tells_shape p (Record b fs) v =
        tells_map w.work w.answers _ (IsRecord b fs (HasFields e w fs) v)
        (shape_run e p (Record b fs) v)
        (λ y. record { fields = y.0; is = dict_in v y.0 y.1; each = y.2.0; only = y.2.1 })
        (λ x. (x.fields, ap fields_in x.is, (x.each, x.only)))
        (tells_found w.work w.answers WrongType (fields_in v)
        (λ gs. fields_run e p fs gs >>= (λ _. cond b (fine tt) (no_other (other_key fs gs))))
        (λ gs. HasFields e w fs gs × (b ≡ false → HasOnly fs gs))
        (λ gs _. tells_then w.work w.answers (HasFields e w fs gs) (b ≡ false → HasOnly fs gs)
        (fields_run e p fs gs) (cond b (fine tt) (no_other (other_key fs gs)))
        (tells_fields p fs gs) (λ _. tells_closed w.work w.answers b
        (no_other (other_key fs gs)) (HasOnly fs gs) (tells_only w.work w.answers fs gs))))
    tells_shape p (Choice texts) v =
        tells_map w.work w.answers _ (IsOneOf texts v) (shape_run e p (Choice texts) v)
        (λ y. record { bytes = y.0; is = text_in v y.0 y.1; among = y.2 })
        (λ x. (x.bytes, ap text_of x.is, x.among))
        (tells_found w.work w.answers WrongType (text_of v)
        (λ bs. require OutOfRange (is_among bs texts)) (λ bs. is_among bs texts ≡ true)
        (λ bs _. tells_require w.work w.answers OutOfRange (is_among bs texts)))

    tells_fields : (p : Place) (fs : Fields) (gs : Values)
        → Tells w.work w.answers (fields_run e p fs gs) (HasFields e w fs gs)
    tells_fields p none gs = tells_fine w.work w.answers
    tells_fields p (more k r t fs) gs =
        tells_then w.work w.answers _ (HasFields e w fs gs)
        (field_run k r (check e p t) (find_field k gs)) (fields_run e p fs gs)
        (tells_field w.work w.answers (check e p t) (Conforms e w t) (tells_check p t) k r
        (find_field k gs)) (λ _. tells_fields p fs gs)
