-- The check of the children of a value, one after the other.
use Rattle.std.proofs.Common.{◌≡◌, ℕ, ◌+◌, ◌<◌, pos, ◌||◌, bytes_eq, is_some, Bool, true, false, cond, List, [], ◌∷◌, length, drop, get_or, Option, Some, None, option_copied, Bor, Ok, Err, refl, ap, sym, ◌∙◌}
use Rattle.std.proofs.lemmas.List.{drop_more}
use Rattle.path_tree.specs.Plain.{Plain, dict, list, text, long, boolean, undef, null}
use Rattle.path_tree.specs.Children.{child_fields, child_items, fields_from, items_from}
use Rattle.path_tree.specs.Find.{child, child_at, child_count, find_field, key_at, kind_of}
use Rattle.path_tree.specs.declared.kind.Kind.TheVariants as kind
use Rattle.path_tree.specs.declared.path.Term.TheVariants as term
use Rattle.path_tree.proofs.Children.{all_fields, all_items, dict_child, dict_end, dict_key, dict_step, list_child, list_end, list_step}
use Rattle.pan_ast.specs.declared.place.Place.{Place}
use Rattle.questions.specs.Contents.{Answers}
use Rattle.questions.specs.Run.{Meter, Done}
use Rattle.type_defs.specs.declared.resolved.Range.{Range}
use Rattle.type_defs.specs.declared.resolved.RecordField.{RecordField as RField}
use Rattle.type_defs.specs.Resolved.{Resolved, ListOf, DictOf, Record, Field, Fields, fields_of}
use Rattle.type_defs.specs.ResolvedSeen.{field_seen}
use Rattle.type_defs.specs.Tables.{all_seen}
use Rattle.validate.specs.declared.refusal.Misfit.TheVariants.{WrongType, OutOfRange}
use Rattle.validate.specs.Check.{◌>>=◌, items_run, values_run, field_run, has_key, other_key, no_other, check, shape_run, fields_run}
use Rattle.validate.specs.Checked.{or_else}
use Rattle.validate.specs.Kinds.{is_within}
use Rattle.validate.specs.Means.{Means}
use Rattle.validate.specs.Refusals.{Checks, Refusal, fine, require}
use Rattle.validate.specs.Walks.{extra_key, item_run, typed_run, value_run}

-- the value itself is of another kind
abbrev other_kind : Refusal
other_kind = record { misfit = WrongType; terms = [] }

-- what a list of a type, a dict of a type and a record are, by the kind of the value
module _ (e : Means) (p : Place) (o : Answers) (m : Meter) where
  pub list_is : (t : Resolved) (r : Range) (v : Plain) → kind_of v ≡ kind.List
      → shape_run e p (ListOf t r) v o tt m
      ≡ (require OutOfRange (is_within r (pos (child_count v))) >>=
      (λ _. items_run (check e p t) 0 (child_items v))) o tt m
  list_is t r (list ts) h = refl
  list_is t r (dict fs) h = cc
  list_is t r (text bs) h = cc
  list_is t r (long z) h = cc
  list_is t r (boolean b) h = cc
  list_is t r undef h = cc
  list_is t r null h = cc

  pub no_list : (t : Resolved) (r : Range) (v : Plain) → (kind_of v ≡ kind.List → ⊥)
      → shape_run e p (ListOf t r) v o tt m ≡ Done (Err other_kind) tt m
  no_list t r (list ts) h = absurd (h refl)
  no_list t r (dict fs) h = refl
  no_list t r (text bs) h = refl
  no_list t r (long z) h = refl
  no_list t r (boolean b) h = refl
  no_list t r undef h = refl
  no_list t r null h = refl

  pub dict_is : (t : Resolved) (r : Range) (v : Plain) → kind_of v ≡ kind.Dict
      → shape_run e p (DictOf t r) v o tt m
      ≡ (require OutOfRange (is_within r (pos (child_count v))) >>=
      (λ _. values_run (check e p t) (child_fields v))) o tt m
  dict_is t r (dict fs) h = refl
  dict_is t r (list ts) h = cc
  dict_is t r (text bs) h = cc
  dict_is t r (long z) h = cc
  dict_is t r (boolean b) h = cc
  dict_is t r undef h = cc
  dict_is t r null h = cc

  pub no_dict : (t : Resolved) (r : Range) (v : Plain) → (kind_of v ≡ kind.Dict → ⊥)
      → shape_run e p (DictOf t r) v o tt m ≡ Done (Err other_kind) tt m
  no_dict t r (dict fs) h = absurd (h refl)
  no_dict t r (list ts) h = refl
  no_dict t r (text bs) h = refl
  no_dict t r (long z) h = refl
  no_dict t r (boolean b) h = refl
  no_dict t r undef h = refl
  no_dict t r null h = refl

  pub record_is : (x : Bool) (fs : Fields) (v : Plain) → kind_of v ≡ kind.Dict
      → shape_run e p (Record x fs) v o tt m
      ≡ (fields_run e p fs (child_fields v) >>= (λ _. cond x (fine tt)
      (no_other (other_key fs (child_fields v))))) o tt m
  record_is x fs (dict gs) h = refl
  record_is x fs (list ts) h = cc
  record_is x fs (text bs) h = cc
  record_is x fs (long z) h = cc
  record_is x fs (boolean b) h = cc
  record_is x fs undef h = cc
  record_is x fs null h = cc

  pub no_record : (x : Bool) (fs : Fields) (v : Plain) → (kind_of v ≡ kind.Dict → ⊥)
      → shape_run e p (Record x fs) v o tt m ≡ Done (Err other_kind) tt m
  no_record x fs (dict gs) h = absurd (h refl)
  no_record x fs (list ts) h = refl
  no_record x fs (text bs) h = refl
  no_record x fs (long z) h = refl
  no_record x fs (boolean b) h = refl
  no_record x fs undef h = refl
  no_record x fs null h = refl

module _ (f : Plain → Checks (Unit {0})) (o : Answers) (m : Meter) where
  one_item : (i : ℕ) (v : Plain) (c : Option Plain) → kind_of v ≡ kind.List → i < child_count v
      → child_at i v ≡ c → items_run f i (items_from i v) o tt m
      ≡ (item_run f i c >>= (λ _. items_run f (i + 1) (items_from (i + 1) v))) o tt m
  unfolding items_run item_run
  one_item i v None is within child = absurd (list_child v i is within child)
  one_item i v (Some c) is within child =
      ap (λ ts. items_run f i ts o tt m) (list_step v i c is child)

  pub items_more : (i : ℕ) (v : Plain) → kind_of v ≡ kind.List → i < child_count v
      → items_run f i (items_from i v) o tt m
      ≡ (item_run f i (child_at i v) >>= (λ _. items_run f (i + 1) (items_from (i + 1) v))) o tt m
  items_more i v is within = one_item i v (child_at i v) is within refl

  pub items_end : (k i : ℕ) (v : Plain) → kind_of v ≡ kind.List → i ≡ child_count v
      → items_run f k (items_from i v) o tt m ≡ Done (Ok tt) tt m
  unfolding items_run
  items_end k i v is end = ap (λ ts. items_run f k ts o tt m) (list_end v i is end)

  one_value : (i : ℕ) (v : Plain) (k : Option (List ℕ)) (c : Option Plain) → kind_of v ≡ kind.Dict
      → i < child_count v → key_at i v ≡ k → child_at i v ≡ c
      → values_run f (fields_from i v) o tt m
      ≡ (value_run f k c >>= (λ _. values_run f (fields_from (i + 1) v))) o tt m
  unfolding values_run value_run
  one_value i v None c is within key child = absurd (dict_key v i is within key)
  one_value i v (Some k) None is within key child = absurd (dict_child v i is within child)
  one_value i v (Some k) (Some c) is within key child =
      ap (λ fs. values_run f fs o tt m) (dict_step v i k c is key child)

  pub values_more : (i : ℕ) (v : Plain) → kind_of v ≡ kind.Dict → i < child_count v
      → values_run f (fields_from i v) o tt m
      ≡ (value_run f (key_at i v) (child_at i v) >>= (λ _. values_run f (fields_from (i + 1) v))) o
      tt m
  values_more i v is within = one_value i v (key_at i v) (child_at i v) is within refl refl

  pub values_end : (i : ℕ) (v : Plain) → kind_of v ≡ kind.Dict → i ≡ child_count v
      → values_run f (fields_from i v) o tt m ≡ Done (Ok tt) tt m
  unfolding values_run
  values_end i v is end = ap (λ fs. values_run f fs o tt m) (dict_end v i is end)

pub items_start : (v : Plain) → items_from 0 v ≡ child_items v
items_start v = all_items (child_items v)

pub fields_start : (v : Plain) → fields_from 0 v ≡ child_fields v
fields_start v = all_fields (child_fields v)

-- fields of a record

pub has_more : (k : List ℕ) (fs : List RField) (i : ℕ) (f : RField) → i < length fs → f
    ≡ get_or fs i f → has_key k (fields_of (all_seen (drop i fs)))
    ≡ cond (bytes_eq (field_seen f).key k) true (has_key k (fields_of (all_seen (drop (i + 1) fs))))
has_more k fs i f h is =
    ap (λ r. has_key k (fields_of (all_seen r))) (drop_more fs i f h
    ∙ ap (λ r. r ∷ drop (i + 1) fs) (sym is))

key_in : (k : List ℕ) (v : Plain) → kind_of v ≡ kind.Dict → find_field k (child_fields v)
    ≡ child (term.Key k) v
key_in k (dict fs) h = refl
key_in k (list ts) h = cc
key_in k (text bs) h = cc
key_in k (long z) h = cc
key_in k (boolean b) h = cc
key_in k undef h = cc
key_in k null h = cc

typed_first : (e : Means) (p : Place) (f : Field) (fs : List Field) (v : Plain) (o : Answers)
    (m : Meter) → kind_of v ≡ kind.Dict → fields_run e p (fields_of (f ∷ fs)) (child_fields v) o tt
    m ≡ (typed_run e p f v >>= (λ _. fields_run e p (fields_of fs) (child_fields v))) o tt m
typed_first e p f fs v o m h =
    ap (λ x. (field_run f.key f.required (check e p f.resolved) x >>=
    (λ _. fields_run e p (fields_of fs) (child_fields v))) o tt m) (key_in f.key v h)

pub typed_more : (e : Means) (p : Place) (fs : List RField) (i : ℕ) (f : RField) (v : Plain)
    (o : Answers) (m : Meter) → kind_of v ≡ kind.Dict → i < length fs → f ≡ get_or fs i f
    → fields_run e p (fields_of (all_seen (drop i fs))) (child_fields v) o tt m
    ≡ (typed_run e p (field_seen f) v >>= (λ _. fields_run e p
    (fields_of (all_seen (drop (i + 1) fs))) (child_fields v))) o tt m
typed_more e p fs i f v o m d h is =
    ap (λ r. fields_run e p (fields_of (all_seen r)) (child_fields v) o tt m)
    (drop_more fs i f h ∙ ap (λ r. r ∷ drop (i + 1) fs) (sym is))
    ∙ typed_first e p (field_seen f) (all_seen (drop (i + 1) fs)) v o m d

one_key : (b : Bool) (k : List ℕ) (x : Option (List ℕ)) → cond b x (Some k)
    ≡ or_else (cond b None (Some k)) x
one_key true k x = refl
one_key false k x = refl

one_other : (fs : Fields) (i : ℕ) (v : Plain) (k : Option (List ℕ)) (c : Option Plain) → kind_of v
    ≡ kind.Dict → i < child_count v → key_at i v ≡ k → child_at i v ≡ c
    → other_key fs (fields_from i v) ≡ or_else (extra_key fs k)
    (other_key fs (fields_from (i + 1) v))
one_other fs i v None c is within key child = absurd (dict_key v i is within key)
one_other fs i v (Some k) None is within key child = absurd (dict_child v i is within child)
one_other fs i v (Some k) (Some c) is within key child =
    ap (other_key fs) (dict_step v i k c is key child)
    ∙ one_key (has_key k fs) k (other_key fs (fields_from (i + 1) v))

-- the key at i, and those after it
pub other_more : (fs : Fields) (i : ℕ) (v : Plain) → kind_of v ≡ kind.Dict → i < child_count v
    → other_key fs (fields_from i v) ≡ or_else (extra_key fs (key_at i v))
    (other_key fs (fields_from (i + 1) v))
other_more fs i v is within = one_other fs i v (key_at i v) (child_at i v) is within refl refl

pub other_end : (fs : Fields) (i : ℕ) (v : Plain) → kind_of v ≡ kind.Dict → i ≡ child_count v
    → other_key fs (fields_from i v) ≡ None
other_end fs i v is end = ap (other_key fs) (dict_end v i is end)

-- the key at i is that of no field
pub other_found : (fs : Fields) (i : ℕ) (v : Plain) (k : Option (List ℕ)) → kind_of v ≡ kind.Dict
    → i < child_count v → k ≡ extra_key fs (key_at i v) → is_some k ≡ true → k
    ≡ other_key fs (fields_from i v)
other_found fs i v None is within same some = absurd (cc)
other_found fs i v (Some k) is within same some =
    sym (other_more fs i v is within ∙ ap (λ x. or_else x (other_key fs (fields_from (i + 1) v)))
    (sym same))

-- the key at i is that of a field
pub other_on : (fs : Fields) (i : ℕ) (v : Plain) (k : Option (List ℕ)) → kind_of v ≡ kind.Dict
    → i < child_count v → k ≡ extra_key fs (key_at i v) → is_some k ≡ false
    → other_key fs (fields_from (i + 1) v) ≡ other_key fs (fields_from i v)
other_on fs i v None is within same none =
    sym (other_more fs i v is within ∙ ap (λ x. or_else x (other_key fs (fields_from (i + 1) v)))
    (sym same))
other_on fs i v (Some k) is within same none = absurd (cc)

pub copied_some : {X : Type 0} → (x : Option (Bor X)) → is_some (option_copied x) ≡ is_some x
copied_some None = refl
copied_some (Some x) = refl

-- one key more in the set, of those that are left
pub keys_step : (b held rest : Bool) → (cond b true held || rest) ≡ (held || cond b true rest)
keys_step true true rest = refl
keys_step true false rest = refl
keys_step false held rest = refl
