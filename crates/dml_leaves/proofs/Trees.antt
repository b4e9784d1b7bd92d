-- Values by kind, by index, and by the size of their lists.
use Rattle.std.proofs.Common.{◌≡◌, ◌≢◌, ◌∙◌, ap, sym, refl, ℕ, zero, suc, ◌+◌, ◌<◌, List, [], ◌∷◌, ◌++◌, length, drop, get_or, true, false, Result, Err, pos, unwrap_or, Option, Some, None, IfSome, option_and_then, arith}
use Rattle.std.proofs.lemmas.List.{drop_more}
use Rattle.path_tree.specs.Plain.{Plain, dict, list, text, long, boolean, undef, null, Fields, no_fields, field}
use Rattle.path_tree.specs.Refusals.{put_refusal}
use Rattle.path_tree.proofs.Counts.{few_children}
use Rattle.path_tree.proofs.Growing.{get_push}
use Rattle.path_tree.specs.Find.{child, child_count, field_count, field_key_at, key_at, get, text_of, long_of}
use Rattle.path_tree.specs.declared.path.Term.{Term}
use Rattle.path_tree.specs.declared.path.PutError.{PutError}
use Rattle.path_tree.specs.declared.path.PutError.TheVariants as put_error
use Rattle.dml_leaves.specs.declared.indexes.Unchanged.{Unchanged}
use Rattle.dml_leaves.specs.Changes.{IsRefusal, IsUnput}
use Rattle.pan_ast.specs.declared.syntax.Item.{Item as RItem}
use Rattle.pan_ast.specs.Seen.{items_seen}
use Rattle.dml_meaning.specs.Indexes.{changed, changed_at, put_code, term_for, terms_from}
use Rattle.pan_ast.specs.declared.fault.Code.TheVariants.{BadIndex}
use Rattle.dml_meaning.specs.Values.{is_nothing}
use Rattle.dml_meaning.specs.Names.{no_indexes}
use Rattle.dml_meaning.specs.Loops.{key_value}

-- what is no text and no long is no index
pub other_term : (k : Plain) (t : Option Plain) → text_of k ≡ None → long_of k ≡ None → term_for k t
    ≡ None
other_term (text bs) t h g = absurd cc
other_term (long z) t h g = absurd cc
other_term (dict fs) t h g = refl
other_term (list ts) t h g = refl
other_term (boolean b) t h g = refl
other_term undef t h g = refl
other_term null t h g = refl

-- what passes no test of null is not null
pub is_value : (t : Plain) → is_nothing t ≡ false → t ≢ null
is_value null h e = absurd cc
is_value (dict fs) h e = absurd cc
is_value (list ts) h e = absurd cc
is_value (text bs) h e = absurd cc
is_value (long z) h e = absurd cc
is_value (boolean b) h e = absurd cc
is_value undef h e = absurd cc

unput_by : (e : PutError) (u : Unchanged) (r : Result Plain PutError)
    → IsRefusal u (put_code (Err e)) → r ≡ Err e → IsRefusal u (put_code r)
unput_by e u r h k = rw k h

-- a put that was refused
pub unput : (e : PutError) (u : Unchanged) (r : Result Plain PutError) → IsUnput e u
    → IfSome (put_refusal e) (λ f. r ≡ Err f) → IsRefusal u (put_code r)
unput put_error.Memory u r h k = rw h tt
unput (put_error.ThroughProperty n) u r h k = unput_by (put_error.ThroughProperty n) u r h k
unput put_error.KeyInList u r h k = unput_by put_error.KeyInList u r h k
unput put_error.IndexInDict u r h k = unput_by put_error.IndexInDict u r h k
unput put_error.TooLarge u r h k = unput_by put_error.TooLarge u r h k
unput put_error.TooHigh u r h k = unput_by put_error.TooHigh u r h k

pub ruleset puts = (is_value, unput)

-- the key of a child
pub key_some : (i : ℕ) (t : Plain) (k : List ℕ) → key_at i t ≡ Some k → key_value i t ≡ text k
key_some i (dict fs) k h = ap (λ o. text (unwrap_or o [])) h
key_some i (list ts) k h = absurd cc
key_some i (text bs) k h = absurd cc
key_some i (long z) k h = absurd cc
key_some i (boolean b) k h = absurd cc
key_some i undef k h = absurd cc
key_some i null k h = absurd cc

no_key : (fs : Fields) (i : ℕ) → i < field_count fs → field_key_at i fs ≡ None → ⊥
no_key no_fields i h e = omega arith
no_key (field k t fs) zero h e = cc
no_key (field k t fs) (suc i) h e = no_key fs i (omega arith) e

pub key_none : (i : ℕ) (t : Plain) → key_at i t ≡ None → i < child_count t → key_value i t
    ≡ long (pos i)
key_none i (dict fs) h k = absurd (no_key fs i k h)
key_none i (list ts) h k = refl
key_none i (text bs) h k = refl
key_none i (long z) h k = refl
key_none i (boolean b) h k = refl
key_none i undef h k = refl
key_none i null h k = refl

pub ruleset keys = (key_some, key_none, few_children)

terms_more : (done : List Term) (ks : List Plain) (i : ℕ) (k : Plain) (t : Option Plain)
    → i < length ks → k ≡ get_or ks i k → terms_from done (drop i ks) t
    ≡ option_and_then (λ m. terms_from (done ++ m ∷ []) (drop (i + 1) ks)
    (option_and_then (λ u. child m u) t)) (term_for k t)
terms_more done ks i k t h is =
    ap (λ ls. terms_from done ls t) (drop_more ks i k h ∙ ap (λ y. y ∷ drop (i + 1) ks) (sym is))

-- a term more
pub terms_step : (done new : List Term) (ks : List Plain) (i : ℕ) (k v : Plain) (m : Term)
    → i < length ks → k ≡ get_or ks i k → term_for k (get done v) ≡ Some m → new ≡ done ++ m ∷ []
    → terms_from new (drop (i + 1) ks) (get new v) ≡ terms_from done (drop i ks) (get done v)
terms_step done new ks i k v m h is e n =
    rw n (ap (terms_from (done ++ m ∷ []) (drop (i + 1) ks)) (get_push done m v)
    ∙ sym (terms_more done ks i k (get done v) h is ∙ rw e refl))

-- no term
pub terms_none : (done : List Term) (ks : List Plain) (i : ℕ) (k v : Plain) → i < length ks → k
    ≡ get_or ks i k → term_for k (get done v) ≡ None → terms_from done (drop i ks) (get done v)
    ≡ None
terms_none done ks i k v h is e = terms_more done ks i k (get done v) h is ∙ rw e refl

pub ruleset terms = (terms_step, terms_none)

-- a change at one index is one at its term
pub at_term : (k v t : Plain) (m : Term) → term_for k (Some t) ≡ Some m → changed (k ∷ []) v t
    ≡ changed_at (Some (m ∷ [])) v t
at_term k v t m h = rw h refl

pub at_no_term : (k v t : Plain) → term_for k (Some t) ≡ None → changed (k ∷ []) v t ≡ Err BadIndex
at_no_term k v t h = rw h refl

pub ruleset lone_index = (at_term, at_no_term)

-- the one key of a list
pub one_key : (ks : List Plain) (k v t : Plain) → length ks ≡ 1 → k ≡ get_or ks 0 k
    → changed ks v t ≡ changed (k ∷ []) v t
one_key [] k v t h e = absurd (omega arith)
one_key (j ∷ []) k v t h e = ap (λ i. changed (i ∷ []) v t) (sym e)
one_key (j ∷ i ∷ ks) k v t h e = absurd (omega arith)

-- there is an index, or none
pub some_indexes : (is : List RItem) → length is ≢ 0 → no_indexes (items_seen is) ≡ false
some_indexes [] h = absurd (h refl)
some_indexes (i ∷ is) h = refl

pub none_indexes : (is : List RItem) → length is ≡ 0 → no_indexes (items_seen is) ≡ true
none_indexes [] h = refl
none_indexes (i ∷ is) h = absurd (omega arith)

pub ruleset whole = (some_indexes, none_indexes)
