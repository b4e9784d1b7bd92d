-- Files that are asked, and the texts of a list.
use Rattle.std.proofs.Common.{◌≡◌, ◌∙◌, ap, sym, refl, ℕ, zero, suc, ◌+◌, ◌<◌, ◌≤◌, Bool, true, false, List, [], ◌∷◌, ◌++◌, append_assoc, append-nil, length, drop, get_or, Option, Some, None, option_map, option_and_then, arith}
use Rattle.std.specs.Option.{option_map_or}
use Rattle.std.proofs.lemmas.List.{drop_more}
use Rattle.path_tree.specs.Plain.{Plain, dict, list, text, long, boolean, undef, null, Items, no_items, item}
use Rattle.path_tree.specs.Find.{child_at, child_count, item_at, item_count, text_of}
use Rattle.path_tree.specs.Lists.{items_in}
use Rattle.pan_ast.specs.declared.place.Place.{Place}
use Rattle.questions.specs.declared.key.Key.{Key}
use Rattle.questions.specs.Contents.{Content, TooLong, Bytes, Answers, with_key}
use Rattle.questions.specs.Run.{Meter, noted, Outcome, Done, answered, then}
use Rattle.dml_meaning.specs.Values.{is_list}
use Rattle.dml_meaning.specs.Lookups.{Present, Long, Whole, present, tried, or_next, first_present, texts_in, with_text, load_path}
use Rattle.dml_world.specs.declared.world.Seen.{Seen}
use Rattle.dml_world.specs.declared.world.Seen.TheVariants as seen
use Rattle.questions.specs.Told.{LeavesAtMost, only, beyond}
use Rattle.questions.proofs.Parts.{beyond_grows, only_asked, only_none}
use Rattle.dml_meaning.proofs.Leaving.{first_leaves}
use Rattle.dml_world.specs.Answers.{seen_of, bytes_in}
use Rattle.dml_world.specs.declared.stop.Stop.{Stop}
use Rattle.dml_world.specs.Exits.{Stops}
use Rattle.dml_world.proofs.Ends.{stops_then}

-- what comes of an answer that is known
abbrev with_answer : Option Content → Key → List ℕ → Meter → Outcome (Unit {0}) (Option Present)
with_answer o k f m = then (answered {S = Unit {0}} o k tt m) (λ c. Done (present f c))

-- a key that was asked has its answer
pub answer_told : {S : Type 0} → (keys : Key → Bool) (o : Answers) (k : Key) (s : S) (m : Meter)
    → beyond keys (with_key k m.asked) ≡ 0 → answered (only keys o k) k s m ≡ answered (o k) k s m
answer_told keys o k s m h = ap (λ a. answered a k s m) (only_asked keys o k m.asked h)

pub missing_answer : (o : Option Content) (k : Key) (f : List ℕ) (m : Meter) → option_map seen_of o
    ≡ Some seen.Missing → with_answer o k f m ≡ Done None tt (noted k m)
missing_answer None k f m e = let clash : ◌≡◌ {A = Option Seen} None (Some seen.Missing) = e in cc
missing_answer (Some TooLong) k f m e =
    let clash : ◌≡◌ {A = Option Seen} (Some seen.TooLong) (Some seen.Missing) = e in cc
missing_answer (Some (Bytes bs)) k f m e =
    let clash : ◌≡◌ {A = Option Seen} (Some seen.There) (Some seen.Missing) = e in cc
missing_answer (Some c) k f m e = refl

pub there_answer : (o : Option Content) (k : Key) (f : List ℕ) (m : Meter) → option_map seen_of o
    ≡ Some seen.There → with_answer o k f m ≡ Done (Some (Whole f (option_map_or bytes_in o []))) tt
    (noted k m)
there_answer None k f m e = let clash : ◌≡◌ {A = Option Seen} None (Some seen.There) = e in cc
there_answer (Some TooLong) k f m e =
    let clash : ◌≡◌ {A = Option Seen} (Some seen.TooLong) (Some seen.There) = e in cc
there_answer (Some (Bytes bs)) k f m e = refl
there_answer (Some c) k f m e =
    let clash : ◌≡◌ {A = Option Seen} (Some seen.Missing) (Some seen.There) = e in cc

pub long_answer : (o : Option Content) (k : Key) (f : List ℕ) (m : Meter) → option_map seen_of o
    ≡ Some seen.TooLong → with_answer o k f m ≡ Done (Some (Long f)) tt (noted k m)
long_answer None k f m e = let clash : ◌≡◌ {A = Option Seen} None (Some seen.TooLong) = e in cc
long_answer (Some TooLong) k f m e = refl
long_answer (Some (Bytes bs)) k f m e =
    let clash : ◌≡◌ {A = Option Seen} (Some seen.There) (Some seen.TooLong) = e in cc
long_answer (Some c) k f m e =
    let clash : ◌≡◌ {A = Option Seen} (Some seen.Missing) (Some seen.TooLong) = e in cc

pub ruleset tells = (answer_told, only_none, beyond_grows)

pub ruleset tries = (missing_answer, there_answer, long_answer, tells)

-- the file at a place, and those after it
pub first_more : (p : Place) (fs : List (List ℕ)) (i : ℕ) (f : List ℕ) (o : Answers) (s : Unit {0})
    (m : Meter) → i < length fs → f ≡ get_or fs i f → first_present p (drop i fs) o s m
    ≡ then (tried p f o s m) (λ x. or_next (first_present p (drop (i + 1) fs)) x o)
unfolding first_present
first_more p fs i f o s m h is =
    ap (λ xs. first_present p xs o s m) (drop_more fs i f h
    ∙ ap (λ x. x ∷ drop (i + 1) fs) (sym is))

next_leaves : (p : Place) (fs : List (List ℕ)) (x : Option Present) (o : Answers) (s : Unit {0})
    (m : Meter) → LeavesAtMost m.left (or_next (first_present p fs) x o s m)
next_leaves p fs (Some x) o s m = omega arith
next_leaves p fs None o s m = first_leaves p fs o s m

-- where the file at a place is not told
pub first_stops : (x : Stop) (p : Place) (fs : List (List ℕ)) (i : ℕ) (f : List ℕ) (o : Answers)
    (s : Unit {0}) (m n : Meter) → i < length fs → f ≡ get_or fs i f → Stops x n (tried p f o s m)
    → Stops x n (first_present p (drop i fs) o s m)
first_stops x p fs i f o s m n h is k =
    rw (first_more p fs i f o s m h is) (stops_then x n (tried p f o s m)
    (λ y. or_next (first_present p (drop (i + 1) fs)) y o)
    (λ y. next_leaves p (drop (i + 1) fs) y o) k)

-- the texts of a list from a place on
abbrev pub texts_from : ℕ → Plain → List (List ℕ)
texts_from i (list ts) = texts_in (drop i (items_in ts))
texts_from i _ = []

items_more : (ts : Items) (i : ℕ) → texts_in (drop i (items_in ts))
    ≡ with_text (option_and_then text_of (item_at i ts)) (texts_in (drop (i + 1) (items_in ts)))
items_more no_items zero = refl
items_more no_items (suc i) = let e : suc i + 1 ≡ suc (i + 1) = omega arith in rw e refl
items_more (item t ts) zero = refl
items_more (item t ts) (suc i) = let e : suc i + 1 ≡ suc (i + 1) = omega arith in
    rw e (items_more ts i)

texts_more : (t : Plain) (i : ℕ) → is_list t ≡ true → texts_from i t
    ≡ with_text (option_and_then text_of (child_at i t)) (texts_from (i + 1) t)
texts_more (list ts) i h = items_more ts i
texts_more (dict fs) i h = absurd cc
texts_more (text bs) i h = absurd cc
texts_more (long z) i h = absurd cc
texts_more (boolean b) i h = absurd cc
texts_more undef i h = absurd cc
texts_more null i h = absurd cc

items_done : (ts : Items) (i : ℕ) → item_count ts ≤ i → texts_in (drop i (items_in ts)) ≡ []
items_done no_items zero h = refl
items_done no_items (suc i) h = refl
items_done (item t ts) zero h = absurd (omega arith)
items_done (item t ts) (suc i) h = items_done ts i (omega arith)

texts_done : (t : Plain) (i : ℕ) → child_count t ≤ i → texts_from i t ≡ []
texts_done (list ts) i h = items_done ts i h
texts_done (dict fs) i h = refl
texts_done (text bs) i h = refl
texts_done (long z) i h = refl
texts_done (boolean b) i h = refl
texts_done undef i h = refl
texts_done null i h = refl

pub no_list : (t : Plain) → is_list t ≡ false → load_path (Some t) ≡ []
no_list (list ts) h = absurd cc
no_list (dict fs) h = refl
no_list (text bs) h = refl
no_list (long z) h = refl
no_list (boolean b) h = refl
no_list undef h = refl
no_list null h = refl

with_text_front : (o : Option (List ℕ)) (xs : List (List ℕ)) → with_text o [] ++ xs ≡ with_text o xs
with_text_front None xs = refl
with_text_front (Some t) xs = refl

-- a text moves from what is left to what is made
pub texts_pushed : (t : Plain) (i : ℕ) (x : Option (List ℕ)) (made new old : List (List ℕ))
    → is_list t ≡ true → x ≡ option_and_then text_of (child_at i t) → new ≡ made ++ with_text x []
    → made ++ texts_from i t ≡ old → new ++ texts_from (i + 1) t ≡ old
texts_pushed t i x made new old h found is whole =
    ap (λ n. n ++ texts_from (i + 1) t) is
    ∙ append_assoc made (with_text x []) (texts_from (i + 1) t)
    ∙ ap (λ n. made ++ n) (with_text_front x (texts_from (i + 1) t)
    ∙ ap (λ y. with_text y (texts_from (i + 1) t)) found ∙ sym (texts_more t i h))
    ∙ whole

-- nothing is left
pub texts_end : (t : Plain) (i : ℕ) (made old : List (List ℕ)) → child_count t ≤ i → made
    ++ texts_from i t ≡ old → made ≡ old
texts_end t i made old h whole =
    sym (append-nil made) ∙ ap (λ n. made ++ n) (sym (texts_done t i h)) ∙ whole

pub all_texts : (t : Plain) → texts_from 0 t ≡ load_path (Some t)
all_texts (list ts) = refl
all_texts (dict fs) = refl
all_texts (text bs) = refl
all_texts (long z) = refl
all_texts (boolean b) = refl
all_texts undef = refl
all_texts null = refl

pub ruleset texts = (no_list, all_texts)
