-- What the calls of a publication do to the shelf, one after the other.
use Rattle.std.proofs.Common.{◌≡◌, ℕ, Bool, true, false, List, [], ◌∷◌, ◌++◌, Option, Some, None, is_some, IfSome, if◌then◌else◌, ◌&&◌, ◌||◌, not, refl, sym, ap, ap₂, ◌∙◌, subst, map, append-nil, inl, inr}
use Rattle.std.specs.Prelude.{bytes_eq, flat_map, option_map, cond, Result, Ok, Err, IfOk}
use Rattle.std.specs.List.{list_any, list_all}
use Rattle.std.specs.HashMap.{get}
use Rattle.std.specs.Map.{lookup}
use Rattle.std.proofs.lemmas.List.{append_assoc, map-append}
use Rattle.std.proofs.lemmas.List.Folds.{list_any-append}
use Rattle.std.proofs.lemmas.Grind.{flat_map-append}
use Rattle.std.proofs.lemmas.Slice.Eq.{bytes_eq-Decides}
use Rattle.outside.specs.Cells.{Cell, Sets}
use Rattle.outside.specs.declared.shelf.Change.{Change}
use Rattle.outside.specs.declared.shelf.Change.TheVariants.{Put}
use Rattle.publication.specs.declared.profile.Profile.{Profile}
use Rattle.publication.specs.declared.publisher.Known.{Known}
use Rattle.publication.specs.declared.publisher.Known.TheVariants.{Unread, Holds}
use Rattle.publication.specs.declared.publisher.Publisher.{Publisher}
use Rattle.publication.specs.declared.trouble.Trouble.{Trouble}
use Rattle.publication.specs.declared.trouble.Which.{Which}
use Rattle.publication.specs.declared.trouble.Which.TheVariants.{Json, Dep}
use Rattle.publication.specs.declared.trouble.Call.{Call}
use Rattle.publication.specs.declared.trouble.Call.TheVariants.{Remove}
use Rattle.publication.specs.declared.want.Want.{Want}
use Rattle.publication.specs.OwnNames.{is_own, json_name, dep_name}
use Rattle.publication.specs.Wants.{wants_of, wanted, proper, goes, json_want, dep_want}
use Rattle.publication.specs.Stands.{untouched}
use Rattle.publication.specs.Troubles.{called, is_removal, published}
use Rattle.publication.specs.Changing.{done, holds, putting, Tells}
use Rattle.publication.specs.Published.{Knows, Allows, Holding, BringsFile, BringsProfile, IsOn, call_of, one_or_none, placed, Clearing, Covers}
use Rattle.publication.specs.Logs.{Removal, Write, Removes, Writes, AreRemovals, AreWrites, LogsPut, put_by, put_of, put_before, removal_changes, removal_troubles, write_changes, write_troubles, name_to_go, profile_to_write, removed}
use Rattle.publication.proofs.Planning.{done_none, done_on, first_wanted}
use Rattle.publication.proofs.Proper.{two_names, and_left, and_right}
use Rattle.publication.proofs.Placing.{beside}
use Rattle.publication.proofs.Tells.{meets_tells}

or_false : (b : Bool) → (b || false) ≡ b
or_false true = refl
or_false false = refl

-- A name's call.

known_by : (bytes : List ℕ) (c : Cell) (k : Option Known) → Holding bytes k → IfSome c (Allows k)
    → IfSome c (λ content. holds bytes (Some content) ≡ true)
known_by bytes None k holding allows = tt
known_by bytes (Some content) None holding allows = absurd holding
known_by bytes (Some content) (Some Unread) holding allows = absurd holding
known_by bytes (Some None) (Some (Holds b)) holding allows = cc
known_by bytes (Some (Some held)) (Some (Holds b)) holding allows =
    let same : held ≡ b = cc in
    (bytes_eq-Decides held bytes).1 (same ∙ holding)

held_log : (name bytes : List ℕ) (c : Cell) (log : Option (List Change))
    → IfSome c (λ content. holds bytes (Some content) ≡ true)
    → IfSome c (LogsPut name bytes None log log)
held_log name bytes None log same = tt
held_log name bytes (Some content) log same =
    done_none log ∙ ap (λ h. done log (if h then [] else Put name ∷ [])) (sym same)

-- a name that is known to hold the bytes adds nothing
pub known_log : (p : Publisher) (cell : List ℕ → Cell) (name bytes : List ℕ)
    (log : Option (List Change)) → is_own name ≡ true → Knows p cell
    → Holding bytes (get bytes_eq p.own name) → IfSome (cell name) (LogsPut name bytes None log log)
known_log p cell name bytes log own knows holding =
    held_log name bytes (cell name) log (known_by bytes (cell name) (get bytes_eq p.own name)
    holding (knows name own))

-- another way to write the name and the call
pub log_as : (cell : List ℕ → Cell) (name name' bytes : List ℕ) (failed failed' : Option Call)
    (log now : Option (List Change)) → name ≡ name' → failed ≡ failed'
    → IfSome (cell name) (LogsPut name bytes failed log now)
    → IfSome (cell name') (LogsPut name' bytes failed' log now)
log_as cell name name' bytes failed failed' log now en ef h =
    subst (λ f. IfSome (cell name') (LogsPut name' bytes f log now)) ef
    (subst (λ m. IfSome (cell m) (LogsPut m bytes failed log now)) en h)

told_at : (name bytes : List ℕ) (failed : Option Call) (c : Cell) (log now : Option (List Change))
    → is_some c ≡ true → IfSome c (LogsPut name bytes failed log now) → now
    ≡ done log (put_by failed name bytes c)
told_at name bytes failed None log now told h = cc
told_at name bytes failed (Some content) log now told h = h

-- The two files of an object.

failed_first : (p : Profile) (t : Trouble) (cell : List ℕ → Cell) (log now : Option (List Change))
    → t.which ≡ Json → now ≡ done log [] → now ≡ done log (put_of cell p (Some t))
failed_first p t cell log now is h = h ∙ ap (λ w. done log (put_before cell p w)) (sym is)

pub first_log : (p : Profile) (t : Trouble) (cell : List ℕ → Cell) (log now : Option (List Change))
    → IsOn p.name Json t → is_some (cell (json_name p.name)) ≡ true
    → IfSome (cell (json_name p.name)) (LogsPut (json_name p.name) p.json
    (option_map call_of (Some t)) log now) → now ≡ done log (put_of cell p (Some t))
first_log p t cell log now on told h =
    failed_first p t cell log now on.1 (told_at (json_name p.name) p.json (Some t.call)
    (cell (json_name p.name)) log now told h)

second_by : (p : Profile) (trouble : Option Trouble) (cell : List ℕ → Cell)
    (log mid now : Option (List Change)) → IfSome trouble (IsOn p.name Dep) → mid
    ≡ done log (putting cell (json_want p)) → now
    ≡ done mid (put_by (option_map call_of trouble) (dep_name p.name) p.dep
    (cell (dep_name p.name))) → now ≡ done log (put_of cell p trouble)
second_by p None cell log mid now on first second =
    second ∙ ap (λ l. done l (putting cell (dep_want p))) first
    ∙ done_on log (putting cell (json_want p)) (putting cell (dep_want p))
second_by p (Some t) cell log mid now on first second =
    second ∙ sym (done_none mid) ∙ first ∙ ap (λ w. done log (put_before cell p w)) (sym on.1)

with_tells : (content : Option (List ℕ)) (name n : List ℕ) (old new : List ℕ → Cell) (b : Bool)
    → bytes_eq name n ≡ b → Sets old name content new → is_some (old n) ≡ true → is_some (new n)
    ≡ true
with_tells content name n old new true is sets told =
    sets_tells (old n) (new n) (rw is at (sets n)) told
  where
    sets_tells : (c d : Cell) → d ≡ option_map (λ _. content) c → is_some c ≡ true → is_some d
        ≡ true
    sets_tells None d e t = cc
    sets_tells (Some x) d e t = ap is_some e
with_tells content name n old new false is sets told = ap is_some (rw is at (sets n)) ∙ told

pub second_log : (p : Profile) (trouble : Option Trouble) (cell mid_cell : List ℕ → Cell)
    (log mid now : Option (List Change)) → proper (wants_of (p ∷ [])) ≡ true
    → IfSome trouble (IsOn p.name Dep) → Sets cell (json_name p.name) (Some p.json) mid_cell
    → Tells cell → IfSome (cell (json_name p.name)) (LogsPut (json_name p.name) p.json None log mid)
    → IfSome (mid_cell (dep_name p.name)) (LogsPut (dep_name p.name) p.dep
    (option_map call_of trouble) mid now) → now ≡ done log (put_of cell p trouble)
second_log p trouble cell mid_cell log mid now ok on sets told first second =
    let apart : bytes_eq (json_name p.name) (dep_name p.name) ≡ false =
    by (bytes_eq (json_name p.name) (dep_name p.name)) refl in
    let same : mid_cell (dep_name p.name) ≡ cell (dep_name p.name) =
    rw apart at (sets (dep_name p.name)) in
    second_by p trouble cell log mid now on (told_at (json_name p.name) p.json None
    (cell (json_name p.name)) log mid (told (json_name p.name)) first)
    (told_at (dep_name p.name) p.dep (option_map call_of trouble) (mid_cell (dep_name p.name)) mid
    now (ap is_some same ∙ told (dep_name p.name)) second
    ∙ ap (λ c. done mid (put_by (option_map call_of trouble) (dep_name p.name) p.dep c)) same)
  where
    by : (b : Bool) → bytes_eq (json_name p.name) (dep_name p.name) ≡ b → b ≡ false
    by false is = refl
    by true is =
        let e : bytes_eq (dep_name p.name) (dep_name p.name) ≡ false =
        two_names p [] (dep_name p.name) ok is in
        let f : true ≡ false = sym ((bytes_eq-Decides (dep_name p.name) (dep_name p.name)).1 refl)
        ∙ e in cc

-- the same call with other words for its bytes and its trouble
pub at_name : (c : Cell) (name bytes bytes' : List ℕ) (trouble trouble' : Option Trouble)
    (log now : Option (List Change)) → bytes ≡ bytes' → trouble ≡ trouble'
    → IfSome c (LogsPut name bytes (option_map call_of trouble) log now)
    → IfSome c (LogsPut name bytes' (option_map call_of trouble') log now)
at_name c name bytes bytes' trouble trouble' log now eb et h =
    subst (λ t. IfSome c (LogsPut name bytes' (option_map call_of t) log now)) et
    (subst (λ b. IfSome c (LogsPut name b (option_map call_of trouble) log now)) eb h)

pub second_result : {E : Type 0} (p : Profile) (r : Result (Option Trouble) E)
    (cell mid_cell : List ℕ → Cell) (log mid now : Option (List Change)) (dep : List ℕ)
    (before count : ℕ) (new : List ℕ → Cell) → proper (wants_of (p ∷ [])) ≡ true → dep ≡ p.dep
    → Sets cell (json_name p.name) (Some p.json) mid_cell
    → IfSome (cell (json_name p.name)) (LogsPut (json_name p.name) p.json None log mid)
    → IfOk r (λ trouble. BringsFile p.name Dep dep trouble before count mid_cell new)
    → IfOk r (λ trouble. IfSome (mid_cell (dep_name p.name))
    (LogsPut (dep_name p.name) dep (option_map call_of trouble) mid now)) → IfOk r
    (λ trouble. Tells cell → now ≡ done log (put_of cell p trouble))
second_result p (Ok trouble) cell mid_cell log mid now dep before count new ok same sets first file
    second = λ told. second_log p trouble cell mid_cell log mid now ok file.on sets told first
    (at_name (mid_cell (dep_name p.name)) (dep_name p.name) dep p.dep trouble trouble mid now same
    refl second)
second_result p (Err e) cell mid_cell log mid now dep before count new ok same sets first file
    second = tt

-- Several calls.

removals_on : (a b : List Removal) → AreRemovals a → AreRemovals b → AreRemovals (a ++ b)
removals_on [] b x y = y
removals_on (r ∷ rs) b x y = (x.0, removals_on rs b x.1 y)

writes_on : (a b : List Write) → AreWrites a → AreWrites b → AreWrites (a ++ b)
writes_on [] b x y = y
writes_on (w ∷ ws) b x y = (x.0, writes_on ws b x.1 y)

pub removes_none : (troubles : List Trouble) (log : Option (List Change))
    → Removes [] troubles troubles log log
removes_none troubles log =
    record {
      calls = [];
      are = tt;
      of_names = refl;
      failed = sym (append-nil troubles);
      did =
          done_none log;
    }

pub removes_both : (a b : List (List ℕ)) (t u v : List Trouble) (k l m : Option (List Change))
    → Removes a t u k l → Removes b u v l m → Removes (a ++ b) t v k m
removes_both a b t u v k l m x y = record {
  calls = x.calls ++ y.calls;
  are = removals_on x.calls y.calls x.are y.are;
  of_names = map-append name_to_go x.calls y.calls ∙ ap₂ (λ p q. p ++ q) x.of_names y.of_names;
  failed = y.failed ∙ ap (λ p. p ++ flat_map removal_troubles y.calls) x.failed
      ∙ append_assoc t (flat_map removal_troubles x.calls) (flat_map removal_troubles y.calls)
      ∙ ap (λ p. t ++ p) (sym (flat_map-append removal_troubles x.calls y.calls));
  did = y.did ∙ ap (λ p. done p (flat_map removal_changes y.calls)) x.did
      ∙ done_on k (flat_map removal_changes x.calls) (flat_map removal_changes y.calls)
      ∙ ap (λ p. done k p) (sym (flat_map-append removal_changes x.calls y.calls));
}

pub writes_none : (cell : List ℕ → Cell) (troubles : List Trouble) (log : Option (List Change))
    → Writes cell [] troubles troubles log log
writes_none cell troubles log =
    record {
      calls = [];
      are = tt;
      of_profiles = refl;
      failed = sym (append-nil troubles);
      did =
          done_none log;
    }

pub writes_both : (cell : List ℕ → Cell) (a b : List Profile) (t u v : List Trouble)
    (k l m : Option (List Change)) → Writes cell a t u k l → Writes cell b u v l m
    → Writes cell (a ++ b) t v k m
writes_both cell a b t u v k l m x y = record {
  calls = x.calls ++ y.calls;
  are = writes_on x.calls y.calls x.are y.are;
  of_profiles = map-append profile_to_write x.calls y.calls
      ∙ ap₂ (λ p q. p ++ q) x.of_profiles y.of_profiles;
  failed = y.failed ∙ ap (λ p. p ++ flat_map write_troubles y.calls) x.failed
      ∙ append_assoc t (flat_map write_troubles x.calls) (flat_map write_troubles y.calls)
      ∙ ap (λ p. t ++ p) (sym (flat_map-append write_troubles x.calls y.calls));
  did = y.did ∙ ap (λ p. done p (flat_map (write_changes cell) y.calls)) x.did
      ∙ done_on k (flat_map (write_changes cell) x.calls) (flat_map (write_changes cell) y.calls)
      ∙ ap (λ p. done k p) (sym (flat_map-append (write_changes cell) x.calls y.calls));
}

-- one name
pub removed_log : (name : List ℕ) (troubles : List Trouble) (log now : Option (List Change)) → now
    ≡ done log (removed true name) → Removes (name ∷ []) troubles troubles log now
removed_log name troubles log now did =
    record {
      calls = record { name = name; trouble = None } ∷ [];
      are = (tt, tt);
      of_names =
          refl;
      failed = sym (append-nil troubles);
      did = did;
    }

pub unremoved_log : (name : List ℕ) (t : Trouble) (troubles now_troubles : List Trouble)
    (log now : Option (List Change)) → (called t ≡ name) × (t.call ≡ Remove) → now_troubles
    ≡ troubles ++ t ∷ [] → now ≡ done log (removed false name)
    → Removes (name ∷ []) troubles now_troubles log now
unremoved_log name t troubles now_troubles log now on failed did =
    record {
      calls = record { name = name; trouble = Some t } ∷ [];
      are = (on, tt);
      of_names =
          refl;
      failed = failed;
      did = did;
    }

-- one profile
pub write_log : (cell : List ℕ → Cell) (p : Profile) (trouble : Option Trouble)
    (troubles : List Trouble) (log now : Option (List Change))
    → IfSome trouble (λ t. (t.object ≡ p.name) × (is_removal t.call ≡ false)) → now
    ≡ done log (put_of cell p trouble) → Writes cell (p ∷ []) troubles
    (troubles ++ one_or_none trouble) log now
write_log cell p trouble troubles log now on did = record {
  calls = record { profile = p; trouble = trouble } ∷ [];
  are = (on, tt);
  of_profiles = refl;
  failed = ap (λ l. troubles ++ l) (sym (append-nil (one_or_none trouble)));
  did = did ∙ ap (λ l. done log l) (sym (append-nil (put_of cell p trouble)));
}

-- Profiles that are still to be written stand as at the start.

abbrev pub Waits : List Profile → (List ℕ → Cell) → (List ℕ → Cell) → Type 0
Waits ps start now = (n : List ℕ) → is_some (wanted (wants_of ps) n) ≡ true → now n ≡ start n

json_wanted : (p : Profile) (ps : List Profile)
    → is_some (wanted (wants_of (p ∷ ps)) (json_name p.name)) ≡ true
json_wanted p ps = ap is_some (first_wanted (json_want p) (dep_want p ∷ wants_of ps))

some_either : (b : Bool) (bytes : List ℕ) (rest : Option (List ℕ)) → is_some rest ≡ true
    → is_some (if b then Some bytes else rest) ≡ true
some_either true bytes rest some = refl
some_either false bytes rest some = some

dep_wanted : (p : Profile) (ps : List Profile)
    → is_some (wanted (wants_of (p ∷ ps)) (dep_name p.name)) ≡ true
dep_wanted p ps = some_either (bytes_eq (json_name p.name) (dep_name p.name)) p.json
    (wanted (dep_want p ∷ wants_of ps) (dep_name p.name))
    (ap is_some (first_wanted (dep_want p) (wants_of ps)))

later_wanted : (p : Profile) (ps : List Profile) (n : List ℕ) → is_some (wanted (wants_of ps) n)
    ≡ true → is_some (wanted (wants_of (p ∷ ps)) n) ≡ true
later_wanted p ps n some =
    some_either (bytes_eq (json_name p.name) n) p.json (wanted (dep_want p ∷ wants_of ps) n)
    (some_either (bytes_eq (dep_name p.name) n) p.dep (wanted (wants_of ps) n) some)

put_same : (p : Profile) (trouble : Option Trouble) (start now : List ℕ → Cell)
    → now (json_name p.name) ≡ start (json_name p.name) → now (dep_name p.name)
    ≡ start (dep_name p.name) → put_of now p trouble ≡ put_of start p trouble
put_same p None start now j d =
    ap₂ (λ x y. (if holds p.json x then [] else Put (json_name p.name) ∷ [])
    ++ (if holds p.dep y then [] else Put (dep_name p.name) ∷ [])) j d
put_same p (Some t) start now j d = by t.which
  where
    by : (w : Which) → put_before now p w ≡ put_before start p w
    by Json = refl
    by Dep = ap (λ x. if holds p.json x then [] else Put (json_name p.name) ∷ []) j

pub put_waiting : (p : Profile) (ps : List Profile) (trouble : Option Trouble)
    (start now : List ℕ → Cell) → Waits (p ∷ ps) start now → put_of now p trouble
    ≡ put_of start p trouble
put_waiting p ps trouble start now waits =
    put_same p trouble start now (waits (json_name p.name) (json_wanted p ps))
    (waits (dep_name p.name) (dep_wanted p ps))

calls_same : (ps : List Profile) (calls : List Write) (start now : List ℕ → Cell)
    → map profile_to_write calls ≡ ps → Waits (map profile_to_write calls) start now
    → flat_map (write_changes now) calls ≡ flat_map (write_changes start) calls
calls_same ps [] start now is waits = refl
calls_same ps (w ∷ ws) start now is waits =
    ap₂ (λ x y. x ++ y) (put_waiting w.profile (map profile_to_write ws) w.trouble start now waits)
    (calls_same (map profile_to_write ws) ws start now refl
    (λ n some. waits n (later_wanted w.profile (map profile_to_write ws) n some)))

-- over a shelf that told the same of all that is wanted
pub writes_from : (ps : List Profile) (t u : List Trouble) (start now : List ℕ → Cell)
    (k l : Option (List Change)) → Waits ps start now → Writes now ps t u k l
    → Writes start ps t u k l
writes_from ps t u start now k l waits w = record {
  calls = w.calls;
  are = w.are;
  of_profiles = w.of_profiles;
  failed = w.failed;
  did = w.did ∙ ap (λ c. done k c) (calls_same ps w.calls start now w.of_profiles
      (subst (λ qs. Waits qs start now) (sym w.of_profiles) waits));
}

beside_profile : (p : Profile) (n : List ℕ) → bytes_eq (json_name p.name) n ≡ false
    → bytes_eq (dep_name p.name) n ≡ false → wanted (wants_of (p ∷ [])) n ≡ None
beside_profile p n ej ed = rw (ej, ed) refl

-- one more profile was written: the others wait, and telling stays
pub waits_on : (p : Profile) (ps : List Profile) (trouble : Option Trouble) (before count : ℕ)
    (start now new : List ℕ → Cell) → proper (wants_of (p ∷ ps)) ≡ true
    → BringsProfile p trouble before count now new → Waits (p ∷ ps) start now → Waits ps start new
waits_on p ps trouble before count start now new ok brings waits n some =
    let b = beside [] p ps [] None 0 0 0 start now new n ok some in
    let same : new n ≡ now n = rw (beside_profile p n b.0 b.1) at (brings.stands n) in
    same ∙ waits n (later_wanted p ps n some)

pub tells_on : (p : Profile) (trouble : Option Trouble) (before count : ℕ) (now new : List ℕ → Cell)
    → BringsProfile p trouble before count now new → Tells now → Tells new
tells_on p trouble before count now new brings told n =
    meets_tells (placed (wants_of (p ∷ [])) (one_or_none trouble) n) (now n) (new n)
    (brings.stands n) ∙ told n

-- The names that go.

exact_by : (own : Option Known) (any going : Bool) → (any ≡ true → going ≡ true)
    → (any ≡ true → is_some own ≡ true) → (going ≡ true → any ≡ false → own ≡ None) → any
    ≡ (going && is_some own)
exact_by own true going goes_on known covers = rw (goes_on refl, known refl) refl
exact_by own false false goes_on known covers = refl
exact_by None false true goes_on known covers = refl
exact_by (Some k) false true goes_on known covers = let e : Some k ≡ None = covers refl refl in cc

any_by : (test : List ℕ → Bool) (m : List ℕ) (names : List (List ℕ)) (n : List ℕ) (b : Bool)
    → bytes_eq m n ≡ b → (list_all test names ≡ true → list_any (λ k. bytes_eq k n) names
    ≡ true → test n ≡ true) → list_all test (m ∷ names)
    ≡ true → list_any (λ k. bytes_eq k n) (m ∷ names) ≡ true → test n ≡ true
any_by test m names n true is rest all any =
    sym (ap test ((bytes_eq-Decides m n).0 is)) ∙ and_left (test m) (list_all test names) all
any_by test m names n false is rest all any =
    rest (and_right (test m) (list_all test names) all) (rw is at any)

any_all : (test : List ℕ → Bool) (names : List (List ℕ)) (n : List ℕ) → list_all test names ≡ true
    → list_any (λ m. bytes_eq m n) names ≡ true → test n ≡ true
any_all test [] n all any = cc
any_all test (m ∷ names) n all any =
    any_by test m names n (bytes_eq m n) refl (any_all test names n) all any

-- the names that go are known ones
known_more : (m : List ℕ) (old new : List (List ℕ)) (n : List ℕ) (g b : Bool) (some : Bool) → new
    ≡ old ++ (if g then m ∷ [] else []) → bytes_eq m n ≡ b → (b ≡ true → some ≡ true)
    → (list_any (λ k. bytes_eq k n) old ≡ true → some ≡ true) → list_any (λ k. bytes_eq k n) new
    ≡ true → some ≡ true
known_more m old new n true true some made is here before any = here refl
known_more m old new n true false some made is here before any =
    before (sym (or_false (list_any (λ k. bytes_eq k n) old))
    ∙ ap (λ b. list_any (λ k. bytes_eq k n) old || (b || false)) (sym is)
    ∙ sym (list_any-append (λ k. bytes_eq k n) old (m ∷ []))
    ∙ ap (list_any (λ k. bytes_eq k n)) (sym made) ∙ any)
known_more m old new n false b some made is here before any =
    before (sym (or_false (list_any (λ k. bytes_eq k n) old))
    ∙ sym (list_any-append (λ k. bytes_eq k n) old [])
    ∙ ap (list_any (λ k. bytes_eq k n)) (sym made) ∙ any)

looked_up : {V : Type 0} (m n : List ℕ) (v : V) (rest : List (List ℕ × V)) (b : Bool) → bytes_eq n m
    ≡ b → is_some (lookup (bytes_eq n) rest) ≡ true
    → is_some (cond b (Some v) (lookup (bytes_eq n) rest)) ≡ true
looked_up m n v rest true is some = refl
looked_up m n v rest false is some = some

-- what is found in the rest of a list is found in the list
pub found_behind : {V : Type 0} (m n : List ℕ) (v : V) (rest : List (List ℕ × V))
    → is_some (lookup (bytes_eq n) rest) ≡ true → is_some (lookup (bytes_eq n) ((m, v) ∷ rest))
    ≡ true
found_behind m n v rest some = looked_up m n v rest (bytes_eq n m) refl some

found_by : {V : Type 0} (m n : List ℕ) (v : V) (rest : List (List ℕ × V)) (b : Bool) → bytes_eq n m
    ≡ b → n ≡ m → is_some (cond b (Some v) (lookup (bytes_eq n) rest)) ≡ true
found_by m n v rest true is same = refl
found_by m n v rest false is same = let f : true ≡ false =
    sym ((bytes_eq-Decides n m).1 same) ∙ is in cc

found_first : {V : Type 0} (m n : List ℕ) (v : V) (rest : List (List ℕ × V)) → bytes_eq m n ≡ true
    → is_some (lookup (bytes_eq n) ((m, v) ∷ rest)) ≡ true
found_first m n v rest is =
    found_by m n v rest (bytes_eq n m) refl (sym ((bytes_eq-Decides m n).0 is))

pub known_step : {V : Type 0} (m n : List ℕ) (v : V) (rest : List (List ℕ × V))
    (old new : List (List ℕ)) (g some : Bool) → new ≡ old ++ (if g then m ∷ [] else [])
    → (is_some (lookup (bytes_eq n) ((m, v) ∷ rest)) ≡ true → some ≡ true)
    → (list_any (λ k. bytes_eq k n) old ≡ true → some ≡ true) → list_any (λ k. bytes_eq k n) new
    ≡ true → some ≡ true
known_step m n v rest old new g some made from before any =
    known_more m old new n g (bytes_eq m n) some made refl (λ is. from (found_first m n v rest is))
    before any

pub goes_exactly : (p : Publisher) (profiles : List Profile) (gone : List (List ℕ))
    → list_all (goes (wants_of profiles)) gone ≡ true → Covers gone (wants_of profiles) p
    → ((n : List ℕ) → list_any (λ m. bytes_eq m n) gone ≡ true → is_some (get bytes_eq p.own n)
    ≡ true) → (n : List ℕ) → list_any (λ m. bytes_eq m n) gone
    ≡ (goes (wants_of profiles) n && is_some (get bytes_eq p.own n))
goes_exactly p profiles gone going covers known n =
    exact_by (get bytes_eq p.own n) (list_any (λ m. bytes_eq m n) gone) (goes (wants_of profiles) n)
    (any_all (goes (wants_of profiles)) gone n going) (known n) (covers n)

stays_by : (profiles : List Profile) (n : List ℕ) → is_some (wanted (wants_of profiles) n) ≡ true
    → goes (wants_of profiles) n ≡ false
stays_by profiles n some = by (is_own n) (is_some (wanted (wants_of profiles) n)) some
  where
    by : (own s : Bool) → s ≡ true → (own && not s) ≡ false
    by true true is = refl
    by true false is = cc
    by false s is = refl

-- what is wanted waits while names go
pub waits_clearing : (profiles : List Profile) (ts : List Trouble) (before count : ℕ)
    (start now : List ℕ → Cell) → Clearing (wants_of profiles) [] ts before count start now
    → Waits profiles start now
waits_clearing profiles ts before count start now c n some = c.kept n (stays_by profiles n some)

pub tells_clearing : (ws : List Want) (ts : List Trouble) (before count : ℕ)
    (start now : List ℕ → Cell) → Clearing ws [] ts before count start now → Tells start → Tells now
tells_clearing ws ts before count start now c told n = by (goes ws n) refl
  where
    by : (g : Bool) → goes ws n ≡ g → is_some (now n) ≡ true
    by false is = ap is_some (c.kept n is) ∙ told n
    by true is = elim (c.going n is) as (λ _. is_some (now n) ≡ true) [
      | inl same ↦ ap is_some same ∙ told n
      | inr meets ↦ meets_tells
          (published ws ts untouched n) (start n) (now n) meets ∙ told n
    ]
