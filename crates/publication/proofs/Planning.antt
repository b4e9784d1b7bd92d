-- Changes of a shelf, made one after the other.
use Rattle.std.proofs.Common.{◌≡◌, ℕ, Bool, true, false, List, [], ◌∷◌, ◌++◌, Option, Some, None, is_some, IfSome, if◌then◌else◌, ◌&&◌, ◌||◌, not, refl, sym, ap, subst, ◌∙◌, append-nil}
use Rattle.std.specs.Prelude.{bytes_eq, flat_map, Result, Ok, Err, OnErr}
use Rattle.std.proofs.lemmas.List.{append_assoc}
use Rattle.std.proofs.lemmas.List.Folds.{list_any-append}
use Rattle.std.proofs.lemmas.Grind.{flat_map-append}
use Rattle.std.proofs.lemmas.Slice.Eq.{bytes_eq-Decides}
use Rattle.outside.specs.Cells.{Cell, with_content, Sets, AllBut}
use Rattle.outside.specs.declared.shelf.Change.{Change}
use Rattle.outside.specs.declared.shelf.Change.TheVariants.{Put, Removed}
use Rattle.publication.specs.declared.want.Want.{Want}
use Rattle.publication.specs.OwnNames.{is_own}
use Rattle.publication.specs.Wants.{goes, wanted}
use Rattle.publication.specs.Halves.{swept}
use Rattle.publication.specs.Listings.{IsAbsentUnless}
use Rattle.publication.specs.Changing.{holds, removal, putting, name_of, is_changed, is_next, done, stand, Made, Begun, Tells}

pub done_none : (before : Option (List Change)) → before ≡ done before []
done_none None = refl
done_none (Some l) = ap (λ x. Some x) (sym (append-nil l))

pub done_on : (before : Option (List Change)) (a b : List Change) → done (done before a) b
    ≡ done before (a ++ b)
done_on None a b = refl
done_on (Some l) a b = ap (λ x. Some x) (append_assoc l a b)

or_false : (b : Bool) → (b || false) ≡ b
or_false true = refl
or_false false = refl

-- a name that is changed again stands as after one change
twice : (x y : Bool) (w : Option (List ℕ)) (c : Cell)
    → (if y then with_content w (if x then with_content w c else c) else
    (if x then with_content w c else c)) ≡ (if x || y then with_content w c else c)
twice true true w None = refl
twice true true w (Some k) = refl
twice true false w c = refl
twice false true w c = refl
twice false false w c = refl

stand_on : (ws : List Want) (a b : List Change) (n : List ℕ) (c : Cell)
    → stand ws b n (stand ws a n c) ≡ stand ws (a ++ b) n c
stand_on ws a b n c = rw (list_any-append (λ d. bytes_eq (name_of d) n) a b)
    (twice (is_changed n a) (is_changed n b) (wanted ws n) c)

pub made_none : (ws : List Want) (old new : List ℕ → Cell) (before now : Option (List Change))
    → ((n : List ℕ) → new n ≡ old n) → now ≡ before → Made ws [] old new before now
made_none ws old new before now same kept = record { told = kept ∙ done_none before; stands = same }

pub made_on : (ws : List Want) (a b : List Change) (old mid new : List ℕ → Cell)
    (before between now : Option (List Change)) → Made ws a old mid before between
    → Made ws b mid new between now → Made ws (a ++ b) old new before now
made_on ws a b old mid new before between now first second = record {
  told = second.told ∙ ap (λ l. done l b) first.told ∙ done_on before a b;
  stands = λ n. second.stands n ∙ ap (stand ws b n) (first.stands n) ∙ stand_on ws a b n (old n);
}

-- Removals.

unwanted_by : (own : Bool) (w : Option (List ℕ)) → (own && not (is_some w)) ≡ true → w ≡ None
unwanted_by true None is = refl
unwanted_by true (Some b) is = cc
unwanted_by false w is = cc

unwanted : (ws : List Want) (n : List ℕ) → goes ws n ≡ true → wanted ws n ≡ None
unwanted ws n is = unwanted_by (is_own n) (wanted ws n) is

swept_by : (ws : List Want) (m n : List ℕ) (c : Cell) (g b : Bool) → goes ws m ≡ g → bytes_eq m n
    ≡ b → (if g then (if b then with_content None c else c) else c)
    ≡ stand ws (if g then Removed m ∷ [] else []) n c
swept_by ws m n c true true going is =
    let none : wanted ws n ≡ None =
    sym (ap (wanted ws) ((bytes_eq-Decides m n).0 is)) ∙ unwanted ws m going in
    rw (is, none) refl
swept_by ws m n c true false going is = rw is refl
swept_by ws m n c false b going is = refl

-- one name of the list is passed
pub made_sweep : (ws : List Want) (m : List ℕ) (old new : List ℕ → Cell)
    (before now : Option (List Change)) → ((n : List ℕ) → new n ≡ swept m ws n (old n)) → now
    ≡ done before (removal ws m) → Made ws (removal ws m) old new before now
made_sweep ws m old new before now swept told = record {
  told = told;
  stands = λ n. swept n ∙ swept_by ws m n (old n) (goes ws m) (bytes_eq m n) refl refl;
}

pub removals_next : (ws : List Want) (names : List (List ℕ)) (m : List ℕ)
    → flat_map (removal ws) (names ++ m ∷ []) ≡ flat_map (removal ws) names ++ removal ws m
removals_next ws names m =
    flat_map-append (removal ws) names (m ∷ []) ∙ ap (λ l. flat_map (removal ws) names ++ l)
    (append-nil (removal ws m))

pub puts_next : (cell : List ℕ → Cell) (ws : List Want) (w : Want)
    → flat_map (putting cell) (ws ++ w ∷ []) ≡ flat_map (putting cell) ws ++ putting cell w
puts_next cell ws w = flat_map-append (putting cell) ws (w ∷ [])
    ∙ ap (λ l. flat_map (putting cell) ws ++ l) (append-nil (putting cell w))

-- a removal was refused: those before it were made
pub begun_sweep : (ws : List Want) (names earlier later : List (List ℕ)) (m : List ℕ)
    (old mid new : List ℕ → Cell) (before between now : Option (List Change)) → names ≡ earlier
    ++ (m ∷ later) → goes ws m ≡ true → Made ws (flat_map (removal ws) earlier) old mid before
    between → AllBut mid m new → now ≡ between → Begun ws (flat_map (removal ws) names) old new
    before now
begun_sweep ws names earlier later m old mid new before between now is going made but kept =
    record {
      made = flat_map (removal ws) earlier;
      left = Removed m ∷ flat_map (removal ws) later;
      whole = ap (flat_map (removal ws)) is ∙ flat_map-append (removal ws) earlier (m ∷ later)
          ∙ ap (λ g. flat_map (removal ws) earlier ++ ((if g then Removed m ∷ [] else [])
          ++ flat_map (removal ws) later)) going;
      told = kept ∙ made.told;
      stands = λ n other. but n other ∙ made.stands n;
    }

-- Puts.

pub read_exactly : (bytes : List ℕ) (content : Option (List ℕ)) (c : Cell) → c ≡ Some content
    → holds bytes c ≡ true → content ≡ Some bytes
read_exactly bytes None c is same = let e : false ≡ true = rw is at same in cc
read_exactly bytes (Some held) c is same =
    ap (λ b. Some b) ((bytes_eq-Decides held bytes).0 (rw is at same))

holding : (bytes : List ℕ) (c : Cell) → holds bytes c ≡ true → with_content (Some bytes) c ≡ c
holding bytes None same = cc
holding bytes (Some None) same = cc
holding bytes (Some (Some held)) same =
    ap (λ b. Some (Some b)) (sym ((bytes_eq-Decides held bytes).0 same))

put_by : (ws : List Want) (w : Want) (old : List ℕ → Cell) (n : List ℕ) (h b : Bool)
    → wanted ws w.name ≡ Some w.bytes → holds w.bytes (old w.name) ≡ h → bytes_eq w.name n ≡ b
    → (if b then with_content (Some w.bytes) (old n) else old n)
    ≡ stand ws (if h then [] else Put w.name ∷ []) n (old n)
put_by ws w old n true true want same is =
    ap (λ m. with_content (Some w.bytes) (old m)) (sym ((bytes_eq-Decides w.name n).0 is))
    ∙ holding w.bytes (old w.name) same ∙ ap old ((bytes_eq-Decides w.name n).0 is)
put_by ws w old n true false want same is = refl
put_by ws w old n false true want same is =
    rw (is, sym (ap (wanted ws) ((bytes_eq-Decides w.name n).0 is)), want) refl
put_by ws w old n false false want same is = rw is refl

-- a wanted file was brought, with what the shelf told of it
pub made_bring : (ws : List Want) (w : Want) (old new : List ℕ → Cell)
    (before now : Option (List Change)) (told : is_some (old w.name) ≡ true) → wanted ws w.name
    ≡ Some w.bytes → Sets old w.name (Some w.bytes) new
    → IfSome (old w.name) (λ content. now ≡ done before
    (if holds w.bytes (Some content) then [] else Put w.name ∷ [])) → Made ws (putting old w) old
    new before now
made_bring ws w old new before now told want sets done_so = record {
  told = by (old w.name) told done_so;
  stands = λ n. sets n ∙ put_by ws w old n (holds w.bytes (old w.name)) (bytes_eq w.name n) want
      refl refl;
}
  where
    by : (c : Cell) → is_some c ≡ true → IfSome c
        (λ content. now ≡ done before (if holds w.bytes (Some content) then [] else Put
        w.name ∷ [])) → now ≡ done before (if holds w.bytes c then [] else Put w.name ∷ [])
    by None t d = cc
    by (Some content) t d = d

-- What is wanted of a list of wants that is passed from its front: `rest` is what is left of `ws`.
pub record Pending (ws rest : List Want) (made : List Change) : Type 0 where
  pub fresh : (n : List ℕ) → is_some (wanted rest n) ≡ true → is_changed n made ≡ false
  pub same : (n : List ℕ) → is_some (wanted rest n) ≡ true → wanted ws n ≡ wanted rest n

pub first_wanted : (w : Want) (rest : List Want) → wanted (w ∷ rest) w.name ≡ Some w.bytes
first_wanted w rest = rw ((bytes_eq-Decides w.name w.name).1 refl) refl

beside_by : (w : Want) (rest : List Want) (n : List ℕ) (b : Bool) → wanted rest w.name ≡ None
    → is_some (wanted rest n) ≡ true → bytes_eq w.name n ≡ b → b ≡ false
beside_by w rest n true ok some is =
    let none : wanted rest n ≡ None =
    ap (wanted rest) (sym ((bytes_eq-Decides w.name n).0 is)) ∙ ok in
    let e : true ≡ false = sym some ∙ ap is_some none in cc
beside_by w rest n false ok some is = refl

beside : (w : Want) (rest : List Want) (n : List ℕ) → wanted rest w.name ≡ None
    → is_some (wanted rest n) ≡ true → bytes_eq w.name n ≡ false
beside w rest n ok some = beside_by w rest n (bytes_eq w.name n) ok some refl

put_beside : (h : Bool) (w : Want) (n : List ℕ) → bytes_eq w.name n ≡ false
    → is_changed n (if h then [] else Put w.name ∷ []) ≡ false
put_beside true w n other = refl
put_beside false w n other = rw other refl

pub pending_on : (cell : List ℕ → Cell) (ws rest : List Want) (w : Want) (made : List Change)
    → wanted rest w.name ≡ None → Pending ws (w ∷ rest) made
    → Pending ws rest (made ++ putting cell w)
pending_on cell ws rest w made ok p = record {
  fresh = λ n some.
      let other = beside w rest n ok some in
      let here : is_some (wanted (w ∷ rest) n) ≡ true = rw other some in
      list_any-append (λ d. bytes_eq (name_of d) n) made (putting cell w)
      ∙ rw (p.fresh n here, put_beside (holds w.bytes (cell w.name)) w n other) refl;
  same = λ n some.
      let other = beside w rest n ok some in
      let here : is_some (wanted (w ∷ rest) n) ≡ true = rw other some in
      p.same n here ∙ rw other refl;
}

-- what is still to be put stays as absent as it was
pub still_absent : (may_stand : List ℕ → Bool) (w : Want) (rest : List Want)
    (now new : List ℕ → Cell) → wanted rest w.name ≡ None → Sets now w.name (Some w.bytes) new
    → ((n : List ℕ) → is_some (wanted (w ∷ rest) n) ≡ true → IsAbsentUnless (may_stand n) (now n))
    → (n : List ℕ) → is_some (wanted rest n) ≡ true → IsAbsentUnless (may_stand n) (new n)
still_absent may_stand w rest now new ok sets known n some =
    let other = beside w rest n ok some in
    let here : is_some (wanted (w ∷ rest) n) ≡ true = rw other some in
    let same : new n ≡ now n = rw other at (sets n) in
    subst (λ c. IsAbsentUnless (may_stand n) c) (sym same) (known n here)

pub pending_all : (ws : List Want) → Pending ws ws []
pending_all ws = record { fresh = λ n some. refl; same = λ n some. refl }

-- what stands under a name that is still pending is what stood there
pub untouched : (ws made_ws : List Want) (made : List Change) (old now : List ℕ → Cell)
    (before log : Option (List Change)) (n : List ℕ) → Made made_ws made old now before log
    → is_changed n made ≡ false → now n ≡ old n
untouched ws made_ws made old now before log n m fresh = m.stands n ∙ rw fresh refl

stand_tells : (b : Bool) (w : Option (List ℕ)) (c : Cell)
    → is_some (if b then with_content w c else c) ≡ is_some c
stand_tells true w None = refl
stand_tells true w (Some x) = refl
stand_tells false w c = refl

pub tells_on : (ws : List Want) (made : List Change) (old now : List ℕ → Cell)
    (before log : Option (List Change)) → Made ws made old now before log → Tells old → Tells now
tells_on ws made old now before log m told n =
    ap is_some (m.stands n) ∙ stand_tells (is_changed n made) (wanted ws n) (old n) ∙ told n

-- what a file that was brought adds to what was done to the shelf
abbrev pub Did : (List ℕ → Cell) → Option (List Change) → Option (List Change) → List ℕ → List ℕ
    → Type 0
Did now log last name bytes =
    IfSome (now name) (λ content. last ≡ done log
    (if holds bytes (Some content) then [] else Put name ∷ []))

pub did_as : (now : List ℕ → Cell) (log last : Option (List Change))
    (name name' bytes bytes' : List ℕ) → name ≡ name' → bytes ≡ bytes' → Did now log last name bytes
    → Did now log last name' bytes'
did_as now log last name name' bytes bytes' en eb d =
    subst (λ b. Did now log last name' b) eb (subst (λ m. Did now log last m bytes) en d)

-- one more wanted file was brought
pub place_on : (ws earlier rest : List Want) (w : Want) (start now new : List ℕ → Cell)
    (before log last : Option (List Change)) → Tells start → wanted rest w.name ≡ None
    → Pending ws (w ∷ rest) (flat_map (putting start) earlier)
    → Made ws (flat_map (putting start) earlier) start now before log
    → Sets now w.name (Some w.bytes) new → IfSome (now w.name)
    (λ content. last ≡ done log (if holds w.bytes (Some content) then [] else Put w.name ∷ []))
    → Made ws (flat_map (putting start) (earlier ++ w ∷ [])) start new before last
place_on ws earlier rest w start now new before log last told ok p made sets did =
    let here : is_some (wanted (w ∷ rest) w.name) ≡ true = ap is_some (first_wanted w rest) in
    let want : wanted ws w.name ≡ Some w.bytes = p.same w.name here ∙ first_wanted w rest in
    let was : now w.name ≡ start w.name =
    untouched ws ws (flat_map (putting start) earlier) start now before log w.name made
    (p.fresh w.name here) in
    let step : Made ws (putting now w) now new log last =
    made_bring ws w now new log last (tells_on ws (flat_map (putting start) earlier) start now
    before log made told w.name) want sets did in
    let put : putting now w ≡ putting start w =
    ap (λ c. if holds w.bytes c then [] else Put w.name ∷ []) was in
    rw (puts_next start earlier w) (made_on ws (flat_map (putting start) earlier) (putting start w)
    start now new before log last made (rw put at step))

-- a wanted file was not brought: those before it were
pub begun_place : (ws all earlier rest : List Want) (w : Want) (start now new : List ℕ → Cell)
    (before log last : Option (List Change)) → all ≡ earlier ++ (w ∷ rest)
    → Pending ws (w ∷ rest) (flat_map (putting start) earlier)
    → Made ws (flat_map (putting start) earlier) start now before log → AllBut now w.name new
    → (holds w.bytes (now w.name) ≡ true → (n : List ℕ) → new n ≡ now n) → last ≡ log
    → Begun ws (flat_map (putting start) all) start new before last
begun_place ws all earlier rest w start now new before log last is p made but same kept = record {
  made = flat_map (putting start) earlier;
  left = putting start w ++ flat_map (putting start) rest;
  whole = ap (flat_map (putting start)) is ∙ flat_map-append (putting start) earlier (w ∷ rest);
  told = kept ∙ made.told;
  stands = λ n other. by n (holds w.bytes (start w.name)) refl other ∙ made.stands n;
}
  where
    was : now w.name ≡ start w.name
    was = untouched ws ws (flat_map (putting start) earlier) start now before log w.name made
        (p.fresh w.name (ap is_some (first_wanted w rest)))

    by : (n : List ℕ) (h : Bool) → holds w.bytes (start w.name) ≡ h
        → is_next n ((if h then [] else Put w.name ∷ []) ++ flat_map (putting start) rest) ≡ false
        → new n ≡ now n
    by n true h other = same (ap (holds w.bytes) was ∙ h) n
    by n false h other = but n other

-- Both halves.

apart_by : (ws : List Want) (m n : List ℕ) (b g : Bool) → is_some (wanted ws n) ≡ true
    → bytes_eq m n ≡ b → goes ws m ≡ g → is_changed n (if g then Removed m ∷ [] else []) ≡ false
apart_by ws m n true true some is going =
    let none : wanted ws n ≡ None =
    sym (ap (wanted ws) ((bytes_eq-Decides m n).0 is)) ∙ unwanted ws m going in
    let e : true ≡ false = sym some ∙ ap is_some none in cc
apart_by ws m n false true some is going = rw is refl
apart_by ws m n b false some is going = refl

-- what is wanted is not removed
pub removals_apart : (ws : List Want) (names : List (List ℕ)) (n : List ℕ) → is_some (wanted ws n)
    ≡ true → is_changed n (flat_map (removal ws) names) ≡ false
removals_apart ws [] n some = refl
removals_apart ws (m ∷ names) n some =
    list_any-append (λ d. bytes_eq (name_of d) n) (removal ws m) (flat_map (removal ws) names)
    ∙ rw (apart_by ws m n (bytes_eq m n) (goes ws m) some refl refl, removals_apart ws names n some)
    refl

wanted_more : (w : Want) (ws : List Want) (n : List ℕ) (b : Bool) → is_some (wanted ws n) ≡ true
    → bytes_eq w.name n ≡ b → is_some (if b then Some w.bytes else wanted ws n) ≡ true
wanted_more w ws n true some is = refl
wanted_more w ws n false some is = some

pub puts_same : (ws : List Want) (mid start : List ℕ → Cell)
    → ((n : List ℕ) → is_some (wanted ws n) ≡ true → mid n ≡ start n) → flat_map (putting mid) ws
    ≡ flat_map (putting start) ws
puts_same [] mid start same = refl
puts_same (w ∷ ws) mid start same =
    let here : mid w.name ≡ start w.name = same w.name (ap is_some (first_wanted w ws)) in
    rw (puts_same ws mid start
    (λ n some. same n (wanted_more w ws n (bytes_eq w.name n) some refl)))
    (ap (λ c. (if holds w.bytes c then [] else Put w.name ∷ []) ++ flat_map (putting start) ws)
    here)

mid_puts : (ws : List Want) (names : List (List ℕ)) (start mid : List ℕ → Cell)
    (before log : Option (List Change)) → Made ws (flat_map (removal ws) names) start mid before log
    → flat_map (putting mid) ws ≡ flat_map (putting start) ws
mid_puts ws names start mid before log cleared =
    puts_same ws mid start (λ n some. untouched ws ws (flat_map (removal ws) names) start mid before
    log n cleared (removals_apart ws names n some))

pub made_both : (ws : List Want) (names : List (List ℕ)) (start mid new : List ℕ → Cell)
    (before log last : Option (List Change)) → Made ws (flat_map (removal ws) names) start mid
    before log → (Tells mid → Made ws (flat_map (putting mid) ws) mid new log last) → Tells start
    → Made ws (flat_map (removal ws) names ++ flat_map (putting start) ws) start new before last
made_both ws names start mid new before log last cleared placed told =
    made_on ws (flat_map (removal ws) names) (flat_map (putting start) ws) start mid new before log
    last cleared (rw (mid_puts ws names start mid before log cleared) at
    (placed (tells_on ws (flat_map (removal ws) names) start mid before log cleared told)))

next_more : (n : List ℕ) (left more : List Change) → is_next n (left ++ more) ≡ false
    → is_next n left ≡ false
next_more n [] more is = refl
next_more n (c ∷ cs) more is = is

pub begun_first : (ws : List Want) (first second : List Change) (old new : List ℕ → Cell)
    (before now : Option (List Change)) → Begun ws first old new before now
    → Begun ws (first ++ second) old new before now
begun_first ws first second old new before now b = record {
  made = b.made;
  left = b.left ++ second;
  whole = ap (λ l. l ++ second) b.whole ∙ append_assoc b.made b.left second;
  told = b.told;
  stands = λ n other. b.stands n (next_more n b.left second other);
}

pub begun_second : (ws : List Want) (names : List (List ℕ)) (start mid new : List ℕ → Cell)
    (before log last : Option (List Change)) → Made ws (flat_map (removal ws) names) start mid
    before log → (Tells mid → Begun ws (flat_map (putting mid) ws) mid new log last) → Tells start
    → Begun ws (flat_map (removal ws) names ++ flat_map (putting start) ws) start new before last
begun_second ws names start mid new before log last cleared placed told =
    let b = placed (tells_on ws (flat_map (removal ws) names) start mid before log cleared told) in
    record {
      made = flat_map (removal ws) names ++ b.made;
      left = b.left;
      whole = ap (λ l. flat_map (removal ws) names ++ l)
          (sym (mid_puts ws names start mid before log cleared) ∙ b.whole)
          ∙ sym (append_assoc (flat_map (removal ws) names) b.made b.left);
      told = b.told ∙ ap (λ l. done l b.made) cleared.told
          ∙ done_on before (flat_map (removal ws) names) b.made;
      stands = λ n other. b.stands n other ∙ ap (stand ws b.made n) (cleared.stands n)
          ∙ stand_on ws (flat_map (removal ws) names) b.made n (start n);
    }

-- nothing was done
pub begun_none : (ws : List Want) (plan : List Change) (old new : List ℕ → Cell)
    (before now : Option (List Change)) → ((n : List ℕ) → new n ≡ old n) → now ≡ before
    → Begun ws plan old new before now
begun_none ws plan old new before now same kept =
    record {
      made = [];
      left = plan;
      whole = refl;
      told = kept ∙ done_none before;
      stands =
          λ n other. same n;
    }

-- all of it was done
pub begun_all : (ws : List Want) (plan : List Change) (old new : List ℕ → Cell)
    (before now : Option (List Change)) → Made ws plan old new before now
    → Begun ws plan old new before now
begun_all ws plan old new before now m =
    record {
      made = plan;
      left = [];
      whole = sym (append-nil plan);
      told = m.told;
      stands =
          λ n other. m.stands n;
    }

pub on_err : {T E P : Type 0} (r : Result T E) → P → OnErr r P
on_err (Ok x) p = tt
on_err (Err e) p = p
