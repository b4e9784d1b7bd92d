-- Keys keep their numbers.
use Rattle.std.proofs.Common.{◌≡◌, ◌∙◌, ap, sym, refl, ℕ, List, [], ◌∷◌, ◌++◌, Bool, true, false, Option, Some, None, is_some, option_copied, Bor, Result, Ok, Err, OnOk, cond, map, not, nat_eq, ◌-◌}
use Rattle.std.proofs.lemmas.List.{map-append}
use Rattle.path_tree.specs.Plain.{Plain}
use Rattle.questions.specs.declared.key.Key.{Key}
use Rattle.questions.specs.declared.key.Key.TheVariants.{File, Under}
use Rattle.questions.specs.Contents.{Content, is_among, with_key}
use Rattle.asking.specs.Asked.{Word, Tells}
use Rattle.questions.specs.Told.{number_of, numbered, content_of, answers_of}
use Rattle.read_sets.specs.declared.trace.Item.{Item}
use Rattle.read_sets.specs.Items.{key_of, pair_of, keys_in}
use Rattle.load_path.specs.declared.picture.Content.{Content as FileContent}
use Rattle.load_path.specs.declared.picture.Content.TheVariants as file
use Rattle.runner.specs.Words.{object_word, object_content, file_content}
use Rattle.written_runner.specs.Traces.{with_item, with_told, AreNumbered, meter_of}
use Rattle.written_runner.specs.Written.{is_there, object_asked, file_asked, first_asked}
use Rattle.pan_ast.specs.declared.place.Place.{Place}
use Rattle.questions.specs.Run.{Run, Meter, then, ◌>>=◌, stepped, answered, ask}

abbrev item : Key → ℕ → Item
item k n = record { key = k; number = n }

keys_on : (k : Key) (n : ℕ) (items : List Item) (b : Bool)
    → keys_in (cond b items (items ++ item k n ∷ []))
    ≡ cond b (keys_in items) (keys_in items ++ k ∷ [])
keys_on k n items true = refl
keys_on k n items false = map-append key_of items (item k n ∷ [])

-- the keys of the items with a key
pub keys_with : (k : Key) (n : ℕ) (items : List Item) → keys_in (with_item k n items)
    ≡ with_key k (keys_in items)
keys_with k n items = keys_on k n items (is_among k (keys_in items))

numbered_on : (tells : Key → Word Content) (k : Key) (n : ℕ) (items : List Item) (b : Bool)
    → number_of (tells k) ≡ n → AreNumbered tells items
    → AreNumbered tells (cond b items (items ++ item k n ∷ []))
numbered_on tells k n items true e h = h
numbered_on tells k n items false e h =
    map-append pair_of items (item k n ∷ [])
    ∙ ap (λ xs. xs ++ (k, n) ∷ []) h
    ∙ ap (λ m. map (numbered tells) (keys_in items) ++ (k, m) ∷ []) (sym e)
    ∙ sym (ap (map (numbered tells)) (map-append key_of items (item k n ∷ []))
    ∙ map-append (numbered tells) (keys_in items) (k ∷ []))

pub numbered_with : (tells : Key → Word Content) (k : Key) (n : ℕ) (items : List Item)
    → number_of (tells k) ≡ n → AreNumbered tells items → AreNumbered tells (with_item k n items)
numbered_with tells k n items e h = numbered_on tells k n items (is_among k (keys_in items)) e h

-- an object that is known or not
pub numbered_told : (tells : Key → Word Content) (p : List ℕ) (q : Option (ℕ × Option Plain))
    (items : List Item) → tells (Under p []) ≡ object_word p q → AreNumbered tells items
    → AreNumbered tells (with_told p q items)
numbered_told tells p None items e h = h
numbered_told tells p (Some q) items e h =
    numbered_with tells (Under p []) q.0 items (ap number_of e) h

-- an object that is known is asked for, and the line goes on with its content
pub goes_on : (p : Place) (go : List ℕ → Content → Run Plain (Unit {0})) (object : List ℕ)
    (tells : Key → Word Content) (n : ℕ) (t : Option Plain) (v : Plain) (left : ℕ)
    (items : List Item) → nat_eq left 0 ≡ false → tells (Under object [])
    ≡ Tells n (object_content n t) → object_asked p go (Some object) (answers_of tells) v
    (meter_of left items) ≡ go object (object_content n t) (answers_of tells) v
    (meter_of (left - 1) (with_item (Under object []) n items))
goes_on p go object tells n t v left items some is =
    let k = Under object [] in
    let m : Meter = record { left = left - 1; asked = keys_in items } in
    let o = answers_of tells in
    ap (λ b. then (stepped b p v (meter_of left items)) (λ _. (ask k >>= go object) o)) some
    ∙ ap (λ w. then (answered (content_of w) k v m) (λ c. go object c o)) is
    ∙ ap (λ ks. go object (object_content n t) o v (record { left = left - 1; asked = ks }))
    (sym (keys_with k n items))

-- a file is asked for, and the run goes on with its content
pub file_goes_on : (p : Place) (go : Content → Run Plain (Unit {0})) (file : List ℕ)
    (tells : Key → Word Content) (n : ℕ) (d : Content) (v : Plain) (left : ℕ) (items : List Item)
    → nat_eq left 0 ≡ false → tells (File file) ≡ Tells n d
    → file_asked p file go (answers_of tells) v (meter_of left items)
    ≡ go d (answers_of tells) v (meter_of (left - 1) (with_item (File file) n items))
file_goes_on p go file tells n d v left items some is =
    let k = File file in
    let m : Meter = record { left = left - 1; asked = keys_in items } in
    let o = answers_of tells in
    ap (λ b. then (stepped b p v (meter_of left items)) (λ _. (ask k >>= go) o)) some
    ∙ ap (λ w. then (answered (content_of w) k v m) (λ c. go c o)) is
    ∙ ap (λ ks. go d o v (record { left = left - 1; asked = ks })) (sym (keys_with k n items))

-- the first of some files is asked for

there_is : (c : Option FileContent) → is_there (file_content c) ≡ is_some c
there_is None = refl
there_is (Some file.TooLong) = refl
there_is (Some (file.Bytes bs)) = refl

module _ (p : Place) (go : Content → Run Plain (Unit {0})) (name : List ℕ) (names : List (List ℕ))
    (tells : Key → Word Content) (n : ℕ) (c : Option FileContent) (v : Plain) (left : ℕ)
    (items : List Item) (some : nat_eq left 0 ≡ false)
    (is : tells (File name) ≡ Tells n (file_content c)) where
  first_goes_on : (b : Bool) → is_some c ≡ b → first_asked p (name ∷ names) go (answers_of tells) v
      (meter_of left items) ≡ cond b (go (file_content c)) (first_asked p names go)
      (answers_of tells) v (meter_of (left - 1) (with_item (File name) n items))
  first_goes_on b there =
      file_goes_on p (λ d. cond (is_there d) (go d) (first_asked p names go)) name tells n
      (file_content c) v left items some is
      ∙ ap (λ x. cond x (go (file_content c)) (first_asked p names go) (answers_of tells) v
      (meter_of (left - 1) (with_item (File name) n items))) (there_is c ∙ there)

  -- it is there, and the run goes on with it
  pub first_there : is_some c ≡ true → first_asked p (name ∷ names) go (answers_of tells) v
      (meter_of left items) ≡ go (file_content c) (answers_of tells) v
      (meter_of (left - 1) (with_item (File name) n items))
  first_there there = first_goes_on true there

  -- it is not, and the next is asked for
  pub first_missing : is_some c ≡ false → first_asked p (name ∷ names) go (answers_of tells) v
      (meter_of left items) ≡ first_asked p names go (answers_of tells) v
      (meter_of (left - 1) (with_item (File name) n items))
  first_missing there = first_goes_on false there

-- a reference is there where its value is
pub copied_some : {X : Type 0} → (x : Option (Bor X)) → is_some (option_copied x) ≡ is_some x
copied_some None = refl
copied_some (Some b) = refl

pub not_zero : (b s : Bool) → s ≡ not b → s ≡ true → b ≡ false
not_zero true s e t = absurd (let clash : false ≡ true = sym e ∙ t in cc)
not_zero false s e t = refl

pub whenever : {A E P : Type 0} (r : Result A E) → P → OnOk r P
whenever (Ok a) p = p
whenever (Err e) p = tt
