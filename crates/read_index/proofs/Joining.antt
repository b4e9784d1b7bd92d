-- What a change reaches, by names.
use Rattle.std.proofs.Common.{◌≡◌, ◌∙◌, ap, sym, refl, subst, ℕ, List, [], ◌∷◌, Bool, true, false, ◌&&◌, ◌||◌, Option, Some, None, nat_eq}
use Rattle.std.specs.Prelude.{slice_get, bytes_eq}
use Rattle.std.specs.List.{list_any}
use Rattle.std.proofs.lemmas.Slice.Eq.{bytes_eq-Decides}
use Rattle.questions.specs.declared.key.Key.{Key}
use Rattle.questions.specs.Keys.{key_eq}
use Rattle.questions.specs.KeyLaws.{key_same, key_refl}
use Rattle.read_index.specs.declared.nodes.Edge.{Edge}
use Rattle.read_index.specs.declared.nodes.Node.{Node}
use Rattle.read_index.specs.Subjects.{reader_key}
use Rattle.read_index.specs.Nodes.{number_in, mark_at, readers_of, readers_at, readers_in}
use Rattle.read_index.specs.Readers.{is_mark, is_to, asks_at, asks_in}
use Rattle.read_index.specs.Owners.{name_at, AreReaders}
use Rattle.read_index.specs.Reached.{reads_node, reads_some, IsReached, reads, reads_on, AreReached, object_found, is_name_of, is_named, Reaches, reads_moved, reads_reader, AreReaching}
use Rattle.read_index.proofs.Numbered.{no_some, some_same, number_is}
use Rattle.read_index.proofs.Adding.{both_true}
use Rattle.read_index.proofs.Owning.{name_is}

any_one : {A : Type 0} (test : A → Bool) (xs : List A) → list_any test xs ≡ true → (x : A)
    × (test x ≡ true)
any_one test [] e = absurd (let clash : false ≡ true = e in cc)
any_one {A} test (x ∷ xs) e = at (any_one test xs) (test x) refl e
  where
    at : (list_any test xs ≡ true → (y : A) × (test y ≡ true)) → (b : Bool) → test x ≡ b → b
        || list_any test xs ≡ true → (y : A) × (test y ≡ true)
    at later true is e = (x, is)
    at later false is e = later e

or_first : (a b : Bool) → a ≡ true → a || b ≡ true
or_first true b e = refl
or_first false b e = absurd (let clash : false ≡ true = e in cc)

or_second : (a b : Bool) → b ≡ true → a || b ≡ true
or_second true b e = refl
or_second false b e = e

-- a key of the list that passes a test
key_one : (test : Key → Bool) (ks : List Key) → list_any test ks ≡ true → (k : Key)
    × (test k ≡ true) × (list_any (key_eq k) ks ≡ true)
key_one test [] e = absurd (let clash : false ≡ true = e in cc)
key_one test (j ∷ ks) e = at (key_one test ks) (test j) refl e
  where
    at : (list_any test ks ≡ true → (k : Key) × (test k ≡ true) × (list_any (key_eq k) ks ≡ true))
        → (b : Bool) → test j ≡ b → b || list_any test ks ≡ true → (k : Key) × (test k ≡ true)
        × (list_any (key_eq k) (j ∷ ks) ≡ true)
    at later true is e = (j, is, or_first (key_eq j j) (list_any (key_eq j) ks) (key_refl j))
    at later false is e = let l = later e in
        (l.0, l.1, or_second (key_eq l.0 j) (list_any (key_eq l.0) ks) l.2)

key_there : (test : Key → Bool) (ks : List Key) (k : Key) → list_any (key_eq k) ks ≡ true → test k
    ≡ true → list_any test ks ≡ true
key_there test [] k e t = absurd (let clash : false ≡ true = e in cc)
key_there test (j ∷ ks) k e t = at (key_there test ks k) (key_eq k j) refl e
  where
    at : (list_any (key_eq k) ks ≡ true → test k ≡ true → list_any test ks ≡ true) → (b : Bool)
        → key_eq k j ≡ b → b || list_any (key_eq k) ks ≡ true → test j || list_any test ks ≡ true
    at later true is e = or_first (test j) (list_any test ks) (ap test (sym (key_same k j is)) ∙ t)
    at later false is e = or_second (test j) (list_any test ks) (later e t)

module _ (keys : List Key) (nodes : List Node) (h : AreReaders keys nodes) where
  marked : (n : ℕ) (e : Edge) → is_to nodes n e ≡ true → (m : ℕ) × (mark_at nodes n ≡ Some m)
  marked n e is = at (mark_at nodes n) refl (both_true (nat_eq e.reader n)
      (is_mark (mark_at nodes n) e.mark) is).1
    where
      at : (o : Option ℕ) → mark_at nodes n ≡ o → is_mark o e.mark ≡ true → (m : ℕ)
          × (mark_at nodes n ≡ Some m)
      at None is e = absurd (let clash : false ≡ true = e in cc)
      at (Some m) is e = (m, is)

  -- whoever reads has the number of its name
  numbered : (n : ℕ) (edges : List Edge) → list_any (is_to nodes n) edges ≡ true
      → number_in (reader_key (name_at keys n)) keys ≡ Some n
  numbered n edges e =
      let edge = any_one (is_to nodes n) edges e in
      let mark = marked n edge.0 edge.1 in
      h n mark.0 mark.1

  asks_now : (n : ℕ) (k : Key) → list_any (is_to nodes n) (readers_in keys nodes k) ≡ true
      → asks_in keys nodes (reader_key (name_at keys n)) k ≡ true
  asks_now n k e = ap (λ o. asks_at nodes o (readers_in keys nodes k))
      (numbered n (readers_in keys nodes k) e) ∙ e

  -- whoever is reached reads
  reached_number : (moved : List Key) (n : ℕ) → IsReached keys nodes moved n
      → number_in (reader_key (name_at keys n)) keys ≡ Some n
  reached_number moved _ (reads n e) = let k =
      key_one (λ j. list_any (is_to nodes n) (readers_in keys nodes j)) moved e in
      numbered n (readers_in keys nodes k.0) k.1
  reached_number moved _ (reads_on n s e r) = numbered n (readers_of (slice_get nodes s)) e

  from_number : (moved : List Key) (n : ℕ) → IsReached keys nodes moved n
      → Reaches (asks_in keys nodes) moved (name_at keys n)
  from_number moved _ (reads n e) =
      let k = key_one (λ j. list_any (is_to nodes n) (readers_in keys nodes j)) moved e in
      reads_moved (name_at keys n) k.0 (asks_now n k.0 k.1) k.2
  from_number moved _ (reads_on n s e r) =
      let place = reached_number moved s r in
      let there : list_any (is_to nodes n) (readers_in keys nodes (reader_key (name_at keys s)))
      ≡ true = ap (λ o. list_any (is_to nodes n) (readers_at nodes o)) place ∙ e in
      reads_reader (name_at keys n) (name_at keys s)
      (asks_now n (reader_key (name_at keys s)) there) (from_number moved s r)

  asked_by : (name : List ℕ) (k : Key) → asks_in keys nodes (reader_key name) k ≡ true → (n : ℕ)
      × (number_in (reader_key name) keys ≡ Some n)
      × (list_any (is_to nodes n) (readers_in keys nodes k) ≡ true)
  asked_by name k e = at (number_in (reader_key name) keys) refl e
    where
      at : (o : Option ℕ) → number_in (reader_key name) keys ≡ o
          → asks_at nodes o (readers_in keys nodes k) ≡ true → (n : ℕ)
          × (number_in (reader_key name) keys ≡ Some n)
          × (list_any (is_to nodes n) (readers_in keys nodes k) ≡ true)
      at None is e = absurd (let clash : false ≡ true = e in cc)
      at (Some n) is e = (n, is, e)

  to_number : (moved : List Key) (name : List ℕ) → Reaches (asks_in keys nodes) moved name → (n : ℕ)
      × (number_in (reader_key name) keys ≡ Some n) × IsReached keys nodes moved n
  to_number moved _ (reads_moved name k e there) =
      let n = asked_by name k e in (
        n.0,
        n.1,
        reads n.0 (key_there (λ j. list_any (is_to nodes n.0) (readers_in keys nodes j))
            moved k there n.2),
      )
  to_number moved _ (reads_reader name object e r) =
      let s = to_number moved object r in
      let n = asked_by name (reader_key object) e in
      let on : reads_node nodes n.0 s.0 ≡ true =
      sym (ap (λ o. list_any (is_to nodes n.0) (readers_at nodes o)) s.1) ∙ n.2 in
      (n.0, n.1, reads_on n.0 s.0 on s.2)

  named_owner : (name : List ℕ) (n : ℕ) → number_in (reader_key (name_at keys n)) keys ≡ Some n
      → is_named keys name n ≡ true → name ≡ name_at keys n
  named_owner name n place is =
      let at = number_is (reader_key (name_at keys n)) keys n place in
      (bytes_eq-Decides name (name_at keys n)).0 (sym
      (ap (λ o. is_name_of name (object_found o)) at) ∙ is)

  owner_named : (name : List ℕ) (n : ℕ) → number_in (reader_key name) keys ≡ Some n
      → is_named keys name n ≡ true
  owner_named name n place =
      let at = number_is (reader_key name) keys n place in
      ap (λ o. is_name_of name (object_found o)) at ∙ (bytes_eq-Decides name name).1 refl

  pub reaching : (moved : List Key) (names : List (List ℕ)) → AreReached keys nodes moved names
      → AreReaching (asks_in keys nodes) moved names
  reaching moved names a = record {
    only = λ name e.
        let n = a.only name e in
        let same = named_owner name n.0 (reached_number moved n.0 n.2) n.1 in
        subst (Reaches (asks_in keys nodes) moved) (sym same) (from_number moved n.0 n.2);
    all = λ name r.
        let n = to_number moved name r in
        a.all name n.0 (owner_named name n.0 n.1) n.2;
  }
