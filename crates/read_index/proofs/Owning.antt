-- What has a mark is an object with the number of its name.
use Rattle.std.proofs.Common.{◌≡◌, ◌∙◌, ap, sym, refl, subst, ℕ, List, [], Bool, true, false, Some, None, nat_eq}
use Rattle.std.proofs.lemmas.Bool.{eqb-true}
use Rattle.std.specs.Prelude.{slice_get}
use Rattle.questions.specs.declared.key.Key.{Key}
use Rattle.read_index.specs.declared.nodes.Edge.{Edge}
use Rattle.read_index.specs.declared.nodes.Node.{Node}
use Rattle.read_index.specs.Subjects.{reader_key}
use Rattle.read_index.specs.Nodes.{number_in, mark_at, Adds, HasAdded, IsMarked, IsCleared}
use Rattle.read_index.specs.Owners.{name_of, name_at, AreReaders}
use Rattle.read_index.proofs.Numbered.{no_some, number_is}

-- the name of a key with a number
pub name_is : (name : List ℕ) (keys : List Key) (i : ℕ) → number_in (reader_key name) keys ≡ Some i
    → name_at keys i ≡ name
name_is name keys i e = ap name_of (number_is (reader_key name) keys i e)

pub readers_none : (keys : List Key) → AreReaders keys []
readers_none keys i m e = absurd (no_some e)

pub readers_added : (keys keys' : List Key) (nodes nodes' : List Node) (e : Edge)
    (added : Key → Bool) → Adds keys nodes keys' nodes' e added → AreReaders keys nodes
    → AreReaders keys' nodes'
readers_added keys keys' nodes nodes' e added a h i m marked =
    let old = h i m (sym (a.marks i) ∙ marked) in
    let there = a.places (reader_key (name_at keys i)) i old in
    ap (λ name. number_in (reader_key name) keys') (name_is (name_at keys i) keys' i there) ∙ there

pub readers_more : (keys keys' : List Key) (nodes nodes' : List Node) (e : Edge)
    → HasAdded keys nodes keys' nodes' e → AreReaders keys nodes → AreReaders keys' nodes'
readers_more keys keys' nodes nodes' e a = readers_added keys keys' nodes nodes' e a.0 a.1

pub readers_marked : (keys : List Key) (nodes nodes' : List Node) (name : List ℕ) (at mark : ℕ)
    → number_in (reader_key name) keys ≡ Some at → IsMarked at mark nodes nodes'
    → AreReaders keys nodes → AreReaders keys nodes'
readers_marked keys nodes nodes' name at mark place a h i m marked = here (nat_eq i at) refl
  where
    here : (b : Bool) → nat_eq i at ≡ b → number_in (reader_key (name_at keys i)) keys ≡ Some i
    here true e =
        let same = eqb-true i at e in
        ap (λ n. number_in (reader_key n) keys) (ap (name_at keys) same
        ∙ name_is name keys at place) ∙ place ∙ ap Some (sym same)
    here false e = h i m (sym (a.others i e) ∙ marked)

pub readers_cleared : (keys : List Key) (nodes nodes' : List Node) (at : ℕ)
    → IsCleared at nodes nodes' → AreReaders keys nodes → AreReaders keys nodes'
readers_cleared keys nodes nodes' at a h i m marked = here (nat_eq i at) refl
  where
    here : (b : Bool) → nat_eq i at ≡ b → number_in (reader_key (name_at keys i)) keys ≡ Some i
    here true e = absurd (no_some (sym a.here ∙ ap (mark_at nodes') (sym (eqb-true i at e))
        ∙ marked))
    here false e = h i m (sym (a.others i e) ∙ marked)
