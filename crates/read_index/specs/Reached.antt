-- What a change reaches, by the numbers of readers.
use Rattle.std.specs.Prelude.{◌≡◌, ℕ, List, ◌++◌, Bool, true, false, nat_eq, bytes_eq, Option, Some, None, slice_get}
use Rattle.std.specs.List.{list_any}
use Rattle.questions.specs.declared.key.Key.{Key}
use Rattle.questions.specs.Keys.{key_eq, object_of}
use Rattle.read_index.specs.declared.nodes.Node.{Node}
use Rattle.read_index.specs.Nodes.{readers_of, readers_in}
use Rattle.read_index.specs.Readers.{is_to}
use Rattle.read_index.specs.Subjects.{reader_key}

-- the reader with this number is among the found ones
abbrev pub has : ℕ → List ℕ → Bool
has n found = list_any (nat_eq n) found

abbrev pub IsLonger : List ℕ → List ℕ → Type 0
IsLonger found found' = (more : List ℕ) × (found' ≡ found ++ more)

-- it read the file or the object with the number s
abbrev pub reads_node : List Node → ℕ → ℕ → Bool
reads_node nodes n s = list_any (is_to nodes n) (readers_of (slice_get nodes s))

-- it read one of these
abbrev pub reads_some : List Key → List Node → ℕ → List Key → Bool
reads_some keys nodes n moved =
    list_any (λ k. list_any (is_to nodes n) (readers_in keys nodes k)) moved

-- it is one of the first, or read an object that is reached
pub data Comes (nodes : List Node) (first : List ℕ) : ℕ → Type 0 where
  begins : (n : ℕ) → has n first ≡ true → Comes nodes first n
  goes_on : (n s : ℕ) → reads_node nodes n s ≡ true → Comes nodes first s → Comes nodes first n

-- the found ones, closed under reading
pub record AreAll (nodes : List Node) (first found : List ℕ) : Type 0 where
  pub from_first : (n : ℕ) → has n first ≡ true → has n found ≡ true
  pub closed : (n s : ℕ) → has s found ≡ true → reads_node nodes n s ≡ true → has n found ≡ true
  pub only : (n : ℕ) → has n found ≡ true → Comes nodes first n

abbrev pub object_found : Option Key → Option (List ℕ)
object_found None = None
object_found (Some k) = object_of k

abbrev pub is_name_of : List ℕ → Option (List ℕ) → Bool
is_name_of name None = false
is_name_of name (Some p) = bytes_eq name p

-- the number is that of the object of this name
abbrev pub is_named : List Key → List ℕ → ℕ → Bool
is_named keys name n = is_name_of name (object_found (slice_get keys n))

-- a reader reads one of the keys that moved, or an object that is reached
pub data IsReached (keys : List Key) (nodes : List Node) (moved : List Key) : ℕ → Type 0 where
  reads : (n : ℕ) → reads_some keys nodes n moved ≡ true → IsReached keys nodes moved n
  reads_on : (n s : ℕ) → reads_node nodes n s ≡ true → IsReached keys nodes moved s
      → IsReached keys nodes moved n

-- the names of exactly those readers
pub record AreReached (keys : List Key) (nodes : List Node) (moved : List Key)
    (names : List (List ℕ)) : Type 0 where
  pub only : (name : List ℕ) → list_any (bytes_eq name) names ≡ true
      → (n : ℕ) × (is_named keys name n ≡ true) × IsReached keys nodes moved n
  pub all : (name : List ℕ) (n : ℕ) → is_named keys name n ≡ true
      → IsReached keys nodes moved n → list_any (bytes_eq name) names ≡ true

-- a reader reads one of the keys that moved, or an object that is such a reader
pub data Reaches (reads : Key → Key → Bool) (moved : List Key) : List ℕ → Type 0 where
  reads_moved : (name : List ℕ) (k : Key) → reads (reader_key name) k ≡ true
      → list_any (key_eq k) moved ≡ true → Reaches reads moved name
  reads_reader : (name object : List ℕ) → reads (reader_key name) (reader_key object) ≡ true
      → Reaches reads moved object → Reaches reads moved name

-- exactly those readers
pub record AreReaching (reads : Key → Key → Bool) (moved : List Key) (names : List (List ℕ)) : Type
    0
  where
    pub only : (name : List ℕ) → list_any (bytes_eq name) names ≡ true → Reaches reads moved name
    pub all : (name : List ℕ) → Reaches reads moved name → list_any (bytes_eq name) names ≡ true
