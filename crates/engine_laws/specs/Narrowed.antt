-- What is looked at of an object that is not touched: its items that name objects, and nothing of
-- its
-- check. A turn leaves such an object alone.
use Rattle.std.specs.Prelude.{◌≡◌, ℕ, List, [], ◌∷◌, Bool, true, false, Option, Some, None}
use Rattle.engine_laws.specs.Names.{Name}
use Rattle.engine_laws.specs.Runner.{Runner, IsIn}
use Rattle.engine_laws.specs.Engine.{Whole, Keeping, Judge, Situation, Turn, happens, both_items, AllEqual, Differs, compared, tells}
use Rattle.engine_laws.specs.Reached.{IsReached}

abbrev pub if_named : {K : Type 0} → Option Name → K × ℕ → List (K × ℕ) → List (K × ℕ)
if_named None q rest = rest
if_named (Some p) q rest = q ∷ rest

-- the items whose keys name objects, in the picture or not
abbrev pub named_items : {K : Type 0} → (K → Option Name) → List (K × ℕ) → List (K × ℕ)
named_items names [] = []
named_items names (q ∷ items) = if_named (names q.0) q (named_items names items)

-- the items that are looked at of a build part, and of a check part
abbrev pub build_looks : {K : Type 0} → (K → Option Name) → Bool → List (K × ℕ) → List (K × ℕ)
build_looks names true items = items
build_looks names false items = named_items names items

abbrev pub check_looks : {K : Type 0} → Bool → List (K × ℕ) → List (K × ℕ)
check_looks true items = items
check_looks false items = []

module _ {K C R S F : Type 0} (run : Runner K C R) (kp : Keeping K C R S) (jd : Judge K C R F) where
  -- an object that is not touched has its record; with its build part on top, the items that name
  -- objects alone find what all items find, and none differs; with its check part on the chain, all
  -- items are equal
  pub record IsNarrowed (x : Situation K C R S F) (o : Name) : Type 0 where
    pub items : List (K × ℕ)
    pub is_reads : x.state.reads o ≡ Some items
    pub build : (rest : List Name) → x.state.chain ≡ o ∷ rest
        → compared (tells run kp x.picture x.state) items
        ≡ compared (tells run kp x.picture x.state) (named_items kp.names items)
    pub same : (rest : List Name) (k : K) → x.state.chain ≡ o ∷ rest
        → compared (tells run kp x.picture x.state) items ≡ Differs k → ⊥
    pub check : x.state.checking ≡ Some o → (num : ℕ) (t : S) → x.state.last o ≡ Some (num, t)
        → kp.grade t ≡ Whole → (citems : List (K × ℕ)) × (f : F)
        × (x.state.checked o ≡ Some (citems, f))
        × (compared (tells run kp x.picture x.state) citems ≡ AllEqual)

  -- wherever events lead
  abbrev pub AreNarrowed : Type 0
  AreNarrowed = (x : Situation K C R S F) → IsReached run kp jd x → (o : Name)
      → IsIn o x.picture.objects → x.state.touched o ≡ false → IsNarrowed x o

  -- a turn does not run it, and leaves its result, its record, and what its record asks for
  pub record IsLeftAlone (x : Situation K C R S F) (o : Name) : Type 0 where
    pub not_run : (happens run kp jd x Turn).state.runs o ≡ true → x.state.runs o ≡ true
    pub last : (happens run kp jd x Turn).state.last o ≡ x.state.last o
    pub reads : (happens run kp jd x Turn).state.reads o ≡ x.state.reads o
    pub items : both_items ((happens run kp jd x Turn).state.reads o)
        ((happens run kp jd x Turn).state.checked o)
        ≡ both_items (x.state.reads o) (x.state.checked o)

  abbrev pub AreLeftAlone : Type 0
  AreLeftAlone = (x : Situation K C R S F) → IsReached run kp jd x → (o : Name)
      → IsIn o x.picture.objects → x.state.touched o ≡ false → IsLeftAlone x o
