-- One more line: the different faults, and the objects of a fault.
use Rattle.std.proofs.Common.{◌≡◌, ℕ, Bool, true, false, List, [], ◌∷◌, ◌++◌, map, ◌||◌, ◌&&◌, if◌then◌else◌, refl, sym, ap, ap₂, ◌∙◌}
use Rattle.std.specs.Prelude.{not, bytes_eq}
use Rattle.std.specs.List.{filter, list_any}
use Rattle.std.proofs.lemmas.Slice.Eq.{bytes_eq-Decides}
use Rattle.std.proofs.lemmas.List.{append-nil}
use Rattle.std.proofs.lemmas.List.{map-append}
use Rattle.std.proofs.lemmas.List.Elements.{filter-append}
use Rattle.std.proofs.lemmas.Map.Views.{any-filter_same}
use Rattle.fault_notes.specs.Lines.{object_in, fault_in}
use Rattle.fault_notes.specs.Reports.{different, faults_of, objects_with}

-- the texts other than one
abbrev others : List ℕ → List (List ℕ) → List (List ℕ)
others x xs = filter (λ other. not (bytes_eq x other)) xs

symmetric : (x y : List ℕ) → bytes_eq x y ≡ bytes_eq y x
symmetric x y = pair (bytes_eq x y) (bytes_eq y x) refl refl where
  pair : (a b : Bool) → bytes_eq x y ≡ a → bytes_eq y x ≡ b → a ≡ b
  pair true true is other = refl
  pair false false is other = refl
  pair true false is other = let e : y ≡ x = sym ((bytes_eq-Decides x y).0 is) in
      let f : true ≡ false = sym ((bytes_eq-Decides y x).1 e) ∙ other in cc
  pair false true is other = let e : x ≡ y = sym ((bytes_eq-Decides y x).0 other) in
      let f : true ≡ false = sym ((bytes_eq-Decides x y).1 e) ∙ is in cc

-- a text is among those other than y where it is among all and is not y
among_others : (x y : List ℕ) (ds : List (List ℕ)) → list_any (bytes_eq x) (others y ds)
    ≡ (not (bytes_eq y x) && list_any (bytes_eq x) ds)
among_others x y ds = any-filter_same (bytes_eq x) (λ other. not (bytes_eq y other))
    (not (bytes_eq y x)) (λ k is. ap (λ z. not (bytes_eq y z)) (sym ((bytes_eq-Decides x k).0 is)))
    ds

more_at : (x y : List ℕ) (ds more : List (List ℕ)) (same among : Bool) → bytes_eq y x ≡ same → more
    ≡ (if among then ds else ds ++ (x ∷ [])) → y ∷ others y more
    ≡ (if same || (not same && among) then y ∷ others y ds else (y ∷ others y ds) ++ (x ∷ []))
more_at x y ds more true true same is = ap (λ ms. y ∷ others y ms) is
more_at x y ds more true false same is =
    ap (λ ms. y ∷ others y ms) is ∙ ap (λ ms. y ∷ ms)
    (filter-append (λ other. not (bytes_eq y other)) ds (x ∷ [])
    ∙ rw same (append-nil (others y ds)))
more_at x y ds more false true same is = ap (λ ms. y ∷ others y ms) is
more_at x y ds more false false same is =
    ap (λ ms. y ∷ others y ms) is ∙ ap (λ ms. y ∷ ms)
    (filter-append (λ other. not (bytes_eq y other)) ds (x ∷ []) ∙ rw same refl)

different_more : (x : List ℕ) (xs : List (List ℕ)) → different (xs ++ (x ∷ []))
    ≡ (if list_any (bytes_eq x) (different xs) then different xs else different xs ++ (x ∷ []))
different_more x [] = refl
different_more x (y ∷ ys) =
    let tests : list_any (bytes_eq x) (different (y ∷ ys))
    ≡ (bytes_eq y x || (not (bytes_eq y x) && list_any (bytes_eq x) (different ys))) =
    ap (λ b. b || list_any (bytes_eq x) (others y (different ys))) (symmetric x y)
    ∙ ap (λ b. bytes_eq y x || b) (among_others x y (different ys)) in
    more_at x y (different ys) (different (ys ++ (x ∷ []))) (bytes_eq y x)
    (list_any (bytes_eq x) (different ys)) refl (different_more x ys)
    ∙ ap (λ b. if b then different (y ∷ ys) else different (y ∷ ys) ++ (x ∷ [])) (sym tests)

faults_more : (lines : List (List ℕ)) (line : List ℕ) → faults_of (lines ++ line ∷ [])
    ≡ (if list_any (bytes_eq (fault_in line)) (faults_of lines) then faults_of lines else faults_of
    lines ++ (fault_in line ∷ []))
faults_more lines line =
    ap different (map-append fault_in lines (line ∷ []))
    ∙ different_more (fault_in line) (map fault_in lines)

-- the faults of one line more, where its fault was added
pub added : (lines more : List (List ℕ)) (line fault : List ℕ) (old new : List (List ℕ)) → more
    ≡ lines ++ (line ∷ []) → fault ≡ fault_in line → old ≡ faults_of lines → new
    ≡ (if list_any (bytes_eq fault) old then old else old ++ (fault ∷ [])) → new ≡ faults_of more
added lines more line fault old new one found before is =
    is ∙ ap₂ (λ f os. if list_any (bytes_eq f) os then os else os ++ (f ∷ [])) found before
    ∙ sym (faults_more lines line) ∙ ap faults_of (sym one)

with_by : (lines : List (List ℕ)) (line fault : List ℕ) (b : Bool)
    → map object_in (filter (λ l. bytes_eq (fault_in l) fault) lines
    ++ (if b then line ∷ [] else [])) ≡ (if b then objects_with lines fault
    ++ (object_in line ∷ []) else objects_with lines fault)
with_by lines line fault true =
    map-append object_in (filter (λ l. bytes_eq (fault_in l) fault) lines) (line ∷ [])
with_by lines line fault false =
    ap (map object_in) (append-nil (filter (λ l. bytes_eq (fault_in l) fault) lines))

pub objects_more : (lines : List (List ℕ)) (line fault : List ℕ)
    → objects_with (lines ++ line ∷ []) fault
    ≡ (if bytes_eq (fault_in line) fault then objects_with lines fault
    ++ (object_in line ∷ []) else objects_with lines fault)
objects_more lines line fault =
    ap (map object_in) (filter-append (λ l. bytes_eq (fault_in l) fault) lines (line ∷ []))
    ∙ with_by lines line fault (bytes_eq (fault_in line) fault)
