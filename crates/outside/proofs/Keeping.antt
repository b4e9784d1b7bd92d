-- What stands in a list of entries after one is put or taken out.
use Rattle.std.proofs.Common.{◌≡◌, ℕ, Bool, true, false, List, [], ◌∷◌, ◌++◌, Option, Some, None, is_some, map, if◌then◌else◌, ◌||◌, refl, sym, ap, ◌∙◌}
use Rattle.std.specs.Prelude.{bytes_eq}
use Rattle.std.specs.List.{list_any}
use Rattle.std.proofs.lemmas.Slice.Eq.{bytes_eq-Decides}
use Rattle.outside.specs.declared.sure_shelf.Held.{Held}
use Rattle.outside.specs.Kept.{kept, without}

-- x: the entry has the name m; y: the name asked for is m; z: the entry has the name asked for
taken_by : (h : Held) (m n : List ℕ) (hs : List Held) (tail : List Held) (last : Option (List ℕ))
    (x y z : Bool) → bytes_eq h.name m ≡ x → bytes_eq m n ≡ y → bytes_eq h.name n ≡ z
    → kept (without m hs ++ tail) n ≡ (if y then last else kept hs n)
    → kept ((if x then without m hs else h ∷ without m hs) ++ tail) n
    ≡ (if y then last else (if z then Some h.bytes else kept hs n))
taken_by h m n hs tail last true true z isx isy isz ih = ih
taken_by h m n hs tail last true false false isx isy isz ih = ih
taken_by h m n hs tail last true false true isx isy isz ih = let e : bytes_eq m n ≡ true =
    ap (λ k. bytes_eq k n) (sym ((bytes_eq-Decides h.name m).0 isx)) ∙ isz in let f : true ≡ false =
    sym e ∙ isy in cc
taken_by h m n hs tail last false true true isx isy isz ih = let e : h.name ≡ m =
    (bytes_eq-Decides h.name n).0 isz ∙ sym ((bytes_eq-Decides m n).0 isy) in let f : true ≡ false =
    sym ((bytes_eq-Decides h.name m).1 e) ∙ isx in cc
taken_by h m n hs tail last false true false isx isy isz ih = rw isz ih
taken_by h m n hs tail last false false true isx isy isz ih = rw isz refl
taken_by h m n hs tail last false false false isx isy isz ih = rw isz ih

pub kept_put : (m b n : List ℕ) (hs : List Held)
    → kept (without m hs ++ record { name = m; bytes = b } ∷ []) n
    ≡ (if bytes_eq m n then Some b else kept hs n)
kept_put m b n [] = refl
kept_put m b n (h ∷ hs) =
    taken_by h m n hs (record { name = m; bytes = b } ∷ []) (Some b) (bytes_eq h.name m)
    (bytes_eq m n) (bytes_eq h.name n) refl refl refl (kept_put m b n hs)

same_if : (y : Bool) (o : Option (List ℕ)) → o ≡ (if y then o else o)
same_if true o = refl
same_if false o = refl

append_none : (xs : List Held) (n : List ℕ) → kept (xs ++ []) n ≡ kept xs n
append_none [] n = refl
append_none (x ∷ xs) n = rw (append_none xs n) refl

taken_all : (m n : List ℕ) (hs : List Held) → kept (without m hs ++ []) n
    ≡ (if bytes_eq m n then None else kept hs n)
taken_all m n [] = same_if (bytes_eq m n) None
taken_all m n (h ∷ hs) =
    taken_by h m n hs [] None (bytes_eq h.name m) (bytes_eq m n) (bytes_eq h.name n) refl refl refl
    (taken_all m n hs)

pub kept_without : (m n : List ℕ) (hs : List Held) → kept (without m hs) n
    ≡ (if bytes_eq m n then None else kept hs n)
kept_without m n hs = sym (append_none (without m hs) n) ∙ taken_all m n hs

some_if : (y : Bool) (a b : Option (List ℕ)) → Some (if y then a else b)
    ≡ (if y then Some a else Some b)
some_if true a b = refl
some_if false a b = refl

pub cell_put : (m b n : List ℕ) (hs : List Held)
    → Some (kept (without m hs ++ record { name = m; bytes = b } ∷ []) n)
    ≡ (if bytes_eq m n then Some (Some b) else Some (kept hs n))
cell_put m b n hs = ap (λ o. Some o) (kept_put m b n hs)
    ∙ some_if (bytes_eq m n) (Some b) (kept hs n)

pub cell_without : (m n : List ℕ) (hs : List Held) → Some (kept (without m hs) n)
    ≡ (if bytes_eq m n then Some None else Some (kept hs n))
cell_without m n hs = ap (λ o. Some o) (kept_without m n hs)
    ∙ some_if (bytes_eq m n) None (kept hs n)

some_or : (z : Bool) (b : List ℕ) (o : Option (List ℕ)) → is_some (if z then Some b else o)
    ≡ (z || is_some o)
some_or true b o = refl
some_or false b o = refl

pub names_kept : (hs : List Held) (n : List ℕ) → is_some (kept hs n)
    ≡ list_any (λ m. bytes_eq m n) (map (λ (h : Held). h.name) hs)
names_kept [] n = refl
names_kept (h ∷ hs) n = some_or (bytes_eq h.name n) h.bytes (kept hs n)
    ∙ ap (λ r. bytes_eq h.name n || r) (names_kept hs n)
