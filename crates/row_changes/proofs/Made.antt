-- What a keeper holds that held the rows last kept and was told what differs.
use Rattle.std.proofs.Common.{◌≡◌, ℕ, Bool, true, false, List, [], ◌∷◌, map, cond, Option, Some, None, refl, sym, ap, subst, ◌∙◌}
use Rattle.std.specs.Prelude.{bytes_eq, is_some, not}
use Rattle.std.specs.Option.{option_eq}
use Rattle.std.proofs.lemmas.Bool.{and_parts}
use Rattle.std.proofs.lemmas.Slice.Eq.{bytes_eq-Decides}
use Rattle.stored_rows.specs.declared.row.StoredRow.{StoredRow}
use Rattle.stored_rows.specs.Rows.{row_name, are_rising, bytes_under}
use Rattle.stored_rows.proofs.Above.{names_rise}
use Rattle.keepers.specs.Keeping.{all_gone, all_set, replaced}
use Rattle.row_changes.specs.Differing.{has_name, has_row, gone_from, set_from}
use Rattle.row_changes.proofs.Walk.{absent, above_first}

pub same : (a b : List ℕ) → bytes_eq a b ≡ true → a ≡ b
same a b h = (bytes_eq-Decides a b).0 h

-- ---- a name that is not among the wanted rows

none_under : (k : Bool) (b : List ℕ) (rest : Option (List ℕ)) → cond k (Some b) rest ≡ None
    → (k ≡ false) × (rest ≡ None)
none_under true b rest h = absurd cc
none_under false b rest h = (refl, h)

set_other : (x : Bool) (r : StoredRow) (rows : List StoredRow) (n : List ℕ)
    (d : Option (List ℕ)) → bytes_eq r.name n ≡ false
    → all_set (cond x (r ∷ rows) rows) n d ≡ all_set rows n d
set_other true r rows n d h = ap (λ k. all_set rows n (cond k (Some r.bytes) d)) h
set_other false r rows n d h = refl

none_set : (last rows : List StoredRow) (n : List ℕ) (d : Option (List ℕ))
    → bytes_under rows n ≡ None → all_set (set_from last rows) n d ≡ d
none_set last [] n d h = refl
none_set last (r ∷ rs) n d h =
    let parts : (bytes_eq r.name n ≡ false) × (bytes_under rs n ≡ None) =
    none_under (bytes_eq r.name n) r.bytes (bytes_under rs n) h in
    set_other (not (has_row last r)) r (set_from last rs) n d parts.0
    ∙ none_set last rs n d parts.1

none_left : (k : Bool) → ◌≡◌ {A = Option (List ℕ)} (cond k None None) None
none_left true = refl
none_left false = refl

stays_gone : (names : List (List ℕ)) (n : List ℕ) → all_gone names n None ≡ None
stays_gone [] n = refl
stays_gone (m ∷ ms) n = ap (λ k. all_gone ms n k) (none_left (bytes_eq m n)) ∙ stays_gone ms n

gone_other : (x : Bool) (m : List ℕ) (names : List (List ℕ)) (n : List ℕ)
    (d : Option (List ℕ)) → (x ≡ true → bytes_eq m n ≡ false)
    → all_gone (cond x (m ∷ names) names) n d ≡ all_gone names n d
gone_other true m names n d h = ap (λ k. all_gone names n (cond k None d)) (h refl)
gone_other false m names n d h = refl

goes_by : (wanted : List StoredRow) (r : StoredRow) (rs : List StoredRow) (n : List ℕ) (k : Bool)
    → bytes_under wanted n ≡ None → bytes_eq r.name n ≡ k
    → all_gone (gone_from rs wanted) n (bytes_under rs n) ≡ None
    → all_gone (gone_from (r ∷ rs) wanted) n (bytes_under (r ∷ rs) n) ≡ None
goes_by wanted r rs n true none is rest =
    let mine : bytes_under wanted r.name ≡ None =
    subst (λ m. bytes_under wanted m ≡ None) (sym (same r.name n is)) none in
    ap (λ o. all_gone (cond (not (is_some o)) (r.name ∷ gone_from rs wanted)
    (gone_from rs wanted)) n (bytes_under (r ∷ rs) n)) mine
    ∙ ap (λ k. all_gone (gone_from rs wanted) n (cond k None (bytes_under (r ∷ rs) n))) is
    ∙ stays_gone (gone_from rs wanted) n
goes_by wanted r rs n false none is rest =
    gone_other (not (has_name wanted r.name)) r.name (gone_from rs wanted) n
    (bytes_under (r ∷ rs) n) (λ _. is)
    ∙ ap (λ k. all_gone (gone_from rs wanted) n (cond k (Some r.bytes) (bytes_under rs n))) is
    ∙ rest

goes : (last wanted : List StoredRow) (n : List ℕ) → bytes_under wanted n ≡ None
    → all_gone (gone_from last wanted) n (bytes_under last n) ≡ None
goes [] wanted n none = refl
goes (r ∷ rs) wanted n none = goes_by wanted r rs n _ none refl (goes rs wanted n none)

-- ---- a name of a wanted row

other_name : (wanted : List StoredRow) (m n : List ℕ) (k : Bool) → has_name wanted n ≡ true
    → not (has_name wanted m) ≡ true → bytes_eq m n ≡ k → k ≡ false
other_name wanted m n false p q is = refl
other_name wanted m n true p q is =
    let there : has_name wanted m ≡ true =
    ap (λ k. has_name wanted k) (same m n is) ∙ p in
    let clash : false ≡ true = sym (ap not there) ∙ q in cc

stays : (last wanted : List StoredRow) (n : List ℕ) (d : Option (List ℕ))
    → has_name wanted n ≡ true → all_gone (gone_from last wanted) n d ≡ d
stays [] wanted n d h = refl
stays (r ∷ rs) wanted n d h =
    gone_other (not (has_name wanted r.name)) r.name (gone_from rs wanted) n d
    (λ q. other_name wanted r.name n _ h q refl) ∙ stays rs wanted n d h

is_kept : (o : Option (List ℕ)) (b : List ℕ) → option_eq bytes_eq o (Some b) ≡ true → o ≡ Some b
is_kept None b h = absurd cc
is_kept (Some c) b h = ap (λ k. Some k) (same c b h)

-- x: the row is kept
first_set : (x : Bool) (last rs : List StoredRow) (r : StoredRow) (n : List ℕ)
    (d : Option (List ℕ)) → has_row last r ≡ x → bytes_eq r.name n ≡ true
    → bytes_under rs n ≡ None → d ≡ bytes_under last n
    → all_set (cond (not x) (r ∷ set_from last rs) (set_from last rs)) n d ≡ Some r.bytes
first_set true last rs r n d kept is none held =
    none_set last rs n d none ∙ held
    ∙ ap (λ m. bytes_under last m) (sym (same r.name n is))
    ∙ is_kept (bytes_under last r.name) r.bytes kept
first_set false last rs r n d kept is none held =
    ap (λ k. all_set (set_from last rs) n (cond k (Some r.bytes) d)) is
    ∙ none_set last rs n (Some r.bytes) none

some_by : (last rs : List StoredRow) (r : StoredRow) (n b : List ℕ) (d : Option (List ℕ))
    (k : Bool) → bytes_eq r.name n ≡ k → names_rise (Some r.name) rs ≡ true
    → cond k (Some r.bytes) (bytes_under rs n) ≡ Some b → d ≡ bytes_under last n
    → (bytes_under rs n ≡ Some b → all_set (set_from last rs) n d ≡ Some b)
    → all_set (set_from last (r ∷ rs)) n d ≡ Some b
some_by last rs r n b d true is rise there held rest =
    let none : bytes_under rs n ≡ None =
    absent n rs (subst (λ m. names_rise (Some m) rs ≡ true) (same r.name n is) rise) in
    first_set _ last rs r n d refl is none held ∙ there
some_by last rs r n b d false is rise there held rest =
    set_other (not (has_row last r)) r (set_from last rs) n d is ∙ rest there

some_set : (last rows : List StoredRow) (n b : List ℕ) (d : Option (List ℕ))
    → are_rising (map row_name rows) ≡ true → bytes_under rows n ≡ Some b
    → d ≡ bytes_under last n → all_set (set_from last rows) n d ≡ Some b
some_set last [] n b d rise there held = absurd cc
some_set last (r ∷ rs) n b d rise there held =
    some_by last rs r n b d _ refl (above_first r rs rise) there held
    (λ later. some_set last rs n b d (and_parts _ _ rise).1 later held)

-- ---- any name

made_by : (last wanted : List StoredRow) (n : List ℕ) (o : Option (List ℕ))
    → are_rising (map row_name wanted) ≡ true → bytes_under wanted n ≡ o
    → replaced (gone_from last wanted) (set_from last wanted) n (bytes_under last n) ≡ o
made_by last wanted n None rise is =
    none_set last wanted n (all_gone (gone_from last wanted) n (bytes_under last n)) is
    ∙ goes last wanted n is
made_by last wanted n (Some b) rise is =
    some_set last wanted n b (all_gone (gone_from last wanted) n (bytes_under last n)) rise is
    (stays last wanted n (bytes_under last n) (ap is_some is))

pub made : (last wanted : List StoredRow) → are_rising (map row_name wanted) ≡ true
    → (n : List ℕ) → replaced (gone_from last wanted) (set_from last wanted) n
    (bytes_under last n) ≡ bytes_under wanted n
made last wanted rise n = made_by last wanted n _ rise refl
