-- Nothing differs exactly where the rows are the same.
use Rattle.std.proofs.Common.{◌≡◌, ℕ, Bool, true, false, List, [], ◌∷◌, map, cond, Some, None, refl, sym, ap, subst, ◌∙◌}
use Rattle.std.specs.Prelude.{bytes_eq, not}
use Rattle.std.specs.declared.cmp.Ordering.{Ordering}
use Rattle.std.specs.declared.cmp.Ordering.TheVariants.{Less, Equal, Greater}
use Rattle.std.specs.Ordering.{is_lt, nat_cmp, ordering_reverse}
use Rattle.std.specs.Cmp.Lexicographic.{slice_cmp}
use Rattle.std.proofs.lemmas.Bool.{and_parts}
use Rattle.std.proofs.lemmas.Cmp.{nat_list_cmp_total}
use Rattle.std.proofs.lemmas.Map.Lookups.{exact_bytes}
use Rattle.stored_rows.specs.declared.row.StoredRow.{StoredRow}
use Rattle.stored_rows.specs.Rows.{row_name, is_below, are_rising, bytes_under}
use Rattle.keepers.specs.Keeping.{replaced}
use Rattle.row_changes.specs.Differing.{gone_from, set_from, is_nothing}
use Rattle.row_changes.proofs.Walk.{absent, above_first, both, same_name, gone_both, set_both}
use Rattle.row_changes.proofs.Made.{made, same}

-- ---- the same rows differ in nothing

gone_none : (rows : List StoredRow) → are_rising (map row_name rows) ≡ true
    → gone_from rows rows ≡ []
gone_none [] h = refl
gone_none (r ∷ rs) h =
    gone_both r r rs rs refl (above_first r rs h) ∙ gone_none rs (and_parts _ _ h).1

set_none : (rows : List StoredRow) → are_rising (map row_name rows) ≡ true
    → set_from rows rows ≡ []
set_none [] h = refl
set_none (r ∷ rs) h =
    set_both r r rs rs refl (above_first r rs h)
    ∙ ap (λ k. cond (not k) (r ∷ set_from rs rs) (set_from rs rs)) (same_name r.bytes r.bytes refl)
    ∙ set_none rs (and_parts _ _ h).1

nothing_of : (gone : List (List ℕ)) (set : List StoredRow) → gone ≡ [] → set ≡ []
    → is_nothing gone set ≡ true
nothing_of gone set p q = ap (λ k. is_nothing k set) p ∙ ap (λ k. is_nothing [] k) q

pub nothing_where_same : (last wanted : List StoredRow) → are_rising (map row_name last) ≡ true
    → last ≡ wanted → is_nothing (gone_from last wanted) (set_from last wanted) ≡ true
nothing_where_same last wanted rise is =
    subst (λ k. is_nothing (gone_from last k) (set_from last k) ≡ true) is
    (nothing_of (gone_from last last) (set_from last last) (gone_none last rise)
    (set_none last rise))

-- ---- rising rows with the same bytes under each name are the same

first_under : (r : StoredRow) (rs : List StoredRow) → bytes_under (r ∷ rs) r.name ≡ Some r.bytes
first_under r rs = ap (λ k. cond k (Some r.bytes) (bytes_under rs r.name))
    (same_name r.name r.name refl)

row_is : (a b : StoredRow) → a.name ≡ b.name → a.bytes ≡ b.bytes → a ≡ b
row_is a b p q = ap (λ k. record { name = k; bytes = a.bytes }) p
    ∙ ap (λ k. record { name = b.name; bytes = k }) q

bytes_is : (a b : List ℕ) → Some a ≡ Some b → a ≡ b
bytes_is a b h = cc

rest_under : (a b : StoredRow) (olds news : List StoredRow) (n : List ℕ) (k : Bool)
    → bytes_eq a.name n ≡ k → a.name ≡ b.name → bytes_under olds a.name ≡ None
    → bytes_under news b.name ≡ None → bytes_under (a ∷ olds) n ≡ bytes_under (b ∷ news) n
    → bytes_under olds n ≡ bytes_under news n
rest_under a b olds news n true is name old new h =
    let there : a.name ≡ n = same a.name n is in
    ap (λ m. bytes_under olds m) (sym there) ∙ old ∙ sym new
    ∙ ap (λ m. bytes_under news m) (sym name ∙ there)
rest_under a b olds news n false is name old new h =
    let other : bytes_eq b.name n ≡ false = ap (λ m. bytes_eq m n) (sym name) ∙ is in
    sym (ap (λ k. cond k (Some a.bytes) (bytes_under olds n)) is) ∙ h
    ∙ ap (λ k. cond k (Some b.bytes) (bytes_under news n)) other

same_first : (a b : StoredRow) (olds news : List StoredRow) (o : Ordering)
    → slice_cmp nat_cmp a.name b.name ≡ o → are_rising (map row_name (a ∷ olds)) ≡ true
    → are_rising (map row_name (b ∷ news)) ≡ true
    → ((n : List ℕ) → bytes_under (a ∷ olds) n ≡ bytes_under (b ∷ news) n)
    → (((n : List ℕ) → bytes_under olds n ≡ bytes_under news n) → olds ≡ news)
    → a ∷ olds ≡ b ∷ news
same_first a b olds news Less is p q h rest =
    let none : bytes_under (b ∷ news) a.name ≡ None =
    absent a.name (b ∷ news) (both _ _ (ap is_lt is) (above_first b news q)) in
    let some : bytes_under (b ∷ news) a.name ≡ Some a.bytes =
    sym (h a.name) ∙ first_under a olds in
    let clash : None ≡ Some a.bytes = sym none ∙ some in absurd cc
same_first a b olds news Equal is p q h rest =
    let name : a.name ≡ b.name = exact_bytes a.name b.name is in
    let bytes : a.bytes ≡ b.bytes = bytes_is a.bytes b.bytes (sym (first_under a olds) ∙ h a.name
    ∙ ap (λ m. bytes_under (b ∷ news) m) name ∙ first_under b news) in
    let old : bytes_under olds a.name ≡ None = absent a.name olds (above_first a olds p) in
    let new : bytes_under news b.name ≡ None = absent b.name news (above_first b news q) in
    ap (λ k. k ∷ olds) (row_is a b name bytes)
    ∙ ap (λ k. b ∷ k) (rest (λ n. rest_under a b olds news n _ refl name old new (h n)))
same_first a b olds news Greater is p q h rest =
    let lower : is_below b.name a.name ≡ true =
    ap is_lt (nat_list_cmp_total.antisymm b.name a.name ∙ ap ordering_reverse is) in
    let none : bytes_under (a ∷ olds) b.name ≡ None =
    absent b.name (a ∷ olds) (both _ _ lower (above_first a olds p)) in
    let some : bytes_under (a ∷ olds) b.name ≡ Some b.bytes = h b.name ∙ first_under b news in
    let clash : None ≡ Some b.bytes = sym none ∙ some in absurd cc

same_rows : (last wanted : List StoredRow) → are_rising (map row_name last) ≡ true
    → are_rising (map row_name wanted) ≡ true
    → ((n : List ℕ) → bytes_under last n ≡ bytes_under wanted n) → last ≡ wanted
same_rows [] [] p q h = refl
same_rows [] (b ∷ news) p q h =
    let clash : None ≡ Some b.bytes = h b.name ∙ first_under b news in absurd cc
same_rows (a ∷ olds) [] p q h =
    let clash : None ≡ Some a.bytes = sym (h a.name) ∙ first_under a olds in absurd cc
same_rows (a ∷ olds) (b ∷ news) p q h =
    same_first a b olds news _ refl p q h
    (λ rest. same_rows olds news (and_parts _ _ p).1 (and_parts _ _ q).1 rest)

pub nothing_gone : (gone : List (List ℕ)) (set : List StoredRow) → is_nothing gone set ≡ true
    → (gone ≡ []) × (set ≡ [])
nothing_gone [] [] h = (refl, refl)
nothing_gone [] (r ∷ rs) h = absurd cc
nothing_gone (n ∷ ns) set h = absurd cc

pub same_where_nothing : (last wanted : List StoredRow) → are_rising (map row_name last) ≡ true
    → are_rising (map row_name wanted) ≡ true
    → is_nothing (gone_from last wanted) (set_from last wanted) ≡ true → last ≡ wanted
same_where_nothing last wanted p q h =
    let none : (gone_from last wanted ≡ []) × (set_from last wanted ≡ []) =
    nothing_gone (gone_from last wanted) (set_from last wanted) h in
    same_rows last wanted p q (λ n.
    sym (ap (λ k. replaced k [] n (bytes_under last n)) none.0)
    ∙ sym (ap (λ k. replaced (gone_from last wanted) k n (bytes_under last n)) none.1)
    ∙ made last wanted q n)
