-- The rows that are read, as what the table holds.
use Rattle.std.proofs.Common.{◌≡◌, ◌⊎◌, inl, inr, ℕ, true, List, [], ◌∷◌, map, cond, Option, Some, None, refl, sym, ap, ◌∙◌, subst}
use Rattle.std.specs.Prelude.{bytes_eq}
use Rattle.std.specs.declared.cmp.Ordering.TheVariants.{Less, Greater}
use Rattle.std.specs.Ordering.{is_lt, nat_cmp, ordering_reverse}
use Rattle.std.specs.Cmp.Lexicographic.{slice_cmp}
use Rattle.std.proofs.lemmas.Bool.{and_parts}
use Rattle.std.proofs.lemmas.Slice.Eq.{bytes_eq-Decides}
use Rattle.sqlite_value.specs.declared.value.Value.{Value}
use Rattle.sqlite_value.specs.declared.value.Value.TheVariants.{Text}
use Rattle.sqlite_value.specs.declared.keys.Key.{Key}
use Rattle.sqlite_value.specs.Order.{Row, column, bytes, value_cmp}
use Rattle.sqlite_value.proofs.OrderLemmas.{value_cmp_total, value_cmp-Text}
use Rattle.sqlite_trees.specs.Tree.{Trees}
use Rattle.sqlite_sql.specs.Term.{Term, col}
use Rattle.sqlite_rules.specs.Lists.{Has}
use Rattle.sqlite_rules.proofs.ProbeLemmas.{has_mapped, mapped_has}
use Rattle.stored_rows.specs.declared.row.StoredRow.{StoredRow}
use Rattle.stored_rows.specs.Rows.{bytes_under}
use Rattle.stored_rows.proofs.Above.{names_rise}
use Rattle.row_table.specs.Rows.{is_text, held, ends, spelled}
use Rattle.row_table.proofs.Texts.{query_over}
use Rattle.row_table.proofs.Numbering.{bool_cases}
use Rattle.row_table.proofs.Holding.{text_is}
use Rattle.row_table.proofs.Rising.{less_of}
use Rattle.row_table.proofs.Answers.{IsShown, shown_has, shown_from}

-- the order of names is that of their texts as values
after_is : (a b : List ℕ) → is_lt (slice_cmp nat_cmp a b) ≡ true → value_cmp (Text a) (Text b)
    ≡ Less
after_is a b h = value_cmp-Text a b ∙ less_of _ h

all_after : (last : List ℕ) (rows : List StoredRow) → names_rise (Some last) rows ≡ true
    → (k : StoredRow) → Has rows k → value_cmp (Text last) (Text k.name) ≡ Less
all_after last [] rise k h = absurd h
all_after last (r ∷ rs) rise k (inl same) =
    ap (λ (x : StoredRow). value_cmp (Text last) (Text x.name)) same
    ∙ after_is last r.name (and_parts _ _ rise).0
all_after last (r ∷ rs) rise k (inr later) =
    value_cmp_total.trans (Text last) (Text r.name) (Text k.name)
    (after_is last r.name (and_parts _ _ rise).0)
    (all_after r.name rs (and_parts _ _ rise).1 k later)

-- a text does not come before itself
not_itself : (a : List ℕ) → value_cmp (Text a) (Text a) ≡ Less → ⊥
not_itself a h =
    let turned = value_cmp_total.antisymm (Text a) (Text a) in
    let clash : Less ≡ Greater = sym h ∙ turned ∙ ap ordering_reverse h in cc

-- where names rise, a row is the first with its name
found_here : (last : Option (List ℕ)) (rows : List StoredRow) → names_rise last rows ≡ true
    → (k : StoredRow) → Has rows k → bytes_under rows k.name ≡ Some k.bytes
found_here last [] rise k h = absurd h
found_here last (r ∷ rs) rise k (inl same) =
    ap (λ b. cond b (Some r.bytes) (bytes_under rs k.name))
    ((bytes_eq-Decides r.name k.name).1 (sym (ap (λ (x : StoredRow). x.name) same)))
    ∙ ap (λ (x : StoredRow). Some x.bytes) (sym same)
found_here last (r ∷ rs) rise k (inr later) = elim (bool_cases (bytes_eq r.name k.name)) [
  | inl equal ↦ absurd (not_itself r.name (subst (λ n. value_cmp (Text r.name) (Text n) ≡ Less)
      (sym ((bytes_eq-Decides r.name k.name).0 equal))
      (all_after r.name rs (and_parts _ _ rise).1 k later)))
  | inr other ↦ ap (λ b. cond b (Some r.bytes) (bytes_under rs k.name)) other
      ∙ found_here (Some r.name) rs (and_parts _ _ rise).1 k later
]

found_has : (rows : List StoredRow) (n b : List ℕ) → bytes_under rows n ≡ Some b → (k : StoredRow)
    × Has rows k × (k.name ≡ n)
found_has [] n b h = cc
found_has (r ∷ rs) n b h = elim (bool_cases (bytes_eq r.name n)) [
  | inl equal ↦ (r, inl refl, (bytes_eq-Decides r.name n).0 equal)
  | inr other ↦ (let more =
      found_has rs n b (sym (ap (λ c. cond c (Some r.bytes) (bytes_under rs n)) other) ∙ h) in
      (more.0, inr more.1, more.2))
]

held_has : (rows : List Row) (n b : List ℕ) → held rows n ≡ Some b → (r : Row) × Has rows r
    × (is_text n (column r 1) ≡ true) × (b ≡ bytes (column r 2))
held_has [] n b h = cc
held_has (r ∷ rs) n b h = elim (bool_cases (is_text n (column r 1))) [
  | inl mine ↦ (let e : Some (bytes (column r 2)) ≡ Some b =
      sym (ap (λ c. cond c (Some (bytes (column r 2))) (held rs n)) mine) ∙ h in
      let same : b ≡ bytes (column r 2) = cc in (r, inl refl, mine, same))
  | inr other ↦ (let more =
      held_has rs n b (sym (ap (λ c. cond c (Some (bytes (column r 2))) (held rs n)) other) ∙ h) in
      (more.0, inr more.1, more.2, more.3))
]

none_held : (rows : List Row) (n : List ℕ) → held rows n ≡ None → (r : Row) → Has rows r
    → is_text n (column r 1) ≡ true → ⊥
none_held [] n none r h mine = h
none_held (x ∷ xs) n none r (inl same) mine =
    let e : Some (bytes (column x 2)) ≡ None =
    sym (ap (λ c. cond c (Some (bytes (column x 2))) (held xs n))
    (ap (λ (y : Row). is_text n (column y 1)) (sym same) ∙ mine)) ∙ none in cc
none_held (x ∷ xs) n none r (inr later) mine = elim (bool_cases (is_text n (column x 1))) [
  | inl first ↦ (let e : Some (bytes (column x 2)) ≡ None =
      sym (ap (λ c. cond c (Some (bytes (column x 2))) (held xs n)) first) ∙ none in cc)
  | inr other ↦ none_held xs n (sym (ap (λ c. cond c (Some (bytes (column x 2))) (held xs n)) other)
      ∙ none) r later mine
]

option_cases : (o : Option (List ℕ)) → (o ≡ None) ⊎ ((b : List ℕ) × (o ≡ Some b))
option_cases None = inl refl
option_cases (Some b) = inr (b, refl)

text_of : (a b : List ℕ) → Text a ≡ Text b → a ≡ b
text_of a b h = ap bytes h

module _ (order : List (Term × Key)) (db : Trees) (rows : List Row)
    (s : IsShown (record (query_over [] (col 1 1 ∷ col 1 2 ∷ [])) { order = order }) [] db [] rows)
    (into : List StoredRow) (is : map spelled into ≡ map ends rows)
    (rise : names_rise None into ≡ true) (n : List ℕ) where
  kept_of : (r : Row) → Has (db 0) r → (k : StoredRow) × Has into k
      × ((column r 1, column r 2) ≡ spelled k)
  kept_of r h =
      let there = mapped_has ends rows _ (shown_has _ [] db [] rows s r h refl) in
      has_mapped spelled into (column r 1, column r 2)
      (subst (λ l. Has l (column r 1, column r 2)) (sym is) there)

  row_of : (k : StoredRow) → Has into k → (r : Row) × Has (db 0) r × (column r 1 ≡ Text k.name)
  row_of k h =
      let x = has_mapped ends rows (spelled k) (subst (λ l. Has l (spelled k)) is
      (mapped_has spelled into k h)) in
      let r = shown_from _ [] db [] rows s x.0 x.1 in
      (r.0, r.1, sym (ap (λ (p : Value × Value). p.0) x.2 ∙ ap (λ (y : Row). column y 0) r.3))

  pub read_is : held (db 0) n ≡ bytes_under into n
  read_is = elim (option_cases (held (db 0) n)) [
    | inr some ↦ (
        let r = held_has (db 0) n some.0 some.1 in
        let k = kept_of r.0 r.1 in
        let name : k.0.name ≡ n =
        text_of _ _ (sym (ap (λ (p : Value × Value). p.0) k.2) ∙ text_is n (column r.0 1) r.2)
        in
        let same : some.0 ≡ k.0.bytes = r.3 ∙ ap (λ (p : Value × Value). bytes p.1) k.2 in
        some.1 ∙ ap Some same ∙ sym (found_here None into rise k.0 k.1)
        ∙ ap (bytes_under into) name)
    | inl none ↦ elim (option_cases (bytes_under into n)) [
      | inl absent ↦ none ∙ sym absent
      | inr there ↦ absurd (
          let k = found_has into n there.0 there.1 in
          let r = row_of k.0 k.1 in
          none_held (db 0) n none r.0 r.1 (ap (is_text n) (r.2 ∙ ap Text k.2)
          ∙ (bytes_eq-Decides n n).1 refl))
    ]
  ]
