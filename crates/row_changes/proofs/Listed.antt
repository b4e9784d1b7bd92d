-- What a keeper lists that listed the rows last kept.
use Rattle.std.proofs.Common.{◌≡◌, ◌⊎◌, inl, inr, ℕ, true, List, [], map, Option, Some, None, refl, sym, ap, subst, ◌∙◌}
use Rattle.std.specs.Prelude.{IfSome, option_map}
use Rattle.std.proofs.lemmas.Option.{IfSome_then}
use Rattle.outside.specs.Cells.{Cell}
use Rattle.stored_rows.specs.declared.row.StoredRow.{StoredRow}
use Rattle.stored_rows.specs.Rows.{row_name, are_rising, bytes_under}
use Rattle.keepers.specs.Keeping.{Follows, Lists, unchanged, replaced}
use Rattle.row_changes.specs.Differing.{gone_from, set_from, is_nothing}
use Rattle.row_changes.proofs.Made.{made}
use Rattle.row_changes.proofs.Same.{nothing_gone}

holds_by : (f : Option (List ℕ) → Option (List ℕ)) (content : Option (List ℕ)) (old new : Cell)
    → (new ≡ None) ⊎ (new ≡ option_map f old) → IfSome old (λ c. f c ≡ content)
    → IfSome new (λ c. c ≡ content)
holds_by f content old new (inl e) h = subst (λ k. IfSome k (λ c. c ≡ content)) (sym e) tt
holds_by f content None new (inr e) h = subst (λ k. IfSome k (λ c. c ≡ content)) (sym e) tt
holds_by f content (Some c) new (inr e) h = subst (λ k. IfSome k (λ c. c ≡ content)) (sym e) h

-- told what differs, it lists the wanted rows
pub lists_wanted : (last wanted : List StoredRow) (old new : List ℕ → Cell)
    → are_rising (map row_name wanted) ≡ true
    → Follows (replaced (gone_from last wanted) (set_from last wanted)) old new → Lists old last
    → Lists new wanted
lists_wanted last wanted old new rise follows lists =
    let change = replaced (gone_from last wanted) (set_from last wanted) in
    record {
      rise = rise;
      each = λ n. holds_by (change n) (bytes_under wanted n) (old n) (new n) (follows n)
          (IfSome_then (old n) (lists.each n) (λ c is. ap (λ k. change n k) is
          ∙ made last wanted rise n));
    }

-- after a refusal it lists the rows last kept
pub lists_last : (last : List StoredRow) (old new : List ℕ → Cell) → Follows unchanged old new
    → Lists old last → Lists new last
lists_last last old new follows lists = record {
  rise = lists.rise;
  each = λ n. holds_by (unchanged n) (bytes_under last n) (old n) (new n) (follows n)
      (lists.each n);
}

kept_as_it_was : (o : Cell) → o ≡ option_map (replaced [] [] []) o
kept_as_it_was None = refl
kept_as_it_was (Some c) = refl

-- where nothing differs, a keeper that was told nothing was told all of it
pub told_nothing : (gone : List (List ℕ)) (set : List StoredRow) (cell : List ℕ → Cell)
    → is_nothing gone set ≡ true → Follows (replaced gone set) cell cell
told_nothing gone set cell h =
    let none : (gone ≡ []) × (set ≡ []) = nothing_gone gone set h in
    subst (λ k. Follows (replaced k set) cell cell) (sym none.0)
    (subst (λ k. Follows (replaced [] k) cell cell) (sym none.1)
    (λ n. inr (kept_as_it_was (cell n))))
