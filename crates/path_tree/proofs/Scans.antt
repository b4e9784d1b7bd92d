-- A key that is looked for entry by entry.
use Rattle.std.proofs.Common.{◌≡◌, ℕ, zero, suc, ◌+◌, ◌<◌, if◌then◌else◌, List, [], ◌∷◌, length, get_or, drop, Some, None, refl, sym, ap, ◌∙◌, subst}
use Rattle.std.specs.Ordering.{nat_cmp, ordering_reverse, is_eq}
use Rattle.std.specs.declared.cmp.Ordering.{Ordering}
use Rattle.std.specs.declared.cmp.Ordering.TheVariants.{Less, Equal, Greater}
use Rattle.std.specs.Cmp.Lexicographic.{slice_cmp, nat_list_cmp_total}
use Rattle.std.specs.Str.{bytes_eq}
use Rattle.std.proofs.lemmas.List.{drop_more}
use Rattle.std.proofs.lemmas.Map.Text.{is_eq-slice_cmp}
use Rattle.path_tree.specs.Plain.{AreFields, IsBefore}
use Rattle.path_tree.specs.Find.{find_field}
use Rattle.path_tree.specs.declared.tree.Entry.{Entry}
use Rattle.path_tree.specs.View.{fields_of}

abbrev cmp : List ℕ → List ℕ → Ordering
cmp = slice_cmp nat_cmp

-- a key before the fields is that of none
none_before : (k : List ℕ) (e : Entry) (es : List Entry) → cmp k e.key ≡ Less
    → IsBefore e.key (fields_of es) → find_field k (fields_of es) ≡ None
none_before k e [] is before = refl
none_before k e (g ∷ es) is before =
    let less : cmp k g.key ≡ Less = nat_list_cmp_total.trans k e.key g.key is before in
    rw less refl

module _ (k : List ℕ) (e : Entry) (es : List Entry) where
  step_by : (o : Ordering) → cmp e.key k ≡ o → IsBefore e.key (fields_of es)
      → find_field k (fields_of (e ∷ es))
      ≡ (if is_eq o then Some e.value else find_field k (fields_of es))
  step_by Equal is before =
      let same : cmp k e.key ≡ Equal = nat_list_cmp_total.antisymm k e.key ∙ ap ordering_reverse is
      in rw same refl
  step_by Less is before =
      let after : cmp k e.key ≡ Greater = nat_list_cmp_total.antisymm k e.key
      ∙ ap ordering_reverse is in
      rw after refl
  step_by Greater is before =
      let less : cmp k e.key ≡ Less = nat_list_cmp_total.antisymm k e.key ∙ ap ordering_reverse is
      in
      rw less (sym (none_before k e es less before))

  scan_step : AreFields (fields_of (e ∷ es)) → find_field k (fields_of (e ∷ es))
      ≡ (if bytes_eq e.key k then Some e.value else find_field k (fields_of es))
  scan_step fields =
      step_by (cmp e.key k) refl fields.3
      ∙ ap (λ b. if b then Some e.value else find_field k (fields_of es)) (is_eq-slice_cmp e.key k)

fields_from : (es : List Entry) (i : ℕ) → AreFields (fields_of es) → AreFields (fields_of (drop i es))
fields_from [] zero fields = fields
fields_from [] (suc i) fields = fields
fields_from (e ∷ es) zero fields = fields
fields_from (e ∷ es) (suc i) fields = fields_from es i fields.4

-- what is found from one entry on is its value, or what is found from the next one on
pub scan_more : (es : List Entry) (i : ℕ) (e : Entry) (k : List ℕ) → AreFields (fields_of es)
    → i < length es → e ≡ get_or es i e → find_field k (fields_of (drop i es))
    ≡ (if bytes_eq e.key k then Some e.value else find_field k (fields_of (drop (i + 1) es)))
scan_more es i e k fields h is =
    let there : drop i es ≡ e ∷ drop (i + 1) es =
    drop_more es i e h ∙ ap (λ y. y ∷ drop (i + 1) es) (sym is) in
    ap (λ xs. find_field k (fields_of xs)) there
    ∙ scan_step k e (drop (i + 1) es)
    (subst (λ xs. AreFields (fields_of xs)) there (fields_from es i fields))
