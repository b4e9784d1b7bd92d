-- What the law says of an object that is not touched, of the row of the part on top.
use Rattle.std.proofs.Common.{◌≡◌, ℕ, List, [], ◌∷◌, Bool, true, false, Option, Some, None, Ok, Err, option_map, refl, sym, ap, ◌∙◌, subst}
use Rattle.std.proofs.Math.Logic.{∥∥₁_elim}
use Rattle.std.proofs.Props.{props}
use Rattle.foreign_values.specs.declared.Part.{Part}
use Rattle.foreign_values.specs.declared.Part.TheVariants as part
use Rattle.questions.specs.declared.key.Key.{Key}
use Rattle.questions.specs.Keys.{object_of}
use Rattle.read_sets.specs.declared.trace.Item.{Item}
use Rattle.read_sets.specs.Items.{pairs_of}
use Rattle.runner.specs.Ends.{Verdict}
use Rattle.runner.specs.Meaning.{Meaning}
use Rattle.engine_laws.specs.Names.{Name}
use Rattle.engine_laws.specs.Engine.{AllEqual, Differs, compared}
use Rattle.engine_laws.specs.Narrowed.{IsNarrowed, named_items}
use Rattle.engine_laws.proofs.Facts.{both_same}
use Rattle.engine_laws.proofs.Narrowing.{narrowed}
use Rattle.engine_machine.specs.Machine.{Kept, runner_of, keeping, judge_of}
use Rattle.engine_machine.proofs.RunnerLaws.{is_in}
use Rattle.engine_turns.specs.declared.comparing.Found.{Found}
use Rattle.engine_turns.specs.declared.comparing.Found.TheVariants as found
use Rattle.engine_turns.specs.declared.core_data.Core.{Core}
use Rattle.engine_turns.specs.declared.rows.CheckRecord.{CheckRecord}
use Rattle.engine_turns.specs.declared.rows.Last.{Last}
use Rattle.engine_turns.specs.declared.rows.Row.{Row}
use Rattle.engine_turns.specs.Calm.{IsCalm}
use Rattle.engine_turns.specs.Compared.{found_of, named_of, check_reads}
use Rattle.engine_turns.specs.Kinds.{is_tree, last_kind}
use Rattle.engine_turns.specs.Places.{row_in, of_row, names}
use Rattle.engine_turns.specs.Ready.{top_name, is_build_top, is_check_top, IsReady}
use Rattle.engine_turns.specs.States.{reads_of, checked_of, check_pair, last_pair, last_of, chain_of, checking_of}
use Rattle.engine_turns.specs.Told.{core_number_of}
use Rattle.engine_turns.proofs.ByName.{some_row}
use Rattle.engine_turns.proofs.Comparisons.{telling, named_finds, finds_equal}
use Rattle.rebuild.specs.Engines.{Meanings, situation_of, value_of, IsEngine}

found_set : IsSet Found
found_set = hlevel props

build_chain : (ps : List Part) → is_build_top ps ≡ true → (rest : List Name)
    × (chain_of ps ≡ top_name ps ∷ rest)
build_chain [] e = absurd (let clash : false ≡ true = e in cc)
build_chain (part.Build p ∷ ps) e = (chain_of ps, refl)
build_chain (part.Check p ∷ ps) e = absurd (let clash : false ≡ true = e in cc)

check_chain : (ps : List Part) → is_check_top ps ≡ true → checking_of ps ≡ Some (top_name ps)
check_chain [] e = absurd (let clash : false ≡ true = e in cc)
check_chain (part.Build p ∷ ps) e = absurd (let clash : false ≡ true = e in cc)
check_chain (part.Check p ∷ ps) e = refl

some_same : {A : Type 0} (a b : A) → ◌≡◌ {A = Option A} (Some a) (Some b) → a ≡ b
some_same a b e = cc

module _ {T : Type 0} (m : Meanings T) (c : Core T) (ready : IsReady c) where
  abbrev means : Meaning T
  means = m c.dirs c.limits

  is_narrowed : IsEngine m (value_of c) → (r : Row T) → row_in (top_name c.chain) c.rows.items
      ≡ Some r → r.touched ≡ false → IsNarrowed (runner_of means.build) keeping
      (judge_of means.check) (situation_of c) (top_name c.chain)
  is_narrowed e r is off =
      narrowed (runner_of means.build) keeping (judge_of means.check) (situation_of c) e
      (top_name c.chain) (is_in (top_name c.chain) (names c.rows.items)
      (some_row (top_name c.chain) c.rows.items r is)) (ap (of_row (λ z. z.touched) true) is ∙ off)

  build_calm : (r : Row T) → is_build_top c.chain ≡ true → row_in (top_name c.chain) c.rows.items
      ≡ Some r → r.touched ≡ false → IsEngine m (value_of c) → named_of (core_number_of c) r.build
      ≡ found_of (core_number_of c) r.build
  build_calm r top is off e = at r.build refl
    where
      law : IsNarrowed (runner_of means.build) keeping (judge_of means.check) (situation_of c)
          (top_name c.chain)
      law = is_narrowed e r is off

      same_items : (items : List Item) → r.build ≡ Some items → law.items ≡ pairs_of items
      same_items items b = some_same law.items (pairs_of items)
          (sym law.is_reads ∙ ap (of_row reads_of None) is ∙ ap (option_map pairs_of) b)

      at : (b : Option (List Item)) → r.build ≡ b → named_of (core_number_of c) b
          ≡ found_of (core_number_of c) b
      at None b = refl
      at (Some items) b =
          let top_is = build_chain c.chain top in
          let same = same_items items b in
          let P : List (Key × ℕ) → Type 0 =
          λ l. compared (telling means.build c ready) l
          ≡ compared (telling means.build c ready) (named_items object_of l) in
          let Q : List (Key × ℕ) → Type 0 =
          λ l. (k : Key) → compared (telling means.build c ready) l ≡ Differs k → ⊥ in
          named_finds means.build c ready items (subst P same (law.build top_is.0 top_is.1))
          (subst Q same (λ k. law.same top_is.0 k top_is.1))

  check_calm : (r : Row T) → is_check_top c.chain ≡ true → row_in (top_name c.chain) c.rows.items
      ≡ Some r → r.touched ≡ false → last_kind r.last ≡ Some true → IsEngine m (value_of c)
      → found_of (core_number_of c) (option_map check_reads r.check) ≡ found.Equal
  check_calm r top is off kind e = by_last r.last refl kind
    where
      law : IsNarrowed (runner_of means.build) keeping (judge_of means.check) (situation_of c)
          (top_name c.chain)
      law = is_narrowed e r is off

      by_check : (citems : List (Key × ℕ)) (f : Verdict) → checked_of r ≡ Some (citems, f)
          → compared (telling means.build c ready) citems ≡ AllEqual → (d : Option CheckRecord)
          → r.check ≡ d → found_of (core_number_of c) (option_map check_reads d) ≡ found.Equal
      by_check citems f has all None b =
          absurd (let clash : ◌≡◌ {A = Option (List (Key × ℕ) × Verdict)} None (Some (citems, f)) =
          sym (ap (option_map check_pair) b) ∙ has in cc)
      by_check citems f has all (Some d) b =
          let both : ◌≡◌ {A = Option (List (Key × ℕ) × Verdict)}
          (Some (pairs_of d.reads, d.verdict)) (Some (citems, f)) =
          sym (ap (option_map check_pair) b) ∙ has in
          finds_equal means.build c ready d.reads (ap (compared (telling means.build c ready))
          (both_same (pairs_of d.reads) citems d.verdict f both).0 ∙ all)

      by_result : (l : Last) → r.last ≡ Some l → (res : Kept) → l.result ≡ res → is_tree res ≡ true
          → found_of (core_number_of c) (option_map check_reads r.check) ≡ found.Equal
      by_result l b (Ok t) res kind =
          let has = law.check (check_chain c.chain top) l.number (Ok t)
          (ap (of_row last_of None) is ∙ ap (option_map last_pair) b
          ∙ ap (λ z. Some (l.number, z)) res) refl in
          by_check has.0 has.1 (sym (ap (of_row checked_of None) is) ∙ has.2) has.3 r.check refl
      by_result l b (Err f) res kind = absurd (let clash : false ≡ true = kind in cc)

      by_last : (l : Option Last) → r.last ≡ l → last_kind l ≡ Some true
          → found_of (core_number_of c) (option_map check_reads r.check) ≡ found.Equal
      by_last None b kind = absurd (let clash : ◌≡◌ {A = Option Bool} None (Some true) = kind in cc)
      by_last (Some l) b kind = by_result l b l.result refl (some_same (is_tree l.result) true kind)

  pub is_calm : ∥ IsEngine m (value_of c) ∥₁ → IsCalm c
  is_calm kept = record {
    build = λ r top is off. ∥∥₁_elim kept (found_set _ _) (build_calm r top is off);
    check = λ r top is off kind. ∥∥₁_elim kept (found_set _ _) (check_calm r top is off kind);
  }
