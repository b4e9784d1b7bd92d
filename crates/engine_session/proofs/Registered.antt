-- A register of what an engine read tells of impact what the one from scratch does.
use Rattle.std.proofs.Common.{◌≡◌, ◌<◌, ◌+◌, ℕ, zero, suc, length, get_or, take, List, [], ◌∷◌, ◌++◌, Bool, true, false, cond, map, nat_eq, Option, Some, None, if◌then◌else◌, refl, sym, ap, ap₂, ◌∙◌, subst, arith}
use Rattle.std.proofs.Math.Logic.{∥∥₁_elim}
use Rattle.std.proofs.Props.{props}
use Rattle.std.specs.Cmp.Lexicographic.{slice_cmp}
use Rattle.std.specs.List.Sorted.{IsStrictlySortedBy}
use Rattle.std.specs.Ordering.{nat_cmp}
use Rattle.path_tree.specs.declared.path.Term.{Term}
use Rattle.load_path.specs.declared.picture.PictureFile.{PictureFile}
use Rattle.pan_ast.specs.declared.work.Limits.{Limits}
use Rattle.questions.specs.declared.key.Key.{Key}
use Rattle.read_sets.specs.Items.{pairs_of}
use Rattle.read_sets.specs.declared.trace.Item.{Item}
use Rattle.runner.specs.Meaning.{Meaning, IsLawful}
use Rattle.engine_laws.specs.Names.{Name}
use Rattle.engine_laws.specs.Engine.{is_among}
use Rattle.engine_machine.specs.Compiled.{built_end}
use Rattle.engine_turns.specs.declared.core_data.Core.{Core}
use Rattle.engine_turns.specs.States.{pictured}
use Rattle.engine_turns.specs.Ready.{core_state}
use Rattle.rebuild.specs.Answers.{both_reads, is_pending, reads_at}
use Rattle.rebuild.specs.Engines.{Meanings, situation_of, objects_of, value_of, is_ready, turns_left_of, IsEngine}
use Rattle.rebuild.proofs.Engines.{ready_is}
use Rattle.pan_impact.specs.declared.register.Entry.{Entry}
use Rattle.pan_impact.specs.Touched.{names_in, touched_in}
use Rattle.pan_impact.specs.Unused.{unused_in}
use Rattle.session.specs.Sessions.{touched_of, unused_of}
use Rattle.engine_session.specs.Compiler.{compiler}
use Rattle.engine_session.specs.Looking.{build_asks, check_asks, item_of, entry_of, register_in}
use Rattle.engine_session.specs.Names.{objects_in}
use Rattle.engine_session.specs.Registers.{seen_pair, seen_item, seen_entry, seen_in}
use Rattle.engine_session.specs.Standing.{compiled_in, IsKept}
use Rattle.engine_session.proofs.Alike.{same_names, same_touched, same_unused, seen_more}
use Rattle.engine_session.proofs.Failing.{some_same}
use Rattle.engine_session.proofs.Looked.{not_zero}
use Rattle.engine_session.proofs.Rising.{rising_sorted}
use Rattle.engine_session.proofs.Said.{looked_at, none_is, none_waits, text_is, map_more}

term_set : IsSet Term
term_set = hlevel props

key_set : IsSet Key
key_set = hlevel (term_set, props)

seen_set : IsSet (List (Key × Bool))
seen_set = hlevel (key_set, props)

abbrev Reads : Type 0
Reads = List (Key × ℕ) × List (Key × ℕ)

items_seen : (items : List Item) → map seen_item items ≡ map seen_pair (pairs_of items)
items_seen [] = refl
items_seen (i ∷ items) = ap (λ qs. seen_item i ∷ qs) (items_seen items)

both_seen : (build check : List Item) → map seen_item (build ++ check)
    ≡ map seen_pair (pairs_of build) ++ map seen_pair (pairs_of check)
both_seen [] check = items_seen check
both_seen (i ∷ build) check = ap (λ qs. seen_item i ∷ qs) (both_seen build check)

made_seen : (build check : List (Key × ℕ)) → map seen_item (map item_of (build ++ check))
    ≡ map seen_pair build ++ map seen_pair check
made_seen [] [] = refl
made_seen [] (q ∷ check) = ap (λ qs. seen_pair q ∷ qs) (made_seen [] check)
made_seen (q ∷ build) check = ap (λ qs. seen_pair q ∷ qs) (made_seen build check)

entry_names : {T : Type 0} (m : Meaning T) (files : List PictureFile) (all objects : List Name)
    → names_in (map (entry_of m files all) objects) ≡ objects
entry_names m files all [] = refl
entry_names m files all (o ∷ objects) = ap (λ ns. o ∷ ns) (entry_names m files all objects)

-- one object more
pub registered_more : {T : Type 0} (m : Meaning T) (files : List PictureFile) (all xs : List Name)
    (i : ℕ) (o : Name) (old new : List Entry) → i < length xs → o ≡ get_or xs i o → seen_in old
    ≡ seen_in (map (entry_of m files all) (take i xs)) → seen_in new ≡ seen_in old
    ++ seen_entry (entry_of m files all o) ∷ [] → seen_in new
    ≡ seen_in (map (entry_of m files all) (take (i + 1) xs))
registered_more m files all xs i o old new lt is so_far added =
    added ∙ ap (λ s. s ++ seen_entry (entry_of m files all o) ∷ []) so_far
    ∙ sym (seen_more (map (entry_of m files all) (take i xs)) (entry_of m files all o))
    ∙ ap seen_in (sym (map_more (entry_of m files all) xs i o lt is))

module _ {T : Type 0} (M : Meanings T) (core : Core T) (kept : IsKept core) where
  abbrev means : Meaning T
  means = M core.dirs core.limits

  abbrev files : List PictureFile
  files = pictured core.files.items

  abbrev here : List Entry
  here = register_in means files (objects_of core)

  once : {A : Type 0} (left : ℕ) (a : A) → left ≡ 0 → (if nat_eq left 0 then Some a else None)
      ≡ Some a
  once left a none = ap (λ n. if nat_eq n 0 then Some a else None) none

  none_once : {A : Type 0} (left : ℕ) (a : A) → 0 < left
      → ◌≡◌ {A = Option A} None (if nat_eq left 0 then Some a else None)
  none_once zero a some = absurd (omega (arith, some))
  none_once (suc n) a some = sym (ap (λ b. if b then Some a else None) (not_zero n))

  -- while turns are left nothing is told
  pub touched_none : (file : List ℕ) → 0 < turns_left_of core → None
      ≡ touched_of (compiler means core.dirs) file (compiled_in core)
  touched_none file some =
      none_once (turns_left_of core)
      (touched_in (register_in means files (objects_in files core.dirs)) file core.dirs) some

  pub unused_none : 0 < turns_left_of core → None
      ≡ unused_of (compiler means core.dirs) (compiled_in core)
  unused_none some = none_once (turns_left_of core)
      (unused_in (register_in means files (objects_in files core.dirs)) core.dirs files) some

  same_register : register_in means files (objects_in files core.dirs) ≡ here
  same_register = ap (register_in means files) (sym kept.objects)

  module _ (lawful : (dirs : List (List ℕ)) (limits : Limits) → IsLawful (M dirs limits))
      (ready : is_ready core ≡ true) (reached : ∥ IsEngine M (value_of core) ∥₁) where
    -- what is read of a settled object are the keys that compiling it from scratch asks
    seen_is : (p : Name) (items citems : List (Key × ℕ)) → Some (items, citems)
        ≡ reads_at (situation_of core) p → map seen_pair items ++ map seen_pair citems
        ≡ map seen_pair (build_asks means files (objects_of core) p)
        ++ map seen_pair (check_asks means files (objects_of core)
        (built_end means files (objects_of core) p))
    seen_is p items citems reads =
        let t = text_is M core kept lawful ready reached p items citems reads in
        ∥∥₁_elim reached (seen_set _ _) (by t.0 t.1)
      where
        by : is_among p (objects_of core) ≡ true → is_pending (situation_of core) p ≡ false
            → IsEngine M (value_of core) → map seen_pair items ++ map seen_pair citems
            ≡ map seen_pair (build_asks means files (objects_of core) p)
            ++ map seen_pair (check_asks means files (objects_of core)
            (built_end means files (objects_of core) p))
        by among waits r =
            let l = looked_at M core kept lawful ready reached r p among waits in
            let same : ◌≡◌ {A = Option Reads} (Some (items, citems)) (Some (l.items, l.citems)) =
            reads ∙ ap₂ (λ a w. cond a
            (cond w None (both_reads ((core_state core).reads p) ((core_state core).checked p)))
            None) among waits ∙ ap₂ both_reads l.is_reads l.is_checked in
            ap (λ q. map seen_pair q.0 ++ map seen_pair q.1)
            (some_same (items, citems) (l.items, l.citems) same)
            ∙ ap₂ (λ x y. x ++ y) l.builds l.checks

    -- an object is added with what was read of it
    pub added : (p q : Name) (build check : List Item) (old new : List Entry) → q ≡ p
        → Some (pairs_of build, pairs_of check) ≡ reads_at (situation_of core) q → new ≡ old
        ++ record { name = p; items = build ++ check } ∷ [] → seen_in new ≡ seen_in old
        ++ seen_entry (entry_of means files (objects_of core) p) ∷ []
    added p q build check old new same reads is =
        let here_seen : map seen_item (build ++ check)
        ≡ map seen_item (map item_of (build_asks means files (objects_of core) p
        ++ check_asks means files (objects_of core) (built_end means files (objects_of core)
        p))) = both_seen build check ∙ seen_is p (pairs_of build) (pairs_of check)
        (reads ∙ ap (reads_at (situation_of core)) same)
        ∙ sym (made_seen (build_asks means files (objects_of core) p)
        (check_asks means files (objects_of core) (built_end means files (objects_of core) p)))
        in
        ap seen_in is ∙ seen_more old (record { name = p; items = build ++ check })
        ∙ ap (λ items. seen_in old ++ (p, items) ∷ []) here_seen

    -- where no turn is left each object was read
    pub never_unread : (p q : Name) → turns_left_of core ≡ 0 → is_among p (objects_of core) ≡ true
        → q ≡ p → None ≡ reads_at (situation_of core) q → ⊥
    never_unread p q none among same unread =
        let waits = none_is M core kept lawful ready reached p
        (unread ∙ ap (reads_at (situation_of core)) same) among in
        let clash : true ≡ false =
        sym waits ∙ none_waits M core kept lawful ready reached p none among in
        (let e = clash in cc)

    pub touched_is : (register : List Entry) (file : List ℕ) (dirs names : List (List ℕ)) → dirs
        ≡ core.dirs → turns_left_of core ≡ 0 → seen_in register ≡ seen_in here
        → (IsStrictlySortedBy (slice_cmp nat_cmp) (names_in register) → names
        ≡ touched_in register file dirs) → Some names
        ≡ touched_of (compiler means core.dirs) file (compiled_in core)
    touched_is register file dirs names dirs_are none same listed =
        let sorted : IsStrictlySortedBy (slice_cmp nat_cmp) (names_in register) =
        subst (IsStrictlySortedBy (slice_cmp nat_cmp))
        (sym (same_names register here same ∙ entry_names means files (objects_of core)
        (objects_of core))) (rising_sorted (objects_of core) (ready_is core ready).rising) in
        ap Some (listed sorted ∙ same_touched register here same file dirs
        ∙ ap (touched_in here file) dirs_are ∙ ap (λ r. touched_in r file core.dirs)
        (sym same_register))
        ∙ sym (once (turns_left_of core)
        (touched_in (register_in means files (objects_in files core.dirs)) file core.dirs) none)

    pub unused_is : (register : List Entry) (dirs : List (List ℕ)) (picture : List PictureFile)
        (names : List (List ℕ)) → dirs ≡ core.dirs → picture ≡ files → turns_left_of core ≡ 0
        → seen_in register ≡ seen_in here → names ≡ unused_in register dirs picture → Some names
        ≡ unused_of (compiler means core.dirs) (compiled_in core)
    unused_is register dirs picture names dirs_are picture_is none same listed =
        ap Some (listed ∙ same_unused register here same dirs picture
        ∙ ap₂ (unused_in here) dirs_are picture_is ∙ ap (λ r. unused_in r core.dirs files)
        (sym same_register))
        ∙ sym (once (turns_left_of core)
        (unused_in (register_in means files (objects_in files core.dirs)) core.dirs files) none)
