-- What a settled object's records say that it asked is what compiling it from scratch looks at.
use Rattle.std.proofs.Common.{◌≡◌, ◌+◌, ◌<◌, ℕ, zero, suc, List, [], ◌∷◌, ◌++◌, Bool, true, false, cond, not, nat_eq, length, map, fold, flat_map, Option, Some, None, Ok, Err, is_some, if◌then◌else◌, refl, sym, ap, ap₂, ◌∙◌, ⊎_elim, subst, arith}
use Rattle.std.proofs.lemmas.Bool.Decides.{nat_tests}
use Rattle.std.specs.BTreeSet.{insert_key}
use Rattle.std.specs.Cmp.Lexicographic.{slice_cmp}
use Rattle.std.specs.Ordering.{nat_cmp}
use Rattle.std.specs.List.{ends_with}
use Rattle.std.specs.Prelude.{codes}
use Rattle.asking.specs.Asked.{Answer, Asks, Finished, ran, run_next, with_word, read_on}
use Rattle.json_profile.specs.Dependencies.{line_of, with_line, with_feed, dep_text_of}
use Rattle.load_path.specs.Pictures.{content_in}
use Rattle.load_path.specs.declared.picture.Content.{Content as FileContent}
use Rattle.load_path.specs.declared.picture.Content.TheVariants as file
use Rattle.load_path.specs.declared.picture.PictureFile.{PictureFile}
use Rattle.pan_ast.specs.declared.fault.Fault.{Fault}
use Rattle.questions.specs.declared.key.Key.{Key}
use Rattle.questions.specs.declared.key.Key.TheVariants.{File, Under}
use Rattle.questions.specs.Contents.{Content}
use Rattle.questions.specs.Told.{more_than_asked}
use Rattle.runner.specs.Ends.{End, Verdict}
use Rattle.runner.specs.Meaning.{Meaning, IsLawful}
use Rattle.runner.specs.declared.ends.Built.{Built}
use Rattle.path_tree.specs.Find.{get}
use Rattle.path_tree.specs.Plain.{Plain}
use Rattle.path_tree.specs.declared.path.Term.{Term}
use Rattle.runner.specs.Words.{file_content, value_content}
use Rattle.engine_laws.specs.Names.{Name}
use Rattle.engine_laws.specs.Runner.{IsIn, IsTrail}
use Rattle.engine_laws.specs.Engine.{Whole, HasNumber, IsPresentAt, AreReads, IsFromScratch, is_among}
use Rattle.engine_laws.specs.Reached.{IsReached}
use Rattle.engine_laws.specs.Rows.{IsOnce, EndsSoon}
use Rattle.engine_laws.proofs.Facts.{stands_key}
use Rattle.engine_laws.proofs.Reached.{reached_holds, reached_scratch}
use Rattle.engine_laws.specs.Bounded.{built, content_at}
use Rattle.engine_machine.specs.Compiled.{built_end}
use Rattle.engine_machine.specs.Machine.{Kept, runner_of, keeping, judge_of, keep, seen, failed_content, grade, fault_grade}
use Rattle.engine_machine.specs.Pictures.{picture_in}
use Rattle.engine_machine.proofs.Costs.{ends_soon}
use Rattle.engine_turns.specs.States.{EngineState}
use Rattle.rebuild.specs.Engines.{EngineSituation}
use Rattle.questions.specs.Laws.{is_circular}
use Rattle.engine_session.specs.Looking.{presence, told, asked_in, contents, build_asks, check_asks, deps_in}
use Rattle.engine_session.specs.Registers.{seen_pair}
use Rattle.engine_session.proofs.Failing.{HasFailed, some_same, unchecked}

-- the text depends on the lines alone
lines_by : (items : List (Key × ℕ)) (lines : List (List ℕ)) → fold with_line lines items
    ≡ fold (λ ls l. insert_key (slice_cmp nat_cmp) ls l) lines (map line_of items)
lines_by [] lines = refl
lines_by (q ∷ items) lines = lines_by items (with_line lines q)

map_append : (xs ys : List (Key × ℕ)) → map line_of (xs ++ ys) ≡ map line_of xs ++ map line_of ys
map_append [] ys = refl
map_append (x ∷ xs) ys = ap (λ ls. line_of x ∷ ls) (map_append xs ys)

pub same_text : (a b c d : List (Key × ℕ)) → map line_of a ≡ map line_of b → map line_of c
    ≡ map line_of d → dep_text_of a c ≡ dep_text_of b d
same_text a b c d e f =
    ap (flat_map with_feed) (lines_by (a ++ c) []
    ∙ ap (fold (λ ls l. insert_key (slice_cmp nat_cmp) ls l) [])
    (map_append a c ∙ ap₂ (λ x y. x ++ y) e f ∙ sym (map_append b d))
    ∙ sym (lines_by (b ++ d) []))

-- a key's line by whether nothing is there
abbrev line_by : Key × Bool → List ℕ
line_by q = line_of (q.0, if q.1 then 0 else 1)

pub not_zero : (n : ℕ) → nat_eq (suc n) 0 ≡ false
not_zero n = grind (arith, nat_tests)

line_seen : (k : Key) (n : ℕ) → line_of (k, n) ≡ line_by (k, nat_eq n 0)
line_seen (File f) zero = refl
line_seen (File f) (suc n) =
    ap (λ b. (if b then codes "missing " else (if ends_with nat_eq f (codes ".pan") then codes
    "template " else codes "file ")) ++ f) (not_zero n)
    ∙ ap (λ b. line_by (File f, b)) (sym (not_zero n))
line_seen (Under p terms) n = refl

lines_seen : (items : List (Key × ℕ)) → map line_of items ≡ map line_by (map seen_pair items)
lines_seen [] = refl
lines_seen (q ∷ items) = ap₂ (λ l ls. l ∷ ls) (line_seen q.0 q.1) (lines_seen items)

same_lines : (a b : List (Key × ℕ)) → map seen_pair a ≡ map seen_pair b → map line_of a
    ≡ map line_of b
same_lines a b e = lines_seen a ∙ ap (map line_by) e ∙ sym (lines_seen b)

presence_of : (c : Option FileContent) → nat_eq (presence (file_content c)) 0 ≡ not (is_some c)
presence_of None = refl
presence_of (Some file.TooLong) = refl
presence_of (Some (file.Bytes bytes)) = refl

-- of an object something is there
value_there : (x : Option Plain) → presence (value_content x) ≡ 1
value_there None = refl
value_there (Some t) = refl

failure_there : (b : Bool) → presence (failed_content (fault_grade b)) ≡ 1
failure_there true = refl
failure_there false = refl

kept_there : (p : List ℕ) (terms : List Term) (r : Kept) → presence (seen (Under p terms) r) ≡ 1
kept_there p terms (Ok t) = value_there (get terms t)
kept_there p terms (Err f) = failure_there (is_circular f.code)

module _ {T : Type 0} (m : Meaning T) (files : List PictureFile) (objects : List Name)
    (state : EngineState T) (numbers : (f : List ℕ) → nat_eq (state.number (File f)) 0
    ≡ not (is_some (content_in files f))) (others : (p : List ℕ) (terms : List Term)
    → state.number (Under p terms) ≡ 0) where
  abbrev tell : Key → Content
  tell = contents m files objects

  abbrev pub here : EngineSituation T
  here = record { picture = picture_in files objects; state = state }

  abbrev pub IsHere : Type 0
  IsHere = IsReached (runner_of m.build) keeping (judge_of m.check) here

  -- no object has the number 0
  number_there : IsHere → (p : List ℕ) (terms : List Term) (n : ℕ)
      → IsPresentAt (runner_of m.build) keeping (judge_of m.check) here (Under p terms) n (Some p)
      → nat_eq n 0 ≡ false
  number_there reached p terms (suc n) present = not_zero n
  number_there reached p terms zero present = ⊎_elim
      (λ (now : (state.open_build p ≡ false) × HasNumber (keeping {T = T}) state.table state.last
      (Under p terms) zero p).
      let holds = reached_holds (runner_of m.build) keeping (judge_of m.check) here reached in
      let facts = holds.inv.facts in
      let h = now.1 in
      let stands : holds.inv.stands (Under p terms) 0 ≡ seen (Under p terms) h.0.1 =
      stands_key (runner_of m.build) keeping here.picture holds.laws holds.klaws state.counter
      state.number state.table state.last state.reads state.open_build holds.inv.stands facts
      (Under p terms) p 0 h.0 refl h.1 h.2 in
      let none : 0 ≡ 1 = ap presence (sym (facts.small_is (Under p terms) 0 (omega arith)) ∙ stands)
      ∙ kept_there p terms h.0.1 in
      absurd (omega (arith, none)))
      (λ (circle : (0 ≡ 2) × ((runner_of m.build).is_circular
      (built (runner_of m.build) here.picture p) ≡ true)). absurd
      (let two = circle.0 in omega (arith, two)))
      present

  -- a number is 0 exactly where nothing is there
  seen_same : IsHere → (k : Key) (n : ℕ) → IsPresentAt (runner_of m.build) keeping
      (judge_of m.check) here k n ((picture_in files objects).target k)
      → nat_eq (presence (tell k)) 0 ≡ nat_eq n 0
  seen_same reached (File f) n present =
      presence_of (content_in files f) ∙ sym (numbers f) ∙ ap (λ k. nat_eq k 0) (sym present)
  seen_same reached (Under p terms) n present = at (is_among p objects) present
    where
      at : (b : Bool) → IsPresentAt (runner_of m.build) keeping (judge_of m.check) here
          (Under p terms) n (cond b (Some p) None) → nat_eq
          (presence (content_at (runner_of m.build) (picture_in files objects)
          (built (runner_of m.build) (picture_in files objects)) (Under p terms)
          (cond b (Some p) None))) 0 ≡ nat_eq n 0
      at false now = ap (λ k. nat_eq k 0) (sym (now ∙ others p terms))
      at true now = ap (λ k. nat_eq k 0) (kept_there p terms (keep (built_end m files objects p)))
          ∙ sym (number_there reached p terms n now)

  -- a run from scratch ends as the records say, and asks the same
  finishes : {X : Type 0} → IsHere → (ask : List (Key × Content) → Answer Key X) (limit : ℕ)
      → 0 < limit → ((asked : List (Key × Content)) (k : Key) → IsTrail ask tell asked → ask asked
      ≡ Asks k → length asked + 1 < limit) → (n : ℕ) (asked : List (Key × Content))
      (items : List (Key × ℕ)) (end : X) → n + length asked ≡ limit → IsTrail ask tell asked
      → AreReads (runner_of m.build) keeping (judge_of m.check) here ask asked items end
      → (its : List (Key × ℕ)) × (ran ask (told tell) n asked ≡ Finished its end)
      × (map seen_pair its ≡ map seen_pair items)
  finishes here_reached ask limit room soon zero [] items end e trail reads = absurd (omega arith)
  finishes here_reached ask limit room soon zero (q ∷ asked) items end e trail reads =
      absurd (let lt = soon asked q.0 trail.0 trail.1 in omega (arith, lt))
  finishes here_reached ask limit room soon (suc n) asked [] end e trail reads = (
    [],
    ap (λ a. run_next a (λ k. with_word k (told tell k)
        (λ c. ran ask (told tell) n ((k, c) ∷ asked)))) reads,
    refl,
  )
  finishes here_reached ask limit room soon (suc n) asked (q ∷ items) end e trail reads =
      let later = finishes here_reached ask limit room soon n ((q.0, tell q.0) ∷ asked) items end
      (omega (arith, e)) (trail, reads.0, refl) reads.2 in (
        (q.0, presence (tell q.0)) ∷ later.0,
        ap (λ a. run_next a (λ k. with_word k (told tell k)
            (λ c. ran ask (told tell) n ((k, c) ∷ asked)))) reads.0
            ∙ ap (read_on (q.0, presence (tell q.0))) later.1,
        ap₂ (λ b ls. (q.0, b) ∷ ls) (seen_same here_reached q.0 q.1 reads.1) later.2,
      )

  -- the items of both records, whose text is the one from scratch
  pub record Looked (o : Name) : Type 0 where
    pub items : List (Key × ℕ)
    pub citems : List (Key × ℕ)
    pub verdict : Verdict
    pub is_reads : state.reads o ≡ Some items
    pub is_checked : state.checked o ≡ Some (citems, verdict)
    pub builds : map seen_pair items ≡ map seen_pair (build_asks m files objects o)
    pub checks : map seen_pair citems ≡ map seen_pair
        (check_asks m files objects (built_end m files objects o))
    pub text : dep_text_of items citems ≡ deps_in m files objects o

  module _ (lawful : IsLawful m) (once : IsOnce objects)
      (reached : IsReached (runner_of m.build) keeping (judge_of m.check) here) (o : Name)
      (among : IsIn o objects) where
    soon : EndsSoon (runner_of m.build) (judge_of m.check) (picture_in files objects)
    soon = ends_soon m lawful files objects once

    scratch : IsFromScratch (runner_of m.build) keeping (judge_of m.check) here
    scratch = reached_scratch (runner_of m.build) keeping (judge_of m.check) here reached

    builds_same : (items : List (Key × ℕ)) (end : End T)
        → AreReads (runner_of m.build) keeping (judge_of m.check) here (m.build o) [] items end
        → map seen_pair (build_asks m files objects o) ≡ map seen_pair items
    builds_same items end reads =
        let f = finishes reached (m.build o) more_than_asked soon.room (soon.builds o)
        more_than_asked [] items end (omega arith) tt reads in
        ap (λ r. map seen_pair (asked_in r)) f.1 ∙ f.2

    checks_same : (b : Built T) (items : List (Key × ℕ)) (f : Verdict)
        → AreReads (runner_of m.build) keeping (judge_of m.check) here (m.check b) [] items f
        → map seen_pair (check_asks m files objects (Ok b)) ≡ map seen_pair items
    checks_same b items f reads =
        let r = finishes reached (m.check b) more_than_asked soon.room (soon.checks (Ok b))
        more_than_asked [] items f (omega arith) tt reads in
        ap (λ r. map seen_pair (asked_in r)) r.1 ∙ r.2

    none_checked : (fault : Fault) → built_end m files objects o ≡ Err fault → (n : ℕ)
        → state.last o ≡ Some (n, keep (built_end m files objects o)) → state.open_check o ≡ false
        → (items : List (Key × ℕ)) (f : Verdict) → state.checked o ≡ Some (items, f) → [] ≡ items
    none_checked fault is n last closed items f checked =
        let u = unchecked (runner_of m.build) keeping (judge_of m.check) here reached o among closed
        n (keep (built_end m files objects o)) last (subst (λ r. HasFailed (grade (keep r)))
        (sym is) (failed (is_circular fault.code))) in
        let same : ◌≡◌ {A = Option (List (Key × ℕ) × Verdict)} (Some ([], u.0)) (Some (items, f)) =
        sym u.1 ∙ checked in
        ap (λ q. q.0) (some_same ([], u.0) (items, f) same)
      where
        failed : (b : Bool) → HasFailed (fault_grade b)
        failed true = tt
        failed false = tt

    pub looked : state.open_build o ≡ false → state.open_check o ≡ false → Looked o
    looked opened closed =
        let b = scratch.builds o among opened in
        let c = scratch.checks o among closed in
        let builds = sym (builds_same b.2 (built_end m files objects o) b.4) in
        let checks = checked (built_end m files objects o) refl b.0 b.1 c.0 c.1 c.2 c.3 in
        record {
          items = b.2;
          citems = c.0;
          verdict = c.1;
          is_reads = b.3;
          is_checked = c.2;
          builds = builds;
          checks = checks;
          text = same_text b.2 (build_asks m files objects o) c.0
              (check_asks m files objects (built_end m files objects o))
              (same_lines b.2 (build_asks m files objects o) builds)
              (same_lines c.0 (check_asks m files objects (built_end m files objects o)) checks);
        }
      where
        checked : (r : End T) → built_end m files objects o ≡ r → (n : ℕ) → state.last o
            ≡ Some (n, keep (built_end m files objects o)) → (citems : List (Key × ℕ)) (f : Verdict)
            → state.checked o ≡ Some (citems, f) → (grade (keep (built_end m files objects o))
            ≡ Whole → AreReads (runner_of m.build) keeping (judge_of m.check) here
            ((judge_of m.check).check (built_end m files objects o)) [] citems f) → map seen_pair
            citems ≡ map seen_pair (check_asks m files objects (built_end m files objects o))
        checked (Err fault) is n last citems f is_checked whole =
            ap (map seen_pair) (sym (none_checked fault is n last closed citems f is_checked))
            ∙ ap (λ r. map seen_pair (check_asks m files objects r)) (sym is)
        checked (Ok b) is n last citems f is_checked whole =
            let reads = subst (λ r. AreReads (runner_of m.build) keeping (judge_of m.check) here
            ((judge_of m.check).check r) [] citems f) is (whole (ap (λ r. grade (keep r)) is))
            in
            sym (checks_same b citems f reads)
            ∙ ap (λ r. map seen_pair (check_asks m files objects r)) (sym is)
