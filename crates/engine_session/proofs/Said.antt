-- What an engine says of its objects is what a session shows.
use Rattle.std.proofs.Common.{◌≡◌, ◌||◌, ◌<◌, ◌+◌, ℕ, zero, suc, length, get_or, take, List, [], ◌∷◌, ◌++◌, Bool, true, false, cond, not, map, Option, Some, None, Ok, Err, if◌then◌else◌, refl, sym, ap, ap₂, ◌∙◌, ◌⊎◌, inl, inr, arith}
use Rattle.std.proofs.Math.Logic.{∥∥₁_elim}
use Rattle.std.proofs.Props.{props}
use Rattle.std.specs.Prelude.{option_map}
use Rattle.json_profile.specs.Dependencies.{dep_text_of}
use Rattle.path_tree.specs.Plain.{Plain}
use Rattle.load_path.specs.declared.picture.PictureFile.{PictureFile}
use Rattle.pan_ast.specs.declared.work.Limits.{Limits}
use Rattle.questions.specs.declared.key.Key.{Key}
use Rattle.runner.specs.Meaning.{Meaning, IsLawful}
use Rattle.engine_laws.specs.Names.{Name, equal}
use Rattle.engine_laws.proofs.Names.{equal-true, equal-is}
use Rattle.engine_laws.specs.Engine.{is_among}
use Rattle.engine_laws.proofs.Idle.{counted}
use Rattle.engine_machine.specs.Machine.{Kept, runner_of, keeping, judge_of}
use Rattle.engine_machine.specs.Compiled.{compiled}
use Rattle.engine_machine.proofs.Costs.{ends_soon}
use Rattle.engine_machine.proofs.RunnerLaws.{is_in}
use Rattle.engine_turns.specs.declared.core_data.Core.{Core}
use Rattle.engine_turns.specs.States.{pictured}
use Rattle.engine_turns.specs.Ready.{core_state}
use Rattle.engine_turns.proofs.Once.{rising_once}
use Rattle.rebuild.specs.Answers.{Seen, profile, fault, pending, no_object, is_pending, settled, answer_of as seen_of, both_reads, reads_at}
use Rattle.rebuild.specs.Engines.{Meanings, situation_of, objects_of, value_of, is_ready, turns_left_of, IsEngine}
use Rattle.rebuild.proofs.Engines.{ready_is}
use Rattle.rebuild.proofs.Fewer.{once_is}
use Rattle.session.specs.Sessions.{outcome_of, shown_of, deps_of}
use Rattle.session.specs.Texts.{said, answer_in}
use Rattle.session.specs.declared.Answer.{Answer}
use Rattle.session.specs.declared.Outcome.{Outcome}
use Rattle.session.specs.declared.Shown.{Shown}
use Rattle.session.specs.declared.Shown.TheVariants.{Pending, NoObject, Settled}
use Rattle.engine_session.specs.Compiler.{answer_name, compiler, outcome_by, answer_of, answers_of}
use Rattle.engine_session.specs.Looking.{deps_in}
use Rattle.engine_session.specs.Names.{objects_in}
use Rattle.engine_session.specs.Standing.{compiled_in, IsKept}
use Rattle.engine_session.proofs.Looked.{Looked, looked}
use Rattle.engine_session.proofs.Failing.{some_same}

bytes_set : IsSet (List ℕ)
bytes_set = hlevel props

truth_set : IsSet Bool
truth_set = hlevel props

abbrev Reads : Type 0
Reads = List (Key × ℕ) × List (Key × ℕ)

module _ {T : Type 0} (m : Meaning T) (dirs : List (List ℕ)) (picture : List PictureFile)
    (objects : List Name) where
  -- the answer of a name among the answers of objects
  pub found_in : (os : List Name) (p : Name) → answer_in (map (answer_of m dirs picture objects) os)
      p ≡ cond (is_among p os) (Some (answer_of m dirs picture objects p)) None
  found_in [] p = refl
  found_in (o ∷ os) p = at (equal o p) refl (found_in os p)
    where
      at : (b : Bool) → equal o p ≡ b → answer_in (map (answer_of m dirs picture objects) os) p
          ≡ cond (is_among p os) (Some (answer_of m dirs picture objects p)) None
          → (if b then Some (answer_of m dirs picture objects o) else answer_in
          (map (answer_of m dirs picture objects) os) p)
          ≡ cond (b || is_among p os) (Some (answer_of m dirs picture objects p)) None
      at true is later = ap (λ n. Some (answer_of m dirs picture objects n)) (equal-true o p is)
      at false is later = later

-- what is shown of a name, by what an engine answers
abbrev pub shown_by : Seen → List ℕ → Shown Outcome
shown_by (profile t) dep = Settled (outcome_by (Ok t) dep)
shown_by (fault f) dep = Settled (outcome_by (Err f) dep)
shown_by pending dep = Pending
shown_by no_object dep = NoObject

pub shown_same : {A : Type 0} (a b : A) → ◌≡◌ {A = Shown A} (Settled a) (Settled b) → a ≡ b
shown_same a b e = cc

-- an object with a profile is settled
pub shown_profile : {T : Type 0} (M : Meanings T) (core : Core T) (p : Name) (tree : Plain)
    → profile tree ≡ seen_of M (value_of core) p → (is_among p (objects_of core) ≡ true)
    × (is_pending (situation_of core) p ≡ false)
shown_profile M core p tree e =
    at (is_among p (objects_of core)) refl (is_pending (situation_of core) p) refl e
  where
    at : (a : Bool) → is_among p (objects_of core) ≡ a → (w : Bool)
        → is_pending (situation_of core) p ≡ w → profile tree
        ≡ cond a (cond w pending
        (settled (compiled (M core.dirs core.limits) (pictured core.files.items) (objects_of core)
        p))) no_object → (is_among p (objects_of core) ≡ true)
        × (is_pending (situation_of core) p ≡ false)
    at false a w b e = absurd (let clash : profile tree ≡ no_object = e in cc)
    at true a true b e = absurd (let clash : profile tree ≡ pending = e in cc)
    at true a false b e = (a, b)

module _ {T : Type 0} (M : Meanings T) (core : Core T) (kept : IsKept core) where
  abbrev means : Meaning T
  means = M core.dirs core.limits

  abbrev files : List PictureFile
  files = pictured core.files.items

  -- the text of what an object of the engine looks at
  abbrev pub dep_at : List Name → Name → List ℕ
  dep_at objects p = deps_in means files objects p

  settled_shown : (k : Kept) (dep : List ℕ) → Settled (outcome_by k dep) ≡ shown_by (settled k) dep
  settled_shown (Ok t) dep = refl
  settled_shown (Err f) dep = refl

  by_answer : (objects : List Name) (p : Name) (among waits : Bool)
      → said (not waits) (option_map outcome_of (cond among
      (Some (answer_of means core.dirs files objects p)) None))
      ≡ shown_by (cond among (cond waits pending (settled (compiled means files objects p)))
      no_object) (dep_at objects p)
  by_answer objects p true true = refl
  by_answer objects p true false = settled_shown (compiled means files objects p) (dep_at objects p)
  by_answer objects p false waits = refl

  by_deps : (objects : List Name) (p : Name) (among waits : Bool)
      → said (not waits) (option_map (λ (a : Answer). dep_at objects p)
      (cond among (Some (answer_of means core.dirs files objects p)) None))
      ≡ cond among (cond waits Pending (Settled (dep_at objects p))) NoObject
  by_deps objects p true true = refl
  by_deps objects p true false = refl
  by_deps objects p false waits = refl

  pub shown_is : (p : Name) → shown_by (seen_of M (value_of core) p) (dep_at (objects_of core) p)
      ≡ shown_of (compiler means core.dirs) p (compiled_in core)
  shown_is p =
      sym (ap (λ os. said (not (is_pending (situation_of core) p))
      (option_map outcome_of (answer_in (answers_of means core.dirs files os) p)))
      (sym kept.objects)
      ∙ ap (λ a. said (not (is_pending (situation_of core) p)) (option_map outcome_of a))
      (found_in means core.dirs files (objects_of core) (objects_of core) p)
      ∙ by_answer (objects_of core) p (is_among p (objects_of core))
      (is_pending (situation_of core) p))

  pub deps_is : (p : Name) → cond (is_among p (objects_of core))
      (cond (is_pending (situation_of core) p) Pending (Settled (dep_at (objects_of core) p)))
      NoObject ≡ deps_of (compiler means core.dirs) p (compiled_in core)
  deps_is p =
      sym (ap (λ os. said (not (is_pending (situation_of core) p))
      (option_map (λ (a : Answer). dep_at os p) (answer_in (answers_of means core.dirs files os)
      p))) (sym kept.objects)
      ∙ ap (λ a. said (not (is_pending (situation_of core) p))
      (option_map (λ (a : Answer). dep_at (objects_of core) p) a))
      (found_in means core.dirs files (objects_of core) (objects_of core) p)
      ∙ by_deps (objects_of core) p (is_among p (objects_of core))
      (is_pending (situation_of core) p))

  pub answers_are : answers_of means core.dirs files (objects_of core)
      ≡ answers_of means core.dirs files (objects_in files core.dirs)
  answers_are = ap (answers_of means core.dirs files) kept.objects

  module _ (lawful : (dirs : List (List ℕ)) (limits : Limits) → IsLawful (M dirs limits))
      (ready : is_ready core ≡ true) (reached : ∥ IsEngine M (value_of core) ∥₁) where
    waits_not : (a b : Bool) → a || b ≡ false → (a ≡ false) × (b ≡ false)
    waits_not true b e = absurd (let clash : true ≡ false = e in cc)
    waits_not false b e = (refl, e)

    pub looked_at : IsEngine M (value_of core) → (p : Name) → is_among p (objects_of core) ≡ true
        → is_pending (situation_of core) p ≡ false → Looked means files (objects_of core)
        (core_state core) kept.numbers (λ q terms. refl) p
    looked_at r p among waits = let w =
        waits_not ((core_state core).open_build p) ((core_state core).open_check p) waits in
        looked means files (objects_of core) (core_state core) kept.numbers (λ q terms. refl)
        (lawful core.dirs core.limits) (once_is (objects_of core)
        (rising_once (objects_of core) (ready_is core ready).rising)) r p
        (is_in p (objects_of core) among) w.0 w.1

    -- what is read of a settled object gives the text of what it looks at
    pub text_is : (p : Name) (items citems : List (Key × ℕ)) → Some (items, citems)
        ≡ reads_at (situation_of core) p → (is_among p (objects_of core) ≡ true)
        × (is_pending (situation_of core) p ≡ false) × (dep_text_of items citems
        ≡ dep_at (objects_of core) p)
    text_is p items citems reads =
        at (is_among p (objects_of core)) refl (is_pending (situation_of core) p) refl reads
      where
        by : is_among p (objects_of core) ≡ true → is_pending (situation_of core) p ≡ false
            → Some (items, citems) ≡ both_reads ((core_state core).reads p)
            ((core_state core).checked p) → IsEngine M (value_of core) → dep_text_of items citems
            ≡ dep_at (objects_of core) p
        by among waits e r =
            let l = looked_at r p among waits in
            let same : ◌≡◌ {A = Option Reads} (Some (items, citems)) (Some (l.items, l.citems)) =
            e ∙ ap₂ both_reads l.is_reads l.is_checked in
            ap (λ q. dep_text_of q.0 q.1) (some_same (items, citems) (l.items, l.citems) same)
            ∙ l.text

        at : (a : Bool) → is_among p (objects_of core) ≡ a → (w : Bool)
            → is_pending (situation_of core) p ≡ w → Some (items, citems)
            ≡ cond a (cond w None (both_reads ((core_state core).reads p)
            ((core_state core).checked p))) None → (is_among p (objects_of core) ≡ true)
            × (is_pending (situation_of core) p ≡ false) × (dep_text_of items citems
            ≡ dep_at (objects_of core) p)
        at false a w b e = absurd (let clash : ◌≡◌ {A = Option Reads} (Some (items, citems)) None =
            e in cc)
        at true a true b e = absurd (let clash : ◌≡◌ {A = Option Reads} (Some (items, citems))
            None = e in cc)
        at true a false b e = (
          a,
          b,
          ∥∥₁_elim reached
              (bytes_set (dep_text_of items citems) (dep_at (objects_of core) p)) (by a b e),
        )

    bottom_prop : IsProp ⊥
    bottom_prop x y = absurd x

    -- nothing is read only of what is not settled
    pub none_is : (p : Name) → None ≡ reads_at (situation_of core) p → is_among p (objects_of core)
        ≡ true → is_pending (situation_of core) p ≡ true
    none_is p none among = at (is_pending (situation_of core) p) refl
      where
        by : is_pending (situation_of core) p ≡ false → IsEngine M (value_of core) → ⊥
        by waits r =
            let l = looked_at r p among waits in
            let clash : ◌≡◌ {A = Option Reads} None (Some (l.items, l.citems)) =
            none ∙ ap₂ (λ a w. cond a
            (cond w None (both_reads ((core_state core).reads p) ((core_state core).checked p)))
            None) among waits ∙ ap₂ both_reads l.is_reads l.is_checked in
            (let e = clash in cc)

        at : (w : Bool) → is_pending (situation_of core) p ≡ w → w ≡ true
        at true e = refl
        at false e = absurd (∥∥₁_elim reached bottom_prop (by e))

    -- where no turn is left no object waits
    pub none_waits : (p : Name) → turns_left_of core ≡ 0 → is_among p (objects_of core) ≡ true
        → is_pending (situation_of core) p ≡ false
    none_waits p none among =
        ∥∥₁_elim reached (truth_set (is_pending (situation_of core) p) false) by
      where
        by : IsEngine M (value_of core) → is_pending (situation_of core) p ≡ false
        by r =
            let soon = ends_soon means (lawful core.dirs core.limits) files (objects_of core)
            (once_is (objects_of core) (rising_once (objects_of core)
            (ready_is core ready).rising)) in
            let c = (counted (runner_of means.build) keeping (judge_of means.check)
            (situation_of core) r soon).settled none p (is_in p (objects_of core) among) in
            ap₂ (λ a b. a || b) c.0 c.1

    pub deps_read : (p text : List ℕ) (items citems : List (Key × ℕ)) → text
        ≡ dep_text_of items citems → Some (items, citems) ≡ reads_at (situation_of core) p
        → Settled text ≡ deps_of (compiler means core.dirs) p (compiled_in core)
    deps_read p text items citems is reads =
        let t = text_is p items citems reads in
        ap Settled (is ∙ t.2) ∙ sym
        (ap₂ (λ a w. cond a (cond w Pending (Settled (dep_at (objects_of core) p))) NoObject)
        t.0 t.1) ∙ deps_is p

    pub deps_none : (p : List ℕ) (shown : Shown (List ℕ)) → shown
        ≡ cond (is_among p (objects_of core)) Pending NoObject → None
        ≡ reads_at (situation_of core) p → shown ≡ deps_of (compiler means core.dirs) p
        (compiled_in core)
    deps_none p shown is none = is ∙ at (is_among p (objects_of core)) refl ∙ deps_is p
      where
        at : (a : Bool) → is_among p (objects_of core) ≡ a → cond a Pending NoObject
            ≡ cond a (cond (is_pending (situation_of core) p) Pending
            (Settled (dep_at (objects_of core) p))) NoObject
        at true e = sym (ap (λ w. cond w Pending (Settled (dep_at (objects_of core) p)))
            (none_is p none e))
        at false e = refl

    pub shown_read : (p : List ℕ) (outcome : Outcome) (tree : Plain) (items citems : List (Key × ℕ))
        → outcome ≡ outcome_by (Ok tree) (dep_text_of items citems) → profile tree
        ≡ seen_of M (value_of core) p → Some (items, citems) ≡ reads_at (situation_of core) p
        → Settled outcome ≡ shown_of (compiler means core.dirs) p (compiled_in core)
    shown_read p outcome tree items citems is answers reads =
        ap Settled (is ∙ ap (outcome_by (Ok tree)) (text_is p items citems reads).2)
        ∙ ap (λ s. shown_by s (dep_at (objects_of core) p)) answers ∙ shown_is p

    pub unread : (p : List ℕ) (tree : Plain) → profile tree ≡ seen_of M (value_of core) p → None
        ≡ reads_at (situation_of core) p → ⊥
    unread p tree answers none =
        let b = shown_profile M core p tree answers in
        let clash : true ≡ false = sym (none_is p none b.0) ∙ b.1 in
        (let e = clash in cc)

    -- in an engine in which all is settled, the answer of an object
    pub settled_is : (p : Name) → turns_left_of core ≡ 0 → is_among p (objects_of core) ≡ true
        → shown_of (compiler means core.dirs) p (compiled_in core)
        ≡ Settled (outcome_by (compiled means files (objects_of core) p)
        (dep_at (objects_of core) p))
    settled_is p none among =
        sym (shown_is p) ∙ ap (λ s. shown_by s (dep_at (objects_of core) p))
        (ap₂ (λ a w. cond a (cond w pending (settled (compiled means files (objects_of core) p)))
        no_object) among (none_waits p none among)) ∙ sym
        (settled_shown (compiled means files (objects_of core) p) (dep_at (objects_of core) p))

    pub never_waits : (p q : Name) (shown : Shown Outcome) → turns_left_of core ≡ 0
        → is_among p (objects_of core) ≡ true → q ≡ p → shown
        ≡ shown_of (compiler means core.dirs) q (compiled_in core) → (shown ≡ Pending)
        ⊎ (shown ≡ NoObject) → ⊥
    never_waits p q shown none among same is (inl waits) =
        let clash : ◌≡◌ {A = Shown Outcome} Pending (Settled
        (outcome_by (compiled means files (objects_of core) p) (dep_at (objects_of core) p))) =
        sym waits ∙ is ∙ ap (λ n. shown_of (compiler means core.dirs) n (compiled_in core)) same
        ∙ settled_is p none among in (let e = clash in cc)
    never_waits p q shown none among same is (inr waits) =
        let clash : ◌≡◌ {A = Shown Outcome} NoObject (Settled
        (outcome_by (compiled means files (objects_of core) p) (dep_at (objects_of core) p))) =
        sym waits ∙ is ∙ ap (λ n. shown_of (compiler means core.dirs) n (compiled_in core)) same
        ∙ settled_is p none among in (let e = clash in cc)

    pub outcome_is : (p q : Name) (shown : Shown Outcome) (outcome : Outcome) → turns_left_of core
        ≡ 0 → is_among p (objects_of core) ≡ true → q ≡ p → shown
        ≡ shown_of (compiler means core.dirs) q (compiled_in core) → shown ≡ Settled outcome
        → outcome ≡ outcome_by (compiled means files (objects_of core) p)
        (dep_at (objects_of core) p)
    outcome_is p q shown outcome none among same is settled_so =
        shown_same outcome (outcome_by (compiled means files (objects_of core) p)
        (dep_at (objects_of core) p)) (sym settled_so ∙ is
        ∙ ap (λ n. shown_of (compiler means core.dirs) n (compiled_in core)) same
        ∙ settled_is p none among)

  pub shown_else : (p : List ℕ) (seen : Seen) → seen ≡ seen_of M (value_of core) p
      → shown_by seen (dep_at (objects_of core) p) ≡ shown_of (compiler means core.dirs) p
      (compiled_in core)
  shown_else p seen answers = ap (λ s. shown_by s (dep_at (objects_of core) p)) answers ∙ shown_is p

abbrev pub unsettled_by : Seen → Shown (List ℕ)
unsettled_by (profile t) = Pending
unsettled_by (fault f) = Pending
unsettled_by pending = Pending
unsettled_by no_object = NoObject

settled_waits : (k : Kept) → unsettled_by (settled k) ≡ Pending
settled_waits (Ok t) = refl
settled_waits (Err f) = refl

-- whether a name is an object, by what an engine answers
pub unsettled_is : {T : Type 0} (M : Meanings T) (core : Core T) (p : Name)
    → unsettled_by (seen_of M (value_of core) p) ≡ cond (is_among p (objects_of core)) Pending
    NoObject
unsettled_is M core p = at (is_among p (objects_of core)) (is_pending (situation_of core) p)
  where
    at : (a w : Bool) → unsettled_by
        (cond a (cond w pending (settled (compiled (M core.dirs core.limits)
        (pictured core.files.items) (objects_of core) p))) no_object) ≡ cond a Pending NoObject
    at false w = refl
    at true true = refl
    at true false = settled_waits (compiled (M core.dirs core.limits) (pictured core.files.items)
        (objects_of core) p)

-- an item of a list is among it
pub item_among : (xs : List Name) (i : ℕ) (x : Name) → i < length xs → x ≡ get_or xs i x
    → is_among x xs ≡ true
item_among [] i x lt is = absurd (omega arith)
item_among (y ∷ ys) zero x lt is = ap (λ b. b || is_among x ys) (equal-is y x (sym is))
item_among (y ∷ ys) (suc i) x lt is =
    ap (λ b. equal y x || b) (item_among ys i x (omega arith) is) ∙ or_true (equal y x)
  where
    or_true : (b : Bool) → b || true ≡ true
    or_true true = refl
    or_true false = refl

-- one item more
pub map_more : {A B : Type 0} (f : A → B) (xs : List A) (i : ℕ) (x : A) → i < length xs → x
    ≡ get_or xs i x → map f (take (i + 1) xs) ≡ map f (take i xs) ++ f x ∷ []
map_more f [] i x lt is = absurd (omega arith)
map_more f (y ∷ ys) zero x lt is = ap (λ z. f z ∷ []) (sym is)
map_more f (y ∷ ys) (suc i) x lt is =
    let e : suc i + 1 ≡ suc (i + 1) = omega arith in
    ap (λ n. map f (take n (y ∷ ys))) e ∙ ap (λ zs. f y ∷ zs) (map_more f ys i x (omega arith) is)

pub take_more : {A : Type 0} (xs : List A) (i : ℕ) (x : A) → i < length xs → x ≡ get_or xs i x
    → take (i + 1) xs ≡ take i xs ++ x ∷ []
take_more [] i x lt is = absurd (omega arith)
take_more (y ∷ ys) zero x lt is = ap (λ z. z ∷ []) (sym is)
take_more (y ∷ ys) (suc i) x lt is =
    let e : suc i + 1 ≡ suc (i + 1) = omega arith in
    ap (λ n. take n (y ∷ ys)) e ∙ ap (λ zs. y ∷ zs) (take_more ys i x (omega arith) is)

-- the names of answers and one more
pub named_more : (xs : List Answer) (a : Answer)
    → map answer_name (xs ++ a ∷ []) ≡ map answer_name xs ++ a.name ∷ []
named_more [] a = refl
named_more (x ∷ xs) a = ap (λ ns. x.name ∷ ns) (named_more xs a)
