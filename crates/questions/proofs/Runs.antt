-- The laws of a lawful run that is told lists of pairs, and what it does where it is told words.
use Rattle.std.proofs.Common.{◌≡◌, ◌∙◌, ap, sym, subst, refl, ℕ, zero, suc, ◌+◌, ◌≤◌, List, [], ◌∷◌, ◌++◌, Option, Some, None, Bool, true, false, cond, length, map, arith}
use Rattle.std.proofs.lemmas.Bool.{true≢false}
use Rattle.std.proofs.lemmas.List.{append-nil, append_assoc, length-append}
use Rattle.questions.specs.declared.key.Key.{Key}
use Rattle.pan_ast.specs.declared.fault.Fault.{Fault}
use Rattle.questions.specs.Laws.{is_circular}
use Rattle.questions.specs.Keys.{key_eq}
use Rattle.questions.specs.Contents.{Content, Answers, answer_in, with_key, is_circular_answer}
use Rattle.questions.specs.Run.{Meter, noted, Outcome, Done, Returned, Failed, Asks, Run}
use Rattle.asking.specs.Asked.{AreAsked, read_on, Answer, Ends, Word, Tells, Needs, Ran, Finished, Stops, Lost, ran, with_word, run_next, next_told, word_told, told_in}
use Rattle.asking.specs.Asked as asked
use Rattle.questions.specs.Told.{keys_of, Ending, meter_of, LeavesAtMost, answer_by, whole, work_of, content_of, answers_of, number_of, numbered, ran_by, IsPlainList, RunLaws, IsEnd, IsRanBy, IsWorkOf, more_than_asked}
use Rattle.questions.proofs.Process.{Process, Over, Question, walk, walk_on, held, EndsCircular, Either, IsLawful}
use Rattle.questions.proofs.Lawful.{Lawful}
use Rattle.questions.proofs.Told.{Extends, StopsAt, is_asking, stops_at, ends_later, same_end, asked_stays, fault_plain}
use Rattle.questions.proofs.Same.{with_new, with_old, answer_new, answer_old}
use Rattle.questions.specs.KeyLaws.{key_same}

longer : (qs : List (Key × Content)) (k : Key) (c : Content) → answer_in qs k ≡ None
    → Extends (answer_in qs) (answer_in ((k, c) ∷ qs))
longer qs k c none = record { same = λ j d some. answer_old k j c d qs none some }

length_keys : (qs : List (Key × Content)) → length (keys_of qs) ≡ length qs
length_keys [] = refl
length_keys (q ∷ qs) = let e = length-append (keys_of qs) (q.0 ∷ []) in let i = length_keys qs in
    omega arith

plain_answer : (qs : List (Key × Content)) → IsPlainList qs → (k : Key) (c : Content)
    → answer_in qs k ≡ Some c → is_circular_answer k c ≡ false
plain_answer [] h k c e = let clash : ◌≡◌ {A = Option Content} None (Some c) = e in cc
plain_answer (q ∷ qs) h k c e = at (plain_answer qs h.1 k c) (key_eq q.0 k) refl e
  where
    at : (answer_in qs k ≡ Some c → is_circular_answer k c ≡ false) → (b : Bool) → key_eq q.0 k ≡ b
        → cond b (Some q.1) (answer_in qs k) ≡ Some c → is_circular_answer k c ≡ false
    at next true same some = let is : q.0 ≡ k = key_same q.0 k same in
        let that : ◌≡◌ {A = Option Content} (Some q.1) (Some c) = some in let is_c : q.1 ≡ c = cc in
        sym (ap (λ d. is_circular_answer k d) is_c) ∙ sym (ap (λ j. is_circular_answer j q.1) is)
        ∙ h.0
    at next false same some = next some

-- ends as answers

answer_asks : {S X R : Type 0} → (f : Ending S X R) (z : Outcome S X) (k : Key) → answer_by f z
    ≡ asked.Asks k → z ≡ Asks k (meter_of z)
answer_asks {R = R} f (Done x s m) k e =
    let clash : ◌≡◌ {A = Answer Key R} (Ends (f.done x s)) (asked.Asks k) = e in cc
answer_asks {R = R} f (Returned x s m) k e =
    let clash : ◌≡◌ {A = Answer Key R} (Ends (f.returned x s)) (asked.Asks k) = e in cc
answer_asks {R = R} f (Failed d m) k e =
    let clash : ◌≡◌ {A = Answer Key R} (Ends (f.failed d)) (asked.Asks k) = e in cc
answer_asks {S} {X} {R} f (Asks j m) k e =
    let same : ◌≡◌ {A = Answer Key R} (asked.Asks j) (asked.Asks k) = e in let is : j ≡ k = cc in
    ap {B = Outcome S X} (λ i. Asks i m) is

answer_ends : {S X R : Type 0} → (f : Ending S X R) (z : Outcome S X) (r : R) → answer_by f z
    ≡ Ends r → is_asking z ≡ false
unfolding is_asking
answer_ends f (Done x s m) r e = refl
answer_ends f (Returned x s m) r e = refl
answer_ends f (Failed d m) r e = refl
answer_ends {R = R} f (Asks j m) r e = let clash : ◌≡◌ {A = Answer Key R} (asked.Asks j) (Ends r) =
    e in cc

module _ {S X R : Type 0} (may : Key → Type 0) (r : Run S X) (s : S) (f : Ending S X R)
    (law : Lawful may 0 r) where
  told : List (Key × Content) → Outcome S X
  told qs = r (answer_in qs) s whole

  run : List (Key × Content) → Answer Key R
  run qs = answer_by f (told qs)

  root : Process S X
  root = law.process s whole

  told_is : (qs : List (Key × Content)) → told qs ≡ walk root (answer_in qs)
  unfolding told root
  told_is qs = law.is (answer_in qs) s whole

  lawful : IsLawful may 2000000 whole root
  unfolding root
  lawful = law.law 2000000 s whole (omega arith)

  -- where a run asks, its process stands at that question
  stands : (qs : List (Key × Content)) (k : Key) → run qs ≡ asked.Asks k
      → StopsAt may 2000000 2000000 root (answer_in qs) k (meter_of (told qs))
  unfolding run
  stands qs k e = stops_at may 2000000 root whole (answer_in qs) k (meter_of (told qs)) lawful
      (sym (told_is qs) ∙ answer_asks f (told qs) k e)

  -- the outcome with an answer to that question
  answered_is : (qs : List (Key × Content)) (k : Key) (c : Content) (e : run qs ≡ asked.Asks k)
      → told ((k, c) ∷ qs) ≡ walk ((stands qs k e).next c) (answer_in ((k, c) ∷ qs))
  answered_is qs k c e =
      let st = stands qs k e in
      told_is ((k, c) ∷ qs) ∙ st.goes (answer_in ((k, c) ∷ qs)) (longer qs k c st.unknown)
      ∙ ap (λ a. walk_on a k (meter_of (told qs)) (λ d. walk (st.next d)
      (answer_in ((k, c) ∷ qs)))) (answer_new k c qs)

  -- the meter where the outcome with an answer began
  after : (qs : List (Key × Content)) (k : Key) → Meter
  after qs k = noted k (meter_of (told qs))

  later : (qs : List (Key × Content)) (k : Key) (c : Content) → run qs ≡ asked.Asks k
      → ((meter_of (told ((k, c) ∷ qs))).left ≤ (meter_of (told qs)).left)
      × (held (meter_of (told ((k, c) ∷ qs))) ≤ 2000000)
  unfolding after
  later qs k c e = subst (λ z. ((meter_of z).left ≤ (meter_of (told qs)).left)
      × (held (meter_of z) ≤ 2000000)) (sym (answered_is qs k c e))
      (by (is_circular_answer k c) ((stands qs k e).next c) ((stands qs k e).law c))
    where
      n : Meter
      n = noted k (meter_of (told qs))

      o : Answers
      o = answer_in ((k, c) ∷ qs)

      by : (b : Bool) (p : Process S X) → Either b (EndsCircular 2000000 n p)
          (IsLawful may 2000000 n p) → ((meter_of (walk p o)).left ≤ (meter_of (told qs)).left)
          × (held (meter_of (walk p o)) ≤ 2000000)
      by true (Over (Done x t l)) h = absurd h
      by true (Over (Returned t x l)) h = absurd h
      by true (Over (Failed d l)) h = (h.0.left, h.0.paid)
      by true (Over (Asks j l)) h = absurd h
      by true (Question j l g) h = absurd h
      by false p h = ends_later may 2000000 p n o h

  -- on a trail exactly its keys were asked
  asked_on : (qs : List (Key × Content)) → AreAsked run qs → (meter_of (told qs)).asked ≡ keys_of qs
  asked_on [] h = rw (told_is []) (asked_stays may 2000000 root whole (answer_in []) []
      (λ k c e. let clash : ◌≡◌ {A = Option Content} None (Some c) = e in cc) refl lawful)
  asked_on (q ∷ qs) h = subst (λ z. (meter_of z).asked ≡ keys_of (q ∷ qs))
      (sym (answered_is qs q.0 q.1 h.1)) (by (is_circular_answer q.0 q.1)
      ((stands qs q.0 h.1).next q.1) (sum (asked_on qs h.0)) ((stands qs q.0 h.1).law q.1))
    where
      n : Meter
      n = noted q.0 (meter_of (told qs))

      o : Answers
      o = answer_in (q ∷ qs)

      sum : (meter_of (told qs)).asked ≡ keys_of qs → n.asked ≡ keys_of (q ∷ qs)
      sum e = ap (with_key q.0) e ∙ with_new q.0 qs (stands qs q.0 h.1).unknown

      by : (b : Bool) (p : Process S X) → n.asked ≡ keys_of (q ∷ qs)
          → Either b (EndsCircular 2000000 n p) (IsLawful may 2000000 n p)
          → (meter_of (walk p o)).asked ≡ keys_of (q ∷ qs)
      by true (Over (Done x t l)) e h = absurd h
      by true (Over (Returned t x l)) e h = absurd h
      by true (Over (Failed d l)) e h = h.0.asked ∙ e
      by true (Over (Asks j l)) e h = absurd h
      by true (Question j l g) e h = absurd h
      by false p e h = asked_stays may 2000000 p n o (keys_of (q ∷ qs))
          (λ k c is. with_old k c (q ∷ qs) is) e h

  within : (qs : List (Key × Content)) → (meter_of (told qs)).left + length
      (meter_of (told qs)).asked ≤ 2000000
  within qs = rw (told_is qs) (ends_later may 2000000 root whole (answer_in qs) lawful).1

  circular_end : (is_circular_end : R → Bool) → IsEnd f is_circular_end
      → (qs : List (Key × Content)) (k : Key) (c : Content) → run qs ≡ asked.Asks k
      → is_circular_answer k c ≡ true → (t : R) × (run ((k, c) ∷ qs) ≡ Ends t)
      × (is_circular_end t ≡ true)
  unfolding run
  circular_end is_circular_end ends qs k c e is =
      subst (λ z. (t : R) × (answer_by f z ≡ Ends t) × (is_circular_end t ≡ true))
      (sym (answered_is qs k c e)) (by (is_circular_answer k c) is ((stands qs k e).next c)
      ((stands qs k e).law c))
    where
      n : Meter
      n = noted k (meter_of (told qs))

      o : Answers
      o = answer_in ((k, c) ∷ qs)

      by : (b : Bool) → b ≡ true → (p : Process S X)
          → Either b (EndsCircular 2000000 n p) (IsLawful may 2000000 n p) → (t : R)
          × (answer_by f (walk p o) ≡ Ends t) × (is_circular_end t ≡ true)
      by true b (Over (Done x t l)) h = absurd h
      by true b (Over (Returned t x l)) h = absurd h
      by true b (Over (Failed d l)) h = (f.failed d, refl, ends.failed d ∙ h.1)
      by true b (Over (Asks j l)) h = absurd h
      by true b (Question j l g) h = absurd h
      by false b p h = absurd (true≢false (sym b))

  plain_end : (is_circular_end : R → Bool) → IsEnd f is_circular_end
      → (qs : List (Key × Content)) (t : R) → IsPlainList qs → run qs ≡ Ends t → is_circular_end t
      ≡ false
  unfolding run
  plain_end is_circular_end ends qs t all e =
      by (told qs) (λ d l is. fault_plain may 2000000 root whole (answer_in qs) d l
      (plain_answer qs all) lawful (sym (told_is qs) ∙ is)) e
    where
      by : (z : Outcome S X) → ((d : Fault) (l : Meter) → z ≡ Failed d l → is_circular d.code
          ≡ false) → answer_by f z ≡ Ends t → is_circular_end t ≡ false
      by (Done x s l) h e = let same : ◌≡◌ {A = Answer Key R} (Ends (f.done x s)) (Ends t) = e in
          let is : f.done x s ≡ t = cc in sym (ap is_circular_end is) ∙ ends.done x s
      by (Returned x s l) h e = let same : ◌≡◌ {A = Answer Key R} (Ends (f.returned x s)) (Ends t) =
          e in let is : f.returned x s ≡ t = cc in sym (ap is_circular_end is) ∙ ends.returned x s
      by (Failed d l) h e = let same : ◌≡◌ {A = Answer Key R} (Ends (f.failed d)) (Ends t) = e in
          let is : f.failed d ≡ t = cc in sym (ap is_circular_end is) ∙ ends.failed d ∙ h d l refl
      by (Asks k l) h e = let clash : ◌≡◌ {A = Answer Key R} (asked.Asks k) (Ends t) = e in cc

  -- the laws of the run
  pub run_laws : (is_circular_end : R → Bool) → IsEnd f is_circular_end
      → RunLaws may is_circular_end (λ qs. answer_by f (r (answer_in qs) s whole))
      (λ qs. work_of (r (answer_in qs) s whole))
  unfolding run told
  run_laws is_circular_end ends = record {
    unknown = λ qs k e. (stands qs k e).unknown;
    key = λ qs k e. (stands qs k e).key;
    bounded = λ qs. omega arith;
    grows = λ qs k c e. let l = (later qs k c e).0 in omega arith;
    paid = λ qs h. let a = within qs in let b = ap length (asked_on qs h) ∙ length_keys qs in
        omega arith;
    circular = circular_end is_circular_end ends;
    plain = plain_end is_circular_end ends;
  }

  -- runs over words

  module _ (tells : Key → Word Content) where
    full : Outcome S X
    full = r (answers_of tells) s whole

    full_is : full ≡ walk root (answers_of tells)
    unfolding full root
    full_is = law.is (answers_of tells) s whole

    AreTold : List (Key × Content) → Type 0
    AreTold [] = Unit {0}
    AreTold (q ∷ qs) = (answers_of tells q.0 ≡ Some q.1) × AreTold qs

    told_extends : (qs : List (Key × Content)) → AreTold qs → (k : Key) (c : Content)
        → answer_in qs k ≡ Some c → answers_of tells k ≡ Some c
    unfolding AreTold
    told_extends [] h k c e = let clash : ◌≡◌ {A = Option Content} None (Some c) = e in cc
    told_extends (q ∷ qs) h k c e = at (told_extends qs h.1 k c) (key_eq q.0 k) refl e
      where
        at : (answer_in qs k ≡ Some c → answers_of tells k ≡ Some c) → (b : Bool) → key_eq q.0 k ≡ b
            → cond b (Some q.1) (answer_in qs k) ≡ Some c → answers_of tells k ≡ Some c
        at next true same some = let is : q.0 ≡ k = key_same q.0 k same in
            sym (ap (answers_of tells) is) ∙ h.0 ∙ some
        at next false same some = next some

    -- what a run over words gives from these keys on, where the run that is told what they tell
    -- comes to z
    GivesAs : List Key → Outcome S X → Ran Key R → Type 0
    GivesAs before z (Finished items t) =
        (ks : List Key) × (items ≡ map (numbered tells) ks) × ((meter_of z).asked ≡ before ++ ks)
        × (answer_by f z ≡ Ends t)
    GivesAs before z (Stops p) = (k : Key) × (m : Meter) × (z ≡ Asks k m) × (tells k ≡ Needs p)
    GivesAs before z Lost = ⊥

    gives_more : (before : List Key) (z : Outcome S X) (k : Key) (n : ℕ) (t : Ran Key R)
        → number_of (tells k) ≡ n → GivesAs (before ++ k ∷ []) z t
        → GivesAs before z (read_on (k, n) t)
    unfolding GivesAs
    gives_more before z k n (Finished items t) e h =
        (k ∷ h.0, items_are, h.2 ∙ append_assoc before (k ∷ []) h.0, h.3)
      where
        items_are : (k, n) ∷ items ≡ map (numbered tells) (k ∷ h.0)
        items_are = rw (sym e) (ap (λ xs. (k, number_of (tells k)) ∷ xs) h.1)
    gives_more before z k n (Stops p) e h = h
    gives_more before z k n Lost e h = h

    ran_from : (n : ℕ) (qs : List (Key × Content)) → n + length qs ≡ 2000001 → AreAsked run qs
        → AreTold qs → GivesAs (keys_of qs) full (ran run tells n qs)
    unfolding run GivesAs AreTold
    ran_from zero qs count trail all = let a = within qs in let b =
        ap length (asked_on qs trail) ∙ length_keys qs in absurd (omega arith)
    ran_from (suc n) qs count trail all =
        by (λ k c e is. ran_from n ((k, c) ∷ qs) (omega arith) (trail, e) (is, all)) (run qs) refl
      where
        extends : Extends (answer_in qs) (answers_of tells)
        extends = record { same = told_extends qs all }

        ended : (t : R) → run qs ≡ Ends t → GivesAs (keys_of qs) full (Finished [] t)
        ended t e =
            let z = answer_ends f (told qs) t e in
            let same : full ≡ told qs =
            full_is ∙ same_end root (answer_in qs) (answers_of tells) extends
            (ap is_asking (sym (told_is qs)) ∙ z) ∙ sym (told_is qs) in (
              [],
              refl,
              ap (λ z. (meter_of z).asked) same ∙ asked_on qs trail
                  ∙ sym (append-nil (keys_of qs)),
              ap (answer_by f) same ∙ e,
            )

        reached : (k : Key) (e : run qs ≡ asked.Asks k) → full
            ≡ walk_on (answers_of tells k) k (meter_of (told qs))
            (λ c. walk ((stands qs k e).next c) (answers_of tells))
        reached k e = full_is ∙ (stands qs k e).goes (answers_of tells) extends

        word : (k : Key) → ((c : Content) → answers_of tells k
            ≡ Some c → GivesAs (keys_of qs ++ k ∷ []) full (ran run tells n ((k, c) ∷ qs))) → run qs
            ≡ asked.Asks k → (w : Word Content) → tells k ≡ w
            → GivesAs (keys_of qs) full (with_word k w (λ c. ran run tells n ((k, c) ∷ qs)))
        word k next e (Tells m c) is =
            gives_more (keys_of qs) full k m (ran run tells n ((k, c) ∷ qs)) (ap number_of is)
            (next c (ap content_of is))
        word k next e (Needs p) is = (
          k,
          meter_of (told qs),
          reached k e
              ∙ ap (λ a. walk_on a k (meter_of (told qs)) (λ c. walk ((stands qs k e).next c)
              (answers_of tells))) (ap content_of is),
          is,
        )

        by : (next : (k : Key) (c : Content) → run qs ≡ asked.Asks k → answers_of tells k
            ≡ Some c → GivesAs (keys_of qs ++ k ∷ []) full (ran run tells n ((k, c) ∷ qs)))
            → (a : Answer Key R) → run qs ≡ a → GivesAs (keys_of qs) full
            (run_next a (λ k. with_word k (tells k) (λ c. ran run tells n ((k, c) ∷ qs))))
        by next (Ends t) e = ended t e
        by next (asked.Asks k) e = word k (λ c is. next k c e is) e (tells k) refl

    finished : (items : List (Key × ℕ)) (t u : R) (ks asked : List Key) → items
        ≡ map (numbered tells) ks → asked ≡ ks → ◌≡◌ {A = Answer Key R} (Ends u) (Ends t)
        → ◌≡◌ {A = Ran Key R} (Finished items t) (Finished (map (numbered tells) asked) u)
    finished items t u ks asked are is same = let ends : u ≡ t = cc in
        let these : items ≡ map (numbered tells) asked = are ∙ ap (map (numbered tells)) (sym is) in
        cc

    waits : (z : Outcome S X) (k : Key) (m : Meter) (p : List ℕ) → z ≡ Asks k m → tells k ≡ Needs p
        → Stops p ≡ ran_by tells f z
    waits z k m p is needs = rw is (rw needs refl)

    gives_is : (z : Outcome S X) (t : Ran Key R) → GivesAs [] z t → t ≡ ran_by tells f z
    unfolding GivesAs
    gives_is (Done x u m) (Finished items t) h =
        finished items t (f.done x u) h.0 m.asked h.1 h.2 h.3
    gives_is (Returned x u m) (Finished items t) h =
        finished items t (f.returned x u) h.0 m.asked h.1 h.2 h.3
    gives_is (Failed d m) (Finished items t) h =
        finished items t (f.failed d) h.0 m.asked h.1 h.2 h.3
    gives_is (Asks k m) (Finished items t) h =
        let clash : ◌≡◌ {A = Answer Key R} (asked.Asks k) (Ends t) = h.3 in cc
    gives_is z (Stops p) h = waits z h.0 h.1 p h.2 h.3
    gives_is z Lost h = absurd h

  -- a run over words is the run that is told what they tell
  pub ran_is : IsRanBy f r s
  unfolding run told AreTold full more_than_asked
  ran_is tells = gives_is tells (full tells) (ran run tells 2000001 [])
      (ran_from tells 2000001 [] refl tt tt)

  -- the outcome is that of the pairs that the run was told
  module _ (tells : Key → Word Content) where
    same_from : (n : ℕ) (qs : List (Key × Content)) → n + length qs ≡ 2000001 → AreAsked run qs
        → AreTold tells qs → full tells ≡ told (told_in run tells n qs)
    unfolding run AreTold
    same_from zero qs count trail all = let a = within qs in let b =
        ap length (asked_on qs trail) ∙ length_keys qs in absurd (omega arith)
    same_from (suc n) qs count trail all =
        by (λ k c e is. same_from n ((k, c) ∷ qs) (omega arith) (trail, e) (is, all)) (run qs) refl
      where
        extends : Extends (answer_in qs) (answers_of tells)
        extends = record { same = told_extends tells qs all }

        ended : (t : R) → run qs ≡ Ends t → full tells ≡ told qs
        ended t e = full_is tells ∙ same_end root (answer_in qs) (answers_of tells) extends
            (ap is_asking (sym (told_is qs)) ∙ answer_ends f (told qs) t e) ∙ sym (told_is qs)

        word : (k : Key) → ((c : Content) → answers_of tells k ≡ Some c → full tells
            ≡ told (told_in run tells n ((k, c) ∷ qs))) → run qs
            ≡ asked.Asks k → (w : Word Content) → tells k ≡ w → full tells
            ≡ told (word_told w qs (λ c. told_in run tells n ((k, c) ∷ qs)))
        word k next e (Tells m c) is = next c (ap content_of is)
        word k next e (Needs p) is =
            full_is tells ∙ (stands qs k e).goes (answers_of tells) extends
            ∙ ap (λ a. walk_on a k (meter_of (told qs)) (λ c. walk ((stands qs k e).next c)
            (answers_of tells))) (ap content_of is) ∙ sym (answer_asks f (told qs) k e)

        by : (next : (k : Key) (c : Content) → run qs ≡ asked.Asks k → answers_of tells k
            ≡ Some c → full tells ≡ told (told_in run tells n ((k, c) ∷ qs))) → (a : Answer Key R)
            → run qs ≡ a → full tells
            ≡ told (next_told a qs (λ k. word_told (tells k) qs
            (λ c. told_in run tells n ((k, c) ∷ qs))))
        by next (Ends t) e = ended t e
        by next (asked.Asks k) e = word k (λ c is. next k c e is) e (tells k) refl

  -- so is its work
  pub work_is : IsWorkOf f r s
  unfolding run told AreTold full more_than_asked
  work_is tells = ap work_of (same_from tells 2000001 [] refl tt tt)

-- a run asks only what its answers lack
pub asks_unknown : {S X : Type 0} → (may : Key → Type 0) (r : Run S X) → Lawful may 0 r
    → (o : Answers) (s : S) (m : Meter) (k : Key) (n : Meter) → r o s m ≡ Asks k n → o k ≡ None
asks_unknown may r law o s m k n e =
    (stops_at may (held m) (law.process s m) m o k n (law.law (held m) s m (omega arith))
    (sym (law.is o s m) ∙ e)).unknown

-- a run leaves no more work than it began with
abbrev pub Leaves : {S X : Type 0} → Run S X → Type 0
Leaves {S} r = (o : Answers) (s : S) (m : Meter) → LeavesAtMost m.left (r o s m)

pub left_within : {S X : Type 0} → (may : Key → Type 0) (credit : ℕ) (r : Run S X)
    → Lawful may credit r → Leaves r
left_within may credit r law o s m =
    subst (LeavesAtMost m.left) (sym (law.is o s m))
    (ends_later may (held m + credit) (law.process s m) m o
    (law.law (held m + credit) s m (omega arith))).0
