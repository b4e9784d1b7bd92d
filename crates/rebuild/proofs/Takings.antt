-- The numbers of a Take are numbers as the machine wants them.
use Rattle.std.proofs.Common.{◌≡◌, ◌<◌, ◌≤◌, ◌⊎◌, ℕ, List, [], ◌∷◌, Bool, true, false, cond, Option, Some, None, refl, sym, ap, ◌∙◌, subst, inl, inr, arith, ◌+◌, length, drop, get_or}
use Rattle.std.proofs.lemmas.List.{drop_more}
use Rattle.rebuild.specs.declared.taking.TakeError.{TakeError}
use Rattle.rebuild.specs.declared.taking.TakeError.TheVariants.{TooManyObjects, NumbersSpent, Memory}
use Rattle.rebuild.specs.Refused.{IsSpent}
use Rattle.std.specs.Prelude.{bytes_eq}
use Rattle.load_path.specs.Pictures.{content_in}
use Rattle.load_path.specs.declared.picture.Content.{Content}
use Rattle.load_path.specs.declared.picture.Content.TheVariants.{Bytes, TooLong}
use Rattle.load_path.specs.declared.picture.PictureFile.{PictureFile}
use Rattle.questions.specs.declared.key.Key.{Key}
use Rattle.questions.specs.declared.key.Key.TheVariants.{File, Under}
use Rattle.runner.specs.Words.{file_content}
use Rattle.engine_laws.specs.Names.{Name}
use Rattle.engine_laws.proofs.Names.{equal-true}
use Rattle.engine_laws.specs.Engine.{AreNumbered}
use Rattle.engine_turns.specs.declared.rows.FileRow.{FileRow}
use Rattle.engine_machine.specs.Machine.{keeping, small_file, small}
use Rattle.engine_turns.specs.Places.{file_number_in, file_in}
use Rattle.engine_turns.specs.States.{pictured, picture_of, file_number}
use Rattle.rebuild.specs.Taking.{same_content, number_before, number_or, counter_or, old_or_none, numbered, counter_after}

counter_step : (counter : ℕ) (x : Option ℕ) → counter ≤ counter_or counter x
counter_step counter None = omega arith
counter_step counter (Some n) = omega arith

pub counter_up : (old : List FileRow) (counter : ℕ) (fs : List PictureFile)
    → counter ≤ counter_after old counter fs
counter_up old counter [] = omega arith
counter_up old counter (f ∷ fs) = let a = counter_step counter (old_or_none old f.name f.content) in
    let b = counter_up old (counter_or counter (old_or_none old f.name f.content)) fs in
    omega (arith, a, b)

same_is : (a b : Content) → same_content a b ≡ true → a ≡ b
same_is (Bytes a) (Bytes b) e = ap Bytes (equal-true a b e)
same_is (Bytes a) TooLong e = absurd (let clash : false ≡ true = e in cc)
same_is TooLong (Bytes b) e = absurd (let clash : false ≡ true = e in cc)
same_is TooLong TooLong e = refl

spent_up : (e : TakeError) (n m : ℕ) → n ≤ m → IsSpent e n → IsSpent e m
spent_up TooManyObjects n m le h = absurd h
spent_up NumbersSpent n m le h = omega (arith, le, h)
spent_up Memory n m le h = tt

-- what is spent at a file is spent at the end
pub spent_next : (old : List FileRow) (counter : ℕ) (files : List PictureFile) (i total : ℕ)
    (f : PictureFile) → i < length files → f ≡ get_or files i f
    → counter_after old counter (drop i files) ≡ total → (e : TakeError)
    → IsSpent e (counter_or counter (old_or_none old f.name f.content)) → IsSpent e total
spent_next old counter files i total f lt is sum e h =
    let more : drop i files ≡ f ∷ drop (i + 1) files =
    drop_more files i f lt ∙ ap (λ x. x ∷ drop (i + 1) files) (sym is) in
    let up = counter_up old (counter_or counter (old_or_none old f.name f.content))
    (drop (i + 1) files) in
    let all = ap (counter_after old counter) (sym more) ∙ sum in
    spent_up e _ total (omega (arith, up, all)) h

-- a file's number and content, by its row
number_here : (old : List FileRow) (f : List ℕ) (r : FileRow) → file_in old f ≡ Some r
    → (file_number_in old f ≡ r.number) × (content_in (pictured old) f ≡ Some r.content)
number_here [] f r e = absurd (let clash : ◌≡◌ {A = Option FileRow} None (Some r) = e in cc)
number_here (x ∷ old) f r e = at (number_here old f r) (bytes_eq x.name f) e
  where
    at : (file_in old f ≡ Some r → (file_number_in old f ≡ r.number)
        × (content_in (pictured old) f ≡ Some r.content)) → (b : Bool) → cond b (Some x)
        (file_in old f) ≡ Some r → (cond b x.number (file_number_in old f) ≡ r.number)
        × (cond b (Some x.content) (content_in (pictured old) f) ≡ Some r.content)
    at later true e = let same : x ≡ r = cc in
        (ap (λ z. z.number) same, ap (λ z. Some z.content) same)
    at later false e = later e

-- what the number of a file may be: drawn, kept, or small
abbrev pub IsNumbered : List FileRow → ℕ → ℕ → List ℕ → ℕ → Option Content → Type 0
IsNumbered old start end f n content =
    ((start ≤ n) × (n < end)) ⊎ ((n ≡ file_number_in old f)
    × (content ≡ content_in (pictured old) f)) ⊎ ((n < 3) × (small_file n ≡ file_content content))

module _ (old : List FileRow) (start : ℕ) where
  kept_number : (f : List ℕ) (c : Content) (x : Option FileRow) → file_in old f ≡ x → (n : ℕ)
      → number_before c x ≡ Some n → (n ≡ file_number_in old f)
      × (Some c ≡ content_in (pictured old) f)
  kept_number f c None e n k = absurd (let clash : ◌≡◌ {A = Option ℕ} None (Some n) = k in cc)
  kept_number f c (Some r) e n k = at (same_content r.content c) refl k
    where
      at : (b : Bool) → same_content r.content c ≡ b → cond b (Some r.number) None ≡ Some n
          → (n ≡ file_number_in old f) × (Some c ≡ content_in (pictured old) f)
      at true is k =
          let h = number_here old f r e in
          let same : r.number ≡ n = cc in
          (sym same ∙ sym h.0, ap Some (sym (same_is r.content c is)) ∙ sym h.1)
      at false is k = absurd (let clash : ◌≡◌ {A = Option ℕ} None (Some n) = k in cc)

  number_of_one : (counter end : ℕ) → start ≤ counter → 3 ≤ start → (f : List ℕ) (c : Content)
      → counter_or counter (old_or_none old f c) ≤ end
      → IsNumbered old start end f (number_or counter (old_or_none old f c)) (Some c)
  number_of_one counter end le three f TooLong room = inr (inr (omega arith, refl))
  number_of_one counter end le three f (Bytes bs) room =
      at (number_before (Bytes bs) (file_in old f)) refl room
    where
      at : (x : Option ℕ) → number_before (Bytes bs) (file_in old f) ≡ x
          → counter_or counter x ≤ end → IsNumbered old start end f (number_or counter x)
          (Some (Bytes bs))
      at None e room = inl (le, omega (arith, room))
      at (Some n) e room = inr (inl (kept_number f (Bytes bs) (file_in old f) refl n e))

  numbers : (counter : ℕ) → start ≤ counter → 3 ≤ start → (fs : List PictureFile) (f : List ℕ)
      → IsNumbered old start (counter_after old counter fs) f
      (file_number_in (numbered old counter fs) f) (content_in (pictured (numbered old counter fs))
      f)
  numbers counter le three [] f = inr (inr (omega arith, refl))
  numbers counter le three (g ∷ fs) f = at (bytes_eq g.name f) refl (numbers next up three fs f)
    where
      next : ℕ
      next = counter_or counter (old_or_none old g.name g.content)

      step : counter ≤ counter_or counter (old_or_none old g.name g.content)
      step = counter_step counter (old_or_none old g.name g.content)

      up : start ≤ counter_or counter (old_or_none old g.name g.content)
      up = let s = step in omega (arith, le, s)

      at : (b : Bool) → bytes_eq g.name f ≡ b → IsNumbered old start
          (counter_after old (counter_or counter (old_or_none old g.name g.content)) fs) f
          (file_number_in (numbered old (counter_or counter (old_or_none old g.name g.content)) fs)
          f) (content_in (pictured
          (numbered old (counter_or counter (old_or_none old g.name g.content)) fs)) f) → IsNumbered
          old start (counter_after old (counter_or counter (old_or_none old g.name g.content)) fs) f
          (cond b (number_or counter (old_or_none old g.name g.content))
          (file_number_in (numbered old (counter_or counter (old_or_none old g.name g.content)) fs)
          f)) (cond b (Some g.content)
          (content_in (pictured (numbered old (counter_or counter
          (old_or_none old g.name g.content)) fs)) f))
      at true is later =
          let P : List ℕ → Type 0 =
          λ n. IsNumbered old start
          (counter_after old (counter_or counter (old_or_none old g.name g.content)) fs) n
          (number_or counter (old_or_none old g.name g.content)) (Some g.content) in
          subst P (equal-true g.name f is) (number_of_one counter
          (counter_after old (counter_or counter (old_or_none old g.name g.content)) fs) le
          three g.name g.content (counter_up old (counter_or counter
          (old_or_none old g.name g.content)) fs))
      at false is later = later

-- the numbers of a Take
pub are_numbered : {T : Type 0} → (old : List FileRow) (objects objects' : List Name) (counter : ℕ)
    (fs : List PictureFile) → 3 ≤ counter → ((f : List ℕ) → file_number_in old f < counter)
    → AreNumbered (keeping {T = T}) (picture_of old objects)
    (picture_of (numbered old counter fs) objects') (file_number old)
    (file_number (numbered old counter fs)) counter (counter_after old counter fs)
are_numbered old objects objects' counter fs three low =
    record { up = counter_up old counter fs; low = low_at; each = each_at }
  where
    up : counter ≤ counter_after old counter fs
    up = counter_up old counter fs

    below : (f : List ℕ) → IsNumbered old counter (counter_after old counter fs) f
        (file_number_in (numbered old counter fs) f) (content_in
        (pictured (numbered old counter fs)) f) → file_number_in (numbered old counter fs)
        f < counter_after old counter fs
    below f (inl drawn) = drawn.1
    below f (inr (inl kept)) = let a = low f in let e = kept.0 in let u = up in
        omega (arith, a, e, u)
    below f (inr (inr small)) = let a = small.0 in let u = up in omega (arith, a, u, three)

    low_at : (k : Key) → file_number (numbered old counter fs) k < counter_after old counter fs
    low_at (File f) = below f (numbers old counter counter (omega arith) three fs f)
    low_at (Under p terms) = let u = up in omega (arith, u, three)

    each_file : (f : List ℕ) → IsNumbered old counter (counter_after old counter fs) f
        (file_number_in (numbered old counter fs) f) (content_in
        (pictured (numbered old counter fs)) f) → (counter ≤ file_number_in
        (numbered old counter fs) f) ⊎ ((◌≡◌ {A = Option Name} None None)
        × (file_number_in (numbered old counter fs) f ≡ file_number_in old f)
        × (file_content (content_in (pictured (numbered old counter fs)) f)
        ≡ file_content (content_in (pictured old) f)))
        ⊎ ((file_number_in (numbered old counter fs) f < 3)
        × (small_file (file_number_in (numbered old counter fs) f)
        ≡ file_content (content_in (pictured (numbered old counter fs)) f)))
    each_file f (inl drawn) = inl drawn.0
    each_file f (inr (inl kept)) = inr (inl (refl, kept.0, ap file_content kept.1))
    each_file f (inr (inr small)) = inr (inr small)

    each_at : (k : Key) → (picture_of (numbered old counter fs) objects').target k ≡ None
        → (counter ≤ file_number (numbered old counter fs) k)
        ⊎ (((picture_of old objects).target k ≡ None)
        × (file_number (numbered old counter fs) k ≡ file_number old k)
        × ((picture_of (numbered old counter fs) objects').told k
        ≡ (picture_of old objects).told k)) ⊎ ((file_number (numbered old counter fs) k < 3)
        × (small k (file_number (numbered old counter fs) k)
        ≡ (picture_of (numbered old counter fs) objects').told k))
    each_at (File f) e = each_file f (numbers old counter counter (omega arith) three fs f)
    each_at (Under p terms) e = inr (inr (omega arith, refl))
