-- A line that asks who set what.
use Rattle.std.proofs.Common.{◌≡◌, ◌≤◌, ◌+◌, ◌-◌, ℕ, Bool, true, false, List, [], Some, None, cond, length, take, drop, nat_lt, if◌then◌else◌, refl, sym, ap, ◌∙◌, subst, arith}
use Rattle.std.proofs.Math.Seq.{take-length}
use Rattle.std.proofs.Math.ListN.{drop_of_length-le}
use Rattle.std.proofs.lemmas.Bool.Decides.{nat_tests}
use Rattle.std.proofs.lemmas.List.{length-drop}
use Rattle.std.proofs.lemmas.List.Sums.{prefix_len-le-length}
use Rattle.std.proofs.lemmas.Str.{IsUtf8-from_is_utf8, is_utf8-from_IsUtf8}
use Rattle.std.specs.List.{after_first, before_first, position, position_or_len}
use Rattle.std.specs.Prelude.{not}
use Rattle.std.specs.Str.{IsUtf8, is_utf8}
use Rattle.path_tree.specs.Grammar.{is_name}
use Rattle.path_tree.specs.Paths.{path_of}
use Rattle.session.specs.Orders.{Order, BadLine, is_space, with_name_and_path, with_path, with_text}
use Rattle.watch.specs.Read.{name_of}

-- where the first space stands
some_at : (b : Bool) (n i : ℕ) → cond b (Some n) None ≡ Some i → n ≡ i
some_at true n i e = cc
some_at false n i e = cc

none_at : (b : Bool) (n : ℕ) → cond b (Some n) None ≡ None → b ≡ false
none_at true n e = cc
none_at false n e = refl

module _ (xs : List ℕ) where
  abbrev place : ℕ
  place = position_or_len is_space xs

  at_some : (i : ℕ) → position is_space xs ≡ Some i → place ≡ i
  at_some i e = some_at (nat_lt place (length xs)) place i e

  at_none : position is_space xs ≡ None → length xs ≤ place
  at_none e = let past : nat_lt place (length xs) ≡ false = none_at (nat_lt place (length xs)) place
      e in grind (arith, nat_tests)

  pub before_some : (i : ℕ) → position is_space xs ≡ Some i → take i xs ≡ before_first is_space xs
  before_some i e = ap (λ k. take k xs) (sym (at_some i e))

  pub after_some : (i : ℕ) → position is_space xs ≡ Some i
      → take (length xs - (i + 1)) (drop (i + 1) xs) ≡ after_first is_space xs
  after_some i e = ap (λ k. take k (drop (i + 1) xs)) (sym (length-drop (i + 1) xs)) ∙ take-length
      (drop (i + 1) xs) ∙ ap (λ k. drop (k + 1) xs) (sym (at_some i e))

  pub before_none : position is_space xs ≡ None → xs ≡ before_first is_space xs
  before_none e =
      let all : place ≡ length xs = let le = at_none e in let most = prefix_len-le-length (λ x. not
      (is_space x)) xs in omega (arith, le, most) in
      sym (ap (λ k. take k xs) all ∙ take-length xs)

  pub after_none : position is_space xs ≡ None → [] ≡ after_first is_space xs
  after_none e = let past : length xs ≤ place + 1 = let le = at_none e in omega (arith, le) in sym
      (drop_of_length-le xs past)

-- what a text gives
pub text_path : (name bytes : List ℕ) → IsUtf8 bytes → with_text name bytes ≡ with_path name
    (path_of bytes)
text_path name bytes is = ap (λ b. if b then with_path name (path_of bytes) else BadLine)
    (is_utf8-from_IsUtf8 bytes is)

-- what a name and a text give
named_by : (b : Bool) (name bytes text : List ℕ) → Some name ≡ (if b then Some bytes else None)
    → with_text name text ≡ (if b then with_text bytes text else BadLine)
named_by true name bytes text e = let same : name ≡ bytes = cc in ap (λ n. with_text n text) same
named_by false name bytes text e = cc

pub named : (words name bytes text : List ℕ) → Some name ≡ name_of bytes
    → bytes ≡ before_first is_space words → text ≡ after_first is_space words
    → with_text name text ≡ with_name_and_path (Some words) BadLine
named words name bytes text e before after = subst (λ t. with_text name text ≡ (if is_name
    (before_first is_space words) then with_text (before_first is_space words) t else BadLine))
    after (subst (λ b. with_text name text ≡ (if is_name b then with_text b text else BadLine))
    before (named_by (is_name bytes) name bytes text e))

textless_by : (utf8 named : Bool) (x : Order) → (utf8 ≡ true → ⊥)
    → BadLine ≡ (if named then (if utf8 then x else BadLine) else BadLine)
textless_by true named x none = absurd (none refl)
textless_by false true x none = refl
textless_by false false x none = refl

pub textless : (words : List ℕ) → (IsUtf8 (after_first is_space words) → ⊥)
    → BadLine ≡ with_name_and_path (Some words) BadLine
textless words none = textless_by (is_utf8 (after_first is_space words)) (is_name (before_first
    is_space words)) (with_path (before_first is_space words) (path_of (after_first is_space
    words))) (λ is. none (IsUtf8-from_is_utf8 (after_first is_space words) is))
