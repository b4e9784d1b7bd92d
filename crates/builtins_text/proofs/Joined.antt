-- Texts that are joined one after the other.
use Rattle.std.proofs.Common.{◌≡◌, ℕ, List, [], ◌∷◌, ◌++◌, Option, None, Some, Ok, Err, Bool, true, false, cond, append_assoc, ◌+◌, ◌-◌, ◌<◌, ◌≤◌, drop, arith, get_or, length, map, take, refl, sym, ap, ◌∙◌}
use Rattle.std.specs.List.{flat_map}
use Rattle.std.proofs.lemmas.List.{take_all, take_more, flat_map_more}
use Rattle.std.specs.Prelude.{nat_lt}
use Rattle.std.proofs.lemmas.Bool.{cond-true}
use Rattle.std.proofs.lemmas.List.{append-nil}
use Rattle.path_tree.specs.Plain.{Plain, text}
use Rattle.path_tree.specs.declared.refused.Refused.TheVariants.{TooLarge}
use Rattle.base.specs.declared.limits.TheConstants.{MAX_TEXT_BYTES}
use Rattle.path_tree.specs.Values.{text_value}
use Rattle.call_values.specs.Drafts.{drafted, finished}
use Rattle.builtins_text.specs.Joins.{joined, text_or_nothing}

behind_is : (t : List ℕ) (vs : List Plain) → flat_map (λ y. t ++ y) (map text_or_nothing vs)
    ≡ flat_map (λ v. t ++ text_or_nothing v) vs
behind_is t [] = refl
behind_is t (v ∷ vs) = ap (λ r. (t ++ text_or_nothing v) ++ r) (behind_is t vs)

-- the first text, and the others behind the separator
pub first_joined : (t w : List ℕ) (v : Plain) (vs : List Plain) →
    (w ++ text_or_nothing v) ++ flat_map (λ u. t ++ text_or_nothing u) vs ≡ w
    ++ joined t (map text_or_nothing (v ∷ vs))
first_joined t w v vs = append_assoc w (text_or_nothing v)
    (flat_map (λ u. t ++ text_or_nothing u) vs) ∙ ap (λ r. w ++ (text_or_nothing v ++ r))
    (sym (behind_is t vs))

pub none_joined : (w : List ℕ) → w ≡ w ++ []
none_joined w = sym (append-nil w)

-- a text that was put together is the text as a value
pub finished_is : (d : Option (List ℕ)) (w : List ℕ) → d ≡ drafted w → finished d ≡ text_value w
finished_is d w e = ap finished e ∙ by (nat_lt MAX_TEXT_BYTES (length w)) refl where
  by : (b : Bool) → nat_lt MAX_TEXT_BYTES (length w) ≡ b → finished (cond b None (Some w))
      ≡ cond (nat_lt MAX_TEXT_BYTES (length w)) (Err TooLarge) (Ok (text w))
  by true e = sym (cond-true (nat_lt MAX_TEXT_BYTES (length w)) (Err TooLarge) (Ok (text w)) e)
  by false e = refl

pub one_more : (f : Plain → List ℕ) (w : List ℕ) (vs : List Plain) (i : ℕ) (x : Plain) → x
    ≡ get_or vs i x → i < length vs →
    (w ++ flat_map f (take i vs)) ++ f x ≡ w ++ flat_map f (take (i + 1) vs)
one_more f w vs i x is h =
    flat_map_more f w (take i vs) x
    ∙ ap (λ ys. w ++ flat_map f ys) (ap (λ y. take i vs ++ y ∷ []) is ∙ sym (take_more vs i x h))

-- the first of some values, and the others
pub first_pushed : (t w : List ℕ) (vs : List Plain) (v : Plain) (x : List ℕ) → x ≡ text_or_nothing v
    → v ≡ get_or vs 0 v → 1 ≤ length vs →
    (w ++ x) ++ flat_map (λ u. t ++ text_or_nothing u) (take (length vs - 1) (drop 1 vs)) ≡ w
    ++ joined t (map text_or_nothing vs)
first_pushed t w [] v x e is some = absurd (omega (arith, some))
first_pushed t w (y ∷ ys) v x e is some =
    let fewer : length ys ≤ length (y ∷ ys) - 1 = omega arith in
    ap (λ b. (w ++ b) ++ flat_map (λ u. t ++ text_or_nothing u) (take (length (y ∷ ys) - 1) ys))
    (e ∙ ap text_or_nothing is)
    ∙ (ap (λ us. (w ++ text_or_nothing y) ++ flat_map (λ u. t ++ text_or_nothing u) us)
    (take_all (length (y ∷ ys) - 1) ys fewer) ∙ first_joined t w y ys)
