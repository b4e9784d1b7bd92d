-- What is too large makes that too large in which it is.
use Rattle.std.proofs.Common.{◌≡◌, ℕ, zero, suc, ◌<◌, ◌≤◌, Bool, true, false, ◌||◌, cond, List, [], ◌∷◌, ◌++◌, length, get_or, refl, sym, subst, arith}
use Rattle.std.proofs.lemmas.Bool.Decides.{nat_tests}
use Rattle.std.specs.Prelude.{◌≢◌, Option, Some, None, Result, Ok, Err, IfErr, IfSome, IsErr, nat_lt}
use Rattle.base.specs.Answers.{Gives}
use Rattle.base.specs.declared.limits.TheConstants.{MAX_TREE_HEIGHT, MAX_TREE_SIZE}
use Rattle.path_tree.specs.Lists.{is_too_large, within_limits}
use Rattle.path_tree.specs.Plain.{Plain, dict, list, tree_size, tree_height, items_size, items_height}
use Rattle.path_tree.specs.declared.refused.Refused.{Refused}
use Rattle.path_tree.specs.declared.refused.Refused.TheVariants.{TypeClash, Overflow, ZeroDivisor, BadArgument, BadPattern, BadIndex, TooLarge, Memory}
use Rattle.path_tree.specs.Refusals.{refusal}
use Rattle.serde_json.proofs.Views.{Entry}
use Rattle.serde_json.specs.View.{view, items_view, members_view}
use Rattle.serde_json.specs.declared.value.Value.{Value}
use Rattle.builtins_code.specs.Json.{tree_of, items_trees, members_trees}

-- t is no larger and no higher than u
pub record IsWithin (t u : Plain) : Type 0 where
  pub size : tree_size t ≤ tree_size u
  pub height : tree_height t ≤ tree_height u

passes : (s h a b c d : ℕ) → a ≤ b → c ≤ d → (nat_lt s a || nat_lt h c) ≡ true
    → (nat_lt s b || nat_lt h d) ≡ true
passes s h a b c d le le' over = grind (arith, nat_tests)

over_limits : (t u : Plain) (e : Refused) (test other : Bool) → (test ≡ true → other ≡ true)
    → cond test (Err TooLarge) (Ok t) ≡ Err e → cond other (Err TooLarge) (Ok u) ≡ Err e
over_limits t u e true true passed h = cc
over_limits t u e true false passed h = absurd (let no : false ≡ true = passed refl in cc)
over_limits t u e false other passed h = absurd cc

pub large_inside : (t u : Plain) (e : Refused) → IsWithin t u → within_limits t ≡ Err e
    → within_limits u ≡ Err e
large_inside t u e within h =
    over_limits t u e (is_too_large t) (is_too_large u)
    (passes MAX_TREE_SIZE MAX_TREE_HEIGHT (tree_size t) (tree_size u) (tree_height t)
    (tree_height u) within.size within.height) h

abbrev pub IsTold : Refused → Plain → Type 0
IsTold e t = IfSome (refusal e) (λ f. within_limits t ≡ Err f)

told : (e : Refused) (t : Plain) → IsTold e t → e ≢ Memory → within_limits t ≡ Err e
told TypeClash t h some = h
told Overflow t h some = h
told ZeroDivisor t h some = h
told BadArgument t h some = h
told BadPattern t h some = h
told BadIndex t h some = h
told TooLarge t h some = h
told Memory t h some = absurd (some refl)

some_weaker : (o : Option Refused) (P Q : Refused → Type 0) → ((f : Refused) → P f → Q f)
    → IfSome o P → IfSome o Q
some_weaker None P Q f h = tt
some_weaker (Some x) P Q f h = f x h

-- a part that is refused, of a call that goes on in lists
pub part_refused : {A : Type 0} (r : Result A Refused) (e : Refused) (t u : Plain) → IsWithin t u
    → IfErr r (λ x. x ≡ e) → IsTold e t →
    IfErr r (λ x. x ≢ Memory → within_limits u ≡ Err x)
part_refused (Ok a) e t u within same h = tt
part_refused (Err x) e t u within same h = λ some.
    let Q : Refused → Type 0 = λ y. IsTold y t in
    large_inside t u x within (told x t (subst Q (sym same) h) some)

-- and of one that gives the whole
pub whole_refused : (r : Result Plain Refused) (e : Refused) (t u : Plain) → IsWithin t u → IsErr r
    → IfErr r (λ x. x ≡ e) → IsTold e t →
    Gives (λ (v : Plain). v) refusal r (within_limits u)
whole_refused (Ok a) e t u within is same h = absurd cc
whole_refused (Err x) e t u within is same h =
    let Q : Refused → Type 0 = λ y. IsTold y t in
    some_weaker (refusal x) (λ f. within_limits t ≡ Err f) (λ f. within_limits u ≡ Err f)
    (λ f. large_inside t u f within) (subst Q (sym same) h)

kept_in : (t x : Plain) (large : Bool) → cond large (Err TooLarge) (Ok t) ≡ Ok x → x ≡ t
kept_in t x true h = absurd (let no : Err TooLarge ≡ Ok x = h in cc)
kept_in t x false h = cc

-- what is within the limits is given as it is
pub kept_is : (t x : Plain) → within_limits t ≡ Ok x → x ≡ t
kept_is t x h = kept_in t x (is_too_large t) h

item_size : (vs : List Value) (i : ℕ) (d : Value) → i < length vs
    → tree_size (tree_of (view (get_or vs i d))) ≤ items_size (items_trees (items_view vs))
item_size [] i d h = absurd (omega (arith, h))
item_size (v ∷ vs) zero d h = omega arith
item_size (v ∷ vs) (suc i) d h =
    let below : i < length vs = omega (arith, h) in
    omega (arith, item_size vs i d below)

item_height : (vs : List Value) (i : ℕ) (d : Value) → i < length vs
    → tree_height (tree_of (view (get_or vs i d))) ≤ items_height (items_trees (items_view vs))
item_height [] i d h = absurd (omega (arith, h))
item_height (v ∷ vs) zero d h = omega arith
item_height (v ∷ vs) (suc i) d h =
    let below : i < length vs = omega (arith, h) in
    omega (arith, item_height vs i d below)

-- an item in its list
pub item_within : (vs : List Value) (i : ℕ) (d : Value) → i < length vs
    → IsWithin (tree_of (view (get_or vs i d))) (list (items_trees (items_view vs)))
item_within vs i d h = record {
  size = omega (arith, item_size vs i d h);
  height = omega (arith, item_height vs i d h);
}

abbrev pub dict_of : List Entry → Plain
dict_of es = dict (members_trees (members_view es))

-- the value of a member in its object
pub member_within : (done : List Entry) (m : Entry) (rest : List Entry)
    → IsWithin (tree_of (view m.1)) (dict_of (done ++ m ∷ rest))
member_within [] m rest = record { size = omega arith; height = omega arith }
member_within (x ∷ done) m rest =
    let before = member_within done m rest in
    record { size = omega (arith, before.size); height = omega (arith, before.height) }

-- the first members of an object in the whole
pub front_within : (done rest : List Entry) → IsWithin (dict_of done) (dict_of (done ++ rest))
front_within [] rest = record { size = omega arith; height = omega arith }
front_within (x ∷ done) rest =
    let before = front_within done rest in
    record { size = omega (arith, before.size); height = omega (arith, before.height) }
