-- The indexes of a reference, from the last one on.
use Rattle.std.proofs.Common.{◌≡◌, ◌≢◌, ◌∙◌, ap, sym, refl, ℕ, zero, suc, ◌+◌, ◌-◌, ◌<◌, true, false, List, [], ◌∷◌, ◌++◌, map, length, drop, get_or, Option, Some, None, option_map, arith}
use Rattle.std.specs.Borrow.{Bor}
use Rattle.std.proofs.lemmas.List.{drop_more}
use Rattle.std.proofs.lemmas.Option.{same_Some}
use Rattle.pan_ast.specs.declared.place.Place.{Place}
use Rattle.pan_ast.specs.declared.syntax.Item.{Item as RItem}
use Rattle.pan_ast.specs.declared.syntax.Step.{Step as RStep}
use Rattle.pan_ast.specs.Seen.{item_seen, items_seen, step_seen}
use Rattle.pan_ast.specs.Syntax.{Item, Items, none, more, Node, Name, Index, Binary, And, Or, Long, Text, Boolean, Undef, Null, Call, Inside, Unary, Step, AtIndex, AtBinary, AtAnd, AtOr, stepped, steps_on}
use Rattle.dml_meaning.specs.Names.{no_indexes}
use Rattle.dml_meaning.specs.References.{reference_on}
use Rattle.dml_leaves.specs.References.{indexed, indexes_back, is_index, is_lone, is_no_reference, is_pair}

-- one more index, at the end
pub back_more : (is : List (Bor RItem)) (i : Bor RItem) (rest : Items)
    → indexes_back (is ++ i ∷ []) rest ≡ more (item_seen i.now) (indexes_back is rest)
back_more [] i rest = refl
back_more (j ∷ is) i rest = back_more is i (more (item_seen j.now) rest)

pub none_behind : (s : Step) (ss : List Step) (is : Items) → indexed ss is ≡ None
    → indexed (s ∷ ss) is ≡ None
none_behind (AtIndex i) ss is h = ap (option_map (more i)) h
none_behind (AtBinary op x) ss is h = refl
none_behind (AtAnd x) ss is h = refl
none_behind (AtOr x) ss is h = refl

pub no_index : (s : Step) (ss : List Step) (is : Items) → is_index s ≡ false → indexed (s ∷ ss) is
    ≡ None
no_index (AtIndex i) ss is h = absurd cc
no_index (AtBinary op x) ss is h = refl
no_index (AtAnd x) ss is h = refl
no_index (AtOr x) ss is h = refl

none_from : (ss : List RStep) (i : ℕ) (is : Items) → indexed (map step_seen (drop i ss)) is ≡ None
    → indexed (map step_seen ss) is ≡ None
none_from [] zero is h = h
none_from [] (suc i) is h = h
none_from (s ∷ ss) zero is h = h
none_from (s ∷ ss) (suc i) is h =
    none_behind (step_seen s) (map step_seen ss) is (none_from ss i is h)

-- the steps from one place on are its step and those from the next on
from_here : (ss : List RStep) (left : ℕ) (s : RStep) → 0 < left → left - 1 < length ss → s
    ≡ get_or ss (left - 1) s → map step_seen (drop (left - 1) ss)
    ≡ step_seen s ∷ map step_seen (drop left ss)
from_here ss left s h k is =
    let e : left - 1 + 1 ≡ left = omega arith in
    ap (map step_seen) (drop_more ss (left - 1) s k ∙ ap (λ x. x ∷ drop (left - 1 + 1) ss) (sym is))
    ∙ ap (λ n. step_seen s ∷ map step_seen (drop n ss)) e

-- one index more in front
pub rest_more : (ss : List RStep) (left : ℕ) (s : RStep) (i : Bor RItem) (is : Items)
    (old new : List (Bor RItem)) → 0 < left → left - 1 < length ss → s ≡ get_or ss (left - 1) s
    → step_seen s ≡ AtIndex (item_seen i.now) → new ≡ old ++ i ∷ []
    → indexed (map step_seen (drop left ss)) is ≡ Some (indexes_back old none)
    → indexed (map step_seen (drop (left - 1) ss)) is ≡ Some (indexes_back new none)
rest_more ss left s i is old new h k e index n made =
    ap (λ xs. indexed xs is) (from_here ss left s h k e
    ∙ ap (λ x. x ∷ map step_seen (drop left ss)) index)
    ∙ ap (option_map (more (item_seen i.now))) made
    ∙ ap Some (sym (back_more old i none) ∙ ap (λ xs. indexes_back xs none) (sym n))

-- a step that is no index
pub rest_none : (ss : List RStep) (left : ℕ) (s : RStep) (is : Items) → 0 < left
    → left - 1 < length ss → s ≡ get_or ss (left - 1) s → is_index (step_seen s) ≡ false
    → indexed (map step_seen ss) is ≡ None
rest_none ss left s is h k e index =
    none_from ss (left - 1) is (ap (λ xs. indexed xs is) (from_here ss left s h k e)
    ∙ no_index (step_seen s) (map step_seen (drop left ss)) is index)

pub ruleset rest = (rest_more, rest_none)

-- the first step, in front of the rest
pub first_more : (s : Step) (ss : List Step) (i : Bor RItem) (is : Items)
    (old new : List (Bor RItem)) → s ≡ AtIndex (item_seen i.now) → new ≡ old ++ i ∷ []
    → indexed ss is ≡ Some (indexes_back old none) → indexed (s ∷ ss) is
    ≡ Some (indexes_back new none)
first_more s ss i is old new index n made =
    ap (λ x. indexed (x ∷ ss) is) index
    ∙ ap (option_map (more (item_seen i.now))) made
    ∙ ap Some (sym (back_more old i none) ∙ ap (λ xs. indexes_back xs none) (sym n))

pub ruleset first = (first_more, no_index, none_behind)

-- what is no reference, whatever stands behind it
dead_step : (s : Step) (p : Place) (n : Node) → ((is : Items) → reference_on n is ≡ None)
    → (is : Items) → reference_on (stepped p n s) is ≡ None
dead_step (AtIndex i) p n h is = h (more i is)
dead_step (AtBinary op x) p n h is = refl
dead_step (AtAnd x) p n h is = refl
dead_step (AtOr x) p n h is = refl

dead_chain : (ss : List Step) (p : Place) (n : Node) → ((is : Items) → reference_on n is ≡ None)
    → (is : Items) → reference_on (steps_on p n ss) is ≡ None
dead_chain [] p n h is = h is
dead_chain (s ∷ ss) p n h is = dead_chain ss p (stepped p n s) (dead_step s p n h) is

pub no_reference : (n : Node) (is : Items) → is_no_reference n ≡ true → reference_on n is ≡ None
no_reference (Name p x) is h = absurd cc
no_reference (Index p x i) is h = absurd cc
no_reference (Long p x) is h = refl
no_reference (Text p x) is h = refl
no_reference (Boolean p x) is h = refl
no_reference (Undef p) is h = refl
no_reference (Null p) is h = refl
no_reference (Call p f args) is h = refl
no_reference (Inside p i) is h = refl
no_reference (Unary p op x) is h = refl
no_reference (Binary p op x y) is h = refl
no_reference (And p x y) is h = refl
no_reference (Or p x y) is h = refl

-- a chain of indexes means its left end with these indexes
goes_by : (o : Option Items) (i : Item) (n : Node) (p : Place) (ss : List Step) (is js : Items)
    → ((ks : Items) → o ≡ Some ks → reference_on (steps_on p (Index p n i) ss) is
    ≡ reference_on (Index p n i) ks) → option_map (more i) o
    ≡ Some js → reference_on (steps_on p (Index p n i) ss) is ≡ reference_on n js
goes_by None i n p ss is js next h = let clash : ◌≡◌ {A = Option Items} None (Some js) = h in
    absurd cc
goes_by (Some ks) i n p ss is js next h = next ks refl ∙ ap (reference_on n) (same_Some _ _ h)

on_goes : (ss : List Step) (p : Place) (n : Node) (is js : Items) → indexed ss is ≡ Some js
    → reference_on (steps_on p n ss) is ≡ reference_on n js
on_goes [] p n is js h = ap (reference_on n) (same_Some _ _ h)
on_goes (AtIndex i ∷ ss) p n is js h =
    goes_by (indexed ss is) i n p ss is js (on_goes ss p (Index p n i) is) h
on_goes (AtBinary op x ∷ ss) p n is js h = let clash : ◌≡◌ {A = Option Items} None (Some js) = h in
    absurd cc
on_goes (AtAnd x ∷ ss) p n is js h = let clash : ◌≡◌ {A = Option Items} None (Some js) = h in
    absurd cc
on_goes (AtOr x ∷ ss) p n is js h = let clash : ◌≡◌ {A = Option Items} None (Some js) = h in
    absurd cc

ends_by : (o : Option Items) (i : Item) (n : Node) (p : Place) (ss : List Step) (is : Items)
    → (o ≡ None → reference_on (steps_on p (Index p n i) ss) is ≡ None) → option_map (more i) o
    ≡ None → reference_on (steps_on p (Index p n i) ss) is ≡ None
ends_by None i n p ss is next h = next refl
ends_by (Some ks) i n p ss is next h = let clash : ◌≡◌ {A = Option Items} (Some (more i ks)) None =
    h in absurd cc

on_ends : (ss : List Step) (p : Place) (n : Node) (is : Items) → indexed ss is ≡ None
    → reference_on (steps_on p n ss) is ≡ None
on_ends [] p n is h = let clash : ◌≡◌ {A = Option Items} (Some is) None = h in absurd cc
on_ends (AtIndex i ∷ ss) p n is h =
    ends_by (indexed ss is) i n p ss is (on_ends ss p (Index p n i) is) h
on_ends (AtBinary op x ∷ ss) p n is h = dead_chain ss p (Binary p op n x) (λ js. refl) is
on_ends (AtAnd x ∷ ss) p n is h = dead_chain ss p (And p n x) (λ js. refl) is
on_ends (AtOr x ∷ ss) p n is h = dead_chain ss p (Or p n x) (λ js. refl) is

-- a chain goes on with its left end, or is no reference
pub chain_goes : (n x : Node) (s : Step) (ss : List Step) (p : Place) (is js : Items) → n
    ≡ steps_on p (stepped p x s) ss → indexed (s ∷ ss) is ≡ Some js → reference_on n is
    ≡ reference_on x js
chain_goes n x s ss p is js e h = ap (λ m. reference_on m is) e ∙ on_goes (s ∷ ss) p x is js h

pub chain_ends : (n x : Node) (s : Step) (ss : List Step) (p : Place) (is : Items) → n
    ≡ steps_on p (stepped p x s) ss → indexed (s ∷ ss) is ≡ None → reference_on n is ≡ None
chain_ends n x s ss p is e h = ap (λ m. reference_on m is) e ∙ on_ends (s ∷ ss) p x is h

pub ruleset chains = (chain_goes, chain_ends, no_reference)

-- whether a reference has an index
some_back : (is : List (Bor RItem)) (j : Item) (rest : Items)
    → no_indexes (indexes_back is (more j rest)) ≡ false
some_back [] j rest = refl
some_back (i ∷ is) j rest = some_back is (item_seen i.now) (more j rest)

pub indexes_none : (is : List (Bor RItem)) → length is ≡ 0 → no_indexes (indexes_back is none)
    ≡ true
indexes_none [] h = refl
indexes_none (i ∷ is) h = absurd (omega arith)

pub indexes_some : (is : List (Bor RItem)) → length is ≢ 0 → no_indexes (indexes_back is none)
    ≡ false
indexes_some [] h = absurd (h refl)
indexes_some (i ∷ is) h = some_back is (item_seen i.now) none

pub ruleset whole = (indexes_none, indexes_some)

-- lists of one and of two
pub one_item : (is : List RItem) (i : RItem) → length is ≡ 1 → i ≡ get_or is 0 i → items_seen is
    ≡ more (item_seen i) none
one_item [] i h e = absurd (omega arith)
one_item (j ∷ []) i h e = ap (λ x. more (item_seen x) none) (sym e)
one_item (j ∷ k ∷ is) i h e = absurd (omega arith)

pub not_one : (is : List RItem) → length is ≢ 1 → is_lone (items_seen is) ≡ false
not_one [] h = refl
not_one (j ∷ []) h = absurd (h refl)
not_one (j ∷ k ∷ is) h = refl

pub ruleset lone = (one_item, not_one)

pub two_items : (is : List RItem) (i j : RItem) → length is ≡ 2 → i ≡ get_or is 0 i → j
    ≡ get_or is 1 j → items_seen is ≡ more (item_seen i) (more (item_seen j) none)
two_items [] i j h e f = absurd (omega arith)
two_items (k ∷ []) i j h e f = absurd (omega arith)
two_items (k ∷ l ∷ []) i j h e f =
    ap (λ x. more (item_seen x) (more (item_seen l) none)) (sym e)
    ∙ ap (λ x. more (item_seen i) (more (item_seen x) none)) (sym f)
two_items (k ∷ l ∷ m ∷ is) i j h e f = absurd (omega arith)

pub not_two : (is : List RItem) → length is ≢ 2 → is_pair (items_seen is) ≡ false
not_two [] h = refl
not_two (j ∷ []) h = refl
not_two (j ∷ k ∷ []) h = absurd (h refl)
not_two (j ∷ k ∷ l ∷ is) h = refl

pub ruleset two = (two_items, not_two)
