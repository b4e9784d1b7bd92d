-- What the tests of the machine tell.
use Rattle.std.proofs.Common.{◌≡◌, ◌≢◌, Bool, true, false, Option, Some, None, refl, ◌⊎◌, inl, inr}
use Rattle.pan_ast.specs.declared.sort.Sort.{Sort}
use Rattle.pan_ast.specs.declared.sort.Sort.TheVariants as sorts
use Rattle.pan_ast.specs.Sorts.{at}
pub use Rattle.pan_ast.proofs.SortTests.{at_true, at_same, at_is, at_false, at_miss}
use Rattle.pan_grammar.specs.Machine.{when_that, when, when_some}

-- two sorts of which a test tells one only
pub differs : (P : Sort → Bool) (x s : Sort) → P x ≡ true → P s ≡ false → x ≢ s
differs P x s holds not_it e = let k : P s ≡ true = rw e at holds in absurd cc

-- ---- when_that

pub taken : {A : Type 0} (b : Bool) (a : A) (o : Option A) → b ≡ true → when_that b a o ≡ Some a
taken b a o e = rw e refl

pub passed : {A : Type 0} (b : Bool) (a : A) (o : Option A) → b ≡ false → when_that b a o ≡ o
passed b a o e = rw e refl

-- the test holds, or it doesn't and what comes without it holds
pub that_cases : {A : Type 0} (b : Bool) (a : A) (o : Option A) (y : A) → when_that b a o ≡ Some y
    → ((b ≡ true) × (a ≡ y)) ⊎ ((b ≡ false) × (o ≡ Some y))
that_cases true a o y h = inl (refl, cc)
that_cases false a o y h = inr (refl, h)

pub that_only : {A : Type 0} (b : Bool) (a y : A) → when_that b a None ≡ Some y → (b ≡ true)
    × (a ≡ y)
that_only true a y h = (refl, cc)
that_only false a y h = absurd cc

-- ---- when

pub hit : {A : Type 0} (s x : Sort) (a : A) (o : Option A) → x ≡ s → when s x a o ≡ Some a
hit s x a o h = taken (at s x) a o (at_is s x h)

pub miss : {A : Type 0} (s x : Sort) (a : A) (o : Option A) → x ≢ s → when s x a o ≡ o
miss s x a o h = passed (at s x) a o (at_miss s x h)

pub when_cases : {A : Type 0} (s x : Sort) (a : A) (o : Option A) (y : A) → when s x a o ≡ Some y
    → ((x ≡ s) × (a ≡ y)) ⊎ ((x ≢ s) × (o ≡ Some y))
when_cases s x a o y h =
    elim (that_cases (at s x) a o y h) [
      | inl k ↦ inl (at_true s x k.0, k.1)
      | inr k ↦ inr
          (at_false s x k.0, k.1)
    ]

pub when_only : {A : Type 0} (s x : Sort) (a y : A) → when s x a None ≡ Some y → (x ≡ s) × (a ≡ y)
when_only s x a y h = let k = that_only (at s x) a y h in (at_true s x k.0, k.1)

-- ---- when_some

pub some_taken : {A B : Type 0} (o : Option A) (f : A → B) (other : Option B) (a : A) → o ≡ Some a
    → when_some o f other ≡ Some (f a)
some_taken o f other a e = rw e refl

pub none_passed : {A B : Type 0} (o : Option A) (f : A → B) (other : Option B) → o ≡ None
    → when_some o f other ≡ other
none_passed o f other e = rw e refl

pub some_cases : {A B : Type 0} (o : Option A) (f : A → B) (other : Option B) (y : B)
    → when_some o f other ≡ Some y → ((a : A) × (o ≡ Some a) × (f a ≡ y))
    ⊎ ((o ≡ None) × (other ≡ Some y))
some_cases (Some a) f other y h = inl (a, refl, cc)
some_cases None f other y h = inr (refl, h)

pub some_only : {A B : Type 0} (o : Option A) (f : A → B) (y : B) → when_some o f None ≡ Some y
    → (a : A) × (o ≡ Some a) × (f a ≡ y)
some_only (Some a) f y h = (a, refl, cc)
some_only None f y h = absurd cc
