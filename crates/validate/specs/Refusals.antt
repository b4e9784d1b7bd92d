-- A check of a value gives that it fits, or what is wrong with it: where in the value is told from
-- the value itself, as the place and the path of the fault are known further out.
use Rattle.std.specs.Prelude.{List, [], ◌∷◌, Option, Some, None, Bool, cond, Result, Ok, Err}
use Rattle.path_tree.specs.declared.path.Term.{Term}
use Rattle.pan_ast.specs.declared.fault.Code.{Code}
use Rattle.pan_ast.specs.declared.fault.Code.TheVariants as code
use Rattle.questions.specs.Run.{◌>>=◌, give}
use Rattle.dml_meaning.specs.Run.{Look}
use Rattle.validate.specs.declared.refusal.Misfit.{Misfit}
use Rattle.validate.specs.declared.refusal.Misfit.TheVariants as misfit

pub record Refusal : Type 0 where
  pub misfit : Misfit
  -- the terms that lead to what does not fit
  pub terms : List Term

abbrev pub code_of : Misfit → Code
code_of misfit.WrongType = code.WrongType
code_of misfit.OutOfRange = code.OutOfRange
code_of misfit.MissingField = code.MissingField
code_of misfit.ExtraField = code.ExtraField
code_of misfit.FalseTest = code.FalseTest

-- a run that gives a value, or a refusal
abbrev pub Checks : Type 0 → Type 0
Checks X = Look (Result X Refusal)

abbrev pub fine : {X : Type 0} → X → Checks X
fine x = give (Ok x)

-- the value itself does not fit
abbrev pub refuse : {X : Type 0} → Misfit → Checks X
refuse c = give (Err (record { misfit = c; terms = [] }))

-- goes on where there is no refusal
abbrev pub unless_refused : {X Y : Type 0} → (X → Checks Y) → Result X Refusal → Checks Y
unless_refused f (Ok x) = f x
unless_refused f (Err r) = give (Err r)

abbrev pub go_on : {X Y : Type 0} → Checks X → (X → Checks Y) → Checks Y
go_on r f = r >>= unless_refused f

-- goes on with what a run gives that refuses nothing
abbrev pub reading : {X Y : Type 0} → Look X → (X → Checks Y) → Checks Y
reading r f = r >>= f

-- a test of the value itself
abbrev pub require : Misfit → Bool → Checks (Unit {0})
require c holds = cond holds (fine tt) (refuse c)

-- what was found, or the value does not fit
abbrev pub or_refuse : {X : Type 0} → Misfit → Option X → Checks X
or_refuse c None = refuse c
or_refuse c (Some x) = fine x

-- a refusal inside a child, told from the container
abbrev pub inside : {X : Type 0} → Term → Result X Refusal → Result X Refusal
inside t (Ok x) = Ok x
inside t (Err r) = Err (record { misfit = r.misfit; terms = t ∷ r.terms })

abbrev pub below : {X : Type 0} → Term → Checks X → Checks X
below t r = r >>= (λ x. give (inside t x))

-- a refusal behind a link is one of the link itself
abbrev pub at_link : {X : Type 0} → Result X Refusal → Result X Refusal
at_link (Ok x) = Ok x
at_link (Err r) = Err (record { misfit = r.misfit; terms = [] })

abbrev pub behind : {X : Type 0} → Checks X → Checks X
behind r = r >>= (λ x. give (at_link x))
