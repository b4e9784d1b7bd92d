-- The variables of a program, and what sets them.
use Rattle.std.specs.Prelude.{ℕ, Bool, not, ◌&&◌, List, [], ◌∷◌, ◌++◌, Option, Some, None, Result, Ok, Err, is_some, is_none, bytes_eq, if◌then◌else◌}
use Rattle.std.specs.List.{list_any}
use Rattle.path_tree.specs.Plain.{Plain}
use Rattle.path_tree.specs.Lists.{is_null}
use Rattle.dml_meaning.specs.declared.local.Local.{Local}
use Rattle.dml_meaning.specs.Around.{with_local, without_local}
use Rattle.dml_meaning.specs.Words.{automatic_of}
use Rattle.assign_rules.specs.declared.globals.SetError.{SetError}
use Rattle.assign_rules.specs.declared.globals.SetError.TheVariants as error

pub record GlobalsValue : Type 0 where
  pub variables : List Local
  -- the names of those that no later statement may set
  pub finals : List (List ℕ)

abbrev pub no_globals : GlobalsValue
no_globals = record { variables = []; finals = [] }

abbrev pub is_final : GlobalsValue → List ℕ → Bool
is_final g name = list_any (bytes_eq name) g.finals

-- an automatic name is never set, and a final variable not again
abbrev pub may_set : GlobalsValue → List ℕ → Bool
may_set g name = is_none (automatic_of name) && not (is_final g name)

-- null removes a variable
abbrev pub with_variable : List ℕ → Plain → List Local → List Local
with_variable name value variables =
    if is_null value then without_local name variables else with_local name value variables

abbrev pub with_final : List ℕ → Bool → List (List ℕ) → List (List ℕ)
with_final name last finals = if last then finals ++ name ∷ [] else finals

-- last: the variable is final from then on, also where the value was null
abbrev pub changed : List ℕ → Bool → Plain → GlobalsValue → GlobalsValue
changed name last value g = record {
  variables = with_variable name value g.variables;
  finals = with_final name last g.finals;
}

-- a variable is set
abbrev pub with_global : List ℕ → Bool → Plain → GlobalsValue → Result GlobalsValue SetError
with_global name last value g =
    if is_some (automatic_of name) then Err error.Automatic else
    (if is_final g name then Err error.Final else Ok (changed name last value g))

-- want of memory is no refusal of the definition's
abbrev pub set_refusal : SetError → Option SetError
set_refusal error.Memory = None
set_refusal e = Some e
