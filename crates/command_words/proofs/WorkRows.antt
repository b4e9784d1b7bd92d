-- Written values of options.
use Rattle.std.proofs.Common.{◌≡◌, ℕ, List, [], ◌∷◌, Option, Some, None, refl, codes}
use Rattle.command_words.specs.Commands.{limit_of, bound_of, directories_of, number_given, state_given, command_by}
use Rattle.command_words.specs.declared.commands.Command.TheVariants.{Build, Watch}
use Rattle.command_words.specs.declared.commands.Work.{Work}
use Rattle.command_words.specs.declared.words.Words.{Words}
use Rattle.load_path.specs.declared.limits.TheConstants.{MAX_ITERATIONS, DEFAULT_ITERATIONS, MAX_RECURSION, DEFAULT_RECURSION}
use Rattle.command_words.specs.declared.limits.TheConstants.{MAX_MOST_REMOVED, MAX_MACHINES, MAX_START}

abbrev recursion : List ℕ → Option ℕ
recursion text = limit_of MAX_RECURSION DEFAULT_RECURSION (Some text)

not_given : limit_of MAX_ITERATIONS DEFAULT_ITERATIONS None ≡ Some 10000
not_given = refl

largest : limit_of MAX_ITERATIONS DEFAULT_ITERATIONS (Some (codes "1000000")) ≡ Some 1000000
largest = refl

too_large : limit_of MAX_ITERATIONS DEFAULT_ITERATIONS (Some (codes "1000001")) ≡ None
too_large = refl

deepest : recursion (codes "200") ≡ Some 200
deepest = refl

too_deep : recursion (codes "201") ≡ None
too_deep = refl

zero_is_none : recursion (codes "0") ≡ None
zero_is_none = refl

leading_zero : recursion (codes "01") ≡ None
leading_zero = refl

with_sign : recursion (codes "+1") ≡ None
with_sign = refl

no_digits : recursion [] ≡ None
no_digits = refl

-- without a list, and with a dot alone, it is the empty directory
no_list : directories_of None ≡ Some ([] ∷ [])
no_list = refl

dot : directories_of (Some (codes ".")) ≡ Some ([] ∷ [])
dot = refl

several : directories_of (Some (codes "a:.:b/c")) ≡ Some (codes "a" ∷ [] ∷ codes "b/c" ∷ [])
several = refl

dashed : directories_of (Some (codes "-x")) ≡ Some (codes "-x" ∷ [])
dashed = refl

empty_list : directories_of (Some []) ≡ None
empty_list = refl

empty_part : directories_of (Some (codes "a::b")) ≡ None
empty_part = refl

empty_end : directories_of (Some (codes "a:")) ≡ None
empty_end = refl

hidden : directories_of (Some (codes ".a")) ≡ None
hidden = refl

rooted : directories_of (Some (codes "/a")) ≡ None
rooted = refl

-- COUNT and START of a demo
most_machines : number_given 1 MAX_MACHINES (Some (codes "2000")) ≡ Some 2000
most_machines = refl

too_many_machines : number_given 1 MAX_MACHINES (Some (codes "2001")) ≡ None
too_many_machines = refl

no_machine : number_given 1 MAX_MACHINES (Some (codes "0")) ≡ None
no_machine = refl

largest_start : number_given 0 MAX_START (Some (codes "18446744073709551615"))
    ≡ Some 18446744073709551615
largest_start = refl

too_large_start : number_given 0 MAX_START (Some (codes "18446744073709551616")) ≡ None
too_large_start = refl

not_given_start : number_given 0 MAX_START None ≡ None
not_given_start = refl

-- how many names a publication may remove
any_number : bound_of MAX_MOST_REMOVED None ≡ Some None
any_number = refl

no_name : bound_of MAX_MOST_REMOVED (Some (codes "0")) ≡ Some (Some 0)
no_name = refl

largest_bound : bound_of MAX_MOST_REMOVED (Some (codes "20000")) ≡ Some (Some 20000)
largest_bound = refl

too_large_bound : bound_of MAX_MOST_REMOVED (Some (codes "20001")) ≡ None
too_large_bound = refl

no_bound : bound_of MAX_MOST_REMOVED (Some []) ≡ None
no_bound = refl

-- the file that keeps rows
no_file : state_given None ≡ Some None
no_file = refl

file : state_given (Some (codes "f")) ≡ Some (Some (codes "f"))
file = refl

empty_file : state_given (Some []) ≡ None
empty_file = refl

-- the words of a command whose rows a file is to keep: `build` and `watch` are one
abbrev kept : List ℕ → Words
kept mode = record {
  mode = Some mode;
  source = Some (codes "1");
  out = Some (codes "2");
  include = None;
  iteration = None;
  recursion = None;
  most_removed = None;
  state = Some (codes "f");
}

abbrev kept_work : Work
kept_work = record {
  source = codes "1";
  out = codes "2";
  directories = [] ∷ [];
  iterations = 10000;
  recursion = 50;
  most_removed = None;
  state = Some (codes "f");
}

kept_build : command_by (kept (codes "build")) ≡ Some (Build kept_work)
kept_build = refl

kept_watch : command_by (kept (codes "watch")) ≡ Some (Watch kept_work)
kept_watch = refl

kept_demo : command_by (kept (codes "demo")) ≡ None
kept_demo = refl

kept_format : command_by (kept (codes "format")) ≡ None
kept_format = refl
