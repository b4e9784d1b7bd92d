-- The definitions, computed on values. The runs are told nothing, as they ask nothing.
use Rattle.std.proofs.Common.{◌≡◌, ℕ, pos, true, false, List, [], ◌∷◌, codes, Some, None, refl}
use Rattle.path_tree.specs.Plain.{Plain, dict, list, long, undef, no_items, item, no_fields, field}
use Rattle.path_tree.specs.declared.path.Term.{Term}
use Rattle.path_tree.specs.declared.path.Term.TheVariants as term
use Rattle.pan_ast.specs.declared.change.Change.{Change}
use Rattle.pan_ast.specs.declared.fault.Code.TheVariants as code
use Rattle.pan_ast.specs.declared.place.Place.{Place}
use Rattle.questions.specs.Run.{Meter, Outcome, Done, Failed, fault_at}
use Rattle.type_defs.specs.declared.resolved.Base.TheVariants as base
use Rattle.type_defs.specs.Bindings.{Bound}
use Rattle.type_defs.specs.Resolved.{Resolved, Known, Shape, OfBase, Named, Ranged, ListOf, Record, more, none}
use Rattle.type_defs.specs.Resolving.{open_range}
use Rattle.defaults.specs.Filled.{Store, all_filled, default_change, defaulted, items_filled, values_filled, visit}

abbrev at : ℕ → ℕ → Place
at line column = record { file = codes "h.pan"; line = line; column = column }

abbrev h : List ℕ
h = codes "h"

abbrev plain : Shape → Resolved
plain s = Known s None h None

-- long(1..65535) = 80
abbrev port : Resolved
port = Known (Ranged (plain (OfBase base.Long))
    (record { low = Some (pos 1); high = Some (pos 65535) })) None h (Some (long (pos 80)))

-- type t = { 'p' : long(1..65535) = 80 };
abbrev server : Resolved
server = plain (Record false (more (codes "p") true port none))

abbrev s : List Term
s = term.Key (codes "s") ∷ []

abbrev s_p : List Term
s_p = term.Key (codes "s") ∷ term.Key (codes "p") ∷ []

-- bind '/s' = t; in line 3
abbrev bound_s : Bound
bound_s = record { terms = s; resolved = plain (Named server); place = at 3 1 }

-- bind '/s' = t = dict(); in line 3
abbrev bound_with_default : Bound
bound_with_default = record {
  terms = s;
  resolved =
      Known (Named server) None h (Some (dict no_fields));
  place = at 3 1;
}

abbrev with_s : Plain → Plain
with_s v = dict (field (codes "s") v no_fields)

abbrev with_p : Plain → Plain
with_p v = with_s (dict (field (codes "p") v no_fields))

abbrev left : ℕ → Meter
left n = record { left = n; asked = [] }

abbrev store : Plain → List Change → Store
store t log = record { tree = t; log = log }

-- a binding applied to a tree, with so many steps
abbrev fill : Bound → Plain → ℕ → Outcome Store (Unit {0})
fill b t n = all_filled (b ∷ []) (λ k. None) (store t []) (left n)

-- '/s' = dict(); gives {"s":{"p":80}} and one change; the name, the record, the range and the long
-- are visited
one_default : fill bound_s (with_s (dict no_fields)) 10
    ≡ Done tt (store (with_p (long (pos 80))) (default_change (at 3 1) s_p (long (pos 80)) ∷ []))
    (left 6)
unfolding defaulted visit items_filled values_filled
one_default = refl

-- a value that is there stays
nothing_missing : fill bound_s (with_p (long (pos 0))) 10
    ≡ Done tt (store (with_p (long (pos 0))) []) (left 6)
unfolding defaulted visit items_filled values_filled
nothing_missing = refl

-- an undef takes the default
undef_filled : fill bound_s (with_p undef) 10
    ≡ Done tt (store (with_p (long (pos 80))) (default_change (at 3 1) s_p (long (pos 80)) ∷ []))
    (left 6)
unfolding defaulted visit items_filled values_filled
undef_filled = refl

-- nothing is bound: no visit
absent : fill bound_s (dict no_fields) 10 ≡ Done tt (store (dict no_fields) []) (left 10)
unfolding defaulted visit items_filled values_filled
absent = refl

-- a value of another kind is left: the name and the record are visited
other_kind : fill bound_s (with_s (long (pos 5))) 10
    ≡ Done tt (store (with_s (long (pos 5))) []) (left 8)
unfolding defaulted visit items_filled values_filled
other_kind = refl

-- a default is put, and filled inside
inside_a_default : fill bound_with_default (dict no_fields) 10
    ≡ Done tt (store (with_p (long (pos 80))) (default_change (at 3 1) s
    (dict no_fields) ∷ default_change (at 3 1) s_p (long (pos 80)) ∷ [])) (left 6)
unfolding defaulted visit items_filled values_filled
inside_a_default = refl

-- the walk of a put is refused by a property: the place is left as it is
refused_walk : fill (record {
  terms = term.Key (codes "s") ∷ term.Key (codes "t") ∷ [];
  resolved =
      port;
  place = at 3 1;
}) (with_s (long (pos 5))) 10
    ≡ Done tt (store (with_s (long (pos 5))) []) (left 10)
unfolding defaulted visit items_filled values_filled
refused_walk = refl

-- an undef among the items of a list
in_a_list : fill (record { terms = s; resolved = plain (ListOf port open_range); place = at 3 1 })
    (with_s (list (item undef (item (long (pos 7)) no_items)))) 10
    ≡ Done tt (store (with_s (list (item (long (pos 80)) (item (long (pos 7)) no_items))))
    (default_change (at 3 1) (term.Key (codes "s") ∷ term.Index 0 ∷ []) (long (pos 80)) ∷ []))
    (left 5)
unfolding defaulted visit items_filled values_filled
in_a_list = refl

-- work that is spent, at the binding
spent : fill bound_s (with_s (dict no_fields)) 2
    ≡ Failed (fault_at code.WorkSpent (at 3 1)) (left 0)
unfolding defaulted visit items_filled values_filled
spent = refl
