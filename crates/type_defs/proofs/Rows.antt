-- The definitions, computed on written types.
use Rattle.std.proofs.Common.{◌≡◌, ℕ, zero, suc, pos, true, false, List, [], ◌∷◌, codes, Option, Some, None, Result, Ok, Err, refl}
use Rattle.path_tree.specs.Plain.{long, undef}
use Rattle.path_tree.specs.declared.path.Term.TheVariants as term
use Rattle.pan_ast.specs.declared.place.Place.{Place}
use Rattle.pan_ast.specs.declared.types.Bounds.{Bounds}
use Rattle.pan_ast.specs.declared.types.Suffix.{Suffix}
use Rattle.pan_ast.specs.declared.types.Suffix.TheVariants as suffix
use Rattle.pan_ast.specs.Syntax.{Item}
use Rattle.pan_ast.specs.Syntax as nodes
use Rattle.pan_ast.specs.Types.{FullType, Full, Formed, Named, Choice, Record, Own, Include, more, none}
use Rattle.type_defs.specs.declared.resolved.Base.TheVariants as base
use Rattle.type_defs.specs.declared.type_error.TypeError.{TypeError}
use Rattle.type_defs.specs.declared.type_error.TypeError.TheVariants.{NoType, Redefined, BadRange, TooDeep}
use Rattle.type_defs.specs.Bindings.{path_cmp}
use Rattle.type_defs.specs.Names.{Defined, is_taken, with_type}
use Rattle.type_defs.specs.Resolved.{Resolved, Known, OfBase, Ranged, ListOf}
use Rattle.type_defs.specs.Resolved as plain
use Rattle.type_defs.specs.Resolving.{all_more, bounds_range, included, named, one_more, open_range, range_of, ranged, type_of, with_suffix, with_suffixes, within}
use Rattle.std.specs.declared.cmp.Ordering.TheVariants.{Less, Greater}

abbrev at : ℕ → ℕ → Place
at line column = record { file = codes "h.pan"; line = line; column = column }

abbrev nothing : Defined
nothing name = None

abbrev h : List ℕ
h = codes "h"

abbrev from_to : ℕ → ℕ → Place → Option Bounds
from_to low high p = Some (record { place = p; low = Some (pos low); high = Some (pos high) })

abbrev name_at : List ℕ → Place → List Suffix → FullType
name_at name p suffixes = Full (Formed (Named name p None) suffixes) None None

abbrev long_in : ℕ → ℕ → Place → Place → FullType
long_in low high p q = Full (Formed (Named (codes "long") p (from_to low high q)) []) None None

-- long(1..65535) = 80
abbrev port : FullType
port = Full (Formed (Named (codes "long") (at 2 18) (from_to 1 65535 (at 2 23))) [])
    (Some (nodes.Plain (at 2 34) (nodes.Long (at 2 34) (pos 80)))) None

-- type t = { 'p' : long(1..65535) = 80 };
abbrev server : FullType
server = Full (Formed (Record false (more (Own (codes "p") (at 2 12) true port) none)) []) None None

abbrev or_nothing : Result Resolved TypeError → Defined
or_nothing (Ok t) = with_type (codes "t") t nothing
or_nothing (Err e) = nothing

abbrev after_t : Defined
after_t = or_nothing (type_of nothing h (at 2 1) server (long (pos 80) ∷ []))

-- bind '/a' = nosuch;
no_type : type_of nothing h (at 2 1) (name_at (codes "nosuch") (at 2 13) []) []
    ≡ Err (NoType (at 2 13) (codes "nosuch"))
unfolding named
no_type = refl

-- type t = long; twice
taken_twice : is_taken after_t (codes "t") ≡ true
unfolding named ranged bounds_range within with_suffixes
taken_twice = refl

base_is_taken : is_taken nothing (codes "string") ≡ true
base_is_taken = refl

choice_is_taken : is_taken nothing (codes "choice") ≡ true
choice_is_taken = refl

free_name : is_taken after_t (codes "u") ≡ false
unfolding named ranged bounds_range within with_suffixes
free_name = refl

-- type t = long(5..2);
crossed : type_of nothing h (at 2 1) (long_in 5 2 (at 2 10) (at 2 15)) [] ≡ Err (BadRange (at 2 15))
unfolding named ranged bounds_range within
crossed = refl

-- the first fault by place: the range of the first field stands before the name of the second
first_by_place : type_of nothing h (at 2 1) (Full
    (Formed (Record false (more (Own (codes "a") (at 3 1) true (long_in 5 2 (at 3 7) (at 3 12)))
    (more (Own (codes "b") (at 4 1) true (name_at (codes "nosuch") (at 4 7) [])) none))) []) None
    None) [] ≡ Err (BadRange (at 3 12))
unfolding named ranged bounds_range within with_suffixes
first_by_place = refl

-- a key twice, and a key that an include brings again
twice : type_of nothing h (at 2 1)
    (Full (Formed (Record false
    (more (Own (codes "p") (at 3 1) true (name_at (codes "long") (at 3 7) []))
    (more (Own (codes "p") (at 4 1) false (name_at (codes "long") (at 4 7) [])) none))) []) None
    None) [] ≡ Err (Redefined (at 4 1) (codes "p"))
unfolding named ranged within with_suffixes
twice = refl

brought_again : type_of after_t h (at 3 1) (Full
    (Formed (Record false (more (Own (codes "p") (at 4 1) true (name_at (codes "long") (at 4 7) []))
    (more (Include (at 5 1) (codes "t") (at 5 9)) none))) []) None None) []
    ≡ Err (Redefined (at 5 1) (codes "p"))
unfolding named ranged bounds_range within with_suffixes included all_more one_more
brought_again = refl

-- include of a type that is no record
no_record : type_of nothing h (at 2 1)
    (Full (Formed (Record false (more (Include (at 4 1) (codes "long") (at 4 9)) none)) []) None
    None) [] ≡ Err (NoType (at 4 9) (codes "long"))
unfolding included
no_record = refl

-- long(1..65535) = 80: a range around a base type, with the default outside
ranged_port : type_of nothing h (at 2 1) port (long (pos 80) ∷ [])
    ≡ Ok (Known (Ranged (Known (OfBase base.Long) None h None)
    (record { low = Some (pos 1); high = Some (pos 65535) })) None h (Some (long (pos 80))))
unfolding named ranged bounds_range within with_suffixes
ranged_port = refl

-- an undef default is no default
undef_default : type_of nothing h (at 2 1) port (undef ∷ [])
    ≡ Ok (Known (Ranged (Known (OfBase base.Long) None h None)
    (record { low = Some (pos 1); high = Some (pos 65535) })) None h None)
unfolding named ranged bounds_range within with_suffixes
undef_default = refl

-- long[]: a list around a base type
list_of_longs : type_of nothing h (at 2 1) (name_at (codes "long") (at 2 10)
    (suffix.List None ∷ [])) []
    ≡ Ok (Known (ListOf (Known (OfBase base.Long) None h None) open_range) None h None)
unfolding named ranged within range_of with_suffix with_suffixes
list_of_longs = refl

-- the depth of types: names of names of names ..

abbrev names_deep : ℕ → Resolved
names_deep zero = Known (OfBase base.Long) None h None
names_deep (suc n) = Known (plain.Named (names_deep n)) None h None

-- a name of a type that is 999 deep is 1,000 deep
deep_enough : type_of (λ name. Some (names_deep 998)) h (at 2 1) (name_at (codes "t") (at 2 10) [])
    [] ≡ Ok (names_deep 999)
unfolding named ranged within with_suffixes
deep_enough = refl

-- a list of such a name is told at the name
too_deep : type_of (λ name. Some (names_deep 998)) h (at 2 1)
    (name_at (codes "t") (at 2 10) (suffix.List None ∷ [])) [] ≡ Err (TooDeep (at 2 10))
unfolding named ranged within range_of with_suffix with_suffixes
too_deep = refl

-- a record around such a name, at the statement
record_too_deep : type_of (λ name. Some (names_deep 998)) h (at 2 1)
    (Full (Formed (Record false
    (more (Own (codes "p") (at 3 1) true (name_at (codes "t") (at 3 7) [])) none)) []) None None) []
    ≡ Err (TooDeep (at 2 1))
unfolding named ranged within with_suffixes
record_too_deep = refl

-- and in a field, at the field's text
field_too_deep : type_of (λ name. Some (names_deep 998)) h (at 2 1)
    (Full (Formed (Record false
    (more (Own (codes "q") (at 2 20) true
    (Full (Formed (Record false
    (more (Own (codes "p") (at 3 1) true (name_at (codes "t") (at 3 7) [])) none)) []) None None))
    none)) []) None None) [] ≡ Err (TooDeep (at 2 20))
unfolding named ranged within with_suffixes
field_too_deep = refl

-- a prefix comes first, and indexes before keys
prefix_first : path_cmp (term.Key (codes "a") ∷ []) (term.Key (codes "a") ∷ term.Index 0 ∷ [])
    ≡ Less
prefix_first = refl

index_first : path_cmp (term.Key (codes "a") ∷ []) (term.Index 7 ∷ []) ≡ Greater
index_first = refl

by_number : path_cmp (term.Index 9 ∷ []) (term.Index 10 ∷ []) ≡ Less
by_number = refl
