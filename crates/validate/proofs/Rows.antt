-- The definitions, computed on values.
use Rattle.std.proofs.Common.{◌≡◌, ℕ, pos, true, false, int_lt, List, [], ◌∷◌, codes, ◌==◌, if◌then◌else◌, Option, Some, None, refl, arith}
use Rattle.path_tree.specs.Plain.{Plain, dict, list, text, long, boolean, undef, no_items, item, no_fields, field}
use Rattle.path_tree.specs.Find.{get}
use Rattle.path_tree.specs.declared.path.Anchor.{Anchor}
use Rattle.path_tree.specs.declared.path.Anchor.TheVariants as anchor
use Rattle.path_tree.specs.declared.path.Term.{Term}
use Rattle.path_tree.specs.declared.path.Term.TheVariants as term
use Rattle.pan_ast.specs.declared.fault.Code.{Code}
use Rattle.pan_ast.specs.declared.fault.Code.TheVariants as code
use Rattle.pan_ast.specs.declared.place.Place.{Place}
use Rattle.pan_ast.specs.Detail.{fault_with}
use Rattle.pan_ast.specs.Syntax.{Item}
use Rattle.pan_ast.specs.Syntax as nodes
use Rattle.questions.specs.Contents.{Answers, Absent, Circular, Content, Failed as Broken, Value}
use Rattle.questions.specs.declared.key.Key.TheVariants.{File, Under}
use Rattle.questions.specs.Run.{Meter, Outcome, Done, Failed, Asks, fault_at, give}
use Rattle.dml_meaning.specs.Lookups.{Looked, Nothing, look_other, looked_in}
use Rattle.dml_meaning.specs.Run.{Look}
use Rattle.type_defs.specs.declared.resolved.Base.TheVariants as base
use Rattle.type_defs.specs.Bindings.{Bound, Valid}
use Rattle.type_defs.specs.Resolved.{Resolved, Known, Shape, OfBase, Named, Ranged, ListOf, Link, Record, Choice, more, none}
use Rattle.validate.specs.Check.{condition_run, field_run, items_run, target_run, values_run, visit}
use Rattle.validate.specs.Checked.{absolute, bound_run, bounds_run, checked, valid_run, valids_run}
use Rattle.validate.specs.Conforms.{Whole}
use Rattle.validate.specs.Means.{Means, found_run}
use Rattle.validate.specs.Steady.{IsSteady}

abbrev at : ℕ → ℕ → Place
at line column = record { file = codes "h.pan"; line = line; column = column }

abbrev h : List ℕ
h = codes "h"

-- of the objects b, c, d and e the first is there, the second failed, the third is circular and the
-- fourth is none; of others nothing is known
abbrev told_of : List ℕ → Option Content
told_of [] = None
told_of (n ∷ ns) =
    if n == 98 then Some (Value (text (codes "there")))
    else (if n == 99 then Some Broken
    else (if n == 100 then Some Circular
    else (if n == 101 then Some Absent
    else None)))

abbrev told : Answers
told (File f) = None
told (Under o ms) = told_of o

abbrev seen : Plain → Place → Anchor → List Term → Look Looked
seen root p anchor.Absolute ms = give (looked_in (get ms root))
seen root p (anchor.External o) ms = look_other p o ms
seen root p anchor.Relative ms = give Nothing

-- SELF > 3; of a text, SELF itself
abbrev above_three : Plain → Plain
above_three (long z) = boolean (int_lt (pos 3) z)
above_three (text bs) = text bs
above_three _ = undef

abbrev means : Plain → Means
means root = record {
  dml = λ template i v. give (above_three v);
  look =
      λ p path. seen root p path.anchor path.terms;
}

abbrev left : ℕ → Meter
left n = record { left = n; asked = [] }

-- and a key asked
abbrev left_after : ℕ → List ℕ → Meter
left_after n o = record { left = n; asked = Under o (term.Key (codes "x") ∷ []) ∷ [] }

abbrev an_item : Item
an_item = nodes.Plain (at 3 14) (nodes.Undef (at 3 14))

abbrev plain : Shape → Resolved
plain s = Known s None h None

-- the check of a tree with bindings and valid statements, with ten steps
abbrev tried : Plain → List Bound → List Valid → Outcome (Unit {0}) (Unit {0})
tried root bounds valids = checked (means root) (at 1 1) root bounds valids told tt (left 10)

-- type t = { 'p' : long(1..65535) = 80 };
abbrev port : Resolved
port = Known (Ranged (plain (OfBase base.Long))
    (record { low = Some (pos 1); high = Some (pos 65535) })) None h (Some (long (pos 80)))

abbrev server : Resolved
server = plain (Named (plain (Record false (more (codes "p") true port none))))

abbrev bound : List ℕ → Resolved → Place → Bound
bound k t p = record { terms = term.Key k ∷ []; resolved = t; place = p }

-- bind '/s' = t; in line 3
abbrev bound_s : List Bound
bound_s = bound (codes "s") server (at 3 1) ∷ []

abbrev with_s : Plain → Plain
with_s v = dict (field (codes "s") v no_fields)

abbrev with_p : Plain → Plain
with_p v = with_s (dict (field (codes "p") v no_fields))

-- bind '/p' = choice('tcp', 'udp'); in line 2
abbrev choosing : List Bound
choosing = bound (codes "p") (plain (Choice (codes "tcp" ∷ codes "udp" ∷ []))) (at 2 1) ∷ []

abbrev chosen_as : Plain → Plain
chosen_as v = dict (field (codes "p") v no_fields)

-- bind '/l' = string*; in line 2
abbrev linking : List Bound
linking = bound (codes "l") (plain (Link (plain (OfBase base.Text)))) (at 2 1) ∷ []

abbrev with_l : List ℕ → Plain
with_l bs = dict (field (codes "a") (text (codes "x"))
    (field (codes "l") (text bs) (field (codes "n") (long (pos 7)) no_fields)))

-- bind '/a' = a type in line 2
abbrev typed : Resolved → List Bound
typed t = bound (codes "a") t (at 2 1) ∷ []

abbrev with_a : Plain → Plain
with_a v = dict (field (codes "a") v no_fields)

-- valid '/a' = SELF > 3; in line 3
abbrev above : List Valid
above = record {
  terms = term.Key (codes "a") ∷ [];
  body = an_item;
  template = h;
  place =
      at 3 1;
} ∷ []

abbrev fits : ℕ → Outcome (Unit {0}) (Unit {0})
fits n = Done tt tt (left n)

abbrev fault : Code → Place → List ℕ → ℕ → Outcome (Unit {0}) (Unit {0})
fault c p d n = Failed (fault_with c p d) (left n)

-- '/s' = {"p":80}: the name, the record, the range and the long are applied, a step each
all_fits : tried (with_p (long (pos 80))) bound_s [] ≡ fits 6
unfolding bound_run bounds_run checked condition_run field_run found_run items_run target_run
    valid_run valids_run values_run visit
all_fits = refl

-- '/s/p' = 0;
out_of_range : tried (with_p (long (pos 0))) bound_s []
    ≡ fault code.OutOfRange (at 3 1) (codes "/s/p") 6
unfolding bound_run bounds_run checked condition_run field_run found_run items_run target_run
    valid_run valids_run values_run visit
out_of_range = refl

-- the ends of a range are in it
lowest : tried (with_p (long (pos 1))) bound_s [] ≡ fits 6
unfolding bound_run bounds_run checked condition_run field_run found_run items_run target_run
    valid_run valids_run values_run visit
lowest = refl

highest : tried (with_p (long (pos 65535))) bound_s [] ≡ fits 6
unfolding bound_run bounds_run checked condition_run field_run found_run items_run target_run
    valid_run valids_run values_run visit
highest = refl

-- a boolean is in no range
boolean_in_range : tried (with_a (boolean true))
    (typed (plain (Ranged (plain (OfBase base.Boolean)) (record { low = None; high = None })))) []
    ≡ fault code.OutOfRange (at 2 1) (codes "/a") 8
unfolding bound_run bounds_run checked condition_run field_run found_run items_run target_run
    valid_run valids_run values_run visit
boolean_in_range = refl

-- '/s/q' = 1; beside p
extra_field : tried (with_s
    (dict (field (codes "p") (long (pos 80)) (field (codes "q") (long (pos 1)) no_fields)))) bound_s
    [] ≡ fault code.ExtraField (at 3 1) (codes "/s/q") 6
unfolding bound_run bounds_run checked condition_run field_run found_run items_run target_run
    valid_run valids_run values_run visit
extra_field = refl

-- the fields come before the other keys
field_first : tried (with_s
    (dict (field (codes "b") (long (pos 1)) (field (codes "p") (long (pos 0)) no_fields)))) bound_s
    [] ≡ fault code.OutOfRange (at 3 1) (codes "/s/p") 6
unfolding bound_run bounds_run checked condition_run field_run found_run items_run target_run
    valid_run valids_run values_run visit
field_first = refl

missing_field : tried (with_s (dict no_fields)) bound_s []
    ≡ fault code.MissingField (at 3 1) (codes "/s/p") 8
unfolding bound_run bounds_run checked condition_run field_run found_run items_run target_run
    valid_run valids_run values_run visit
missing_field = refl

no_path : tried (dict no_fields) bound_s [] ≡ fault code.NoBoundPath (at 3 1) (codes "/s") 10
unfolding bound_run bounds_run checked condition_run field_run found_run items_run target_run
    valid_run valids_run values_run visit
no_path = refl

-- with three steps the fourth is too many, at the binding
spent : checked (means (with_p (long (pos 80)))) (at 1 1) (with_p (long (pos 80))) bound_s [] told
    tt (left 3) ≡ Failed (fault_at code.WorkSpent (at 3 1)) (left 0)
unfolding bound_run bounds_run checked condition_run field_run found_run items_run target_run
    valid_run valids_run values_run visit
spent = refl

-- the range of a list, and an item of another kind: the count comes first
counted_first : tried (with_a (list (item (text []) (item (long (pos 1)) no_items))))
    (typed (plain (ListOf (plain (OfBase base.Long)) (record { low = None; high = Some (pos 1) }))))
    [] ≡ fault code.OutOfRange (at 2 1) (codes "/a") 9
unfolding bound_run bounds_run checked condition_run field_run found_run items_run target_run
    valid_run valids_run values_run visit
counted_first = refl

-- the second item of a list
second_item : tried (with_a (list (item (long (pos 1)) (item (text []) no_items))))
    (typed (plain (ListOf (plain (OfBase base.Long)) (record { low = None; high = None })))) []
    ≡ fault code.WrongType (at 2 1) (absolute (term.Key (codes "a") ∷ term.Index 1 ∷ [])) 7
unfolding bound_run bounds_run checked condition_run field_run found_run items_run target_run
    valid_run valids_run values_run visit
second_item = refl

-- '/m/2' = 5;
undef_left : tried (dict (field (codes "l") (list (item (long (pos 1)) no_items))
    (field (codes "m") (list (item undef (item undef (item (long (pos 5)) no_items)))) no_fields)))
    bound_s [] ≡ fault code.UndefLeft (at 1 1) (absolute (term.Key (codes "m") ∷ term.Index 0 ∷ []))
    10
unfolding bound_run bounds_run checked condition_run field_run found_run items_run target_run
    valid_run valids_run values_run visit
undef_left = refl

-- '/a' = 3; and valid '/a' = SELF > 3;
false_valid : tried (with_a (long (pos 3))) [] above
    ≡ fault code.FalseValid (at 3 1) (codes "/a") 10
unfolding bound_run bounds_run checked condition_run field_run found_run items_run target_run
    valid_run valids_run values_run visit
false_valid = refl

true_valid : tried (with_a (long (pos 4))) [] above ≡ fits 10
unfolding bound_run bounds_run checked condition_run field_run found_run items_run target_run
    valid_run valids_run values_run visit
true_valid = refl

no_boolean : tried (with_a (text [])) [] above ≡ fault code.NotBoolean (at 3 1) [] 10
unfolding bound_run bounds_run checked condition_run field_run found_run items_run target_run
    valid_run valids_run values_run visit
no_boolean = refl

no_value : tried (dict no_fields) [] above ≡ fault code.NoBoundPath (at 3 1) (codes "/a") 10
unfolding bound_run bounds_run checked condition_run field_run found_run items_run target_run
    valid_run valids_run values_run visit
no_value = refl

-- long with SELF > 3: the type comes first
false_test : tried (with_a (long (pos 3))) (typed (Known (OfBase base.Long) (Some an_item) h None))
    [] ≡ fault code.FalseTest (at 2 1) (codes "/a") 9
unfolding bound_run bounds_run checked condition_run field_run found_run items_run target_run
    valid_run valids_run values_run visit
false_test = refl

type_first : tried (with_a (text [])) (typed (Known (OfBase base.Long) (Some an_item) h None)) []
    ≡ fault code.WrongType (at 2 1) (codes "/a") 9
unfolding bound_run bounds_run checked condition_run field_run found_run items_run target_run
    valid_run valids_run values_run visit
type_first = refl

no_test : tried (with_a (text [])) (typed (Known (OfBase base.Text) (Some an_item) h None)) []
    ≡ fault code.NotBoolean (at 2 1) [] 9
unfolding bound_run bounds_run checked condition_run field_run found_run items_run target_run
    valid_run valids_run values_run visit
no_test = refl

-- choice('tcp', 'udp')
chosen : tried (chosen_as (text (codes "udp"))) choosing [] ≡ fits 9
unfolding bound_run bounds_run checked condition_run field_run found_run items_run target_run
    valid_run valids_run values_run visit
chosen = refl

no_choice : tried (chosen_as (text (codes "icmp"))) choosing []
    ≡ fault code.OutOfRange (at 2 1) (codes "/p") 9
unfolding bound_run bounds_run checked condition_run field_run found_run items_run target_run
    valid_run valids_run values_run visit
no_choice = refl

no_text : tried (chosen_as (long (pos 1))) choosing []
    ≡ fault code.WrongType (at 2 1) (codes "/p") 9
unfolding bound_run bounds_run checked condition_run field_run found_run items_run target_run
    valid_run valids_run values_run visit
no_text = refl

-- links: to a value, to the link itself, to nothing, to a value of another type
linked : tried (with_l (codes "/a")) linking [] ≡ fits 8
unfolding bound_run bounds_run checked condition_run field_run found_run items_run target_run
    valid_run valids_run values_run visit
linked = refl

to_itself : tried (with_l (codes "/l")) linking [] ≡ fits 8
unfolding bound_run bounds_run checked condition_run field_run found_run items_run target_run
    valid_run valids_run values_run visit
to_itself = refl

to_nothing : tried (with_l (codes "/b")) linking [] ≡ fault code.WrongType (at 2 1) (codes "/l") 9
unfolding bound_run bounds_run checked condition_run field_run found_run items_run target_run
    valid_run valids_run values_run visit
to_nothing = refl

no_link : tried (with_l (codes "a")) linking [] ≡ fault code.WrongType (at 2 1) (codes "/l") 9
unfolding bound_run bounds_run checked condition_run field_run found_run items_run target_run
    valid_run valids_run values_run visit
no_link = refl

to_a_long : tried (with_l (codes "/n")) linking [] ≡ fault code.WrongType (at 2 1) (codes "/l") 8
unfolding bound_run bounds_run checked condition_run field_run found_run items_run target_run
    valid_run valids_run values_run visit
to_a_long = refl

-- links to other objects: one that is there, one that failed, a circular one, none, and one that is
-- not known
to_another : tried (with_l (codes "b:/x")) linking [] ≡ Done tt tt (left_after 8 (codes "b"))
unfolding bound_run bounds_run checked condition_run field_run found_run items_run target_run
    valid_run valids_run values_run visit
to_another = refl

to_a_failed_one : tried (with_l (codes "c:/x")) linking []
    ≡ Failed (fault_with code.ForeignFailed (at 2 1) (codes "c")) (left_after 9 (codes "c"))
unfolding bound_run bounds_run checked condition_run field_run found_run items_run target_run
    valid_run valids_run values_run visit
to_a_failed_one = refl

to_a_circular_one : tried (with_l (codes "d:/x")) linking []
    ≡ Failed (fault_with code.Circular (at 2 1) (codes "d")) (left_after 9 (codes "d"))
unfolding bound_run bounds_run checked condition_run field_run found_run items_run target_run
    valid_run valids_run values_run visit
to_a_circular_one = refl

to_none : tried (with_l (codes "e:/x")) linking []
    ≡ Failed (fault_with code.WrongType (at 2 1) (codes "/l")) (left_after 9 (codes "e"))
unfolding bound_run bounds_run checked condition_run field_run found_run items_run target_run
    valid_run valids_run values_run visit
to_none = refl

to_an_unknown_one : tried (with_l (codes "f:/x")) linking []
    ≡ Asks (Under (codes "f") (term.Key (codes "x") ∷ [])) (left 9)
unfolding bound_run bounds_run checked condition_run field_run found_run items_run target_run
    valid_run valids_run values_run visit
to_an_unknown_one = refl

-- string**: a link to a link to itself
twice_to_itself : tried (with_l (codes "/l"))
    (bound (codes "l") (plain (Link (plain (Link (plain (OfBase base.Text)))))) (at 2 1) ∷ []) []
    ≡ fits 7
unfolding bound_run bounds_run checked condition_run field_run found_run items_run target_run
    valid_run valids_run values_run visit
twice_to_itself = refl

-- a refusal inside the value behind a link is told at the link
inside_a_link : tried (dict (field (codes "a") (dict no_fields)
    (field (codes "l") (text (codes "/a")) no_fields)))
    (bound (codes "l") (plain (Link server)) (at 2 1) ∷ []) []
    ≡ fault code.MissingField (at 2 1) (codes "/l") 7
unfolding bound_run bounds_run checked condition_run field_run found_run items_run target_run
    valid_run valids_run values_run visit
inside_a_link = refl

-- what the law on sound checks takes for granted is met
steady : (w : Whole) → IsSteady
    (record { dml = λ template i v. give (above_three v); look = λ p path. give Nothing }) w
steady w = record {
  values = λ template i v m h. (
    record { meter = record { left = w.work; asked = [] }; is = refl },
    omega arith,
  );
  looks = λ p path m h. (
    record { meter = record { left = w.work; asked = [] }; is = refl },
    omega
        arith,
  );
  anywhere = λ p q path x h. h;
}
