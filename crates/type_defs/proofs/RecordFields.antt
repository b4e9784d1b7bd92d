-- The fields of a record, one after the other.
use Rattle.std.proofs.Common.{◌≡◌, ℕ, ◌+◌, ◌<◌, ◌==◌, Bool, true, false, List, [], ◌∷◌, ◌++◌, max, length, drop, get_or, map, ap, sym, refl, ◌∙◌, if◌then◌else◌, Some, Ok, Err, append_assoc, append-nil, arith}
use Rattle.std.proofs.lemmas.List.{drop_more, map_push}
use Rattle.std.specs.Cmp.Lexicographic.{pointwise}
use Rattle.pan_ast.specs.declared.place.Place.{Place}
use Rattle.type_defs.specs.declared.resolved.RecordField.{RecordField as RField}
use Rattle.type_defs.specs.declared.type_error.TypeError.TheVariants.{Redefined}
use Rattle.type_defs.specs.Depth.{fields_depth, type_depth}
use Rattle.type_defs.specs.Resolved.{Field, fields_of, list_of}
use Rattle.std.specs.declared.vec.Vec.{Vec}
use Rattle.std.specs.declared.alloc.Global.{Global}
use Rattle.type_defs.specs.declared.resolved.Shape.{Shape as RShape}
use Rattle.type_defs.specs.declared.resolved.Shape.TheVariants as shape
use Rattle.type_defs.specs.ResolvedSeen.{field_seen, shape_seen}
use Rattle.type_defs.specs.Resolving.{◌>>=◌, has_field, one_more, all_more, record_fields}
use Rattle.type_defs.proofs.Shapes.{seen_record}

-- the field at i, and those after it
pub has_more : (k : List ℕ) (fs : List RField) (i : ℕ) (f : RField) → i < length fs → f
    ≡ get_or fs i f → has_field k (map field_seen (drop i fs))
    ≡ (if pointwise ◌==◌ k (field_seen f).key then true else has_field k
    (map field_seen (drop (i + 1) fs)))
has_more k fs i f h is =
    ap (λ r. has_field k (map field_seen r)) (drop_more fs i f h
    ∙ ap (λ r. r ∷ drop (i + 1) fs) (sym is))

pub one_pushed : (fs : List RField) (f : RField) → map field_seen (fs ++ f ∷ []) ≡ map field_seen fs
    ++ field_seen f ∷ []
one_pushed fs f = map_push field_seen fs f

pub fields_more : (p : Place) (done : List Field) (fs : List RField) (i : ℕ) (f : RField)
    → i < length fs → f ≡ get_or fs i f → all_more p done (map field_seen (drop i fs))
    ≡ (one_more p done (field_seen f) >>= (λ more. all_more p more
    (map field_seen (drop (i + 1) fs))))
unfolding all_more
fields_more p done fs i f h is =
    ap (λ r. all_more p done (map field_seen r)) (drop_more fs i f h
    ∙ ap (λ r. r ∷ drop (i + 1) fs) (sym is))

list_back : (fs : List Field) → list_of (fields_of fs) ≡ fs
list_back [] = refl
list_back (f ∷ fs) = ap (λ r. f ∷ r) (list_back fs)

pub record_seen : (s : RShape) (x : Bool) (fs : Vec RField Global) → s ≡ shape.Record x fs
    → record_fields (shape_seen s) ≡ Some (map field_seen fs.items)
record_seen s x fs e = ap record_fields (seen_record s x fs e)
    ∙ ap Some (list_back (map field_seen fs.items))

-- how deep the fields of two lists are
both_deep : (done fs : List Field) → fields_depth (fields_of (done ++ fs))
    ≡ max (fields_depth (fields_of done)) (fields_depth (fields_of fs))
both_deep [] fs = omega arith
both_deep (f ∷ done) fs = let next = both_deep done fs in omega arith

pub pushed_deepest : (done more : List Field) (f : Field) → more ≡ done ++ f ∷ []
    → fields_depth (fields_of more) ≡ max (fields_depth (fields_of done)) (type_depth f.resolved)
pushed_deepest done more f h = let e = both_deep done (f ∷ []) in rw h (omega arith)

added : (b : Bool) (p : Place) (done : List Field) (f : Field) (fs more : List Field)
    → ((if b then Err (Redefined p f.key) else Ok (done ++ f ∷ [])) >>= (λ all. all_more p all fs))
    ≡ Ok more → ((all : List Field) → all_more p all fs ≡ Ok more → more ≡ all ++ fs) → more ≡ done
    ++ (f ∷ fs)
added true p done f fs more h next = cc
added false p done f fs more h next = next (done ++ f ∷ []) h ∙ append_assoc done (f ∷ []) fs

all_are : (p : Place) (done fs more : List Field) → all_more p done fs ≡ Ok more → more ≡ done ++ fs
unfolding all_more one_more
all_are p done [] more h = cc (append-nil done)
all_are p done (f ∷ fs) more h =
    added (has_field f.key done) p done f fs more h (λ all e. all_are p all fs more e)

pub all_more_depth : (p : Place) (done fs more : List Field) → all_more p done fs ≡ Ok more
    → fields_depth (fields_of more) ≡ max (fields_depth (fields_of done))
    (fields_depth (fields_of fs))
all_more_depth p done fs more h =
    ap (λ r. fields_depth (fields_of r)) (all_are p done fs more h) ∙ both_deep done fs
