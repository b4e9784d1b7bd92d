-- The bindings and valid statements in memory, as plain data.
use Rattle.std.specs.Prelude.{List, map}
use Rattle.pan_ast.specs.Seen.{item_seen}
use Rattle.type_defs.specs.declared.bindings.Bound.{Bound as RBound}
use Rattle.type_defs.specs.declared.bindings.Valid.{Valid as RValid}
use Rattle.type_defs.specs.declared.bindings.Bindings.{Bindings as RBindings}
use Rattle.type_defs.specs.Bindings.{Bound, Valid}
use Rattle.type_defs.specs.ResolvedSeen.{resolved_seen}

abbrev pub bound_seen : RBound → Bound
bound_seen b =
    record { terms = b.terms; resolved = resolved_seen b.resolved; place = b.place }

abbrev pub bounds_seen : List RBound → List Bound
bounds_seen bs = map bound_seen bs

abbrev pub bindings_seen : RBindings → List Bound
bindings_seen b = bounds_seen b.bounds.items

abbrev pub valid_seen : RValid → Valid
valid_seen s = record {
  terms = s.terms;
  body = item_seen s.body.value;
  template = s.template;
  place = s.place;
}
