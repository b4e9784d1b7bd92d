-- What each form of a type in memory spells.
use Rattle.std.proofs.Common.{option_map, ◌≡◌, ◌∙◌, ap, ℕ, List, map, Option, Bool, rules}
use Rattle.std.specs.declared.vec.Vec.{Vec}
use Rattle.std.specs.declared.alloc.Global.{Global}
use Rattle.pan_ast.specs.declared.place.Place.{Place}
use Rattle.pan_ast.specs.declared.types.Bounds.{Bounds}
use Rattle.pan_ast.specs.declared.types.Field.{Field as RField, the_lemmas}
use Rattle.pan_ast.specs.declared.types.Field.TheVariants as field
use Rattle.pan_ast.specs.declared.types.Head.{Head as RHead}
use Rattle.pan_ast.specs.declared.types.Head.TheVariants as head
use Rattle.pan_ast.specs.declared.types.FullType.{FullType as RFullType}
use Rattle.pan_ast.specs.declared.types.TypeForm.{TypeForm as RTypeForm}
use Rattle.pan_ast.specs.declared.types.RecordForm.{RecordForm as RRecordForm}
use Rattle.pan_ast.specs.Types as plain
use Rattle.pan_ast.specs.Types.{fields_of}
use Rattle.pan_ast.specs.Seen.{item_seen}
use Rattle.pan_ast.specs.TypesSeen.{full_seen, type_seen, head_seen, field_seen, body_seen}

pub seen_own : (f : RField) (k : List ℕ) (p : Place) (r : Bool) (t : RFullType) → f
    ≡ field.Own k p r t → field_seen f ≡ plain.Own k p r (full_seen t)
seen_own f k p r t e = ap field_seen e ∙ search (rules, the_lemmas)

pub seen_include : (f : RField) (p : Place) (n : List ℕ) (q : Place) → f ≡ field.Include p n q
    → field_seen f ≡ plain.Include p n q
seen_include f p n q e = ap field_seen e ∙ search (rules, the_lemmas)

pub seen_named : (h : RHead) (n : List ℕ) (p : Place) (b : Option Bounds) → h ≡ head.Named n p b
    → head_seen h ≡ plain.Named n p b
seen_named h n p b e = ap head_seen e ∙ search (rules, the_lemmas)

pub seen_record : (h : RHead) (r : RRecordForm) → h ≡ head.Record r → head_seen h
    ≡ plain.Record r.extensible (fields_of (map field_seen r.fields.items))
seen_record h r e = ap head_seen e ∙ search (rules, the_lemmas)

pub seen_choice : (h : RHead) (texts : Vec (List ℕ) Global) → h ≡ head.Choice texts → head_seen h
    ≡ plain.Choice texts.items
seen_choice h texts e = ap head_seen e ∙ search (rules, the_lemmas)

pub seen_full : (f : RFullType) → full_seen f
    ≡ plain.Full (type_seen f.form) (option_map item_seen f.default) (body_seen f.with)
seen_full f = search (rules, the_lemmas)

pub seen_type : (t : RTypeForm) → type_seen t ≡ plain.Formed (head_seen t.head) t.suffixes.items
seen_type t = search (rules, the_lemmas)

pub ruleset types = (
  seen_own,
  seen_include,
  seen_named,
  seen_record,
  seen_choice,
  seen_full,
  seen_type,
)
