-- The plain type that a type in memory spells.
use Rattle.std.specs.Prelude.{List, map, Option, option_map}
use Rattle.std.specs.declared.rc.Rc.{Rc}
use Rattle.std.specs.declared.alloc.Global.{Global}
use Rattle.pan_ast.specs.declared.syntax.Item.{Item as RItem}
use Rattle.pan_ast.specs.declared.types.FullType.{FullType as RFullType, fold-FullType}
use Rattle.pan_ast.specs.declared.types.TypeForm.{TypeForm as RTypeForm, fold-TypeForm}
use Rattle.pan_ast.specs.declared.types.Head.{Head as RHead, fold-Head}
use Rattle.pan_ast.specs.declared.types.RecordForm.{RecordForm as RRecordForm, fold-RecordForm}
use Rattle.pan_ast.specs.declared.types.Field.{Field as RField, fold-Field}
use Rattle.pan_ast.specs.declared.types.Field.TheOpen.{Field-F, Head-F, FullType-F, RecordForm-F, TypeForm-F}
use Rattle.pan_ast.specs.Syntax.{Item}
use Rattle.pan_ast.specs.Seen.{item_seen}
use Rattle.pan_ast.specs.Types.{FullType, TypeForm, Head, Field, Fields, fields_of}
use Rattle.pan_ast.specs.Types as plain

-- what a shared item spells, where there is one
abbrev pub body_seen : Option (Rc RItem Global) → Option Item
body_seen = option_map (λ i. item_seen i.value)

abbrev pub field_step : Field-F Field Head FullType Head TypeForm → Field
field_step (Field-F.Own k p r f) = plain.Own k p r f
field_step (Field-F.Include p n q) = plain.Include p n q

abbrev pub head_step : Head-F Field Head FullType Head TypeForm → Head
head_step (Head-F.Named n p b) = plain.Named n p b
head_step (Head-F.Record r) = r
head_step (Head-F.Choice texts) = plain.Choice texts.items

abbrev pub full_step : FullType-F Field Head FullType Head TypeForm → FullType
full_step f = plain.Full f.form (option_map item_seen f.default) (body_seen f.with)

abbrev pub record_step : RecordForm-F Field Head FullType Head TypeForm → Head
record_step r = plain.Record r.extensible (fields_of r.fields.items)

abbrev pub type_step : TypeForm-F Field Head FullType Head TypeForm → TypeForm
type_step t = plain.Formed t.head t.suffixes.items

-- what a type spells
abbrev pub full_seen : RFullType → FullType
full_seen = fold-FullType Field Head FullType Head TypeForm field_step head_step full_step
    record_step type_step

abbrev pub type_seen : RTypeForm → TypeForm
type_seen = fold-TypeForm Field Head FullType Head TypeForm field_step head_step full_step
    record_step type_step

abbrev pub head_seen : RHead → Head
head_seen = fold-Head Field Head FullType Head TypeForm field_step head_step full_step record_step
    type_step

abbrev pub record_seen : RRecordForm → Head
record_seen = fold-RecordForm Field Head FullType Head TypeForm field_step head_step full_step
    record_step type_step

abbrev pub field_seen : RField → Field
field_seen = fold-Field Field Head FullType Head TypeForm field_step head_step full_step record_step
    type_step

abbrev pub fields_seen : List RField → Fields
fields_seen fs = fields_of (map field_seen fs)
