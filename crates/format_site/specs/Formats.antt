-- What formatting a site writes, puts and leaves, by the pictures that the source has to give.
use Rattle.std.specs.Prelude.{◌≡◌, ℕ, is_some, true, List, [], Option, Some, None, IfSome, bytes_eq, flat_map, nat_lt}
use Rattle.command_words.specs.declared.commands.Pair.{Pair}
use Rattle.format_files.specs.Layouts.{fault_count, layouts, report}
use Rattle.load_path.specs.declared.picture.PictureFile.{PictureFile}
use Rattle.outside.specs.Causes.{Counted}
use Rattle.outside.specs.Cells.{Cell, AreSame}
use Rattle.outside.specs.Contents.{Appends}
use Rattle.outside.specs.Pictures.{next_picture}
use Rattle.outside.specs.declared.shelf.Change.{Change}
use Rattle.outside.specs.declared.source.MemFile.{MemFile}
use Rattle.publication.specs.Changing.{putting, Made, Begun, Tells}
use Rattle.publication.specs.Puts.{placed, PutsLeave}
use Rattle.publication.specs.Wants.{wanted}
use Rattle.publication.specs.declared.want.Want.{Want}
use Rattle.scans.specs.Scans.{scanned_of}
use Rattle.session.specs.Sessions.{ended_by, end_line}
use Rattle.session.specs.declared.Ended.{Ended}
use Rattle.session.specs.declared.Ended.TheVariants as ended
use Rattle.site_build.specs.Ends.{IsFailureOf}
use Rattle.site_build.specs.Scenes.{Scene}
use Rattle.site_build.specs.Session.{IsPassed, IsPerhapsOpened, TakesEarly, WritesEarly}
use Rattle.site_build.specs.declared.ends.Device.TheVariants as D
use Rattle.site_build.specs.declared.ends.End.{End}
use Rattle.site_build.specs.declared.ends.End.TheVariants as E

-- what is written, how it ends, and what is wanted on the shelf
pub record Formatting : Type 0 where
  pub text : List ℕ
  pub ended : Ended
  pub wants : List Want

-- of a scanned picture: the texts of its templates, and a report; or the line of a picture that is
-- past the limits of a scan
abbrev pub formatting_of : Option (List PictureFile) → Formatting
formatting_of (Some picture) = record {
  text = report picture;
  ended = ended_by (nat_lt 0 (fault_count picture));
  wants = layouts picture;
}
formatting_of None = record { text = end_line ended.TooMuch; ended = ended.TooMuch; wants = [] }

-- of the source's next picture
abbrev pub formatting_for : List (List MemFile) → Formatting
formatting_for pictures = formatting_of (scanned_of (next_picture pictures))

-- each wanted name has its bytes, and all other names are as they were
abbrev pub Places : List Want → (List ℕ → Cell) → (List ℕ → Cell) → Type 0
Places ws old new = (n : List ℕ) → new n ≡ placed ws n (old n)

-- Each wanted file whose bytes differ was put, in the order of the wants, and nothing else was
-- done;
-- or a first part of that.
abbrev pub MakesPuts : List Want → (List ℕ → Cell) → (List ℕ → Cell) → Option (List Change)
    → Option (List Change) → Type 0
MakesPuts ws old new before now = Made ws (flat_map (putting old) ws) old new before now

abbrev pub BeginsPuts : List Want → (List ℕ → Cell) → (List ℕ → Cell) → Option (List Change)
    → Option (List Change) → Type 0
BeginsPuts ws old new before now = Begun ws (flat_map (putting old) ws) old new before now

-- What stands on the shelf after an end. Before the puts it is as it was; where a name's call
-- failed,
-- it is a wanted one, and is open; where the text could not be written, the puts were made; where
-- memory was wanting, one name is open.
abbrev pub Stopped : End → List Want → (List ℕ → Cell) → (List ℕ → Cell) → Type 0
Stopped E.Source ws old new = AreSame old new
Stopped E.Shelf ws old new = AreSame old new
Stopped (E.Publishing m) ws old new =
    (is_some (wanted ws m) ≡ true) × PutsLeave (bytes_eq m) ws old new
Stopped E.Out ws old new = Places ws old new
Stopped E.Memory ws old new = (m : List ℕ) × PutsLeave (bytes_eq m) ws old new

-- It came to its end: its text is written, and each wanted name has its bytes. Exactly the puts
-- that
-- were needed were made. The roots are those that the words name, one picture was taken, no line
-- was
-- read, no run and no step was made, and no call of a device failed.
pub record Finishes (pair : Pair) (how : Ended) (before after : Scene) : Type 0 where
  pub ended : IfSome before.coming (λ ps. (formatting_for ps).ended ≡ how)
  pub text : IfSome before.coming (λ ps. Appends before.held (formatting_for ps).text after.held)
  pub shelf : IfSome before.coming
      (λ ps. Places (formatting_for ps).wants before.cell after.cell)
  pub order : Tells before.cell → IfSome before.coming (λ ps. MakesPuts (formatting_for ps).wants
      before.cell after.cell before.changes after.changes)
  pub spent : after.spent ≡ before.spent
  pub taken : IsPassed before.coming after.coming
  pub source_opened : after.source_opened ≡ Some pair.source
  pub shelf_opened : after.shelf_opened ≡ Some pair.out
  pub source_count : after.source_count ≡ before.source_count
  pub shelf_count : after.shelf_count ≡ before.shelf_count
  pub out_count : after.out_count ≡ before.out_count
  pub lines : after.lines ≡ before.lines
  pub lines_count : after.lines_count ≡ before.lines_count

-- It ended early, by this end: a part at most of its text was written, and of its puts made. The
-- device whose call failed counts it, and no other does.
pub record Breaks (pair : Pair) (end : End) (before after : Scene) : Type 0 where
  pub text : IfSome before.coming
      (λ ps. WritesEarly (formatting_for ps).text end before.held after.held)
  pub shelf : IfSome before.coming
      (λ ps. Stopped end (formatting_for ps).wants before.cell after.cell)
  pub order : Tells before.cell → IfSome before.coming (λ ps. BeginsPuts (formatting_for ps).wants
      before.cell after.cell before.changes after.changes)
  pub spent : after.spent ≡ before.spent
  pub taken : TakesEarly end before.coming after.coming
  pub source_opened : IsPerhapsOpened pair.source before.source_opened after.source_opened
  pub shelf_opened : IsPerhapsOpened pair.out before.shelf_opened after.shelf_opened
  pub source_count : Counted (IsFailureOf D.Source end) before.source_count after.source_count
  pub shelf_count : Counted (IsFailureOf D.Shelf end) before.shelf_count after.shelf_count
  pub out_count : Counted (IsFailureOf D.Out end) before.out_count after.out_count
  pub lines : after.lines ≡ before.lines
  pub lines_count : after.lines_count ≡ before.lines_count
