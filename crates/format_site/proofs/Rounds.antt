-- The shelf and the sink follow what was laid out.
use Rattle.std.proofs.Common.{◌≡◌, ℕ, List, [], Option, None, Some, IfErr, IfSome, refl, sym, subst, inl}
use Rattle.std.specs.Prelude.{Result, Ok, Err, IfOk, OnOk, OnErr, flat_map, nat_lt}
use Rattle.format_files.specs.Layouts.{fault_count, layouts, report}
use Rattle.format_files.specs.declared.laying_out.Layouts.{Layouts}
use Rattle.format_site.specs.Following.{Follows, given_by}
use Rattle.format_site.specs.Formats.{BeginsPuts, Formatting, MakesPuts, Places, Stopped, formatting_for, formatting_of}
use Rattle.format_site.proofs.Leaving.{done_stopped, stopped_none}
use Rattle.load_path.specs.declared.picture.PictureFile.{PictureFile}
use Rattle.outside.specs.Contents.{Appends, AppendsPart}
use Rattle.outside.specs.Pictures.{next_picture}
use Rattle.outside.specs.declared.source.MemFile.{MemFile}
use Rattle.publication.specs.Changing.{putting, Tells}
use Rattle.publication.proofs.Planning.{begun_all, begun_none, made_none}
use Rattle.scans.specs.Scans.{scanned_of}
use Rattle.session.specs.Sessions.{ended_by}
use Rattle.session.specs.declared.Ended.{Ended}
use Rattle.session.specs.declared.Ended.TheVariants.{TooMuch}
use Rattle.site_build.specs.Ends.{IsEndOf, OfSink, OfSource}
use Rattle.site_build.specs.Scenes.{Outs}
use Rattle.site_build.specs.Session.{WritesEarly}
use Rattle.site_build.specs.declared.ends.End.{End}
use Rattle.site_build.proofs.Ending.{early_none, line_unwritten}

-- it was broken off
pub broken_follows : (f : Formatting) (r : Result Ended End) (before after : Outs) (e : End)
    → r ≡ Err e → WritesEarly f.text e before.held after.held
    → Stopped e f.wants before.cell after.cell
    → (Tells before.cell → BeginsPuts f.wants before.cell after.cell before.changes after.changes)
    → Follows f r before after
broken_follows f r before after e is text shelf begun = subst (λ x. Follows f x before after)
    (sym is) (record { ok = tt; text = text; shelf = shelf; made = tt; begun = begun })

-- .. before anything was done
pub untouched_follows : (f : Formatting) (r : Result Ended End) (o : Outs) (e : End) → r ≡ Err e
    → IsEndOf OfSource e → Follows f r o o
untouched_follows f r o e is kind = broken_follows f r o o e is (early_none f.text o.held e)
    (stopped_none e f.wants o.cell o.cell (inl kind) (λ n. refl))
    (λ tells. begun_none f.wants (flat_map (putting o.cell) f.wants) o.cell o.cell o.changes
    o.changes (λ n. refl) refl)

pub untouched_at : (told : Option (List (List MemFile))) (r : Result Ended End) (o : Outs) (e : End)
    → r ≡ Err e → IsEndOf OfSource e → IfSome told (λ ps. Follows (formatting_for ps) r o o)
untouched_at None r o e is kind = tt
untouched_at (Some ps) r o e is kind = untouched_follows (formatting_for ps) r o e is kind

-- the puts were made, and then the text was to be written
pub told_follows : (f : Formatting) (r : Result Ended End) (before after : Outs)
    → Places f.wants before.cell after.cell
    → (Tells before.cell → MakesPuts f.wants before.cell after.cell before.changes after.changes)
    → IfOk r (λ how. how ≡ f.ended) → OnOk r (Appends before.held f.text after.held)
    → OnErr r (AppendsPart before.held f.text after.held) → IfErr r (IsEndOf OfSink)
    → Follows f r before after
told_follows f (Ok how) before after places made ended text part kind = record {
  ok = record { ended = sym ended; text = text; shelf = places };
  text = tt;
  shelf = tt;
  made = made;
  begun = tt;
}
told_follows f (Err e) before after places made ended text part kind = record {
  ok = tt;
  text = line_unwritten {T = Ended} f.text before.held after.held (Err e) kind part;
  shelf = done_stopped e f.wants before.cell after.cell kind places;
  made = tt;
  begun = λ tells. begun_all f.wants (flat_map (putting before.cell) f.wants) before.cell after.cell
      before.changes after.changes (made tells);
}

-- only a line was to be written
pub too_much_follows : (r : Result Ended End) (o : Outs) (held : Option (List ℕ))
    → IfOk r (λ how. how ≡ TooMuch) → OnOk r (Appends o.held (formatting_of None).text held)
    → OnErr r (AppendsPart o.held (formatting_of None).text held) → IfErr r (IsEndOf OfSink)
    → Follows (formatting_of None) r o (record o { held = held })
too_much_follows r o held ended text part kind = told_follows (formatting_of None) r o
    (record o { held = held }) (λ n. refl)
    (λ tells. made_none [] o.cell o.cell o.changes o.changes (λ n. refl) refl) ended text part kind

-- the layouts of a picture come to what is made of it
pub given_is : (made : Layouts) (picture : List PictureFile) → made.wants.items ≡ layouts picture
    → made.report.items ≡ report picture → made.faults ≡ fault_count picture
    → given_by made ≡ formatting_of (Some picture)
given_is made picture wants text faults = λ i. record
    { text = text i; ended = ended_by (nat_lt 0 (faults i)); wants = wants i }

-- what follows the scanned picture follows the source's next one
pub scanned_follows : (told : Option (List (List MemFile))) (got : Option (List PictureFile))
    (r : Result Ended End) (before after : Outs)
    → IfSome told (λ ps. got ≡ scanned_of (next_picture ps))
    → Follows (formatting_of got) r before after
    → IfSome told (λ ps. Follows (formatting_for ps) r before after)
scanned_follows None got r before after is follows = tt
scanned_follows (Some ps) got r before after is follows = subst
    (λ g. Follows (formatting_of g) r before after) is follows
