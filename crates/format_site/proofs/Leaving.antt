-- What an end leaves of the puts.
use Rattle.std.proofs.Common.{ℕ, Bool, List, [], inl, inr}
use Rattle.format_site.specs.Formats.{Places, Stopped}
use Rattle.outside.specs.Cells.{Cell, AreSame}
use Rattle.publication.specs.Puts.{PutsLeave}
use Rattle.publication.specs.declared.want.Want.{Want}
use Rattle.site_build.specs.Ends.{IsEndOf, OfSink}
use Rattle.site_build.specs.declared.ends.End.{End}
use Rattle.site_build.specs.declared.ends.End.TheVariants as E
use Rattle.site_build.proofs.Opening.{IsOpeningEnd}

puts_none : (is_open : List ℕ → Bool) (ws : List Want) (old new : List ℕ → Cell) → AreSame old new
    → PutsLeave is_open ws old new
puts_none is_open ws old new same = record { each = λ n closed. inl (same n) }

puts_all : (is_open : List ℕ → Bool) (ws : List Want) (old new : List ℕ → Cell) → Places ws old new
    → PutsLeave is_open ws old new
puts_all is_open ws old new places = record { each = λ n closed. inr (places n) }

-- where only the text could not be written, the puts were made
pub done_stopped : (e : End) (ws : List Want) (old new : List ℕ → Cell) → IsEndOf OfSink e
    → Places ws old new → Stopped e ws old new
done_stopped E.Source ws old new kind places = cc
done_stopped E.Shelf ws old new kind places = cc
done_stopped (E.Publishing m) ws old new kind places = cc
done_stopped E.Out ws old new kind places = places
done_stopped E.Memory ws old new kind places = ([], puts_all _ ws old new places)

-- an opening or a scan that failed touched no name
pub stopped_none : (e : End) (ws : List Want) (old new : List ℕ → Cell) → IsOpeningEnd e
    → AreSame old new → Stopped e ws old new
stopped_none E.Source ws old new kind same = same
stopped_none E.Shelf ws old new kind same = same
stopped_none (E.Publishing m) ws old new (inl kind) same = cc
stopped_none (E.Publishing m) ws old new (inr kind) same = cc
stopped_none E.Out ws old new (inl kind) same = cc
stopped_none E.Out ws old new (inr kind) same = cc
stopped_none E.Memory ws old new kind same = ([], puts_none _ ws old new same)
