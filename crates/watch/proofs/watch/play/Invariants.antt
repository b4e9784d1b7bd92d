use Rattle.std.proofs.Common.{◌≡◌}
use Rattle.publication.specs.Published.{Knows}
use Rattle.watch.specs.Sites.{IsReady, LeavesUnkept, Plays, begun, spot_of}
use Rattle.watch.specs.Played.{reel}
use Rattle.watch.proofs.watch.play.Given as goal

abbrev pub invariant-loop-i : goal.invariant-loop-i
invariant-loop-i g l = record {
  knows : Knows l.site.publisher (g.H.Shelf.cell l.site.shelf);
  lines : g.N.Lines.fault_count l.lines ≡ g.N.Lines.fault_count l.fn.lines;
  out : g.O.Sink.fault_count l.out ≡ g.O.Sink.fault_count l.fn.out;
  source_opened : g.S.Source.opened l.site.source ≡ g.S.Source.opened l.fn.site.source;
  shelf_opened : g.H.Shelf.opened l.site.shelf ≡ g.H.Shelf.opened l.fn.site.shelf;
  store_opened : g.K.Keeper.opened l.site.carried.keeper ≡ g.K.Keeper.opened l.fn.site.carried.keeper;
  unkept : LeavesUnkept l.fn.site.carried l.site.carried;
  ready : IsReady g.R.Runner.meaning l.fn.site → IsReady g.R.Runner.meaning l.site;
  played : IsReady g.R.Runner.meaning l.fn.site → Plays g.R.Runner.meaning (reel (g.N.Lines.left
      l.fn.lines) (g.N.Lines.left l.lines) (g.O.Sink.held l.fn.out) (g.O.Sink.held l.out)) (begun
      (spot_of g.R.Runner g.S.Source g.H.Shelf g.K.Keeper l.fn.site l.fn.steps)) (spot_of g.R.Runner
      g.S.Source g.H.Shelf g.K.Keeper l.site l.steps) l._i;
}
