use Rattle.std.proofs.Common.{ap, ◌∙◌}
use Rattle.std.specs.Prelude.{bytes_eq}
use Rattle.std.specs.List.{list_any}
use Rattle.pan_top.proofs.Watched.{listed_before}
use Rattle.pan_top.proofs.watching.open.Goals as goal

pub returns-clause-names : goal.returns-clause-names
returns-clause-names g c =
    listed_before c.in_ok-publisher.publisher c.in_ok-listed.listed.items
    (g.H.Shelf.cell c.args.shelf.now) (g.H.Shelf.cell c.open_shelf.new.shelf)
    c.in_ok-open_shelf.ensures.same c.in_ok-listed.ensures.ok c.in_ok-listed.ensures.sorted
    (λ n. c.in_ok-publisher.ensures.keys n ∙ ap (list_any (λ m. bytes_eq m n))
    c.deref.ensures.value)
