use Rattle.std.proofs.Common.{◌≡◌, ◌∙◌, sym, ap, subst, ◌≤◌, length, arith, rules}
use Rattle.std.specs.Prelude.{slice_get}
use Rattle.std.specs.List.{insert}
use Rattle.object_names.specs.Finding.{place_in, is_same}
use Rattle.object_names.proofs.Places.{place_within, there_by, put_by}
use Rattle.object_names.proofs.add_name.Goals as goal

pub returns-then-stands_at : goal.returns-then-stands_at
returns-then-stands_at c =
    let old = c.args.names.now.items in
    there_by c.args.name old c.stands_at.result (c.stands_at.ensures ∙ search rules)
    c.if-stands_at.true

pub insert-requires : goal.insert-requires
insert-requires c =
    let le = place_within c.args.name c.args.names.now.items in
    search rules

pub returns : goal.returns
returns c =
    let old = c.args.names.now.items in
    let place : c.place_of-place.result ≡ place_in old c.args.name = search rules in
    c.in_ok-insert.ensures.items ∙ ap (λ i. insert old i c.args.name) place
    ∙ put_by c.args.name old c.stands_at.result (c.stands_at.ensures ∙ search rules)
    c.if-stands_at.false
