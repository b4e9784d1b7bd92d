use Rattle.std.proofs.Common.{rules, ◌≡◌, ◌+◌, ◌≤◌, ◌∷◌, suc, drop, length, false, true, subst, arith}
use Rattle.std.proofs.lemmas.Grind.{common_steps}
use Rattle.pan_blame.specs.Marks.{all_marks}
use Rattle.pan_blame.specs.Tags.{Tag, nothing}
use Rattle.pan_blame.specs.Underway.{AreValues, IsUnderway}
use Rattle.pan_blame.proofs.Numbered.{begins_at, no_marks, none_left, refused, underway_at, ends}
use Rattle.pan_blame.proofs.blaming.replay_log.Goals as goal

pub loop-i-init : goal.loop-i-init
loop-i-init c = λ header.
    let is : c.in_ok-tree.tree ≡ nothing = search rules in
    begins_at c.args.log.now header c.in_ok-tree.tree
    (all_marks c.new-top.result c.args.object.now c.new-layers.result.items) is
    (no_marks c.new-top.result c.args.object.now c.new-layers.result.items c.new-top.ensures.empty
    c.new-layers.ensures.items) c.requires

pub change-requires : goal.change-requires
change-requires c =
    let here : drop c.loop-i.i c.args.log.now ≡ c.index-log-i.result ∷ drop (c.loop-i.i + 1)
    c.args.log.now = grind (arith, common_steps, c.index-log-i.is, c.loop-i-test.true) in
    let header : Tag = record { place = c.index-log-i.result.place; default = false } in
    (subst AreValues here (c.loop-i.invariant header).values).0

pub returns-then-not-done-clause-none : goal.returns-then-not-done-clause-none
returns-then-not-done-clause-none c = λ _.
    let here : drop c.loop-i.i c.args.log.now ≡ c.index-log-i.result ∷ drop (c.loop-i.i + 1)
    c.args.log.now = grind (arith, common_steps, c.index-log-i.is, c.loop-i-test.true) in
    let header : Tag = record { place = c.index-log-i.result.place; default = false } in
    let not_done : c.in_ok-done.done ≡ false = search rules in
    let f : _ = all_marks c.loop-i.replay.top c.args.object.now c.loop-i.replay.layers.items in
    refused c.args.log.now header c.index-log-i.result (drop (c.loop-i.i + 1) c.args.log.now)
    c.loop-i.i c.loop-i.replay.tree f (c.in_ok-done.ensures.refused not_done)
    (subst (λ l. IsUnderway header c.args.log.now l c.loop-i.i c.loop-i.replay.tree f) here
    (c.loop-i.invariant header))

pub loop-i-preserved : goal.loop-i-preserved
loop-i-preserved c = λ header.
    let here : drop c.loop-i.i c.args.log.now ≡ c.index-log-i.result ∷ drop (c.loop-i.i + 1)
    c.args.log.now = grind (arith, common_steps, c.index-log-i.is, c.loop-i-test.true) in
    let done : c.in_ok-done.done ≡ true = search rules in
    let next : suc c.loop-i.i ≡ c.loop-i.i + 1 = omega arith in
    let f : _ = all_marks c.loop-i.replay.top c.args.object.now c.loop-i.replay.layers.items in
    let g : _ = all_marks c.change.new.replay.top c.args.object.now c.change.new.replay.layers.items
    in
    let was = c.loop-i.invariant header in
    underway_at c.args.log.now header c.index-log-i.result (drop (c.loop-i.i + 1) c.args.log.now)
    c.loop-i.i (c.loop-i.i + 1) c.loop-i.replay.tree c.change.new.replay.tree f g next here
    (c.in_ok-done.ensures.done done)
    (c.in_ok-done.ensures.marks (λ q. let low = was.low q in omega (arith, low)))
    (subst (λ l. IsUnderway header c.args.log.now l c.loop-i.i c.loop-i.replay.tree f) here was)

pub returns-clause-some : goal.returns-clause-some
returns-clause-some c = λ header.
    let few : length c.args.log.now ≤ c.loop-i.i =
    grind (arith, c.loop-i-test.false, c.loop-i.auto.i-end) in
    let f : _ = all_marks c.loop-i.replay.top c.args.object.now c.loop-i.replay.layers.items in
    ends c.args.log.now header c.loop-i.replay.tree f c.loop-i.i
    (subst (λ l. IsUnderway header c.args.log.now l c.loop-i.i c.loop-i.replay.tree f)
    (none_left c.args.log.now c.loop-i.i few) (c.loop-i.invariant header))
