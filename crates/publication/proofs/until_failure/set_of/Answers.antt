use Rattle.std.proofs.Common.{◌≡◌, ◌+◌, ◌∷◌, drop, ap, ◌∙◌, arith, true, ◌||◌}
use Rattle.std.specs.Prelude.{bytes_eq, cond}
use Rattle.std.specs.HashSet.{contains}
use Rattle.std.specs.List.{list_any}
use Rattle.std.proofs.lemmas.Grind.{common_steps}
use Rattle.publication.proofs.Shelving.{set_step}
use Rattle.publication.proofs.until_failure.set_of.Goals as goal

pub loop-name-preserved : goal.loop-name-preserved
loop-name-preserved c =
    let e : drop c.loop-name.name-index c.args.names.now
    ≡ c.name-item.result ∷ drop (c.loop-name.name-index + 1) c.args.names.now =
    grind (arith, common_steps, c.name-item.is, c.loop-name-test.true) in
    λ n.
    let held = contains bytes_eq c.loop-name.set n in
    let rest = list_any (λ m. bytes_eq m n) (drop (c.loop-name.name-index + 1) c.args.names.now) in
    let grown : contains bytes_eq c.insert.new.self n
    ≡ cond (bytes_eq c.name-item.result n) true held =
    c.in_ok-insert.ensures.updates.0 n ∙ ap (λ b. cond b true held)
    (ap (λ k. bytes_eq k n) c.in_ok-share.ensures) in
    ap (λ b. b || rest) grown ∙ set_step (bytes_eq c.name-item.result n) held rest
    ∙ rw e at (c.loop-name.invariant n)
