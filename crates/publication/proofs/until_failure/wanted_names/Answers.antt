use Rattle.std.proofs.Common.{◌≡◌, ◌+◌, ◌∷◌, drop, ap, ◌∙◌, arith, is_some, true, ◌||◌}
use Rattle.std.specs.Prelude.{bytes_eq, cond}
use Rattle.std.specs.HashSet.{contains}
use Rattle.std.proofs.lemmas.Grind.{common_steps}
use Rattle.publication.specs.Wants.{wanted}
use Rattle.publication.proofs.Shelving.{names_step}
use Rattle.publication.proofs.until_failure.wanted_names.Goals as goal

pub loop-want-preserved : goal.loop-want-preserved
loop-want-preserved c =
    let e : drop c.loop-want.want-index c.args.wants.now
    ≡ c.want-item.result ∷ drop (c.loop-want.want-index + 1) c.args.wants.now =
    grind (arith, common_steps, c.want-item.is, c.loop-want-test.true) in
    λ n.
    let held = contains bytes_eq c.loop-want.names n in
    let rest = wanted (drop (c.loop-want.want-index + 1) c.args.wants.now) n in
    let grown : contains bytes_eq c.insert.new.self n
    ≡ cond (bytes_eq c.want-item.result.name n) true held =
    c.in_ok-insert.ensures.updates.0 n ∙ ap (λ b. cond b true held)
    (ap (λ k. bytes_eq k n) c.in_ok-share.ensures) in
    ap (λ b. b || is_some rest) grown ∙ names_step (bytes_eq c.want-item.result.name n) held
    c.want-item.result.bytes rest ∙ rw e at (c.loop-want.invariant n)
