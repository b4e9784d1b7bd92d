use Rattle.std.proofs.Common.{ap, ◌∙◌, arith}
use Rattle.engine_turns.specs.Places.{names}
use Rattle.engine_turns.proofs.Once.{rising_once}
use Rattle.rebuild.specs.Answers.{open_parts}
use Rattle.rebuild.proofs.Answering.{open_is}
use Rattle.rebuild.proofs.Fewer.{parts_count}
use Rattle.rebuild.proofs.answers.turns_left.Goals as goal

pub returns : goal.returns
returns g c =
    let core = c.args.core.now in
    let parts = c.open_parts-open.ensures.parts ∙ ap open_parts c.deref.ensures.value
    ∙ open_is core.rows.items (rising_once (names core.rows.items) c.requires.ready.rising) in
    let chain = c.len.ensures ∙ parts_count core.chain c.requires.ready.chain in
    omega (arith, c.saturating_sub.ensures, parts, chain)
