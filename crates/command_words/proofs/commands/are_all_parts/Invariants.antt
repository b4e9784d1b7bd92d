use Rattle.std.proofs.Common.{◌≡◌, map, drop}
use Rattle.std.specs.List.{list_all}
use Rattle.command_words.specs.Commands.{is_part}
use Rattle.command_words.proofs.commands.are_all_parts.Given as goal

abbrev pub invariant-loop-part : goal.invariant-loop-part
invariant-loop-part l = list_all is_part (map (λ p. p.now) (drop l.part-index l.parts))
    ≡ list_all is_part (map (λ p. p.now) l.parts)
