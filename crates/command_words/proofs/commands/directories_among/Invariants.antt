use Rattle.std.proofs.Common.{◌≡◌, map, take}
use Rattle.command_words.specs.Commands.{directory_of}
use Rattle.command_words.proofs.commands.directories_among.Given as goal

abbrev pub invariant-loop-part : goal.invariant-loop-part
invariant-loop-part l = l.made.items ≡ map directory_of
    (map (λ p. p.now) (take l.part-index l.parts))
