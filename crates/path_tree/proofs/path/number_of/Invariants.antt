use Rattle.std.proofs.Common.{◌≡◌, ◌+◌, ◌*◌, ◌-◌, ◌<◌, drop}
use Rattle.std.specs.List.{fold}
use Rattle.base.specs.Characters.{digit_0}
use Rattle.path_tree.specs.Grammar.{number_of}
use Rattle.path_tree.proofs.Numbers.{limit}
use Rattle.path_tree.proofs.path.number_of.Given as goal

abbrev pub invariant-loop-digit : goal.invariant-loop-digit
invariant-loop-digit l = record {
  read : fold (λ n c. 10 * n + (c - digit_0)) l.number (drop l.digit-index l.digits)
      ≡ number_of l.digits;
  small : l.number < limit l.digit-index;
}
