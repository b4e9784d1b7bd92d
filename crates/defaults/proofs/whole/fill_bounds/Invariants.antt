use Rattle.std.proofs.Common.{◌≡◌, List, drop}
use Rattle.questions.specs.Contents.{Answers}
use Rattle.questions.specs.declared.key.Key.{Key}
use Rattle.type_defs.specs.BindingsSeen.{bounds_seen}
use Rattle.defaults.specs.Filled.{all_filled}
use Rattle.defaults.specs.Fills.{KeepsLoan, meter, target_store, total}
use Rattle.defaults.proofs.whole.fill_bounds.Given as goal

abbrev pub invariant-loop-bound : goal.invariant-loop-bound
invariant-loop-bound g l = record {
  fills : (answers : Answers) (asked : List Key)
      → all_filled (bounds_seen (drop l.bound-index l.bounds)) answers (target_store l.target)
      (meter l.target.work asked) ≡ all_filled (bounds_seen l.bounds) answers
      (target_store l.fn.target) (meter l.fn.target.work asked);
  counted : total l.target ≡ total l.fn.target;
  lent : KeepsLoan l.fn.target l.target;
}
