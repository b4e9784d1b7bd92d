use Rattle.std.proofs.Common.{◌≡◌, ◌-◌, List}
use Rattle.questions.specs.Contents.{Answers}
use Rattle.questions.specs.declared.key.Key.{Key}
use Rattle.defaults.specs.Bare.{each_visited}
use Rattle.defaults.specs.Fills.{KeepsLoan, meter, target_store, total}
use Rattle.defaults.proofs.bare.visit_each.Given as goal

-- what is done and what is left gives the whole
abbrev pub invariant-loop-i : goal.invariant-loop-i
invariant-loop-i g l = record {
  path : l.target.path ≡ l.fn.target.path;
  fills : (answers : Answers) (asked : List Key)
      → each_visited l.place l.visits (l.count - l.i) answers (target_store l.target)
      (meter l.target.work asked) ≡ each_visited l.place l.visits l.count answers
      (target_store l.fn.target) (meter l.fn.target.work asked);
  counted : total l.target ≡ total l.fn.target;
  lent : KeepsLoan l.fn.target l.target;
}
