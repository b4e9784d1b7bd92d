-- The laws of an item's evaluation as questions and answers.
use Rattle.std.proofs.Common.{◌≡◌, ◌≢◌, false, refl}
use Rattle.pan_ast.specs.Syntax.{Item}
use Rattle.pan_ast.specs.declared.fault.Code.{Code}
use Rattle.pan_ast.specs.declared.fault.Code.TheVariants as code
use Rattle.questions.specs.Laws.{MayAsk, is_circular}
use Rattle.questions.specs.Told.{RunLaws, IsRanBy, IsWorkOf, IsEnd, work_of}
use Rattle.questions.proofs.Lawful.{Lawful}
use Rattle.questions.proofs.Runs.{run_laws, ran_is, work_is}
use Rattle.dml_meaning.specs.Run.{Env}
use Rattle.dml_meaning.specs.Around.{Around}
use Rattle.dml_meaning.specs.Laws.{IsReading, item_ending, is_circular_end, item_meaning, item_told, evaluated}
use Rattle.dml_meaning.proofs.Leaves.{Fits}
use Rattle.dml_meaning.proofs.Items.{eval_lawful}

pub code_plain : (c : Code) → c ≢ code.Circular → is_circular c ≡ false
code_plain code.Circular h = absurd (h refl)
code_plain _ h = refl

pub fits : (a : Around) → IsReading a.reading → Fits (MayAsk a.object) a
fits a w = record {
  file = λ f. tt;
  other = λ o ms e. e;
  plain =
      λ f bs d e. code_plain d.code (w.plain f bs d e);
}

pub item_is_lawful : (a : Around) → IsReading a.reading → (i : Item)
    → Lawful (MayAsk a.object) 0 (item_meaning a i)
item_is_lawful a w i = (eval_lawful (MayAsk a.object) 1000).opens a (fits a w) i

ends : IsEnd item_ending is_circular_end
ends = record { done = λ t e. refl; returned = λ t e. refl; failed = λ f. refl }

pub item_laws : (a : Around) → IsReading a.reading → (i : Item) (e : Env)
    → RunLaws (MayAsk a.object) is_circular_end (evaluated a i e)
    (λ pairs. work_of (item_told a i e pairs))
item_laws a w i e = run_laws (MayAsk a.object) (item_meaning a i) e item_ending
    (item_is_lawful a w i) is_circular_end ends

pub item_ran : (a : Around) → IsReading a.reading → (i : Item) (e : Env)
    → IsRanBy item_ending (item_meaning a i) e
item_ran a w i e = ran_is (MayAsk a.object) (item_meaning a i) e item_ending (item_is_lawful a w i)

pub item_work : (a : Around) → IsReading a.reading → (i : Item) (e : Env)
    → IsWorkOf item_ending (item_meaning a i) e
item_work a w i e = work_is (MayAsk a.object) (item_meaning a i) e item_ending
    (item_is_lawful a w i)
