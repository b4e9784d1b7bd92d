-- What an engine answers, by the machine's state.
use Rattle.std.specs.Prelude.{ℕ, ◌+◌, List, [], ◌∷◌, Bool, true, false, ◌||◌, cond, Option, Some, None, option_map, filter, Ok, Err}
use Rattle.path_tree.specs.Plain.{Plain}
use Rattle.pan_ast.specs.declared.fault.Fault.{Fault}
use Rattle.questions.specs.declared.key.Key.{Key}
use Rattle.read_sets.specs.Items.{pairs_of}
use Rattle.runner.specs.Ends.{Verdict}
use Rattle.engine_laws.specs.Names.{Name}
use Rattle.engine_laws.specs.Engine.{Why as EngineWhy, NotRun, NoRecord, Changed, is_among}
use Rattle.engine_machine.specs.Machine.{Kept}
use Rattle.engine_machine.specs.Compiled.{compiled}
use Rattle.rebuild.specs.declared.answers.Answer.{Answer}
use Rattle.rebuild.specs.declared.answers.Answer.TheVariants as answer
use Rattle.rebuild.specs.declared.answers.Why.{Why}
use Rattle.rebuild.specs.declared.answers.Why.TheVariants as why
use Rattle.rebuild.specs.declared.answers.Reads.{Reads}
use Rattle.engine_turns.specs.declared.rows.Row.{Row}
use Rattle.engine_turns.specs.States.{pictured, last_of, reads_of, checked_of, why_of}
use Rattle.rebuild.specs.Engines.{EngineSituation, EngineValue, Meanings}

-- an answer as definitions see it
pub data Seen : Type 0 where
  profile : (tree : Plain) → Seen
  fault : (fault : Fault) → Seen
  pending : Seen
  no_object : Seen
  deriving IsSet as Seen-set

abbrev pub seen_answer : Answer → Seen
seen_answer (answer.Profile t) = profile t.now
seen_answer (answer.Fault f) = fault f.now
seen_answer answer.Pending = pending
seen_answer answer.NoObject = no_object

-- an object has an unsettled part
abbrev pub is_pending : {T : Type 0} → EngineSituation T → Name → Bool
is_pending x p = x.state.open_build p || x.state.open_check p

-- of what compiling gives: a tree or a fault
abbrev pub settled : Kept → Seen
settled (Ok t) = profile t
settled (Err f) = fault f

-- The answer for a name: that it is no object of the last picture, that a part of it is unsettled,
-- or else what compiling that whole picture from scratch gives.
abbrev pub answer_of : {T : Type 0} → Meanings T → EngineValue T → Name → Seen
answer_of m e p = cond (is_among p e.situation.picture.objects)
    (cond (is_pending e.situation p) pending (settled
    (compiled (m e.dirs e.limits) (pictured e.files) e.situation.picture.objects p))) no_object

abbrev pub by_verdict : Plain → Verdict → Seen
by_verdict t None = profile t
by_verdict t (Some f) = fault f

abbrev pub by_check : Plain → Option (List (Key × ℕ) × Verdict) → Seen
by_check t None = pending
by_check t (Some c) = by_verdict t c.1

abbrev pub by_result : Kept → Option (List (Key × ℕ) × Verdict) → Seen
by_result (Err f) c = fault f
by_result (Ok t) c = by_check t c

abbrev pub by_last : Option (ℕ × Kept) → Option (List (Key × ℕ) × Verdict) → Seen
by_last None c = pending
by_last (Some l) c = by_result l.1 c

-- The answer by the state alone: that it is no object of the last picture, that a part of it is
-- unsettled, or else its last result, with the verdict of its last check where that is a tree.
abbrev pub answer_at : {T : Type 0} → EngineSituation T → Name → Seen
answer_at x p = cond (is_among p x.picture.objects)
    (cond (is_pending x p) pending (by_last (x.state.last p) (x.state.checked p))) no_object

-- why a name was run last, or that it is no object
pub data SeenWhy : Type 0 where
  of_object : (why : EngineWhy Key) → SeenWhy
  of_none : SeenWhy

abbrev pub seen_why : Why → SeenWhy
seen_why why.NotRun = of_object NotRun
seen_why why.NoRecord = of_object NoRecord
seen_why (why.Changed k) = of_object (Changed k.now)
seen_why why.NoObject = of_none

abbrev pub why_at : {T : Type 0} → EngineSituation T → Name → SeenWhy
why_at x p = cond (is_among p x.picture.objects) (of_object (x.state.why p)) of_none

-- the items of both parts of an object
abbrev pub seen_reads : Option Reads → Option (List (Key × ℕ) × List (Key × ℕ))
seen_reads = option_map (λ r. (pairs_of r.build.now, pairs_of r.check.now))

abbrev pub both_reads : Option (List (Key × ℕ)) → Option (List (Key × ℕ) × Verdict)
    → Option (List (Key × ℕ) × List (Key × ℕ))
both_reads None c = None
both_reads (Some items) None = None
both_reads (Some items) (Some c) = Some (items, c.0)

abbrev pub reads_at : {T : Type 0} → EngineSituation T → Name
    → Option (List (Key × ℕ) × List (Key × ℕ))
reads_at x p = cond (is_among p x.picture.objects)
    (cond (is_pending x p) None (both_reads (x.state.reads p) (x.state.checked p))) None

-- the objects that were run
abbrev pub runs_at : {T : Type 0} → EngineSituation T → List Name
runs_at x = filter x.state.runs x.picture.objects

-- by the rows of the code

abbrev pub answer_of_row : {T : Type 0} → Row T → Seen
answer_of_row r = cond (r.open_build || r.open_check) pending (by_last (last_of r) (checked_of r))

abbrev pub answer_found : {T : Type 0} → Option (Row T) → Seen
answer_found None = no_object
answer_found (Some r) = answer_of_row r

abbrev pub why_found : {T : Type 0} → Option (Row T) → SeenWhy
why_found None = of_none
why_found (Some r) = of_object (why_of r)

abbrev pub reads_of_row : {T : Type 0} → Row T → Option (List (Key × ℕ) × List (Key × ℕ))
reads_of_row r = cond (r.open_build || r.open_check) None (both_reads (reads_of r) (checked_of r))

abbrev pub reads_found : {T : Type 0} → Option (Row T) → Option (List (Key × ℕ) × List (Key × ℕ))
reads_found None = None
reads_found (Some r) = reads_of_row r

abbrev pub if_run : {T : Type 0} → Row T → List Name → List Name
if_run r ns = cond r.run (r.name ∷ ns) ns

abbrev pub run_names : {T : Type 0} → List (Row T) → List Name
run_names [] = []
run_names (r ∷ rows) = if_run r (run_names rows)

-- the objects that the last take may have reached
abbrev pub if_touched : {T : Type 0} → Row T → List Name → List Name
if_touched r ns = cond r.touched (r.name ∷ ns) ns

abbrev pub touched_names : {T : Type 0} → List (Row T) → List Name
touched_names [] = []
touched_names (r ∷ rows) = if_touched r (touched_names rows)

abbrev pub one_of : Bool → ℕ
one_of true = 1
one_of false = 0

-- how many parts of these rows are unsettled
abbrev pub open_parts : {T : Type 0} → List (Row T) → ℕ
open_parts [] = 0
open_parts (r ∷ rows) = one_of r.open_build + one_of r.open_check + open_parts rows
