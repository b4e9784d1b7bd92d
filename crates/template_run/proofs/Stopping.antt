-- How a run ends where a part of it does: with what the part ends with, and at want of memory as
-- what goes on behind it leaves no more work.
use Rattle.std.proofs.Common.{◌≡◌, ap, refl, ℕ, ◌+◌, ◌-◌, ◌<◌, nat_eq, Bool, true, false, cond, List, map, length, drop, get_or}
use Rattle.pan_ast.specs.declared.place.Place.{Place}
use Rattle.pan_ast.specs.declared.fault.Code.TheVariants as code
use Rattle.pan_ast.specs.declared.template.Statement.{Statement as RStatement}
use Rattle.pan_ast.specs.Templates.{Template, Statement}
use Rattle.pan_ast.specs.TemplatesSeen.{statement_seen}
use Rattle.questions.specs.Laws.{MayAsk}
use Rattle.questions.specs.Contents.{Answers}
use Rattle.questions.specs.Run.{Meter, Outcome, ◌>>=◌, give, fail, beside, step, stepped}
use Rattle.questions.proofs.Runs.{Leaves, left_within}
use Rattle.dml_meaning.specs.declared.limits.TheConstants.{MAX_INCLUDES}
use Rattle.dml_meaning.specs.Laws.{IsReading}
use Rattle.dml_meaning.proofs.Leaves.{pieces}
use Rattle.dml_world.specs.declared.stop.Stop.{Stop}
use Rattle.dml_world.specs.declared.stop.Stop.TheVariants as stop
use Rattle.dml_world.specs.Exits.{Stops}
use Rattle.dml_world.proofs.Ends.{beside_leaves, stops_then}
use Rattle.template_meaning.specs.Program.{Site, Program, Inside, at_top, no_program}
use Rattle.template_meaning.specs.Statements.{Prefixed, form_run, included, may_stand, named_in, statement_run, statements_run, template_run}
use Rattle.template_meaning.specs.Objects.{object_run, run_top, top_place}
use Rattle.template_meaning.proofs.EachStatement.{form_lawful, included_lawful, statements_lawful}
use Rattle.template_meaning.proofs.OfObjects.{suits}
use Rattle.template_meaning.proofs.Leaving.{statements_leave, template_run_leaves}
use Rattle.template_run.proofs.Items.{included_more, statements_more}

-- a run without state, beside one
stops_beside : {X : Type 0} → (x : Stop) (s : Program) (m : Meter) (z : Outcome (Unit {0}) X)
    → Stops x m z → Stops x m (beside s z)
stops_beside stop.Memory s m z h = beside_leaves s m.left z h
stops_beside (stop.Fault d) s m z h = ap (beside s) h
stops_beside (stop.Need q) s m z h = ap (beside s) h

step_beside : (b : Bool) (p : Place) (s : Program) (m : Meter) → stepped b p s m
    ≡ beside s (stepped b p tt m)
step_beside true p s m = refl
step_beside false p s m = refl

module _ (site : Site) (w : IsReading site.reading) where
  pub statements_stop : (x : Stop) (k : ℕ) (n : Inside) (q : Prefixed) (ss : List RStatement)
      (i : ℕ) (f : RStatement) (o : Answers) (s : Program) (m l : Meter) → i < length ss → f
      ≡ get_or ss i f → Stops x l (statement_run (included k site) site n q (statement_seen f) o s
      m) → Stops x l (statements_run (included k site) site n q (map statement_seen (drop i ss)) o s
      m)
  statements_stop x k n q ss i f o s m l below same end =
      rw (statements_more (included k site) site n q ss i f o s m below same)
      (stops_then x l (statement_run (included k site) site n q (statement_seen f) o s m)
      (λ r. statements_run (included k site) site n r (map statement_seen (drop (i + 1) ss)) o)
      (λ r. statements_leave site w k n r (map statement_seen (drop (i + 1) ss)) o) end)

  body_leaves : (k : ℕ) (n : Inside) (q : Prefixed) (st : Statement)
      → Leaves (cond (may_stand n.kind st.form) (form_run (included k site) site n q st.place
      st.form) (fail code.WrongStatement st.place))
  body_leaves k n q st =
      let suited = suits site w in
      let including = included_lawful (MayAsk site.object) k site suited in
      left_within (MayAsk site.object) 0 (cond (may_stand n.kind st.form)
      (form_run (included k site) site n q st.place st.form)
      (fail code.WrongStatement st.place)) (search (pieces, form_lawful))

  pub step_stops : (x : Stop) (k : ℕ) (n : Inside) (q : Prefixed) (st : Statement) (o : Answers)
      (s : Program) (m l : Meter) → Stops x l (step {S = Unit {0}} st.place o tt m)
      → Stops x l (statement_run (included k site) site n q st o s m)
  unfolding statement_run
  step_stops x k n q st o s m l end =
      stops_then x l (step st.place o s m) (λ _. cond (may_stand n.kind st.form)
      (form_run (included k site) site n q st.place st.form) (fail code.WrongStatement st.place) o)
      (λ _. body_leaves k n q st o) (rw (step_beside (nat_eq m.left 0) st.place s m)
      (stops_beside x s l (step st.place o tt m) end))

  pub included_stops : (k : ℕ) (x : Stop) (n : Inside) (p : Place) (name : List ℕ) (o : Answers)
      (s : Program) (m l : Meter) → 0 < k → Stops x l (named_in site n p name o s m)
      → Stops x l (included k site n p name o s m)
  included_stops k x n p name o s m l some end =
      rw (included_more k site n p name o s m some)
      (stops_then x l (named_in site n p name o s m)
      (λ z. template_run (included (k - 1) site) site n p name z o)
      (λ z. template_run_leaves site w (k - 1) n p name z o) end)

  top_leaves : (z : Template) → Leaves (run_top site z >>= (λ _. give z.place))
  top_leaves z =
      let suited = suits site w in
      let including = included_lawful (MayAsk site.object) MAX_INCLUDES site suited in
      left_within (MayAsk site.object) 0 (run_top site z >>= (λ _. give z.place))
      (search (pieces, statements_lawful) depth 10)

  pub object_stops : (x : Stop) (o : Answers) (m l : Meter)
      → Stops x l (named_in site (at_top site) (top_place site.object) site.object o no_program m)
      → Stops x l (object_run site o no_program m)
  unfolding object_run
  object_stops x o m l end =
      stops_then x l (named_in site (at_top site) (top_place site.object) site.object o no_program
      m) (λ z. (run_top site z >>= (λ _. give z.place)) o) (λ z. top_leaves z o) end
