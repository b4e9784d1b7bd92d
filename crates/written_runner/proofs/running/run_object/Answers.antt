use Rattle.std.proofs.Common.{ℕ, List, [], ap, ◌∙◌}
use Rattle.std.specs.Prelude.{codes}
use Rattle.load_path.specs.Candidates.{candidates}
use Rattle.path_tree.specs.Plain.{Plain}
use Rattle.pan_ast.specs.declared.place.Place.{Place}
use Rattle.questions.specs.Told.{answers_of}
use Rattle.read_sets.specs.declared.trace.Item.{Item}
use Rattle.runner.specs.Words.{words}
use Rattle.written_runner.specs.Written.{action_of, file_text, first_asked, file_run}
use Rattle.written_runner.specs.Traces.{meter_of}
use Rattle.written_runner.proofs.running.run_object.Goals as goal

pub returns-clause-outcome : goal.returns-clause-outcome
returns-clause-outcome g c =
    let own = c.args.own.now in
    let o = answers_of (words c.args.picture.now (g.K.Known.numbers c.args.known.now)
    (g.K.Known.objects c.args.known.now)) in
    let place : List ℕ → Place = λ f. record { file = f; line = 1; column = 1 } in
    let run = λ (files : List (List ℕ)) (f : List ℕ) (v : Plain) (i : List Item). first_asked
    (place f) files (file_run (place f) own (action_of c.args.side)) o v (meter_of 2000000 i) in
    let files = c.as_slice-files.ensures ∙ c.in_ok-files.ensures
    ∙ ap (λ n. candidates n (codes ".pan") [] c.args.dirs.now) c.as_str-2.ensures.text in
    c.in_ok-came.ensures.outcome
    ∙ ap (λ fs. run fs c.in_ok-file_text.field-0 c.undef.result c.new.result) files
    ∙ ap (λ f. run (candidates own (codes ".pan") [] c.args.dirs.now) f c.undef.result c.new.result)
    (c.in_ok-file_text.ensures ∙ ap file_text c.as_str.ensures.text)
    ∙ ap (λ v. run (candidates own (codes ".pan") [] c.args.dirs.now) (file_text own) v
    c.new.result) c.undef.ensures
    ∙ ap (run (candidates own (codes ".pan") [] c.args.dirs.now) (file_text own) _) c.new.ensures
