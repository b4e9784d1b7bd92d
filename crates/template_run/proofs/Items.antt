-- Statements that are walked, and templates that are included, a step at a time.
use Rattle.std.proofs.Common.{◌≡◌, ◌∙◌, ap, sym, refl, ℕ, zero, suc, ◌+◌, ◌-◌, ◌<◌, List, ◌∷◌, length, drop, get_or, map, arith}
use Rattle.std.proofs.lemmas.List.{drop_more}
use Rattle.pan_ast.specs.declared.place.Place.{Place}
use Rattle.pan_ast.specs.declared.template.Statement.{Statement as RStatement}
use Rattle.pan_ast.specs.TemplatesSeen.{statement_seen}
use Rattle.questions.specs.Contents.{Answers}
use Rattle.questions.specs.Run.{Meter, then}
use Rattle.template_meaning.specs.Program.{Site, Program, Inside}
use Rattle.template_meaning.specs.Statements.{Prefixed, Includes, statement_run, statements_run, named_in, template_run, included}

-- the statements of a template
pub statements_more : (including : Includes) (site : Site) (n : Inside) (q : Prefixed)
    (ss : List RStatement) (i : ℕ) (x : RStatement) (o : Answers) (s : Program) (m : Meter)
    → i < length ss → x ≡ get_or ss i x → statements_run including site n q
    (map statement_seen (drop i ss)) o s m ≡ then
    (statement_run including site n q (statement_seen x) o s m)
    (λ r. statements_run including site n r (map statement_seen (drop (i + 1) ss)) o)
unfolding statements_run
statements_more including site n q ss i x o s m h is_x =
    ap (λ xs. statements_run including site n q (map statement_seen xs) o s m)
    (drop_more ss i x h ∙ ap (λ y. y ∷ drop (i + 1) ss) (sym is_x))

-- a template that is included, and those that it includes
pub included_more : (k : ℕ) (site : Site) (n : Inside) (p : Place) (name : List ℕ) (o : Answers)
    (s : Program) (m : Meter) → 0 < k → included k site n p name o s m
    ≡ then (named_in site n p name o s m) (λ z. template_run (included (k - 1) site) site n p name z
    o)
unfolding included
included_more zero site n p name o s m h = absurd (omega arith)
included_more (suc k) site n p name o s m h = let e : suc k - 1 ≡ k = omega arith in rw e refl
