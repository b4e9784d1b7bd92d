-- The run of an object's statements is lawful, and so its laws hold.
use Rattle.std.proofs.Common.{refl}
use Rattle.questions.specs.declared.key.Key.{Key}
use Rattle.questions.specs.Laws.{MayAsk}
use Rattle.questions.specs.Told.{RunLaws, IsRanBy, IsWorkOf, IsEnd, work_of}
use Rattle.questions.proofs.Lawful.{Lawful, lawful_still}
use Rattle.questions.proofs.Runs.{run_laws, ran_is, work_is}
use Rattle.dml_meaning.specs.declared.limits.TheConstants.{MAX_INCLUDES}
use Rattle.dml_meaning.specs.Laws.{IsReading}
use Rattle.dml_meaning.proofs.Leaves.{pieces, template_lawful}
use Rattle.dml_meaning.proofs.Evaluated.{code_plain}
use Rattle.template_meaning.specs.Program.{Site, no_program}
use Rattle.template_meaning.specs.Objects.{object_run}
use Rattle.template_meaning.specs.Laws.{object_ending, is_circular_made, object_told, object_made}
use Rattle.template_meaning.proofs.EachStatement.{Suits, statements_lawful, included_lawful}

pub object_lawful : (may : Key → Type 0) (site : Site) → Suits may site
    → Lawful may 0 (object_run site)
unfolding object_run
object_lawful may site w =
    let including = included_lawful may MAX_INCLUDES site w in
    search (pieces, lawful_still, template_lawful, statements_lawful) depth 10

pub suits : (site : Site) → IsReading site.reading → Suits (MayAsk site.object) site
suits site w = record {
  file = λ f. tt;
  other = λ o ms e. e;
  plain =
      λ f bs d e. code_plain d.code (w.plain f bs d e);
}

object_is_lawful : (site : Site) → IsReading site.reading
    → Lawful (MayAsk site.object) 0 (object_run site)
object_is_lawful site w = object_lawful (MayAsk site.object) site (suits site w)

ends : (site : Site) → IsEnd (object_ending site) is_circular_made
ends site = record { done = λ p s. refl; returned = λ t s. refl; failed = λ f. refl }

pub object_laws : (site : Site) → IsReading site.reading
    → RunLaws (MayAsk site.object) is_circular_made (object_made site)
    (λ pairs. work_of (object_told site pairs))
object_laws site w = run_laws (MayAsk site.object) (object_run site) no_program (object_ending site)
    (object_is_lawful site w) is_circular_made (ends site)

pub object_ran : (site : Site) → IsReading site.reading
    → IsRanBy (object_ending site) (object_run site) no_program
object_ran site w = ran_is (MayAsk site.object) (object_run site) no_program (object_ending site)
    (object_is_lawful site w)

pub object_work : (site : Site) → IsReading site.reading
    → IsWorkOf (object_ending site) (object_run site) no_program
object_work site w = work_is (MayAsk site.object) (object_run site) no_program (object_ending site)
    (object_is_lawful site w)
