use Rattle.runner.specs.Words.{words}
use Rattle.object_run.proofs.library.LibraryRunner.run_build.Given as goal

-- the words of the picture and of what is known, and a count of steps of its own

abbrev pub ghosts-build_in-T-Words : goal.ghosts-build_in-T-Words
ghosts-build_in-T-Words g a =
    record {
      tells = words a.picture.now (g.K.Known.numbers a.known.now)
          (g.K.Known.objects a.known.now);
    }

abbrev pub ghosts-build_in-N-Ledger : goal.ghosts-build_in-N-Ledger
ghosts-build_in-N-Ledger g a = record { name = a.blank.name; parts = a.blank.parts }
